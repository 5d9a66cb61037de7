-- `words::parts::exceeds`: whether the counts passed have shown it.
use Rattle.std.proofs.Common.{◌≡◌, not, take}
use Rattle.abelian.specs.Words.{none_above}
use Rattle.words.proofs.parts.exceeds.Given as goal

abbrev pub invariant-loop-j : goal.invariant-loop-j
invariant-loop-j l = l.found ≡ not (none_above (take l.j l.u) (take l.j l.v))
