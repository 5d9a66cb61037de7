-- `words::parts::difference`: the places passed have the difference of the counts.
use Rattle.std.proofs.Common.{◌≡◌, ℕ, ◌<◌, ◌-◌, get_or, length}
use Rattle.words.specs.Prefixes.{width}
use Rattle.words.proofs.parts.difference.Given as goal

abbrev pub invariant-loop-j : goal.invariant-loop-j
invariant-loop-j l = (length l.counts ≡ width) × ((k : ℕ) → k < l.j → get_or l.counts k 0 ≡ get_or l.longer k 0 - get_or l.shorter k 0)
