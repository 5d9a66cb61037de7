-- `periods::holds`: the whole blocks up to `at` have block 1's vector. The measure is what is left of the length.
use Rattle.std.proofs.Common.{◌-◌}
use Rattle.abelian.specs.Periods.{pair}
use Rattle.periods.proofs.Kernel.{Passed}
use Rattle.periods.proofs.holds.Given as goal

abbrev pub invariant-loop-at : goal.invariant-loop-at
invariant-loop-at l = Passed l.word (pair l.h l.p) l.at

abbrev pub decreases-loop-at : goal.decreases-loop-at
decreases-loop-at l = l.n - l.at
