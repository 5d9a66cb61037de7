-- `full_periods::counts::divide`: the counts passed are divided, and those ahead are as they were.
use Rattle.full_periods.proofs.Divisors.{Divided}
use Rattle.full_periods.proofs.counts.divide.Given as goal

abbrev pub invariant-loop-count : goal.invariant-loop-count
invariant-loop-count l = Divided l.fn.counts l.g l.count-items l.count-index
