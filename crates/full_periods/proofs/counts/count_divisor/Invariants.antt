-- `full_periods::counts::count_divisor`: g is the greatest common divisor of the counts passed.
use Rattle.full_periods.proofs.Divisors.{FirstDivisor}
use Rattle.full_periods.proofs.counts.count_divisor.Given as goal

abbrev pub invariant-loop-count : goal.invariant-loop-count
invariant-loop-count l = FirstDivisor l.count-items l.count-index l.g
