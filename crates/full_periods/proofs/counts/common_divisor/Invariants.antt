-- `full_periods::counts::common_divisor`, Euclid's algorithm: what divides both a and b divides both x and y, and back. The measure is y.
use Rattle.full_periods.proofs.Divisors.{SameDivisors}
use Rattle.full_periods.proofs.counts.common_divisor.Given as goal

abbrev pub invariant-loop-y : goal.invariant-loop-y
invariant-loop-y l = SameDivisors l.a l.b l.x l.y

abbrev pub decreases-loop-y : goal.decreases-loop-y
decreases-loop-y l = l.y
