-- `full_periods::counts::count_divisor` meets its contract: with one count more g is that of g and the count.
use Rattle.std.proofs.Common.{arith}
use Rattle.full_periods.proofs.Divisors.{first_divisor_start, first_divisor_more, first_divisor_end}
use Rattle.full_periods.proofs.counts.count_divisor.Goals as goal

pub loop-count-init : goal.loop-count-init
loop-count-init c = first_divisor_start _

pub loop-count-preserved : goal.loop-count-preserved
loop-count-preserved c = first_divisor_more c.loop-count.invariant (omega arith) c.common_divisor-g.ensures

pub returns : goal.returns
returns c = first_divisor_end c.loop-count.invariant (omega arith)
