-- `full_periods::counts::divide` meets its contract: each count is divided.
use Rattle.std.proofs.Common.{arith}
use Rattle.full_periods.proofs.Divisors.{divided-none, divided-more, divided-all}
use Rattle.full_periods.proofs.counts.divide.Goals as goal

pub loop-count-init : goal.loop-count-init
loop-count-init c = divided-none c.args.counts c.args.g

pub loop-count-preserved : goal.loop-count-preserved
loop-count-preserved c = divided-more c.args.counts c.args.g c.loop-count.count-items c.loop-count.count-index c.loop-count.invariant (omega (arith, c.loop-count.invariant.size))

pub returns : goal.returns
returns c = divided-all c.args.counts c.args.g c.loop-count.count-items c.loop-count.count-index c.loop-count.invariant (omega arith)
