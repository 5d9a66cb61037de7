-- `full_periods::counts::common_divisor` meets its contract: a step keeps the common divisors, and where y is 0 they are those of x.
use Rattle.std.proofs.Common.{arith}
use native.Mathlib.Nat.{mod-lt}
use Rattle.full_periods.proofs.Divisors.{same_start, same_step, same_greatest}
use Rattle.full_periods.proofs.counts.common_divisor.Goals as goal

pub loop-y-init : goal.loop-y-init
loop-y-init c = same_start c.args.a c.args.b

pub loop-y-smaller : goal.loop-y-smaller
loop-y-smaller c = mod-lt c.loop-y.x (omega arith)

pub loop-y-preserved : goal.loop-y-preserved
loop-y-preserved c = same_step c.loop-y.invariant

pub returns : goal.returns
returns c = same_greatest (rw c.loop-y-test.false at c.loop-y.invariant)
