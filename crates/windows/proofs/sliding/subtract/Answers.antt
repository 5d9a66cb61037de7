-- `windows::sliding::subtract` meets its contract: one entry more is the excess of its counts, and lists that agree at each place are equal.
use Rattle.std.proofs.Common.{◌<◌, ◌≢◌, length, sym, ◌∙◌, arith, length-set, get_or-set_other, get_or-set_same, below_more, ext_get_or}
use Rattle.windows.specs.Excess.{excess}
use Rattle.windows.proofs.Excess.{wrapped_excess, excess_at, length-excess}
use Rattle.windows.proofs.sliding.subtract.Goals as goal

pub loop-j-preserved : goal.loop-j-preserved
loop-j-preserved c = (
  length-set c.loop-j.entries _ _ ∙ c.loop-j.invariant.0,
  below_more _ _
      (λ k h. let ne : k ≢ c.loop-j.j = omega arith in rw get_or-set_other (c.loop-j.invariant.1 k h))
      (let lt : c.loop-j.j < length c.loop-j.entries = omega arith in rw get_or-set_same (wrapped_excess _ _ (omega arith))),
)

pub returns : goal.returns
returns c =
    ext_get_or 0 c.loop-j.entries (excess c.args.counts c.args.wanted) (omega (arith, length-excess c.args.counts c.args.wanted (omega arith)))
    (λ k l. c.loop-j.invariant.1 k (omega (arith, l)) ∙ sym (excess_at c.args.counts c.args.wanted k (omega (arith, l)) (omega (arith, l))))
