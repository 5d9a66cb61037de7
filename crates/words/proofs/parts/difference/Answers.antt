-- `words::parts::difference` meets its contract: one place more has the difference of the counts there.
use Rattle.std.proofs.Common.{◌<◌, sym, ◌∙◌, arith, below_more, length, length-set, get_or-set_other, get_or-set_same}
use lib.Seq.{ext_get_or}
use Rattle.words.specs.Prefixes.{width}
use Rattle.words.specs.Differences.{minus}
use Rattle.words.proofs.Pairwise.{none_above_at, minus_at, length-minus}
use Rattle.words.proofs.parts.difference.Goals as goal

pub overflow_sub-counts : goal.overflow_sub-counts
overflow_sub-counts c = none_above_at c.args.shorter c.args.longer c.requires c.loop-j.j (omega arith)

pub loop-j-preserved : goal.loop-j-preserved
unfolding width
loop-j-preserved c =
    let less : c.loop-j.j < length c.loop-j.counts = omega (arith, c.loop-j.invariant.0) in (
      length-set c.loop-j.counts c.loop-j.j _ ∙ c.loop-j.invariant.0,
      below_more _ _ (λ k l. get_or-set_other c.loop-j.counts c.loop-j.j k _ 0 (omega arith) ∙ c.loop-j.invariant.1 k l) (get_or-set_same c.loop-j.counts c.loop-j.j _ 0 less),
    )

pub returns : goal.returns
unfolding width
returns c =
    ext_get_or 0 c.loop-j.counts (minus c.args.longer c.args.shorter) (omega (arith, c.loop-j.invariant.0, length-minus c.args.longer c.args.shorter (omega arith)))
    (λ k l. c.loop-j.invariant.1 k (omega (arith, c.loop-j.invariant.0)) ∙ sym (minus_at c.args.longer c.args.shorter k (omega (arith, c.loop-j.invariant.0))))
