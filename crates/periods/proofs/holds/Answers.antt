-- `periods::holds` meets its contract: by what the rows of the table say of the pair.
use Rattle.std.proofs.Common.{sym, ap, ◌∙◌, not, arith}
use Rattle.abelian.specs.Periods.{pair}
use Rattle.abelian.proofs.Pairs.{in_range_lem}
use Rattle.words.proofs.Prefixes.{counted_rises}
use Rattle.periods.proofs.Kernel.{first_passed}
use Rattle.periods.proofs.Rows.{head_breaks, block_breaks, block_passed, tail_decided}
use Rattle.periods.proofs.holds.Goals as goal

pub returns : goal.returns
returns c =
    ap not c.exceeds-2.ensures
    ∙ tail_decided c.len-n.ensures.counted (pair c.args.head.0 c.args.period.0) c.requires c.row-2.ensures c.row.ensures c.difference-first.ensures c.loop-at.invariant
    c.row-3.ensures (sym c.exceeds.ensures ∙ c.if-exceeds.false) (omega arith) c.row-5.ensures c.row-4.ensures c.len-n.ensures.value c.difference-2.ensures

pub overflow_add-at : goal.overflow_add-at
overflow_add-at c = omega (arith, in_range_lem _ _ c.requires)

pub row-requires : goal.row-requires
row-requires c = omega (arith, in_range_lem _ _ c.requires)

pub row-requires-2 : goal.row-requires-2
row-requires-2 c = omega (arith, in_range_lem _ _ c.requires)

pub difference-first-requires : goal.difference-first-requires
difference-first-requires c =
    counted_rises c.len-n.ensures.counted _ _ c.row.ensures c.row-2.ensures (omega arith) (omega (arith, in_range_lem _ _ c.requires))

pub row-requires-3 : goal.row-requires-3
row-requires-3 c = omega (arith, in_range_lem _ _ c.requires)

pub returns-then-exceeds : goal.returns-then-exceeds
returns-then-exceeds c =
    head_breaks c.len-n.ensures.counted (pair c.args.head.0 c.args.period.0) c.requires c.row-2.ensures c.row.ensures c.difference-first.ensures c.row-3.ensures (sym c.exceeds.ensures ∙ c.if-exceeds.true)

pub loop-at-init : goal.loop-at-init
loop-at-init c = first_passed _ _ (in_range_lem _ _ c.requires)

pub difference-requires : goal.difference-requires
difference-requires c =
    counted_rises c.len-n.ensures.counted _ _ c.row-in-loop-at.ensures c.row-in-loop-at-2.ensures (omega arith) (omega arith)

pub returns-then-differs : goal.returns-then-differs
returns-then-differs c =
    block_breaks c.len-n.ensures.counted (pair c.args.head.0 c.args.period.0) c.requires c.row-2.ensures c.row.ensures c.difference-first.ensures c.loop-at.invariant (omega arith)
    c.row-in-loop-at-2.ensures c.row-in-loop-at.ensures c.difference.ensures (sym c.differs.ensures ∙ c.if-differs.true)

pub loop-at-smaller : goal.loop-at-smaller
loop-at-smaller c = omega (arith, in_range_lem _ _ c.requires)

pub loop-at-preserved : goal.loop-at-preserved
loop-at-preserved c =
    block_passed c.len-n.ensures.counted (pair c.args.head.0 c.args.period.0) c.requires c.row-2.ensures c.row.ensures c.difference-first.ensures c.loop-at.invariant (omega arith)
    c.row-in-loop-at-2.ensures c.row-in-loop-at.ensures c.difference.ensures (sym c.differs.ensures ∙ c.if-differs.false)

pub difference-requires-2 : goal.difference-requires-2
difference-requires-2 c = counted_rises c.len-n.ensures.counted _ _ c.row-4.ensures c.row-5.ensures (omega arith) (omega arith)
