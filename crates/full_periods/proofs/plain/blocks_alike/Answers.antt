-- `full_periods::plain::blocks_alike` meets its contract: each block of the period is compared with the first, up to one that differs.
use Rattle.std.proofs.Common.{◌≡◌, ℕ, ◌+◌, ◌-◌, take, sym, ap, ◌∙◌, arith}
use Rattle.abelian.specs.Words.{longest, vector}
use Rattle.full_periods.proofs.Alike.{Alike, proper, alike_start, next_fits, alike_more, not_full, all_full}
use Rattle.full_periods.proofs.plain.blocks_alike.Goals as goal

pub part-requires-clause-in_bounds : goal.part-requires-clause-in_bounds
part-requires-clause-in_bounds c = omega (arith, (proper c.args.word.now c.args.period.0 c.requires).below)

pub nonzero_div-p : goal.nonzero_div-p
nonzero_div-p c = (proper c.args.word.now c.args.period.0 c.requires).positive

pub loop-from-init : goal.loop-from-init
loop-from-init c =
    let e : c.args.period.0 - 0 ≡ c.args.period.0 = omega arith in
    alike_start (proper c.args.word.now c.args.period.0 c.requires) (c.count_letters-first.ensures ∙ ap vector (c.part.ensures ∙ ap (λ (k : ℕ). take k c.args.word.now) e))

pub overflow_add-from : goal.overflow_add-from
unfolding longest
overflow_add-from c = omega (arith, next_fits c.loop-from.invariant (proper c.args.word.now c.args.period.0 c.requires) (omega arith), c.len-n.ensures.word.short)

pub part-requires-in-loop-from-clause-in_bounds : goal.part-requires-in-loop-from-clause-in_bounds
part-requires-in-loop-from-clause-in_bounds c = next_fits c.loop-from.invariant (proper c.args.word.now c.args.period.0 c.requires) (omega arith)

pub returns-then-differs : goal.returns-then-differs
returns-then-differs c = sym (not_full c.loop-from.invariant c.part-in-loop-from.ensures c.count_letters-counts.ensures c.differs.ensures (omega arith) c.if-differs.true)

pub loop-from-preserved : goal.loop-from-preserved
loop-from-preserved c = alike_more c.loop-from.invariant c.part-in-loop-from.ensures c.count_letters-counts.ensures c.differs.ensures c.if-differs.false

pub returns : goal.returns
returns c = sym (all_full c.loop-from.invariant (proper c.args.word.now c.args.period.0 c.requires) c.len-n.ensures.word.all (omega arith))

pub returns-else-differs : goal.returns-else-differs
returns-else-differs c =
    let next : Alike c.args.word.now c.args.period.0 c.count_letters-first.result (c.loop-from.from + c.args.period.0) =
    alike_more c.loop-from.invariant c.part-in-loop-from.ensures c.count_letters-counts.ensures c.differs.ensures c.if-differs.false in
    sym (all_full next (proper c.args.word.now c.args.period.0 c.requires) c.len-n.ensures.word.all (omega arith))
