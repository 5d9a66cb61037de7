-- `judge::count_block` meets its contract: each of the parts that it counts is the block of that number.
use Rattle.std.proofs.Common.{◌≡◌, ◌≤◌, ◌+◌, ◌-◌, min, ◌∙◌, sym, ap, arith, length}
use Rattle.abelian.specs.Words.{longest, vector}
use Rattle.abelian.specs.Periods.{pair}
use Rattle.abelian.proofs.Pairs.{in_range_lem}
use Rattle.judge.proofs.Blocks.{block_at_head, start, start_within, block_part}
use Rattle.judge.proofs.count_block.Goals as goal

pub part-requires-clause-in_bounds : goal.part-requires-clause-in_bounds
part-requires-clause-in_bounds c = omega (arith, in_range_lem (length c.args.word.now) (pair c.args.head.0 c.args.period.0) c.requires.range)

pub returns-then-block-eq0 : goal.returns-then-block-eq0
returns-then-block-eq0 c =
    let w = c.args.word.now in
    let x = pair c.args.head.0 c.args.period.0 in
    let size : x.head - 0 ≡ x.head = omega arith in
    c.count_letters.ensures ∙ ap vector (rw size at c.part.ensures ∙ sym (block_at_head w x c.if-block-eq0.true))

-- a block that is not the head begins within the word
begins : (c : goal.Else-block-eq0) → start (pair c.args.head.0 c.args.period.0) c.args.block ≤ length c.args.word.now
begins c =
    let w = c.args.word.now in
    let x = pair c.args.head.0 c.args.period.0 in
    let n = c.if-block-eq0.false in
    start_within w x (in_range_lem (length w) x c.requires.range) c.args.block (omega arith) c.requires.block_bound

pub overflow_mul-from : goal.overflow_mul-from
unfolding longest
overflow_mul-from c = omega (arith, begins c, c.len-n.ensures.word.short)

pub overflow_add-from : goal.overflow_add-from
unfolding longest
overflow_add-from c = omega (arith, begins c, c.len-n.ensures.word.short)

pub overflow_add-from-2 : goal.overflow_add-from-2
unfolding longest
overflow_add-from-2 c =
    let r = in_range_lem (length c.args.word.now) (pair c.args.head.0 c.args.period.0) c.requires.range in
    omega (arith, begins c, r.fits, c.len-n.ensures.word.short)

pub part-requires-2-clause-order : goal.part-requires-2-clause-order
part-requires-2-clause-order c =
    let w = c.args.word.now in
    let x = pair c.args.head.0 c.args.period.0 in
    let n = c.if-block-eq0.false in
    omega (arith, start_within w x (in_range_lem (length w) x c.requires.range) c.args.block (omega arith) c.requires.block_bound, c.min-to.ensures)

pub returns : goal.returns
returns c =
    let w = c.args.word.now in
    let x = pair c.args.head.0 c.args.period.0 in
    let n = c.if-block-eq0.false in
    let to : c.min-to.result ≡ min (length w) (start x c.args.block + x.period) = omega arith in
    c.count_letters-2.ensures
    ∙ ap vector (c.part-2.ensures ∙ sym (block_part w x (in_range_lem (length w) x c.requires.range) c.args.block (omega arith) c.requires.block_bound c.min-to.result to))
