-- `judge::first_failure` meets its contract: what it answers is the first failure, or yes where none is met.
use Rattle.std.proofs.Common.{◌≡◌, ◌+◌, ◌∙◌, sym, arith, length}
use Rattle.abelian.specs.Words.{alphabet_size, first_letter, longest}
use Rattle.abelian.specs.Periods.{pair, whole_blocks}
use Rattle.abelian.proofs.Pairs.{in_range_lem}
use Rattle.judge.proofs.Blocks.{blocks_found, blocks_le_length, rule_at}
use Rattle.judge.proofs.Failures.{next_letter, next_block, no_failure, failure_met}
use Rattle.judge.proofs.first_failure.Goals as goal

pub overflow_sub-whole : goal.overflow_sub-whole
overflow_sub-whole c = omega (arith, in_range_lem (length c.args.word.now) (pair c.args.head.0 c.args.period.0) c.requires)

pub nonzero_div-whole : goal.nonzero_div-whole
nonzero_div-whole c = omega (arith, (in_range_lem (length c.args.word.now) (pair c.args.head.0 c.args.period.0) c.requires).positive)

pub overflow_add-block-end : goal.overflow_add-block-end
unfolding longest
overflow_add-block-end c =
    let w = c.args.word.now in
    let x = pair c.args.head.0 c.args.period.0 in
    omega (arith, blocks_found w x c.len.ensures.value, blocks_le_length w x, c.len.ensures.word.short)

pub count_block-counts-requires-clause-block_bound : goal.count_block-counts-requires-clause-block_bound
count_block-counts-requires-clause-block_bound c = omega (arith, blocks_found c.args.word.now (pair c.args.head.0 c.args.period.0) c.len.ensures.value, c.loop-block-test.true)

pub returns-then-breaks_rule : goal.returns-then-breaks_rule
unfolding first_letter alphabet_size
returns-then-breaks_rule c =
    let w = c.args.word.now in
    let x = pair c.args.head.0 c.args.period.0 in
    let r = in_range_lem (length w) x c.requires in
    let e = rule_at w x r c.loop-block.block c.loop-letter.letter c.len.ensures.value (omega (arith, c.loop-letter-test.true)) c.is_end-end.ensures c.count_block-counts.ensures c.count_block-first.ensures
    c.breaks_rule.ensures in
    sym (failure_met w x c.loop-block.block c.loop-letter.letter (omega (arith, blocks_found w x c.len.ensures.value, c.loop-block-test.true)) (omega (arith, c.loop-letter-test.true)) c.loop-block.invariant
    c.loop-letter.invariant (sym e ∙ c.if-breaks_rule.true))

pub loop-letter-preserved : goal.loop-letter-preserved
unfolding alphabet_size
loop-letter-preserved c =
    let w = c.args.word.now in
    let x = pair c.args.head.0 c.args.period.0 in
    let r = in_range_lem (length w) x c.requires in
    let e = rule_at w x r c.loop-block.block c.loop-letter.letter c.len.ensures.value (omega (arith, c.loop-letter-test.true)) c.is_end-end.ensures c.count_block-counts.ensures c.count_block-first.ensures
    c.breaks_rule.ensures in
    next_letter w x c.loop-block.block c.loop-letter.letter c.loop-letter.invariant (sym e ∙ c.if-breaks_rule.false)

pub loop-block-preserved : goal.loop-block-preserved
unfolding alphabet_size
loop-block-preserved c =
    let e : c.loop-letter.letter ≡ alphabet_size = omega (arith, c.loop-letter-test.false) in
    next_block c.args.word.now (pair c.args.head.0 c.args.period.0) c.loop-block.block c.loop-block.invariant (rw e at c.loop-letter.invariant)

pub returns-after-loop-block : goal.returns-after-loop-block
returns-after-loop-block c =
    let w = c.args.word.now in
    let x = pair c.args.head.0 c.args.period.0 in
    let e : c.loop-block.block ≡ whole_blocks (length w) x + 2 = omega (arith, blocks_found w x c.len.ensures.value, c.loop-block-test.false) in
    sym (no_failure w x (rw e at c.loop-block.invariant))
