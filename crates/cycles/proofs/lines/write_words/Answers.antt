-- The line of the next word has places behind the others, and is written there.
use Rattle.std.proofs.Common.{arith, length-take, length-drop}
use Rattle.cycles.specs.Reports.{line_of}
use Rattle.cycles.proofs.Writing.{writing-none, writing-room, writing_more}
use Rattle.cycles.proofs.lines.write_words.Goals as goal

pub loop-word-init : goal.loop-word-init
loop-word-init c = writing-none line_of _ _

pub slice_bounds-write_word-count : goal.slice_bounds-write_word-count
slice_bounds-write_word-count c = omega (arith, writing-room line_of c.args.words.now c.loop-word.invariant c.loop-word-test.true c.requires)

pub slice_bounds-write_word-start : goal.slice_bounds-write_word-start
slice_bounds-write_word-start c = omega (arith, writing-room line_of c.args.words.now c.loop-word.invariant c.loop-word-test.true c.requires)

pub write_word-at-requires : goal.write_word-at-requires
write_word-at-requires c =
    simp (length-take, length-drop) (omega (arith, writing-room line_of c.args.words.now c.loop-word.invariant c.loop-word-test.true c.requires))

pub overflow_add-at : goal.overflow_add-at
overflow_add-at c =
    let room = writing-room line_of c.args.words.now c.loop-word.invariant c.loop-word-test.true c.requires in
    omega (arith, room, c.write_word-at.ensures.number, c.loop-word.invariant.size, c.well_formed)

pub loop-word-preserved : goal.loop-word-preserved
loop-word-preserved c = writing_more line_of _ c.loop-word.invariant c.loop-word-test.true c.requires _ _ c.write_word-at.ensures
