-- The next number has places behind the others, and is written there.
use Rattle.std.proofs.Common.{arith, length-take, length-drop}
use Rattle.cycles.specs.Text.{spaced}
use Rattle.cycles.proofs.Writing.{writing-none, writing-room, writing_more}
use Rattle.cycles.proofs.lines.write_numbers.Goals as goal

pub loop-number-init : goal.loop-number-init
loop-number-init c = writing-none spaced _ _

pub slice_bounds-write_spaced-count : goal.slice_bounds-write_spaced-count
slice_bounds-write_spaced-count c = omega (arith, writing-room spaced c.args.numbers.now c.loop-number.invariant c.loop-number-test.true c.requires)

pub slice_bounds-write_spaced-start : goal.slice_bounds-write_spaced-start
slice_bounds-write_spaced-start c = omega (arith, writing-room spaced c.args.numbers.now c.loop-number.invariant c.loop-number-test.true c.requires)

pub write_spaced-at-requires : goal.write_spaced-at-requires
write_spaced-at-requires c =
    simp (length-take, length-drop) (omega (arith, writing-room spaced c.args.numbers.now c.loop-number.invariant c.loop-number-test.true c.requires))

pub overflow_add-at : goal.overflow_add-at
overflow_add-at c =
    let room = writing-room spaced c.args.numbers.now c.loop-number.invariant c.loop-number-test.true c.requires in
    omega (arith, room, c.write_spaced-at.ensures.number, c.loop-number.invariant.size, c.well_formed)

pub loop-number-preserved : goal.loop-number-preserved
loop-number-preserved c = writing_more spaced _ c.loop-number.invariant c.loop-number-test.true c.requires _ _ c.write_spaced-at.ensures
