-- `board::write_row` meets its contract: an entry that is 0 has a place left for its word.
use Rattle.std.proofs.Common.{arith}
use Rattle.abelian.specs.Output.{period_word}
use Rattle.board.proofs.RowWritten.{none_written, none_more, place_left, one_more}
use Rattle.board.proofs.write_row.Goals as goal
use Rattle.board.proofs.write_row.Goals.{then-entry-eq0, else-entry-eq0}

pub loop-h-init : goal.loop-h-init
loop-h-init c = none_written

pub loop-h-preserved : goal.loop-h-preserved
unfolding period_word
loop-h-preserved c =
    elim c.if-entry-eq0.branch [
      | then-entry-eq0 w ↦ rw (w.out-is, w.written-is, w.period_word.ensures) (one_more c.requires.row_in_bounds c.loop-h.invariant c.loop-h-test.true w.if-entry-eq0.true)
      | else-entry-eq0 w ↦ rw (w.out-is, w.written-is) (none_more c.requires.row_in_bounds c.loop-h.invariant c.loop-h-test.true w.if-entry-eq0.false)
    ]

pub offset_bounds-out-written : goal.offset_bounds-out-written
offset_bounds-out-written c = omega (arith, place_left c.requires.row_in_bounds c.loop-h.invariant c.loop-h-test.true c.if-entry-eq0.true)

pub bounds-out-written : goal.bounds-out-written
bounds-out-written c = place_left c.requires.row_in_bounds c.loop-h.invariant c.loop-h-test.true c.if-entry-eq0.true

pub overflow_add-written : goal.overflow_add-written
overflow_add-written c = omega (arith, place_left c.requires.row_in_bounds c.loop-h.invariant c.loop-h-test.true c.if-entry-eq0.true)
