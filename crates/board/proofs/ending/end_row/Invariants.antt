-- `board::ending::end_row`: the row has been gone through up to the head h, on the board that has the lent part put back.
use Rattle.board.proofs.EndedRows.{RowGone}
use Rattle.board.proofs.RowLent.{with_row}
use Rattle.board.proofs.ending.end_row.Given as goal

abbrev pub invariant-loop-h : goal.invariant-loop-h
invariant-loop-h l = RowGone l.word l.fn.board l.period.0 (with_row l.start l.heads l.fn.board l.entry-items) l.tried l.ended l.h
