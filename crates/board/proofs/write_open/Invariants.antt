-- `board::write_open`: the words of the rows below `row` stand in the first places, and the start is that of that row.
use Rattle.board.proofs.RowByRow.{RowsWritten}
use Rattle.board.proofs.write_open.Given as goal

abbrev pub invariant-loop-row : goal.invariant-loop-row
invariant-loop-row l = RowsWritten l.n l.board l.initial.out l.out l.written l.start l.row
