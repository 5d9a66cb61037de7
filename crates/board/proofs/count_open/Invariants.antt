-- `board::count_open`: the open pairs of the rows below p are counted, and the start is that of the row of p.
use Rattle.board.proofs.RowByRow.{RowsCounted}
use Rattle.board.proofs.count_open.Given as goal

abbrev pub invariant-loop-p : goal.invariant-loop-p
invariant-loop-p l = RowsCounted l.n l.board l.found l.start l.p
