-- `listers::passing::pass_row`: with the row as it is then, the board has been gone through up to the head h.
use Rattle.std.proofs.Common.{◌≡◌}
use Rattle.abelian.specs.EndedLengths.{board_of}
use Rattle.board.proofs.EndedRows.{below}
use Rattle.listers.specs.Passing.{entry_passed}
use Rattle.board.proofs.RowLent.{with_row}
use Rattle.listers.proofs.passing.pass_row.Given as goal

abbrev pub invariant-loop-h : goal.invariant-loop-h
invariant-loop-h l = with_row l.start l.heads l.fn.board l.entry-items ≡ board_of (below (entry_passed l.n l.lowest) l.fn.period.0 l.h l.fn.board)
