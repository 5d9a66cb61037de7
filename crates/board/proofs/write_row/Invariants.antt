-- `board::write_row`: the words of the entries passed stand in the first places.
use Rattle.board.proofs.RowWritten.{Written}
use Rattle.board.proofs.write_row.Given as goal

abbrev pub invariant-loop-h : goal.invariant-loop-h
invariant-loop-h l = Written l.row l.period.0 l.initial.out l.out l.written l.h
