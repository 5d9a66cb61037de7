-- `listers::passing::pass_over`: the rows below p have been gone through.
use Rattle.std.proofs.Common.{◌≡◌, ◌-◌}
use Rattle.abelian.specs.EndedLengths.{board_of}
use Rattle.board.proofs.EndedBoards.{up_to}
use Rattle.listers.specs.Passing.{entry_passed}
use Rattle.listers.proofs.passing.pass_over.Given as goal

abbrev pub invariant-loop-p : goal.invariant-loop-p
invariant-loop-p l = l.board ≡ board_of (up_to (entry_passed l.n l.lowest) (l.p - 1) l.initial.board)
