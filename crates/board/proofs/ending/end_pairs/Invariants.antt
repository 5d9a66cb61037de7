-- `board::ending::end_pairs`: the rows below p have been gone through.
use Rattle.board.proofs.EndedBoards.{Gone}
use Rattle.board.proofs.ending.end_pairs.Given as goal

abbrev pub invariant-loop-p : goal.invariant-loop-p
invariant-loop-p l = Gone l.word l.initial.board l.board l.tried l.live l.p
