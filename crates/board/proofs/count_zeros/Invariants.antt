-- `board::count_zeros`: the zeros are those of the entries passed.
use Rattle.std.proofs.Common.{◌≡◌, take}
use Rattle.abelian.specs.Words.{count}
use Rattle.board.proofs.count_zeros.Given as goal

abbrev pub invariant-loop-entry : goal.invariant-loop-entry
invariant-loop-entry l = l.zeros ≡ count 0 (take l.entry-index l.row)
