-- `squares::number_of_squares` meets its contract: every candidate has a place for its mark.
use Rattle.std.proofs.Common.{arith, ap, length}
use Rattle.abelian.specs.Words.{longest}
use Rattle.squares.proofs.Candidates.{candidates_bound}
use Rattle.squares.proofs.number_of_squares.Goals as goal

pub mark_squares-requires : goal.mark_squares-requires
unfolding longest
mark_squares-requires c = omega (arith, candidates_bound c.new.result (omega (arith, ap length c.new.ensures, c.len.ensures.word.short)))
