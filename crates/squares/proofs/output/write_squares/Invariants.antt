-- `squares::output::write_squares`: the words of the half lengths below `half` are written, and they end at a place.
use Rattle.std.proofs.Common.{◌≡◌, ◌≤◌, ◌-◌, ◌*◌, ℕ, List, length}
use Rattle.abelian.specs.Output.{fill}
use Rattle.squares.proofs.Candidates.{marks_below, words_below}
use Rattle.squares.proofs.output.write_squares.Given as goal

-- the words of the half lengths below q are written, and they end at a place
pub record Writing (w before out : List ℕ) (at q : ℕ) : Type 0 where
  pub within : 2 * (q - 1) ≤ length w
  pub reached : at ≡ length (words_below w q)
  pub few : at ≤ length (marks_below w q)
  pub written : out ≡ fill (words_below w q) before

abbrev pub invariant-loop-half : goal.invariant-loop-half
invariant-loop-half l = Writing l.marked.word.now l.initial.out l.out l.at l.half
