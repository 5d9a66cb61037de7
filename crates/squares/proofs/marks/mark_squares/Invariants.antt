-- `squares::marks::mark_squares`: the candidates of the half lengths below `half` are marked, and their squares counted.
use Rattle.std.proofs.Common.{◌≡◌, ◌≤◌, ◌-◌, ◌*◌, ℕ, List, length}
use Rattle.abelian.specs.Output.{fill}
use Rattle.squares.proofs.Candidates.{marks_below, words_below}
use Rattle.squares.proofs.marks.mark_squares.Given as goal

-- the candidates of the half lengths below q are marked, and their squares counted
pub record Marking (w before marks : List ℕ) (found at q : ℕ) : Type 0 where
  pub within : 2 * (q - 1) ≤ length w
  pub reached : at ≡ length (marks_below w q)
  pub marked : marks ≡ fill (marks_below w q) before
  pub counted : found ≡ length (words_below w q)
  pub few : found ≤ at

abbrev pub invariant-loop-half : goal.invariant-loop-half
invariant-loop-half l = Marking l.word l.initial.marks l.marks l.found l.at l.half
