-- `squares::output::write_starts`: the words of the marked ones among the first i starts are written, and they end at a place.
use Rattle.std.proofs.Common.{◌≡◌, ◌≤◌, ℕ, List, length, map}
use Rattle.abelian.specs.Output.{square_word, fill}
use Rattle.squares.proofs.Candidates.{marked_up_to}
use Rattle.squares.proofs.output.write_starts.Given as goal

-- the words of the marked ones among the first i starts are written, and they end at a place
pub record Writing (half : ℕ) (marks before out : List ℕ) (at i : ℕ) : Type 0 where
  pub reached : at ≡ length (marked_up_to marks i)
  pub few : at ≤ i
  pub written : out ≡ fill (map (square_word half) (marked_up_to marks i)) before

abbrev pub invariant-loop-i : goal.invariant-loop-i
invariant-loop-i l = Writing l.half l.marks l.initial.out l.out l.at l.i
