-- Laws of the marks of squares: what they say of the starts of runs.
use mathlib.Core.Path.{◌≡◌, refl, ap, ◌∙◌}
use mathlib.Core.Bool.{Bool, true, false, ◌&&◌, not}
use mathlib.Core.List.{List}
use Prim.Native.Nat.{ℕ, suc, ◌-◌, ◌*◌, ◌≤◌, ◌<◌}
use native.Mathlib.Omega.{arith}
use lib.ListN.{length, get_or}
use lib.Dec.{T, eqb, ltb}
use borrow.Author.Tests.{lt-ltb, le-ltb}
use Rattle.abelian.specs.Lists.{one}
use Rattle.abelian.specs.Squares.{is_square}
use Rattle.abelian.specs.Runs.{goes_back}
use Rattle.abelian.proofs.Tests.{right, passes}
use Rattle.squares.specs.Marks.{start_marks}
use Rattle.squares.proofs.Candidates.{length-start_marks, start_mark, start_marked}
use Rattle.runs.specs.Rows.{starts_run}

-- a run begins with a square
pub starts_square : (w : List ℕ) (d i : ℕ) → starts_run w d i ≡ true → T (is_square w d i)
unfolding starts_run
starts_square w d i e = right (not (goes_back w d i)) (is_square w d i) (passes (starts_run w d i) e)

-- a start is a candidate where both blocks lie in the word
pub row_length : (w : List ℕ) (d : ℕ) {marks : List ℕ} → marks ≡ start_marks w d → length marks ≡ suc (length w) - 2 * d
row_length w d e = ap length e ∙ length-start_marks w d

module _ (w marks : List ℕ) (d i : ℕ) (e : marks ≡ start_marks w d) (start : 1 ≤ i) (within : i ≤ length marks) where
  -- how far the candidates go
  candidates : i ≤ suc (length w) - 2 * d
  candidates = omega (arith, row_length w d e)

  -- the mark of a candidate is 1 where a square stands there, and else 0
  mark_at : get_or marks (i - 1) 0 ≡ one (is_square w d i)
  mark_at = ap (λ (l : List ℕ). get_or l (i - 1) 0) e ∙ start_mark w d i start candidates

  pub mark_told : eqb (get_or marks (i - 1) 0) 1 ≡ is_square w d i
  mark_told = ap (λ (l : List ℕ). eqb (get_or l (i - 1) 0) 1) e ∙ start_marked w d i start candidates

  -- no block lies before the first d starts
  pub first_starts_lem : i ≤ d → eqb (get_or marks (i - 1) 0) 1 ≡ starts_run w d i
  unfolding starts_run goes_back
  first_starts_lem h = rw (le-ltb d i h) mark_told

  -- of the others the candidate one block before tells
  pub later_starts : d < i → ltb (get_or marks (i - 1 - d) 0) (get_or marks (i - 1) 0) ≡ starts_run w d i
  unfolding starts_run goes_back
  later_starts h =
      let p : i - d - 1 ≡ i - 1 - d = omega arith in
      let before : get_or marks (i - 1 - d) 0 ≡ one (is_square w d (i - d)) =
      ap (λ (l : List ℕ). get_or l (i - 1 - d) 0) e ∙ (rw p at (start_mark w d (i - d) (omega arith) (omega (arith, candidates)))) in
      rw (mark_at, before, lt-ltb d i h) (go (is_square w d (i - d)) (is_square w d i))
    where
      go : (a b : Bool) → ltb (one a) (one b) ≡ not a && b
      go true true = refl
      go true false = refl
      go false true = refl
      go false false = refl
