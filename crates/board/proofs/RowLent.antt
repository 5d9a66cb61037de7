-- Laws of a board with a row that was lent and is put back: the row's entries stand on the board from its start on.
use mathlib.Core.Path.{◌≡◌, ap, ◌∙◌}
use mathlib.Core.List.{List, ◌++◌}
use Prim.Native.Nat.{ℕ, ◌+◌, ◌-◌, ◌≤◌, ◌<◌}
use native.Mathlib.Omega.{arith}
use lib.ListN.{length, take, set, get_or, get_or-append}
use lib.Seq.{length-take-le, set-append_left}
use borrow.Rule.Slice.PartMut.{post_of, put_mid}
use Rattle.std.proofs.lemmas.List.{get_or-append_right, set-append_right}

-- the board with its row, which has so many heads, put back
abbrev pub with_row : ℕ → ℕ → List ℕ → List ℕ → List ℕ
with_row start heads board row = put_mid start (start + heads - start) board row

-- the entry of the head h stands on the board at start + h
module _ (start heads : ℕ) (board row : List ℕ) {h : ℕ} (l : start ≤ length board) (m : h < length row) where
  abbrev rest : List ℕ
  rest = post_of start (start + heads - start) board

  place : start + h - start ≡ h
  place = omega arith

  pub row_read : get_or (with_row start heads board row) (start + h) 0 ≡ get_or row h 0
  row_read =
      get_or-append_right (take start board) (row ++ rest) start (start + h) 0 (length-take-le start board l) (omega arith)
      ∙ ap (λ (k : ℕ). get_or (row ++ rest) k 0) place ∙ get_or-append row rest 0 h m

  pub row_stored : (v : ℕ) → set (with_row start heads board row) (start + h) v ≡ with_row start heads board (set row h v)
  row_stored v =
      set-append_right (take start board) (row ++ rest) start (start + h) v (length-take-le start board l) (omega arith)
      ∙ ap (λ (k : ℕ). take start board ++ set (row ++ rest) k v) place ∙ ap (λ (xs : List ℕ). take start board ++ xs) (set-append_left row rest h v m)
