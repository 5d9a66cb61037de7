-- Laws of pairs passed over: which entries are kept, and what is left open on a board of zeros.
use mathlib.Core.Path.{◌≡◌, sym, ap, ap₂, ◌∙◌}
use mathlib.Core.Bool.{false}
use mathlib.Core.List.{List}
use Prim.Native.Nat.{ℕ, zero, suc, ◌+◌, ◌-◌, ◌≤◌, ◌<◌}
use native.Mathlib.Numerals.{add-one}
use native.Mathlib.Omega.{arith}
use lib.ListN.{length, get_or, set}
use lib.Dec.{T}
use borrow.Author.Tests.{lt-ltb, le-ltb}
use Rattle.abelian.specs.Words.{longest}
use Rattle.abelian.specs.Periods.{Pair, pair, in_range, pairs}
use Rattle.abelian.specs.EndedLengths.{board_of}
use Rattle.abelian.specs.Trackers.{board_size, entries}
use Rattle.abelian.proofs.Tests.{is_true}
use Rattle.abelian.proofs.Pairs.{InRange, range_in, in_range_longer}
use Rattle.board.specs.Places.{place_of, row_start, entry_at}
use Rattle.board.specs.Ending.{entry_in_row}
use Rattle.board.proofs.Places.{place_below, entries_of, length-board_of}
use Rattle.board.proofs.RowLent.{with_row, row_read, row_stored}
use Rattle.board.proofs.EndedBoards.{up_to, next_up_to}
use Rattle.board.proofs.EndedRows.{below, entry_untouched, next_below}
use Rattle.listers.specs.Lowest.{lowest_periods}
use Rattle.listers.specs.Passing.{passed_below, entry_passed, row_passed, all_passed, others_passed}

module _ (n : ℕ) (lowest : List ℕ) (x : Pair) (e : ℕ) where
  -- a pair that is not in range keeps its entry
  pub out_of_range_kept : in_range n x ≡ false → entry_passed n lowest x e ≡ e
  unfolding entry_passed
  out_of_range_kept o = rw o

  -- the entry of one in range goes by the lowest period for its head
  pub in_range_passed : T (in_range n x) → entry_passed n lowest x e ≡ passed_below x.period (get_or lowest x.head 0) e
  unfolding entry_passed
  in_range_passed r = rw (is_true (in_range n x) r)

  -- it is kept where the pair's period is not below that
  pub tried_kept : T (in_range n x) → get_or lowest x.head 0 ≤ x.period → entry_passed n lowest x e ≡ e
  tried_kept r l = rw (in_range_passed r, le-ltb x.period (get_or lowest x.head 0) l)

  -- and is 1 where it is
  pub below_passed : T (in_range n x) → x.period < get_or lowest x.head 0 → entry_passed n lowest x e ≡ 1
  below_passed r l = rw (in_range_passed r, lt-ltb x.period (get_or lowest x.head 0) l)

-- one pair of a row more passed over: its entry, which has not been touched yet, is made anew and stored at its place in the row
pub next_below_passed : (n p : ℕ) (lowest board row : List ℕ) (start heads h e : ℕ) → length board ≡ board_size → InRange n (pair h p) → n ≤ longest → start ≡ row_start p → h < length row
    → with_row start heads board row ≡ board_of (below (entry_passed n lowest) p h board) → e ≡ passed_below p (get_or lowest h 0) (get_or row h 0)
    → with_row start heads board (set row h e) ≡ board_of (below (entry_passed n lowest) p (h + 1) board)
unfolding place_of
next_below_passed n p lowest board row start heads h e long r l a within b m =
    let f = entry_passed n lowest in
    let x = pair h p in
    let now = with_row start heads board row in
    let t : T (in_range longest x) = range_in longest x (in_range_longer r l) in
    let new = passed_below p (get_or lowest h 0) in
    let s : start ≤ length board = omega (arith, place_below x t) in
    rw add-one
    (sym (row_stored start heads board row s within e)
    ∙ ap (set now (start + h)) (m ∙ ap new (sym (row_read start heads board row s within)))
    ∙ ap₂ (λ k i. set k (i + h) (new (get_or k (i + h) 0))) b a
    ∙ ap (set (board_of (below f p h board)) (place_of x))
    (ap new (entry_untouched f p board long h t)
    ∙ sym (in_range_passed n lowest x (entry_at board x) (range_in n x r)))
    ∙ next_below f p board long h t)

-- one row more passed over
pub next_passed : (n : ℕ) (lowest old board board' : List ℕ) (p : ℕ) → length old ≡ board_size → 1 ≤ p → board ≡ board_of (up_to (entry_passed n lowest) (p - 1) old) → board' ≡ row_passed n lowest p board
    → board' ≡ board_of (up_to (entry_passed n lowest) (p + 1 - 1) old)
unfolding row_passed
next_passed n lowest old board board' zero long l e f = absurd (omega arith)
next_passed n lowest old board board' (suc m) long l e f =
    let d : suc m - 1 ≡ m = omega arith in
    let d' : suc m + 1 - 1 ≡ suc m = omega arith in
    let now : board ≡ board_of (up_to (entry_passed n lowest) m old) = rw d at e in
    rw d' (f ∙ ap (entries (entry_in_row (entry_passed n lowest) (suc m)) (pairs longest)) now ∙ next_up_to (entry_passed n lowest) old long m)

pub length_passed : (n : ℕ) (lowest board : List ℕ) → length board ≡ board_size → length (all_passed n lowest board) ≡ board_size
unfolding all_passed
length_passed n lowest board long = ap length (entries_of (entry_passed n lowest) board long) ∙ length-board_of _

-- by what the skipping lister finds of the word, which is given as v: the lowest periods and its length
pub others_are_passed : {w v lowest after : List ℕ} (board : List ℕ) {n : ℕ} → v ≡ w → lowest ≡ lowest_periods v → n ≡ length w → after ≡ all_passed n lowest board → after ≡ others_passed w board
unfolding others_passed
others_are_passed board s l m e = e ∙ ap₂ (λ n lowest. all_passed n lowest board) m (l ∙ ap lowest_periods s)
