-- Laws of the loop over the heads of a period: its row is a part of the board, and what each of its three ways leaves.
use mathlib.Core.Path.{◌≡◌, sym, ap, ap₂, ◌∙◌}
use mathlib.Core.Logic.{◌≢◌}
use mathlib.Core.Bool.{Bool, true, false}
use mathlib.Core.List.{List}
use Prim.Native.Nat.{ℕ, ◌+◌, ◌-◌, ◌≤◌, ◌<◌}
use native.Mathlib.Omega.{arith}
use lib.ListN.{length, set, get_or}
use lib.Dec.{T}
use borrow.Rule.Slice.PartMut.{mid_of, put_same, mid_len}
use Rattle.abelian.specs.Words.{longest}
use Rattle.abelian.specs.Periods.{Pair, pair, in_range, is_period}
use Rattle.abelian.specs.Periods
use Rattle.abelian.specs.EndedLengths.{board_of}
use Rattle.abelian.specs.Trackers.{board_size, entry_added}
use Rattle.abelian.proofs.Pairs.{InRange, range_in, in_range_longer, heads-in_range}
use Rattle.board.specs.Places.{row_start, place_of, entry_at}
use Rattle.board.specs.Ending.{row_open, row_ended}
use Rattle.board.proofs.Places.{board_long}
use Rattle.board.proofs.Rows.{row_end}
use Rattle.board.proofs.RowLent.{with_row, row_read, row_stored}
use Rattle.board.proofs.EndedRows.{below, all_below, open_below, out_of_range_kept, RowGone, no_head_gone, entry_read, head_passed, head_live, head_ended}

-- the row of the period p on a board, for a word of n letters
pub record AtPeriod (w board : List ℕ) (p n start heads : ℕ) : Type 0 where
  pub long : length board ≡ 14520
  pub from : 1 ≤ p
  pub to : p ≤ length w
  pub short : length w ≤ longest
  pub letters : n ≡ length w
  pub begins : start ≡ row_start p
  pub has : heads ≡ Periods.heads n p

module _ {w old : List ℕ} {p n start heads : ℕ} (r : AtPeriod w old p n start heads) where
  whole : length old ≡ board_size
  whole = board_long old r.long

  heads_of_word : heads ≡ Periods.heads (length w) p
  heads_of_word = r.has ∙ ap (λ (k : ℕ). Periods.heads k p) r.letters

  -- it lies on the board
  pub on_board : start + heads ≤ 14520
  unfolding board_size
  on_board = omega (arith, row_end (length w) p r.from r.to r.short, heads_of_word, r.begins)

  -- with an entry for each of its heads
  pub row_long : length (mid_of start (start + heads - start) old) ≡ heads
  row_long = omega (arith, mid_len start (start + heads) old (omega (arith, on_board, r.long)))

  begins_on : start ≤ length old
  begins_on = omega (arith, on_board, r.long)

  -- which are in range
  range : {h : ℕ} → h < heads → InRange (length w) (pair h p)
  range l = heads-in_range r.from r.to (omega (arith, heads_of_word))

  pub head_in_range : (h : ℕ) → h < heads → T (in_range (length w) (pair h p))
  head_in_range h l = range_in (length w) (pair h p) (range l)

  pub first_head : RowGone w old p (with_row start heads old (mid_of start (start + heads - start) old)) 0 0 0
  first_head = rw (put_same start (start + heads - start) old) (no_head_gone w old p whole)

  module _ (row : List ℕ) {tried ended h : ℕ} (g : RowGone w old p (with_row start heads old row) tried ended h) (l : h < heads) (m : h < length row) where
    inside : T (in_range longest (pair h p))
    inside = range_in longest (pair h p) (in_range_longer (range l) r.short)

    at : start + h ≡ place_of (pair h p)
    unfolding place_of
    at = omega (arith, r.begins)

    entry : get_or row h 0 ≡ entry_at old (pair h p)
    entry = sym (row_read start heads old row begins_on m) ∙ ap (λ (k : ℕ). get_or (with_row start heads old row) k 0) at ∙ entry_read w old p whole g (range l) inside

    -- the pair had ended
    pub passed_head : get_or row h 0 ≢ 0 → RowGone w old p (with_row start heads old row) tried ended (h + 1)
    passed_head z = head_passed w old p whole g (range l) inside (λ e. z (entry ∙ e))

    module _ (z : get_or row h 0 ≡ 0) {holds : Bool} (e : holds ≡ is_period w (pair h p)) where
      -- it is an Abelian period
      pub live_head : holds ≡ true → RowGone w old p (with_row start heads old row) (tried + 1) ended (h + 1)
      live_head t = head_live w old p whole g (range l) inside (sym entry ∙ z) (sym e ∙ t)

      -- it is none, and ends
      pub ended_head : holds ≡ false → RowGone w old p (with_row start heads old (set row h n)) (tried + 1) (ended + 1) (h + 1)
      ended_head f =
          let k : RowGone w old p (set (with_row start heads old row) (place_of (pair h p)) (length w)) (tried + 1) (ended + 1) (h + 1) = head_ended w old p whole g (range l) inside (sym entry ∙ z) (sym e ∙ f) in
          rw (← row_stored start heads old row begins_on m n, at, r.letters) k

  -- behind the last head
  module _ (row : List ℕ) {tried ended h : ℕ} (g : RowGone w old p (with_row start heads old row) tried ended h) (l : h ≡ heads) where
    last : h ≡ Periods.heads (length w) p
    last = l ∙ heads_of_word

    pub row_gone : with_row start heads old row ≡ row_ended w p old
    unfolding row_ended
    row_gone =
        g.gone ∙ ap (λ (k : ℕ). board_of (below (entry_added w) p k old)) last
        ∙ all_below (entry_added w) p old whole (length w) (out_of_range_kept w)

    pub row_tried : tried ≡ length (row_open (length w) old p)
    unfolding row_open Periods.row
    row_tried = g.counted ∙ ap (λ (k : ℕ). length (open_below old p k)) last

    pub row_live : tried - ended ≡ length (row_open (length w) (with_row start heads old row) p)
    unfolding row_open Periods.row
    row_live =
        let left : tried - ended ≡ length (open_below (row_ended w p old) p h) = omega (arith, g.left_open) in
        left ∙ ap₂ (λ (b : List ℕ) (k : ℕ). length (open_below b p k)) (sym row_gone) last
