-- What the table of a word's prefix counts says of a pair in range: a row, or the difference of two, has the counts of the part that it stands for, and
-- the tests of rows are those of the parts' vectors. So the head, a block or the tail breaks the rule where its rows say so.
use Rattle.std.proofs.Common.{◌≡◌, ℕ, suc, ◌+◌, ◌-◌, ◌≤◌, ◌<◌, true, false, not, List, [], length, get_or, T, sym, ap, ◌∙◌, arith}
use Rattle.std.proofs.Math.Bool.{not-not}
use borrow.Author.Tests.{not-true, not-false}
use Rattle.abelian.specs.Lists.{same}
use Rattle.abelian.specs.Words.{vector, none_above}
use Rattle.abelian.specs.Periods.{Pair, in_range, head_of, block, tail_of, is_period}
use Rattle.abelian.proofs.Tests.{passes}
use Rattle.abelian.proofs.Lists.{same_equal}
use Rattle.abelian.proofs.Pairs.{InRange, in_range_lem}
use Rattle.words.specs.Differences.{minus}
use Rattle.words.specs.Prefixes.{padded, Counted}
use Rattle.words.proofs.Prefixes.{counted_row, counted_part, none_above_rows, same_rows}
use Rattle.periods.proofs.Kernel.{Passed, first_block, next_passed, next_block, next_whole, all_passed_lem, tail_left, head_above, block_unlike, tail_decides}

module _ {w : List ℕ} {table : List (List ℕ)} (c : Counted w table) (x : Pair) (t : T (in_range (length w) x)) where
  range : InRange (length w) x
  range = in_range_lem (length w) x t

  -- the head's row, that behind block 1, and their difference
  module _ {head first longer : List ℕ} (h : head ≡ get_or table x.head []) (b : longer ≡ get_or table (x.head + x.period) []) (d : first ≡ minus longer head) where
    first_counts : first ≡ padded (vector (block w x 1))
    first_counts = counted_part c x.head x.period b h range.fits d ∙ ap (λ (l : List ℕ). padded (vector l)) (sym (first_block w x))

    head_test : {row : List ℕ} → row ≡ get_or table x.head [] → none_above row first ≡ none_above (vector (head_of w x)) (vector (block w x 1))
    unfolding head_of
    head_test r = none_above_rows (head_of w x) (block w x 1) (r ∙ counted_row c x.head (omega (arith, range.fits))) first_counts

    -- the head has a count above block 1's
    pub head_breaks : {row : List ℕ} → row ≡ get_or table x.head [] → not (none_above row first) ≡ true → false ≡ is_period w x
    head_breaks r e = sym (head_above w x (sym (head_test r) ∙ not-true _ e))

    module _ {at : ℕ} (p : Passed w x at) where
      -- the next block: its rows, and their difference
      module _ {from to counts : List ℕ} (l : x.period ≤ length w - at) (s : from ≡ get_or table at []) (u : to ≡ get_or table (at + x.period) []) (m : counts ≡ minus to from) where
        next_counts : counts ≡ padded (vector (block w x (suc p.blocks)))
        next_counts =
            counted_part c at x.period u s (omega (arith, p.within)) m ∙ ap (λ (v : List ℕ). padded (vector v)) (sym (next_block w x range at p))

        next_test : same counts first ≡ same (vector (block w x (suc p.blocks))) (vector (block w x 1))
        next_test = same_rows (block w x (suc p.blocks)) (block w x 1) next_counts first_counts

        pub block_breaks : not (same counts first) ≡ true → false ≡ is_period w x
        block_breaks e = sym (block_unlike w x (suc p.blocks) (omega arith) (next_whole w x range at p l) (sym next_test ∙ not-true _ e))

        pub block_passed : not (same counts first) ≡ false → Passed w x (at + x.period)
        block_passed e =
            next_passed w x range at p l
            (ap vector (sym (next_block w x range at p)) ∙ same_equal _ _ (passes _ (sym next_test ∙ not-false _ e)))

      -- what is left of the word, the tail: it decides
      pub tail_decided : {row from to counts : List ℕ} {n : ℕ} → row ≡ get_or table x.head [] → not (none_above row first) ≡ false → length w - at < x.period
          → from ≡ get_or table at [] → to ≡ get_or table n [] → n ≡ length w → counts ≡ minus to from → not (not (none_above counts first)) ≡ is_period w x
      tail_decided {row} {from} {to} {counts} {n} r e l s u q m =
          let left : n ≡ at + (length w - at) = omega (arith, p.within) in
          let tail : counts ≡ padded (vector (tail_of w x)) =
          counted_part c at (length w - at) (rw left at u) s (omega (arith, p.within)) m ∙ ap (λ (v : List ℕ). padded (vector v)) (sym (tail_left w x range at p l)) in
          not-not _ ∙ none_above_rows (tail_of w x) (block w x 1) tail first_counts
          ∙ sym (tail_decides w x c.all range (sym (head_test r) ∙ not-false _ e) (λ k a o. p.alike k a (omega (arith, all_passed_lem w x range at p l))))
