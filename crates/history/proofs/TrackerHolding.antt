-- Laws of the tracker of a word: it is fresh for the empty word, it is not damaged, add, take-back and list find in it what the machine has in
-- its letters, and its totals are those of the word's pairs.
use mathlib.Core.Path.{◌≡◌, refl, sym, ap, ap₂, ◌∙◌}
use mathlib.Core.Bool.{false}
use mathlib.Core.List.{List, [], ◌∷◌, ◌++◌, map-map}
use Prim.Native.Nat.{ℕ, suc, ◌+◌, ◌-◌, ◌*◌, ◌/◌, ◌≤◌, ◌<◌}
use native.Mathlib.Omega.{arith}
use lib.ListN.{length, take, set, replicate, length-append, length-map}
use lib.Seq.{take-append_seam, take_at, set_at, append_snoc}
use lib.Dec.{T, eqb}
use borrow.Author.Tests.{le-ltb}
use Rattle.abelian.specs.Lists.{pick}
use Rattle.abelian.specs.Words.{longest, of_letters}
use Rattle.abelian.specs.Periods.{Pair, pairs, is_period, periods}
use Rattle.abelian.specs.Output.{period_word}
use Rattle.abelian.specs.EndedLengths.{ended_length, board_of}
use Rattle.abelian.specs.Calls.{period_words}
use Rattle.abelian.specs.Trackers.{board_size, totals, with_totals, fresh_tracker, damaged_bytes, damaged, entries, entry_added, added, shortened, open_pairs}
use Rattle.abelian.proofs.Tests.{is_true}
use Rattle.abelian.proofs.Lists.{keep_agree}
use Rattle.abelian.proofs.Pairs.{InRange, in_range_lem, pairs-in_range}
use Rattle.periods.proofs.EndedLengths.{open_is_period, out_of_range_open, ended_added, ended_shortened}
use Rattle.periods.proofs.PairCount.{pair-count}
use Rattle.board.proofs.Places.{length-board_of, board_of_agree, entries-board_of, open_and_ended}
use Rattle.listers.proofs.Listings.{zeros, zeros_board, open_of_entries}
use Rattle.history.specs.TrackerHolding.{tracker_holding}

-- a tracker whose totals are those of its board is known by its length, bytes and board
with_totals_equal : {n m : ℕ} {u v a b : List ℕ} → n ≡ m → u ≡ v → a ≡ b → with_totals n u a ≡ with_totals m v b
with_totals_equal e f g = cc

-- the fresh tracker is that of the empty word
pub fresh_empty : fresh_tracker ≡ tracker_holding []
unfolding fresh_tracker tracker_holding zeros longest board_size
fresh_empty =
    with_totals_equal refl refl
    (zeros_board ∙ board_of_agree (λ (x : Pair). 0) (ended_length [])
    (λ x t. let r : InRange longest x = in_range_lem longest x t in sym (out_of_range_open [] x (omega (arith, r.positive)))))

-- the tracker of a word is not damaged
pub undamaged : (w : List ℕ) → T (of_letters w) → length w ≤ longest → damaged (tracker_holding w) ≡ false
unfolding damaged damaged_bytes tracker_holding
undamaged w t l = rw (take-append_seam w (replicate (longest - length w) 0), is_true (of_letters w) t, le-ltb longest (length w) l)

-- ---- one letter more, and one letter less

module _ (w : List ℕ) (b : ℕ) (l : length w < longest) where
  abbrev W : List ℕ
  W = w ++ (b ∷ [])

  length-W : length W ≡ suc (length w)
  length-W = omega (arith, length-append w (b ∷ []))

  -- the first zero behind the word is replaced by the letter
  room : replicate {A = ℕ} (longest - length w) 0 ≡ 0 ∷ replicate (longest - length W) 0
  room = let e : longest - length w ≡ suc (longest - length W) = omega (arith, length-W) in rw e

  stored : set (w ++ replicate (longest - length w) 0) (length w) b ≡ W ++ replicate (longest - length W) 0
  stored =
      ap (λ (r : List ℕ). set (w ++ r) (length w) b) room
      ∙ set_at w 0 (replicate (longest - length W) 0) b (length w) refl
      ∙ sym (append_snoc w b (replicate (longest - length W) 0))

  pub added_word : added (tracker_holding w) b ≡ tracker_holding W
  unfolding added tracker_holding
  added_word =
      with_totals_equal (sym length-W) stored
      (ap (λ (v : List ℕ). entries (entry_added v) (pairs longest) (board_of (ended_length w)))
      (ap (take (suc (length w))) stored ∙ take_at W (replicate (longest - length W) 0) (suc (length w)) length-W)
      ∙ entries-board_of (entry_added W) (ended_length w)
      ∙ board_of_agree (λ (x : Pair). entry_added W x (ended_length w x)) (ended_length W)
      (λ x t. let r : InRange longest x = in_range_lem longest x t in sym (ended_added w b x r.positive r.below)))

  pub shortened_word : shortened (tracker_holding W) ≡ tracker_holding w
  unfolding shortened tracker_holding board_of
  shortened_word =
      let e : length W - 1 ≡ length w = omega (arith, length-W) in
      let reopen : ℕ → ℕ = λ (e : ℕ). pick (eqb e (length W)) 0 e in
      with_totals_equal e
      (ap₂ (λ v k. set v k 0) (append_snoc w b (replicate (longest - length W) 0)) e
      ∙ set_at w b (replicate (longest - length W) 0) 0 (length w) refl
      ∙ ap (λ (r : List ℕ). w ++ r) (sym room))
      (map-map reopen (ended_length W) (pairs longest)
      ∙ board_of_agree (λ (x : Pair). reopen (ended_length W x)) (ended_length w)
      (λ x t. let r : InRange longest x = in_range_lem longest x t in sym (ended_shortened w b x r.positive r.below)))

-- ---- the list

-- the open pairs of the word's board are its Abelian periods
pub open_periods : (w : List ℕ) → T (of_letters w) → length w ≤ longest → open_pairs (length w) (board_of (ended_length w)) ≡ periods w
unfolding periods
open_periods w t l =
    open_of_entries (length w) (ended_length w) l
    ∙ keep_agree (λ (x : Pair). eqb (ended_length w x) 0) (is_period w) (pairs (length w))
    (λ x m. open_is_period w x (in_range_lem (length w) x (pairs-in_range (length w) x m)) t)

-- ---- the totals

-- live and ended are together the pairs in range for the word
pub live_and_ended_lem : (w : List ℕ) → length w ≤ longest → (tracker_holding w).live + (tracker_holding w).ended ≡ (length w + 1) / 2 * ((length w + 2) / 2)
unfolding tracker_holding totals
live_and_ended_lem w l = open_and_ended (length w) (board_of (ended_length w)) l (length-board_of (ended_length w)) ∙ pair-count (length w)

-- and live is the number of its Abelian periods
pub live_periods : (w : List ℕ) → T (of_letters w) → length w ≤ longest → (tracker_holding w).live ≡ length (period_words w)
unfolding tracker_holding totals period_words
live_periods w t l = ap length (open_periods w t l) ∙ sym (length-map (periods w) period_word)
