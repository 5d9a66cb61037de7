-- Laws of listings: an accepted word's list, and what a board of zeros holds after its pairs have been ended.
use mathlib.Core.Path.{◌≡◌, refl, sym, ap, ap₂, subst, ◌∙◌}
use mathlib.Core.Logic.{⊎_elim}
use mathlib.Core.Bool.{true, false, ◌&&◌}
use mathlib.Core.Option.{none}
use mathlib.Core.List.{List, [], ◌∷◌, map}
use Prim.Native.Nat.{ℕ, ◌≤◌}
use native.Mathlib.Omega.{arith}
use lib.ListN.{length, get_or, replicate, length-replicate, get_or-replicate, length-map}
use lib.Dec.{T, eqb, ltb}
use borrow.Author.Tests.{ltb-true, ltb-false, leb-true, leb-false, ne_eqb}
use Rattle.abelian.specs.Lists.{keep}
use Rattle.abelian.specs.Words.{longest, of_letters}
use Rattle.abelian.specs.Periods.{Pair, in_range, pairs, is_period, periods}
use Rattle.abelian.specs.Output.{period_word}
use Rattle.abelian.specs.Trials.{plain_trials, is_candidate, candidates, skipping_trials}
use Rattle.abelian.specs.EndedLengths.{board_of}
use Rattle.abelian.specs.Refusals.{word_refusal}
use Rattle.abelian.specs.Calls.{listing, period_words}
use Rattle.abelian.specs.Trackers.{board_size, open_pairs, entries, entry_added}
use Rattle.abelian.proofs.Tests.{is_true, is_false, fails, decided}
use Rattle.abelian.proofs.Lists.{keep_agree}
use Rattle.abelian.proofs.Pairs.{InRange, in_range_lem, pairs-in_range}
use Rattle.words.specs.Prefixes.{IsWord}
use Rattle.words.proofs.Listings.{listing_short, listing_written}
use Rattle.board.specs.declared.ending.Trials.{Trials}
use Rattle.board.specs.Places.{place_of, entry_at}
use Rattle.board.specs.Ending.{all_ended}
use Rattle.board.proofs.Places.{place_below, board_of_agree, pairs_where-board_of, keep-in_range, board_of-entries, entries-board_of}
use Rattle.board.proofs.EndedRows.{ended_kept, period_kept, open_ended}
use Rattle.listers.specs.OpenListing.{words_listed, open_listing}
use Rattle.listers.specs.PeriodsLeft.{PeriodsLeft}
use Rattle.listers.specs.Lowest.{lowest_periods}
use Rattle.listers.specs.Passing.{entry_passed, all_passed, others_passed}
use Rattle.listers.proofs.LowestPeriods.{candidate_entry}
use Rattle.listers.proofs.Skipping.{period_candidate}
use Rattle.listers.proofs.Passed.{tried_kept, below_passed}

-- an accepted word's list is refused for length alone
pub accepted_listing : (w out ws : List ℕ) (trials : ℕ) → word_refusal w false 0 0 ≡ none → listing w out ws trials 0 0 ≡ words_listed ws trials out
unfolding words_listed
accepted_listing w out ws trials a =
    ⊎_elim
    (λ (l : ltb (length out) (length ws) ≡ true). rw l (listing_short w out ws trials 0 0 a (ltb-true (length out) (length ws) l)))
    (λ (l : ltb (length out) (length ws) ≡ false). rw l (listing_written w out ws trials 0 0 a (ltb-false (length out) (length ws) l)))
    (decided (ltb (length out) (length ws)))

-- ---- the open pairs of a board that is known by its entries

pub open_of_entries : (n : ℕ) (f : Pair → ℕ) → n ≤ longest → open_pairs n (board_of f) ≡ keep (λ (x : Pair). eqb (f x) 0) (pairs n)
unfolding open_pairs
open_of_entries n f l = pairs_where-board_of (λ (x : Pair) (e : ℕ). in_range n x && eqb e 0) f ∙ keep-in_range n (λ (x : Pair). eqb (f x) 0) l

-- a board of zeros
unfoldable pub zeros : List ℕ
zeros = replicate board_size 0

pub zeros_board : zeros ≡ board_of (λ (x : Pair). 0)
unfolding zeros
zeros_board =
    board_of-entries zeros (length-replicate board_size 0)
    ∙ board_of_agree (entry_at zeros) (λ (x : Pair). 0) (λ x t. get_or-replicate board_size (place_of x) 0 0 (place_below x t))

keep_all : (xs : List Pair) → keep (λ (x : Pair). true) xs ≡ xs
keep_all [] = refl
keep_all (x ∷ xs) = ap (λ (l : List Pair). x ∷ l) (keep_all xs)

-- all pairs in range are open on it
pub zeros_open : (n : ℕ) → n ≤ longest → open_pairs n zeros ≡ pairs n
zeros_open n l = ap (open_pairs n) zeros_board ∙ open_of_entries n (λ (x : Pair). 0) l ∙ keep_all (pairs n)

-- on a board of zeros a pair in range stays open exactly where it is an Abelian period
open_period : (w : List ℕ) (x : Pair) → T (in_range (length w) x) → eqb (entry_added w x 0) 0 ≡ is_period w x
open_period w x t =
    let r : InRange (length w) x = in_range_lem (length w) x t in
    ⊎_elim (λ (p : is_period w x ≡ true). rw (period_kept w x 0 p, p))
    (λ (p : is_period w x ≡ false). rw (open_ended w x 0 refl (is_true (in_range (length w) x) t) p, p) (ne_eqb (length w) 0 (omega (arith, r.positive, r.fits))))
    (decided (is_period w x))

-- and after its pairs have been ended, the Abelian periods
pub ended_periods : (w : List ℕ) → length w ≤ longest → open_pairs (length w) (all_ended w zeros) ≡ periods w
unfolding all_ended periods
ended_periods w l =
    ap (λ (b : List ℕ). open_pairs (length w) (entries (entry_added w) (pairs longest) b)) zeros_board
    ∙ ap (open_pairs (length w)) (entries-board_of (entry_added w) (λ (x : Pair). 0))
    ∙ open_of_entries (length w) (λ (x : Pair). entry_added w x 0) l
    ∙ keep_agree (λ (x : Pair). eqb (entry_added w x 0) 0) (is_period w) (pairs (length w)) (λ x m. open_period w x (pairs-in_range (length w) x m))

-- a board on which the Abelian periods are open has as many open pairs as their list has words
pub open_count : (w board : List ℕ) → open_pairs (length w) board ≡ periods w → length (open_pairs (length w) board) ≡ length (period_words w)
unfolding period_words
open_count w board e = ap length e ∙ sym (length-map (periods w) period_word)

-- ---- a step that leaves the Abelian periods open

-- the list of what it leaves open is the list of the word's Abelian periods; the word is given as v
pub periods_listed : (w out : List ℕ) {v board : List ℕ} {n : ℕ} {found : Trials} (trials : List ℕ → ℕ) → word_refusal w false 0 0 ≡ none → v ≡ w → n ≡ length v
    → PeriodsLeft v (trials v) found board → open_listing n board found.tried out ≡ listing w out (period_words w) (trials w) 0 0
unfolding open_listing period_words
periods_listed w out {v} {board} {n} {found} trials a e m q =
    let p : PeriodsLeft w (trials w) found board = subst (λ (u : List ℕ). PeriodsLeft u (trials u) found board) e q in
    ap (λ (k : ℕ). words_listed (map period_word (open_pairs k board)) found.tried out) (m ∙ ap length e)
    ∙ ap₂ (λ xs k. words_listed (map period_word xs) k out) p.left p.tried
    ∙ sym (accepted_listing w out (map period_word (periods w)) (trials w) a)

-- and it has as many words
pub periods_counted : {w board : List ℕ} {trials : ℕ} {found : Trials} → PeriodsLeft w trials found board → found.live ≡ length (period_words w)
periods_counted {w} {board} p = p.live ∙ open_count w board p.left

-- the plain lister's step is one
pub plain_left : (w : List ℕ) {board after : List ℕ} (found : Trials) → IsWord w → board ≡ zeros → found.tried ≡ length (open_pairs (length w) board)
    → found.live ≡ length (open_pairs (length w) after) → after ≡ all_ended w board → PeriodsLeft w (plain_trials w) found after
unfolding plain_trials
plain_left w found is z t l e =
    record {
      tried = t ∙ ap (λ (b : List ℕ). length (open_pairs (length w) b)) z ∙ ap length (zeros_open (length w) is.short);
      live = l;
      left = ap (open_pairs (length w)) (e ∙ ap (all_ended w) z) ∙ ended_periods w is.short;
    }

-- ---- the skipping lister's step

module _ (w : List ℕ) (t : T (of_letters w)) (l : length w ≤ longest) where
  abbrev entry : Pair → ℕ
  entry x = entry_passed (length w) (lowest_periods w) x 0

  -- a board of zeros after pairs have been passed over
  passed_board : others_passed w zeros ≡ board_of entry
  unfolding others_passed all_passed
  passed_board =
      ap (entries (entry_passed (length w) (lowest_periods w)) (pairs longest)) zeros_board
      ∙ entries-board_of (entry_passed (length w) (lowest_periods w)) (λ (x : Pair). 0)

  module _ (x : Pair) (r : T (in_range (length w) x)) where
    -- a candidate is open on it, and no other pair
    candidate_open : is_candidate w x ≡ true → entry x ≡ 0
    candidate_open c = tried_kept (length w) (lowest_periods w) x 0 r (leb-true (get_or (lowest_periods w) x.head 0) x.period (sym (candidate_entry w x l r) ∙ c))

    other_passed : is_candidate w x ≡ false → entry x ≡ 1
    other_passed c =
        below_passed (length w) (lowest_periods w) x 0 r
        (leb-false (get_or (lowest_periods w) x.head 0) x.period (sym (candidate_entry w x l r) ∙ c))

    open_candidate : eqb (entry x) 0 ≡ is_candidate w x
    open_candidate =
        ⊎_elim (λ (c : is_candidate w x ≡ true). rw (candidate_open c, c)) (λ (c : is_candidate w x ≡ false). rw (other_passed c, c)) (decided (is_candidate w x))

    -- and after the open pairs have been ended, the Abelian periods
    tried_period : eqb (entry_added w x (entry x)) 0 ≡ is_period w x
    tried_period =
        ⊎_elim (λ (c : is_candidate w x ≡ true). ap (λ (e : ℕ). eqb (entry_added w x e) 0) (candidate_open c) ∙ open_period w x r)
        (λ (c : is_candidate w x ≡ false).
        ap (λ (e : ℕ). eqb (entry_added w x e) 0) (other_passed c)
        ∙ ap (λ (e : ℕ). eqb e 0) (ended_kept w x 1 (omega arith))
        ∙ sym (is_false (is_period w x) (λ p. fails (is_candidate w x) c (period_candidate w x t p))))
        (decided (is_candidate w x))

  -- its open pairs are the candidates
  passed_open : open_pairs (length w) (others_passed w zeros) ≡ candidates w
  unfolding candidates
  passed_open =
      ap (open_pairs (length w)) passed_board
      ∙ open_of_entries (length w) entry l
      ∙ keep_agree (λ (x : Pair). eqb (entry x) 0) (is_candidate w) (pairs (length w)) (λ x m. open_candidate x (pairs-in_range (length w) x m))

  -- and after these have been ended, the Abelian periods
  pub tried_periods : open_pairs (length w) (all_ended w (others_passed w zeros)) ≡ periods w
  unfolding all_ended periods
  tried_periods =
      ap (λ (b : List ℕ). open_pairs (length w) (entries (entry_added w) (pairs longest) b)) passed_board
      ∙ ap (open_pairs (length w)) (entries-board_of (entry_added w) entry)
      ∙ open_of_entries (length w) (λ (x : Pair). entry_added w x (entry x)) l
      ∙ keep_agree (λ (x : Pair). eqb (entry_added w x (entry x)) 0) (is_period w) (pairs (length w)) (λ x m. tried_period x (pairs-in_range (length w) x m))

-- so the skipping lister's step leaves them open too
pub skipping_left : (w : List ℕ) {board after : List ℕ} (found : Trials) → IsWord w → board ≡ zeros → found.tried ≡ length (open_pairs (length w) (others_passed w board))
    → found.live ≡ length (open_pairs (length w) after) → after ≡ all_ended w (others_passed w board) → PeriodsLeft w (skipping_trials w) found after
unfolding skipping_trials
skipping_left w found is z t l e =
    record {
      tried = t ∙ ap (λ (b : List ℕ). length (open_pairs (length w) (others_passed w b))) z ∙ ap length (passed_open w is.all is.short);
      live = l;
      left = ap (open_pairs (length w)) (e ∙ ap (λ (b : List ℕ). all_ended w (others_passed w b)) z) ∙ tried_periods w is.all is.short;
    }
