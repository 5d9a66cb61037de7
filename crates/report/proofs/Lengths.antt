-- How many words a report has: those of its parts, and fewer than any slice of `PLACES` places has room for.
use mathlib.Core.Path.{◌≡◌, ap}
use mathlib.Core.Bool.{Bool, true, false, ◌&&◌}
use mathlib.Core.Option.{none}
use mathlib.Core.List.{List, [], ◌∷◌, ◌++◌, map}
use Prim.Native.Nat.{ℕ, ◌+◌, ◌≤◌, ◌<◌}
use native.Mathlib.Decide.{dec_le}
use native.Mathlib.Omega.{arith}
use lib.ListN.{length, length-append, length-map}
use lib.Dec.{T, leb, leb→le, le→leb}
use Rattle.abelian.specs.Lists.{up_from, put, keep, each}
use Rattle.abelian.specs.Words.{longest, of_letters, all_equal, one_letter}
use Rattle.abelian.specs.Periods.{Pair, pair, in_range, pairs, is_period, periods}
use Rattle.abelian.specs.Output.{period_word, square_word, full_word}
use Rattle.abelian.specs.FullPeriods.{divides, proper_divisor, is_full, full_periods}
use Rattle.abelian.specs.Squares.{square_starts, square_words}
use Rattle.abelian.specs.Refusals.{report_refusal}
use Rattle.abelian.specs.Trackers.{board_size}
use Rattle.abelian.specs.Calls.{full_words, period_words, report_words}
use Rattle.report.specs.Places.{report_places}
use Rattle.abelian.proofs.Tests.{fails, both, left, right}
use Rattle.abelian.proofs.Lists.{all-mem, up_from-mem, keep_shorter, keep_whole}
use Rattle.abelian.proofs.Pairs.{in_range_lem, range_in, in_range_longer, in_range-pairs}
use Rattle.periods.proofs.OneLetter.{all_equal_exactly}
use Rattle.board.proofs.Places.{board_length, keep-in_range}
use Rattle.squares.specs.Marks.{start_marks, square_marks}
use Rattle.squares.proofs.Candidates.{fewer_words, candidates_bound}
use Rattle.report.proofs.Refusals.{reported_letters, reported_length, accepted_other}

-- lists that are each no longer are no longer together
each_shorter : (f g : ℕ → List ℕ) (xs : List ℕ) → ((x : ℕ) → length (f x) ≤ length (g x)) → length (each xs f) ≤ length (each xs g)
each_shorter f g [] h = omega arith
each_shorter f g (x ∷ xs) h = omega (arith, h x, each_shorter f g xs h, length-append (f x) (each xs f), length-append (g x) (each xs g))

-- what passes two tests passes the first
both_shorter : (f g : ℕ → Bool) (xs : List ℕ) → length (keep (λ (x : ℕ). f x && g x) xs) ≤ length (keep f xs)
both_shorter f g [] = omega arith
both_shorter f g (x ∷ xs) = go (f x) (g x) (both_shorter f g xs)
  where
    go : (a b : Bool) → length (keep (λ (y : ℕ). f y && g y) xs) ≤ length (keep f xs)
        → length (put (a && b) x (keep (λ (y : ℕ). f y && g y) xs)) ≤ length (put a x (keep f xs))
    go true true h = omega arith
    go true false h = omega arith
    go false b h = h

-- no number up to the longest word's length has more than 19 divisors but itself: computed of them all
abbrev few_divisors : ℕ → Bool
few_divisors n = leb (length (keep (λ (d : ℕ). proper_divisor d n) (up_from 1 n))) 19

few_divisors_lem : (n : ℕ) → n ≤ longest → length (keep (λ (d : ℕ). proper_divisor d n) (up_from 1 n)) ≤ 19
unfolding longest divides proper_divisor
few_divisors_lem n h = leb→le _ 19 (all-mem few_divisors (up_from 0 241) tt (up_from-mem 0 241 n (omega arith) (omega arith)))

module _ (w : List ℕ) where
  -- the head's word, and those of the three lists
  pub parts_length : length (report_words w) ≡ 1 + length (full_words w) + length (period_words w) + length (square_words w)
  unfolding report_words
  parts_length = omega (arith, length-append (full_words w) (period_words w ++ square_words w), length-append (period_words w) (square_words w))

  pub report_length : length (report_words w) ≡ 1 + length (full_periods w) + length (periods w) + length (square_words w)
  unfolding full_words period_words
  report_length = omega (arith, parts_length, length-map (full_periods w) (full_word (length w)), length-map (periods w) period_word)

  -- a word has no more full periods than its length has divisors but itself
  full_few : length w ≤ longest → length (full_periods w) ≤ 19
  unfolding full_periods is_full
  full_few h =
      omega (arith, few_divisors_lem (length w) h, both_shorter (λ (p : ℕ). proper_divisor p (length w)) (λ (p : ℕ). is_period w (pair 0 p)) (up_from 1 (length w)))

  -- no more Abelian periods than a board has entries
  periods_few : length w ≤ longest → length (periods w) ≤ board_size
  unfolding periods
  periods_few h =
      let shorter = keep_shorter (λ (x : Pair). in_range (length w) x && is_period w x) (pairs longest) in
      omega (arith, ap length (keep-in_range (length w) (is_period w) h), shorter, board_length)

  -- and no more squares than candidates
  squares_few : length (square_words w) ≤ length (square_marks w)
  unfolding square_words square_marks
  squares_few =
      each_shorter (λ (q : ℕ). map (square_word q) (square_starts w q)) (start_marks w) (up_from 1 (length w))
      (λ q. omega (arith, length-map (square_starts w q) (square_word q), fewer_words w q))

  pub report_places_lem : length w ≤ longest → length (report_words w) ≤ report_places
  unfolding report_places
  report_places_lem h = omega (arith, report_length, full_few h, periods_few h, squares_few, candidates_bound w h)

-- ---- a bound that no report reaches

-- a word that has as many Abelian periods as a board has entries
module _ (w : List ℕ) (short : length w ≤ longest) (full : board_size ≤ length (periods w)) where
  abbrev test : Pair → Bool
  test x = in_range (length w) x && is_period w x

  -- every pair in range for the longest word is one
  every : (x : Pair) → T (in_range longest x) → T (test x)
  unfolding periods
  every x r =
      let all-kept : length (keep test (pairs longest)) ≡ length (pairs longest) =
      omega (arith, keep_shorter test (pairs longest), ap length (keep-in_range (length w) (is_period w) short), board_length) in
      all-mem test (pairs longest) (keep_whole test (pairs longest) all-kept) (in_range-pairs longest x r)

  -- so it is as long
  as_long : longest ≤ length w
  unfolding in_range longest
  as_long = (in_range_lem (length w) (pair 0 longest) (left (in_range (length w) (pair 0 longest)) (is_period w (pair 0 longest)) (every (pair 0 longest) tt))).fits

  -- and all its letters are equal
  equal_letters_lem : T (of_letters w) → T (all_equal w)
  equal_letters_lem t =
      (all_equal_exactly w t).1 (λ x r. right (in_range (length w) x) (is_period w x) (every x (range_in longest x (in_range_longer (in_range_lem (length w) x r) short))))

module _ (w : List ℕ) (reported : report_refusal w 0 0 ≡ none) where
  -- such a word is not reported
  periods_fewer : length (periods w) < board_size
  unfolding one_letter longest
  periods_fewer = go (dec_le board_size (length (periods w)))
    where
      go : Dec (board_size ≤ length (periods w)) → length (periods w) < board_size
      go (no h) = omega arith
      go (yes full) =
          let short = reported_length w reported in
          absurd
          (fails (one_letter w) (accepted_other w reported)
          (both (leb 2 (length w)) (all_equal w) (le→leb 2 (length w) (omega (arith, as_long w short full))) (equal_letters_lem w short full (reported_letters w reported))))

  pub report_below : length (report_words w) < report_places
  unfolding report_places
  report_below =
      let short : length w ≤ longest = reported_length w reported in
      omega (arith, report_length w, full_few w short, periods_fewer, squares_few w, candidates_bound w short)
