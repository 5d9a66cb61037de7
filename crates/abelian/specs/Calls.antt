-- What each call on a word, on a pattern and a record, or on an alphabet and a length answers, and what it leaves in the slice: from these and, for a list, the slice as it
-- came.
use Rattle.std.specs.Prelude.{ℕ, false, not, List, [], ◌∷◌, ◌++◌, map, length, eqb}
use Rattle.std.proofs.Math.Option.{Option}
use Rattle.abelian.specs.Lists.{pick}
use Rattle.abelian.specs.Periods.{Pair, in_range, periods}
use Rattle.abelian.specs.Output.{period_word, full_word, report_head, fill}
use Rattle.abelian.specs.Trials.{plain_trials, skipping_trials}
use Rattle.abelian.specs.FullPeriods.{full_periods, scale, scaled_gap}
use Rattle.abelian.specs.Judge.{Failure, failures}
use Rattle.abelian.specs.Squares.{square_words}
use Rattle.abelian.specs.Runs.{run_words}
use Rattle.abelian.specs.Windows.{window_words}
use Rattle.abelian.specs.Patterns.{pattern_words}
use Rattle.abelian.specs.Covers.{cover_length}
use Rattle.abelian.specs.Refusals.{word_refusal, window_refusal, report_refusal, square_free_refusal}
use Rattle.abelian.specs.declared.Refusal.{Refusal}
use Rattle.abelian.specs.Answers.{Answer, writing, counting, deciding, unless}

-- yes, or the first failure
unfoldable pub first_failure : List Failure → Answer
first_failure [] = deciding 1 0 0 0
first_failure (f ∷ fs) = deciding 0 f.block f.letter 0

-- "Judge": refusals 1, 2, 7, else the verdict.
unfoldable pub judging : List ℕ → Pair → Answer
judging w x = unless (word_refusal w (not (in_range (length w) x)) 0 0) [] (first_failure (failures w x))

-- An accepted list: the words in the first places, their number, and the numbers that belong to the call.
abbrev pub writing_words : List ℕ → ℕ → ℕ → ℕ → List ℕ → Answer
writing_words ws trials s t out = writing (length ws) trials s t (fill ws out)

-- A list call with these refusals, by the words that it needs and the places that it has; else the list.
abbrev pub listing_unless : (ℕ → ℕ → Option Refusal) → List ℕ → ℕ → ℕ → ℕ → List ℕ → Answer
listing_unless refusal ws trials s t out = unless (refusal (length ws) (length out)) out (writing_words ws trials s t out)

-- Its count (C-12): "every refusal of the write but 3, in the same order", since it needs no place; else the number of the list's words.
abbrev pub count_unless : (ℕ → ℕ → Option Refusal) → List ℕ → Answer
count_unless refusal ws = unless (refusal 0 0) [] (counting (length ws))

-- A list call on a word: refusals 1, 2, 3; and its count.
unfoldable pub listing : List ℕ → List ℕ → List ℕ → ℕ → ℕ → ℕ → Answer
listing w out ws trials s t = listing_unless (word_refusal w false) ws trials s t out

unfoldable pub count_words : List ℕ → List ℕ → Answer
count_words w ws = count_unless (word_refusal w false) ws

-- the words of the Abelian periods, in pair order
unfoldable pub period_words : List ℕ → List ℕ
period_words w = map period_word (periods w)

-- the words of the full periods, by rising p
unfoldable pub full_words : List ℕ → List ℕ
full_words w = map (full_word (length w)) (full_periods w)

-- "The two listers": both write all Abelian periods and report trials.
unfoldable pub plain_listing : List ℕ → List ℕ → Answer
plain_listing w out = listing w out (period_words w) (plain_trials w) 0 0

unfoldable pub skipping_listing : List ℕ → List ℕ → Answer
skipping_listing w out = listing w out (period_words w) (skipping_trials w) 0 0

-- the number of these words, for both listers: "Trials, s and T stay with the write" (C-12)
unfoldable pub period_count : List ℕ → Answer
period_count w = count_words w (period_words w)

-- "Two paths, plain and scaled, list them by rising p. The scaled path also answers s and T."
unfoldable pub full_listing : List ℕ → List ℕ → Answer
full_listing w out = listing w out (full_words w) 0 0 0

unfoldable pub scaled_listing : List ℕ → List ℕ → Answer
scaled_listing w out = listing w out (full_words w) 0 (scale w) (scaled_gap w)

-- the number of the full periods' words, for both paths
unfoldable pub full_count : List ℕ → Answer
full_count w = count_words w (full_words w)

-- "Squares", and their number.
unfoldable pub square_listing : List ℕ → List ℕ → Answer
square_listing w out = listing w out (square_words w) 0 0 0

unfoldable pub square_count : List ℕ → Answer
square_count w = count_words w (square_words w)

-- "Abelian runs" (C-11), and the number of their words, two for each.
unfoldable pub run_listing : List ℕ → List ℕ → Answer
run_listing w out = listing w out (run_words w) 0 0 0

unfoldable pub run_count : List ℕ → Answer
run_count w = count_words w (run_words w)

-- "Anagram windows" (C-13): refusals 1, 2, 8, 9, 2, 3; and their number.
unfoldable pub window_listing : List ℕ → List ℕ → List ℕ → Answer
window_listing pattern events out = listing_unless (window_refusal pattern events) (window_words pattern events) 0 0 0 out

unfoldable pub window_count : List ℕ → List ℕ → Answer
window_count pattern events = count_unless (window_refusal pattern events) (window_words pattern events)

-- "All patterns without a repeat" (C-20), of k letters and length n: refusals 11, 12, 3; and their number.
unfoldable pub square_free_listing : ℕ → ℕ → List ℕ → Answer
square_free_listing k n out = listing_unless (square_free_refusal k n) (pattern_words k n) 0 0 0 out

unfoldable pub square_free_count : ℕ → ℕ → Answer
square_free_count k n = count_unless (square_free_refusal k n) (pattern_words k n)

-- none, where the cover length is 0, or the length
unfoldable pub none_or_length : ℕ → Answer
none_or_length m = pick (eqb m 0) (deciding 0 0 0 0) (deciding 1 0 0 m)

-- "Cover": refusals 1, 2, else the smallest length (C-14) or none.
unfoldable pub cover_answer : List ℕ → Answer
cover_answer w = unless (word_refusal w false 0 0) [] (none_or_length (cover_length w))

-- "Report": one word of kind 8, which carries the cover length (C-14), then full periods, periods, squares.
unfoldable pub report_words : List ℕ → List ℕ
report_words w = report_head (length w) (cover_length w) ∷ (full_words w ++ (period_words w ++ square_words w))

-- Refusals 1, 2, 10 (C-17), 3, else these words; and their number.
unfoldable pub reporting : List ℕ → List ℕ → Answer
reporting w out = listing_unless (report_refusal w) (report_words w) 0 0 0 out

unfoldable pub report_count : List ℕ → Answer
report_count w = count_unless (report_refusal w) (report_words w)
