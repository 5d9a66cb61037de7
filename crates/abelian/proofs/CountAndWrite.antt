-- C-12: every count goes with its write, for every word, pattern, record, alphabet, length, tracker and slice.
use Prim.Native.Nat.{ℕ}
use mathlib.Core.Path.{◌≡◌, refl, subst}
use mathlib.Core.Logic.{◌≢◌, ⊎_elim}
use mathlib.Core.Bool.{Bool, true, false, not}
use mathlib.Core.Option.{Option, none, some}
use mathlib.Core.List.{List, [], ◌∷◌}
use native.Mathlib.Omega.{arith}
use lib.ListN.{length}
use lib.Dec.{T, eqb, ltb}
use borrow.Author.Tests.{lt-ltb, le-ltb, ltb-true}
use Rattle.abelian.specs.Lists.{pick, all}
use Rattle.abelian.specs.Words.{one_letter}
use Rattle.abelian.specs.Refusals.{number_of, Condition, first_holding, first_or_too_short, word_conditions, word_refusal, report_refusal, window_conditions, window_refusal, square_free_conditions, square_free_refusal, tracker_refusal}
use Rattle.abelian.specs.Answers.{Answer, refusing, counting, unless}
use Rattle.abelian.specs.Calls.{writing_words, listing, count_words, period_words, full_words, report_words, plain_listing, skipping_listing, full_listing, scaled_listing, square_listing, run_listing, window_listing, square_free_listing, reporting, period_count, full_count, square_count, run_count, window_count, square_free_count, report_count}
use Rattle.abelian.specs.Trials.{plain_trials, skipping_trials}
use Rattle.abelian.specs.FullPeriods.{scale, scaled_gap}
use Rattle.abelian.specs.Squares.{square_words}
use Rattle.abelian.specs.Runs.{run_words}
use Rattle.abelian.specs.Windows.{window_words}
use Rattle.abelian.specs.Patterns.{pattern_words}
use Rattle.abelian.specs.Trackers.{damaged, step_unless, open_words, tracker_listing, tracker_count}
use Rattle.abelian.specs.CountAndWrite.{WritesAsCounted}
use Rattle.abelian.specs.declared.Refusal.{Refusal}
use Rattle.abelian.specs.declared.Refusal.TheVariants.{SliceTooShort, TrackerDamaged}
use Rattle.abelian.specs.declared.Tracker.{Tracker}
use Rattle.abelian.proofs.Tests.{decided, left, right}
use Rattle.abelian.proofs.Refusals.{refusal_number}

-- ---- refused alike, or accepted but for the slice

-- where both are refused for a reason that is not the slice's length
refused_counted : (r : Refusal) → number_of r ≢ 3 → WritesAsCounted (refusing r []) (refusing r)
refused_counted r n = record {
  enough = λ e out l. absurd (omega (arith, refusal_number r));
  fewer = λ e out l. absurd (omega (arith, refusal_number r));
  exactly = λ e out. absurd (omega (arith, refusal_number r));
  not_for_length = n;
  refused = λ e out. (refl, refl);
  met = λ out e f. (refl, refl);
}

-- the refusal of a slice that is too short for the words
abbrev for_length : List ℕ → List ℕ → Option Refusal
for_length ws out = pick (ltb (length out) (length ws)) (some (SliceTooShort (length ws))) none

-- where the slice's length alone is left to be read
module _ (ws : List ℕ) (trials s t : ℕ) (write : List ℕ → Answer) (is : (out : List ℕ) → write out ≡ unless (for_length ws out) out (writing_words ws trials s t out)) where
  written : (out : List ℕ) → ltb (length out) (length ws) ≡ false → ((write out).number ≡ 0) × ((write out).written ≡ length ws)
  written out e = rw (is out, e) (refl, refl)

  short : (out : List ℕ) → ltb (length out) (length ws) ≡ true → ((write out).number ≡ 3) × ((write out).value ≡ length ws)
  short out e = rw (is out, e) (refl, refl)

  accepted_counted : WritesAsCounted (counting (length ws)) write
  accepted_counted = record {
    enough = λ a out l. written out (le-ltb (length out) (length ws) l);
    fewer = λ a out l. short out (lt-ltb (length out) (length ws) l);
    exactly = λ a out. (
      λ n. ⊎_elim (ltb-true (length out) (length ws)) (λ (e : ltb (length out) (length ws) ≡ false). absurd (omega (arith, (written out e).0))) (decided (ltb (length out) (length ws))),
      λ l. (short out (lt-ltb (length out) (length ws) l)).0,
    );
    not_for_length = λ z. omega arith;
    refused = λ n out. absurd (n refl);
    met = λ out n m. ⊎_elim (λ (e : ltb (length out) (length ws) ≡ true). absurd (m (short out e).0)) (λ (e : ltb (length out) (length ws) ≡ false). absurd (n (written out e).0))
        (decided (ltb (length out) (length ws)));
  }

-- ---- by the order of refusals

-- the condition's refusal is not the one for a slice's length
abbrev not_for_length : Condition → Bool
not_for_length c = not (eqb (number_of c.refusal) 3)

module _ (ws : List ℕ) (trials s t : ℕ) where
  -- one condition more, read before those of a count and its write
  condition-more : (b : Bool) (r : Refusal) → number_of r ≢ 3 → (o : Option Refusal) (q : List ℕ → Option Refusal)
      → WritesAsCounted (unless o [] (counting (length ws))) (λ (out : List ℕ). unless (q out) out (writing_words ws trials s t out))
      → WritesAsCounted (unless (pick b (some r) o) [] (counting (length ws))) (λ (out : List ℕ). unless (pick b (some r) (q out)) out (writing_words ws trials s t out))
  condition-more true r n o q h = refused_counted r n
  condition-more false r n o q h = h

  -- a count that reads the conditions, and a write that reads the slice's length behind them
  conditions_as_counted : (cs : List Condition) → T (all not_for_length cs)
      → WritesAsCounted (unless (first_holding cs) [] (counting (length ws)))
      (λ (out : List ℕ). unless (first_or_too_short cs (length ws) (length out)) out (writing_words ws trials s t out))
  unfolding first_holding
  conditions_as_counted [] n = accepted_counted ws trials s t _ (λ out. refl)
  conditions_as_counted (c ∷ cs) n =
      condition-more c.holds c.refusal (λ e. subst (λ (k : ℕ). T (not (eqb k 3))) e (left (not_for_length c) (all not_for_length cs) n)) (first_holding cs)
      (λ (out : List ℕ). first_or_too_short cs (length ws) (length out)) (conditions_as_counted cs (right (not_for_length c) (all not_for_length cs) n))

-- ---- a word's lists

listing_as_counted : (w ws : List ℕ) (trials s t : ℕ) → WritesAsCounted (count_words w ws) (λ (out : List ℕ). listing w out ws trials s t)
unfolding count_words listing word_refusal first_holding
listing_as_counted w ws trials s t = conditions_as_counted ws trials s t (word_conditions w false false) tt

module _ (w : List ℕ) where
  pub plain_as_counted : WritesAsCounted (period_count w) (plain_listing w)
  unfolding period_count plain_listing
  plain_as_counted = listing_as_counted w (period_words w) (plain_trials w) 0 0

  pub skipping_as_counted : WritesAsCounted (period_count w) (skipping_listing w)
  unfolding period_count skipping_listing
  skipping_as_counted = listing_as_counted w (period_words w) (skipping_trials w) 0 0

  pub full_as_counted : WritesAsCounted (full_count w) (full_listing w)
  unfolding full_count full_listing
  full_as_counted = listing_as_counted w (full_words w) 0 0 0

  pub scaled_as_counted : WritesAsCounted (full_count w) (scaled_listing w)
  unfolding full_count scaled_listing
  scaled_as_counted = listing_as_counted w (full_words w) 0 (scale w) (scaled_gap w)

  pub squares_as_counted : WritesAsCounted (square_count w) (square_listing w)
  unfolding square_count square_listing
  squares_as_counted = listing_as_counted w (square_words w) 0 0 0

  pub runs_as_counted : WritesAsCounted (run_count w) (run_listing w)
  unfolding run_count run_listing
  runs_as_counted = listing_as_counted w (run_words w) 0 0 0

  pub report_as_counted : WritesAsCounted (report_count w) (reporting w)
  unfolding report_count reporting report_refusal first_holding
  report_as_counted = conditions_as_counted (report_words w) 0 0 0 (word_conditions w false (one_letter w)) tt

-- ---- the list of windows

pub windows_as_counted : (pattern events : List ℕ) → WritesAsCounted (window_count pattern events) (window_listing pattern events)
unfolding window_count window_listing window_refusal first_holding
windows_as_counted pattern events = conditions_as_counted (window_words pattern events) 0 0 0 (window_conditions pattern events) tt

-- ---- the list of square-free words

pub square_free_as_counted : (k n : ℕ) → WritesAsCounted (square_free_count k n) (square_free_listing k n)
unfolding square_free_count square_free_listing square_free_refusal first_holding
square_free_as_counted k n = conditions_as_counted (pattern_words k n) 0 0 0 (square_free_conditions k n) tt

-- ---- a tracker's list

-- the answer of a step that keeps the tracker, and the tracker
module _ (t : Tracker) (out : List ℕ) (a : Answer) where
  kept_answer : (o : Option Refusal) → (step_unless o out t (record { tracker = t; answer = a })).answer ≡ unless o out a
  unfolding step_unless
  kept_answer none = refl
  kept_answer (some r) = refl

  kept_tracker : (o : Option Refusal) → (step_unless o out t (record { tracker = t; answer = a })).tracker ≡ t
  unfolding step_unless
  kept_tracker none = refl
  kept_tracker (some r) = refl

module _ (t : Tracker) where
  pub tracker_as_counted : WritesAsCounted (tracker_count t).answer (λ (out : List ℕ). (tracker_listing t out).answer)
  unfolding tracker_count tracker_listing tracker_refusal first_holding step_unless
  tracker_as_counted = go (damaged t) (open_words t.len t.board)
    where
      go : (no : Bool) (ws : List ℕ) → WritesAsCounted (step_unless (pick no (some TrackerDamaged) none) [] t (record { tracker = t; answer = counting (length ws) })).answer
          (λ (out : List ℕ). (step_unless (pick no (some TrackerDamaged) (for_length ws out)) out t (record { tracker = t; answer = writing_words ws 0 0 0 out })).answer)
      go true ws = refused_counted TrackerDamaged (λ e. omega arith)
      go false ws =
          accepted_counted ws 0 0 0 (λ (out : List ℕ). (step_unless (for_length ws out) out t (record { tracker = t; answer = writing_words ws 0 0 0 out })).answer)
          (λ out. kept_answer t out (writing_words ws 0 0 0 out) (for_length ws out))

  -- the tracker is as it came
  pub count_keeps : (tracker_count t).tracker ≡ t
  unfolding tracker_count
  count_keeps = kept_tracker t [] _ _
