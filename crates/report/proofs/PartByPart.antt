-- The parts of a report, each written behind the one before: the head, the full periods, the Abelian periods and the squares. No list call is refused there.
use Rattle.std.proofs.Common.{◌≡◌, ◌≤◌, ◌+◌, ◌-◌, ℕ, List, [], ◌∷◌, ◌++◌, Result, Ok, Err, false, length, take, drop, refl, ap, ◌∙◌, arith, append_assoc}
use Rattle.std.proofs.Math.Option.{none}
use Rattle.std.specs.Result.{IsOk}
use lib.ListN.{set, length-set, length-append}
use borrow.Rule.Slice.PartMut.{put_mid}
use Rattle.abelian.specs.FullPeriods.{scale, scaled_gap}
use Rattle.abelian.specs.Trials.{skipping_trials}
use Rattle.abelian.specs.Squares.{square_words}
use Rattle.abelian.specs.Covers.{cover_length}
use Rattle.abelian.specs.Output.{report_head, fill}
use Rattle.abelian.specs.Refusals.{word_refusal}
use Rattle.abelian.specs.Answers.{answered_listed, answered_scaled, answered_wrote}
use Rattle.abelian.specs.Calls.{full_words, period_words, report_words, scaled_listing, skipping_listing, square_listing}
use Rattle.abelian.specs.declared.Refusal.{Refusal}
use Rattle.abelian.specs.declared.Listed.{Listed}
use Rattle.abelian.specs.declared.Scaled.{Scaled}
use Rattle.abelian.proofs.Refusals.{refusal_number}
use Rattle.words.specs.Prefixes.{IsWord}
use Rattle.words.proofs.Refusals.{letters-none}
use Rattle.words.proofs.Lists.{fill_more}
use Rattle.report.specs.Places.{report_places}
use Rattle.report.proofs.Lengths.{parts_length, report_places_lem}
use Rattle.report.proofs.Lending.{Behind, accepted_there, lent}

-- ---- an answer whose number is 0 is no refusal

module _ (ys : List ℕ) where
  scaled_ok : (r : Result Scaled Refusal) → (answered_scaled r ys).number ≡ 0 → IsOk r
  scaled_ok (Ok l) e = refl
  scaled_ok (Err q) e = absurd (omega (arith, refusal_number q, e))

  listed_ok : (r : Result Listed Refusal) → (answered_listed r ys).number ≡ 0 → IsOk r
  listed_ok (Ok l) e = refl
  listed_ok (Err q) e = absurd (omega (arith, refusal_number q, e))

  wrote_ok : (r : Result ℕ Refusal) → (answered_wrote r ys).number ≡ 0 → IsOk r
  wrote_ok (Ok n) e = refl
  wrote_ok (Err q) e = absurd (omega (arith, refusal_number q, e))

-- ---- part behind part

module _ (w before : List ℕ) (word : IsWord w) (room : length (report_words w) ≤ length before) where
  abbrev pub head : ℕ
  head = report_head (length w) (cover_length w)

  accepted : word_refusal w false 0 0 ≡ none
  accepted = letters-none w word.short word.all

  pub few : length (report_words w) ≤ report_places
  few = report_places_lem w word.short

  -- the head is written
  pub first : {h : ℕ} → h ≡ head → Behind before (head ∷ []) (set before 0 h) 1
  unfolding fill
  first {h} e =
      record {
        reached = refl;
        size = length-set before 0 h;
        written = ap (set before 0) e ∙ fill_more [] before head (omega (arith, room, parts_length w));
      }

  -- the full periods are written behind it
  module _ (ys : List ℕ) {out : List ℕ} (b : Behind before (head ∷ []) out 1) {letters : List ℕ} (same : letters ≡ w) (r : Result Scaled Refusal)
      (call : answered_scaled r ys ≡ scaled_listing letters (take (length out - 1) (drop 1 out))) where
    full_call : answered_scaled r ys ≡ scaled_listing w (take (length out - 1) (drop 1 out))
    full_call = rw (← same) call

    pub full_ok : IsOk r
    unfolding scaled_listing
    full_ok =
        scaled_ok ys r
        (accepted_there b w (full_words w) 0 (scale w) (scaled_gap w) accepted (omega (arith, room, parts_length w)) full_call)

    pub second : {l : Scaled} → r ≡ Ok l → Behind before (head ∷ full_words w) (put_mid 1 (length out - 1) out ys) (1 + l.words)
    unfolding scaled_listing
    second {l} e = lent b w (full_words w) 0 (scale w) (scaled_gap w) accepted (omega (arith, room, parts_length w)) (rw e at full_call)

  -- and the Abelian periods behind these
  module _ (ys : List ℕ) {out : List ℕ} {at : ℕ} (b : Behind before (head ∷ full_words w) out at) {letters : List ℕ} (same : letters ≡ w) (r : Result Listed Refusal)
      (call : answered_listed r ys ≡ skipping_listing letters (take (length out - at) (drop at out))) where
    periods_call : answered_listed r ys ≡ skipping_listing w (take (length out - at) (drop at out))
    periods_call = rw (← same) call

    pub periods_ok : IsOk r
    unfolding skipping_listing
    periods_ok =
        listed_ok ys r
        (accepted_there b w (period_words w) (skipping_trials w) 0 0 accepted (omega (arith, room, parts_length w)) periods_call)

    pub third : {l : Listed} → r ≡ Ok l → Behind before (head ∷ (full_words w ++ period_words w)) (put_mid at (length out - at) out ys) (at + l.words)
    unfolding skipping_listing
    third {l} e = lent b w (period_words w) (skipping_trials w) 0 0 accepted (omega (arith, room, parts_length w)) (rw e at periods_call)

  -- and the squares behind these
  module _ (ys : List ℕ) {out : List ℕ} {at : ℕ} (b : Behind before (head ∷ (full_words w ++ period_words w)) out at) {letters : List ℕ} (same : letters ≡ w) (r : Result ℕ Refusal)
      (call : answered_wrote r ys ≡ square_listing letters (take (length out - at) (drop at out))) where
    squares_call : answered_wrote r ys ≡ square_listing w (take (length out - at) (drop at out))
    squares_call = rw (← same) call

    fits : length (head ∷ (full_words w ++ period_words w)) + length (square_words w) ≤ length before
    fits = omega (arith, room, parts_length w, length-append (full_words w) (period_words w))

    pub squares_ok : IsOk r
    unfolding square_listing
    squares_ok = wrote_ok ys r (accepted_there b w (square_words w) 0 0 0 accepted fits squares_call)

    pub fourth : {n : ℕ} → r ≡ Ok n → Behind before (report_words w) (put_mid at (length out - at) out ys) (at + n)
    unfolding square_listing report_words
    fourth {n} e =
        rw (← append_assoc (full_words w) (period_words w) (square_words w))
        (lent b w (square_words w) 0 0 0 accepted fits (rw e at squares_call))
