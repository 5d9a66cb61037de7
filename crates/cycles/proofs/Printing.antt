-- What is printed for a word, from what its report answers: the report is not refused for want of places, so its words or its refusal tell it all.
use mathlib.Core.Path.{◌≡◌, refl, sym, ap, ap₂, ◌∙◌}
use mathlib.Core.Option.{Option, none, some}
use mathlib.Core.List.{List, [], ◌∷◌}
use Prim.Native.Nat.{ℕ, ◌≤◌}
use native.Mathlib.Omega.{arith}
use lib.ListN.{length, take}
use Rattle.std.specs.Prelude.{Ok, Err}
use Rattle.abelian.specs.Output.{fill}
use Rattle.abelian.specs.Refusals.{report_refusal}
use Rattle.abelian.specs.Answers.{Answer, answered_wrote, refusing, writing}
use Rattle.abelian.specs.Calls.{report_words, reporting}
use Rattle.abelian.specs.declared.Refusal.{Refusal}
use Rattle.abelian.proofs.Refusals.{refusal_number}
use Rattle.report.proofs.Refusals.{reported_length, report_refused, report_written}
use Rattle.report.proofs.Lengths.{report_places_lem}
use Rattle.words.proofs.Lists.{length-fill, take-fill}
use Rattle.cycles.specs.Text.{ascii, line}
use Rattle.cycles.specs.Lines.{refusal_line, lines_unless, printed}
use Rattle.report.specs.Places.{report_places}
use Rattle.cycles.specs.Reports.{text_of}
use Rattle.cycles.proofs.Decoding.{text_accepted}

-- The first n places hold a report, and its text is what is printed for the word.
pub record Reported (w after : List ℕ) (n : ℕ) : Type 0 where
  pub some : 1 ≤ n
  pub within : n ≤ length after
  pub few : n ≤ report_places
  pub text : text_of (take n after) ≡ printed w

module _ (w : List ℕ) where
  -- the report of an accepted word has few words
  few_words : report_refusal w 0 0 ≡ none → length (report_words w) ≤ report_places
  few_words accepted = report_places_lem w (reported_length w accepted)

  printed_accepted : report_refusal w 0 0 ≡ none → printed w ≡ text_of (report_words w)
  unfolding printed lines_unless
  printed_accepted accepted = rw accepted (sym (text_accepted w (reported_length w accepted)))

  pub printed_refused : {r : Refusal} → report_refusal w 0 0 ≡ some r → printed w ≡ refusal_line r
  unfolding printed lines_unless
  printed_refused refused = rw refused

module _ (w out after : List ℕ) (places : report_places ≡ length out) where
  -- an accepted word's report is written
  all_written : report_refusal w 0 0 ≡ none → reporting w out ≡ writing (length (report_words w)) 0 0 0 (fill (report_words w) out)
  all_written accepted = sym (report_written w accepted out (length (report_words w)) refl (omega (arith, few_words w accepted)))

  -- Where the report answers words, they are the word's report.
  pub words_reported : (n : ℕ) → answered_wrote (Ok n) after ≡ reporting w out → Reported w after n
  unfolding report_words
  words_reported n e = go (report_refusal w 0 0) refl
    where
      go : (o : Option Refusal) → report_refusal w 0 0 ≡ o → Reported w after n
      go (some r) refused = absurd (omega (arith, refusal_number r, ap (λ (a : Answer). a.number) (e ∙ report_refused w refused out)))
      go none accepted =
          let ws : List ℕ = report_words w in
          let few : length ws ≤ report_places = few_words w accepted in
          let told : writing n 0 0 0 after ≡ writing (length ws) 0 0 0 (fill ws out) = e ∙ all_written accepted in
          let count : n ≡ length ws = ap (λ (a : Answer). a.written) told in
          let filled : after ≡ fill ws out = ap (λ (a : Answer). a.output) told in
          let words : take n after ≡ ws = ap₂ (λ (k : ℕ) (l : List ℕ). take k l) count filled ∙ take-fill ws out in
          record {
            some = omega (arith, count);
            within = omega (arith, count, few, ap length filled, length-fill ws out (omega (arith, few)));
            few = omega (arith, count, few);
            text = ap text_of words ∙ sym (printed_accepted w accepted);
          }

  -- Where it is refused, the line of the refusal is what is printed.
  pub refusal_reported : (r : Refusal) → answered_wrote (Err r) after ≡ reporting w out → refusal_line r ≡ printed w
  unfolding refusal_line
  refusal_reported r e = go (report_refusal w 0 0) refl
    where
      go : (o : Option Refusal) → report_refusal w 0 0 ≡ o → refusal_line r ≡ printed w
      go none accepted = absurd (omega (arith, refusal_number r, ap (λ (a : Answer). a.number) (e ∙ all_written accepted)))
      go (some q) refused =
          let told : refusing r after ≡ refusing q out = e ∙ report_refused w refused out in
          ap₂ (λ (n v : ℕ). line (ascii "refused") (n ∷ v ∷ [])) (ap (λ (a : Answer). a.number) told) (ap (λ (a : Answer). a.value) told)
          ∙ sym (printed_refused w refused)
