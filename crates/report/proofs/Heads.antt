-- The report's head: its lower part is the length that the search for a cover answers.
use mathlib.Core.Path.{◌≡◌, refl, sym, ap, ◌∙◌}
use mathlib.Core.Option.{none}
use mathlib.Core.List.{List}
use Prim.Native.Nat.{ℕ, zero, suc, ◌%◌, ◌^◌, ◌≤◌, ◌<◌}
use native.Mathlib.Omega.{arith}
use lib.ListN.{length, get_or}
use Rattle.std.specs.Option.{unwrap_or}
use Rattle.abelian.specs.Lists.{nonzero}
use Rattle.abelian.specs.Words.{longest}
use Rattle.abelian.specs.Covers.{cover_length}
use Rattle.abelian.specs.Output.{report_head, fill}
use Rattle.abelian.specs.Refusals.{report_refusal}
use Rattle.abelian.specs.Answers.{Answer}
use Rattle.abelian.specs.Calls.{cover_answer, report_words, reporting}
use Rattle.abelian.proofs.Output.{lower_read}
use Rattle.words.proofs.Refusals.{accepted_length}
use Rattle.covers.proofs.Answers.{answer_cover}
use Rattle.covers.proofs.Lemma4.{cover_length-le-length}
use Rattle.report.proofs.Refusals.{reported_word, report_written}

module _ (w : List ℕ) (short : length w ≤ longest) where
  -- the cover length has room in the head's lower part
  pub lower_fits : cover_length w < 2 ^ 14
  unfolding longest
  lower_fits = omega (arith, cover_length-le-length w)

  -- and is what is read there
  pub head_lower : report_head (length w) (cover_length w) % 2 ^ 14 ≡ cover_length w
  unfolding longest report_head
  head_lower = lower_read 8 (length w) (cover_length w) (omega arith) lower_fits

-- C-14's "the same cover length on each screen": of a word that is reported, and with places enough, the first word that the report writes
-- has in its lower part the length that the search for a cover answers, and 0 where that answers none.
pub head_answers : (w out : List ℕ) → report_refusal w 0 0 ≡ none → length (report_words w) ≤ length out
    → get_or (reporting w out).output 0 0 % 2 ^ 14 ≡ (cover_answer w).cover
unfolding report_words fill
head_answers w out reported room =
    let e = reported_word w reported in
    ap (λ (a : Answer). get_or a.output 0 0 % 2 ^ 14) (sym (report_written w reported out (length (report_words w)) refl room))
    ∙ head_lower w (accepted_length w e) ∙ sym (answer_cover w e)

-- ---- for the function that makes the head

-- 0 where there is no cover
pub unwrapped : (k : ℕ) → unwrap_or (nonzero k) 0 ≡ k
unwrapped zero = refl
unwrapped (suc k) = refl

-- a cover is no longer than the longest word
pub cover_fits : (w : List ℕ) → length w ≤ longest → cover_length w ≤ longest
cover_fits w short = omega (arith, cover_length-le-length w)
