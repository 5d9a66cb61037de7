-- The machine that a tracker is compared with, as document 01 gives it, with C-12's count: a list of letters. It is fed add's byte and list's output, and nothing of the
-- tracker; the refusals' conditions are read on its letters.
use Rattle.std.specs.Prelude.{ℕ, ◌-◌, not, List, [], ◌∷◌, ◌++◌, length, take, eqb, ltb}
use Rattle.std.proofs.Math.Option.{Option, none, some}
use Rattle.abelian.specs.Words.{alphabet_size, longest, is_letter}
use Rattle.abelian.specs.Periods.{periods}
use Rattle.abelian.specs.Refusals.{condition, first_holding}
use Rattle.abelian.specs.Answers.{Answer, refusing, counting, accepting}
use Rattle.abelian.specs.Calls.{writing_words, period_words}
use Rattle.abelian.specs.declared.Refusal.{Refusal}
use Rattle.abelian.specs.declared.Refusal.TheVariants.{NotALetter, SliceTooShort, TrackerFull, TrackerEmpty}

-- A call: add a byte, take back, clear, list into a slice, given as it comes, or count what a list would write.
pub data Call : Type 0 where
  add : ℕ → Call
  take_back : Call
  clear : Call
  list : List ℕ → Call
  count : Call

-- the machine's letters, and the answer of the call that left them so
pub record Letters : Type 0 where
  pub letters : List ℕ
  pub answer : Answer

-- "A refused call changes nothing": the letters and the slice as they came where it is refused, and the new ones where it is accepted
unfoldable pub letters_unless : Option Refusal → List ℕ → List ℕ → Letters → Letters
letters_unless none out w new = new
letters_unless (some r) out w new = record { letters = w; answer = refusing r out }

-- "Add: the letter joins the end, or refusal 2, then 4. Take-back: the last letter goes, or refusal 5. Clear: empty. List: nothing changes; it writes the periods of its
-- letters, or refusal 3." A count: "the machine answers it with the number of its letters' periods and keeps its letters" (C-12).
unfoldable pub machine : List ℕ → Call → Letters
machine w (Call.add b) =
    letters_unless (first_holding (condition (not (is_letter alphabet_size b)) (NotALetter 1) ∷ condition (eqb (length w) longest) TrackerFull ∷ [])) [] w
    (record { letters = w ++ (b ∷ []); answer = accepting })
machine w Call.take_back =
    letters_unless (first_holding (condition (eqb (length w) 0) TrackerEmpty ∷ [])) [] w
    (record { letters = take (length w - 1) w; answer = accepting })
machine w Call.clear = record { letters = []; answer = accepting }
machine w (Call.list out) =
    letters_unless (first_holding (condition (ltb (length out) (length (period_words w))) (SliceTooShort (length (period_words w))) ∷ [])) out w
    (record { letters = w; answer = writing_words (period_words w) 0 0 0 out })
machine w Call.count = record { letters = w; answer = counting (length (periods w)) }
