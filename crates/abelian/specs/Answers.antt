-- Answers: document 01's numbers for each case of each answer, with the slice as it is afterwards.
use Rattle.std.specs.Prelude.{ℕ, List, [], Option, Some, None, Result, Ok, Err}
use Rattle.std.proofs.Math.Option as math
use Rattle.std.proofs.Math.Option.{none, some}
use Rattle.abelian.specs.Refusals.{number_of, value_of}
use Rattle.abelian.specs.declared.Refusal.{Refusal}
use Rattle.abelian.specs.declared.Verdict.{Verdict}
use Rattle.abelian.specs.declared.Verdict.TheVariants as verdict
use Rattle.abelian.specs.declared.Listed.{Listed}
use Rattle.abelian.specs.declared.Scaled.{Scaled}

-- The numbers of an answer. `written` is the number of words: of a list those that it has written, of a count those that the list has. `yes` is 1 where the judge says yes
-- and where a cover is found. A number that a call's answer has no room for, or that is not named, is 0; number 0 is acceptance.
pub record Answer : Type 0 where
  pub number : ℕ
  pub value : ℕ
  pub written : ℕ
  pub trials : ℕ
  pub s : ℕ
  pub t : ℕ
  pub yes : ℕ
  pub block : ℕ
  pub letter : ℕ
  pub cover : ℕ
  pub output : List ℕ

-- refused: the number and the value, and the slice
abbrev pub refusing : Refusal → List ℕ → Answer
refusing r out =
    record { number = number_of r; value = value_of r; written = 0; trials = 0; s = 0; t = 0; yes = 0; block = 0; letter = 0; cover = 0; output = out }

-- accepted, with the numbers of a list, and the slice
abbrev pub writing : ℕ → ℕ → ℕ → ℕ → List ℕ → Answer
writing words tried s t out =
    record { number = 0; value = 0; written = words; trials = tried; s = s; t = t; yes = 0; block = 0; letter = 0; cover = 0; output = out }

-- accepted, with the number of words that a count has found; it writes none, and there is no slice
abbrev pub counting : ℕ → Answer
counting words = writing words 0 0 0 []

-- accepted, with what the judge and the search for a cover say: yes or no, block and letter, the cover's length
abbrev pub deciding : ℕ → ℕ → ℕ → ℕ → Answer
deciding says k c m =
    record { number = 0; value = 0; written = 0; trials = 0; s = 0; t = 0; yes = says; block = k; letter = c; cover = m; output = [] }

-- accepted, with nothing more to say
abbrev pub accepting : Answer
accepting = deciding 0 0 0 0

-- the refusal, if there is one, with the slice as it came, and else the accepted answer
abbrev pub unless : math.Option Refusal → List ℕ → Answer → Answer
unless none out a = a
unless (some r) out a = refusing r out

-- what a call hands back: the refusal, if there is one, and else what it has found
abbrev pub accepted_unless : {A : Type 0} → math.Option Refusal → A → Result A Refusal
accepted_unless none found = Ok found
accepted_unless (some r) found = Err r

-- and of a call that has nothing more to say
abbrev pub outcome_of : math.Option Refusal → Result Unit Refusal
outcome_of refusal = accepted_unless refusal tt

abbrev pub answered_verdict : Result Verdict Refusal → Answer
answered_verdict (Ok verdict.Yes) = deciding 1 0 0 0
answered_verdict (Ok (verdict.No k c)) = deciding 0 k c 0
answered_verdict (Err r) = refusing r []

abbrev pub answered_listed : Result Listed Refusal → List ℕ → Answer
answered_listed (Ok l) out = writing l.words l.trials 0 0 out
answered_listed (Err r) out = refusing r out

abbrev pub answered_scaled : Result Scaled Refusal → List ℕ → Answer
answered_scaled (Ok l) out = writing l.words 0 l.s l.t out
answered_scaled (Err r) out = refusing r out

abbrev pub answered_wrote : Result ℕ Refusal → List ℕ → Answer
answered_wrote (Ok words) out = writing words 0 0 0 out
answered_wrote (Err r) out = refusing r out

abbrev pub answered_needed : Result ℕ Refusal → Answer
answered_needed (Ok words) = counting words
answered_needed (Err r) = refusing r []

abbrev pub answered_covered : Result (Option ℕ) Refusal → Answer
answered_covered (Ok (Some m)) = deciding 1 0 0 m
answered_covered (Ok None) = deciding 0 0 0 0
answered_covered (Err r) = refusing r []

abbrev pub answered_outcome : Result Unit Refusal → Answer
answered_outcome (Ok _) = accepting
answered_outcome (Err r) = refusing r []
