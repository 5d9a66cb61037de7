-- What a C caller is given, as an answer of `abelian`: the numbers of the struct, the slice as it is then, and 0 for every number that the struct
-- has no room for.
use Rattle.std.specs.Prelude.{ℕ, List, []}
use Rattle.abelian.specs.Answers.{Answer}
use Rattle.luffbutton.specs.declared.numbers.LuffVerdict.{LuffVerdict}
use Rattle.luffbutton.specs.declared.numbers.LuffListed.{LuffListed}
use Rattle.luffbutton.specs.declared.numbers.LuffScaled.{LuffScaled}
use Rattle.luffbutton.specs.declared.numbers.LuffWrote.{LuffWrote}
use Rattle.luffbutton.specs.declared.numbers.LuffCounted.{LuffCounted}
use Rattle.luffbutton.specs.declared.numbers.LuffCover.{LuffCover}
use Rattle.luffbutton.specs.declared.numbers.LuffOutcome.{LuffOutcome}
use Rattle.luffbutton.specs.declared.numbers.LuffReplayed.{LuffReplayed}

-- of a call that writes a list or counts one: number, value, words, trials, s, T and the slice
abbrev pub list_answer : ℕ → ℕ → ℕ → ℕ → ℕ → ℕ → List ℕ → Answer
list_answer n v words trials s t out =
    record { number = n; value = v; written = words; trials = trials; s = s; t = t; yes = 0; block = 0; letter = 0; cover = 0; output = out }

-- of any other call: number, value, yes, block, letter and the cover's length
abbrev pub decision_answer : ℕ → ℕ → ℕ → ℕ → ℕ → ℕ → Answer
decision_answer n v says block letter m =
    record { number = n; value = v; written = 0; trials = 0; s = 0; t = 0; yes = says; block = block; letter = letter; cover = m; output = [] }

-- each struct's numbers, those of a list with the slice as it is afterwards
abbrev pub verdict_numbers : LuffVerdict → Answer
verdict_numbers r = decision_answer r.refusal r.value r.yes r.block r.letter 0

abbrev pub cover_numbers : LuffCover → Answer
cover_numbers r = decision_answer r.refusal r.value r.yes 0 0 r.length

abbrev pub outcome_numbers : LuffOutcome → Answer
outcome_numbers r = decision_answer r.refusal r.value 0 0 0 0

abbrev pub listed_numbers : LuffListed → List ℕ → Answer
listed_numbers r out = list_answer r.refusal r.value r.written r.trials 0 0 out

abbrev pub scaled_numbers : LuffScaled → List ℕ → Answer
scaled_numbers r out = list_answer r.refusal r.value r.written 0 r.s r.t out

abbrev pub wrote_numbers : LuffWrote → List ℕ → Answer
wrote_numbers r out = list_answer r.refusal r.value r.written 0 0 0 out

-- of a count, which has no slice
abbrev pub counted_numbers : LuffCounted → Answer
counted_numbers r = list_answer r.refusal r.value r.words 0 0 0 []

-- of a replay's list
abbrev pub replayed_numbers : LuffReplayed → List ℕ → Answer
replayed_numbers r out = list_answer r.refusal r.value r.written 0 0 0 out
