-- Refusals: number and value of each, and the order in which their conditions are read.
use Rattle.std.specs.Prelude.{ℕ, Bool, false, not, ◌&&◌, List, [], ◌∷◌, ◌++◌, length, eqb, leb, ltb}
use Rattle.std.proofs.Math.Option.{Option, none, some}
use Rattle.abelian.specs.Lists.{pick}
use Rattle.abelian.specs.Words.{alphabet_size, longest, first_outside, one_letter}
use Rattle.abelian.specs.Windows.{longest_record}
use Rattle.abelian.specs.Patterns.{largest_alphabet, longest_square_free}
use Rattle.abelian.specs.declared.Refusal.{Refusal}
use Rattle.abelian.specs.declared.Refusal.TheVariants.{TooLong, NotALetter, SliceTooShort, TrackerFull, TrackerEmpty, TrackerDamaged, PairOutOfRange, PatternEmpty, RecordTooLong, OneLetter, SquareFreeAlphabet, SquareFreeLength}

-- the number: document 01's table, and from 8 on document 02
abbrev pub number_of : Refusal → ℕ
number_of TooLong = 1
number_of (NotALetter position) = 2
number_of (SliceTooShort needed) = 3
number_of TrackerFull = 4
number_of TrackerEmpty = 5
number_of TrackerDamaged = 6
number_of PairOutOfRange = 7
number_of PatternEmpty = 8
number_of RecordTooLong = 9
number_of OneLetter = 10
number_of SquareFreeAlphabet = 11
number_of SquareFreeLength = 12

-- the value: 0 unless the documents name one
abbrev pub value_of : Refusal → ℕ
value_of TooLong = 0
value_of (NotALetter position) = position
value_of (SliceTooShort needed) = needed
value_of TrackerFull = 0
value_of TrackerEmpty = 0
value_of TrackerDamaged = 0
value_of PairOutOfRange = 0
value_of PatternEmpty = 0
value_of RecordTooLong = 0
value_of OneLetter = 0
value_of SquareFreeAlphabet = 0
value_of SquareFreeLength = 0

-- A refusal, and whether its condition holds.
pub record Condition : Type 0 where
  pub holds : Bool
  pub refusal : Refusal

abbrev pub condition : Bool → Refusal → Condition
condition b r = record { holds = b; refusal = r }

-- the refusal of the first condition that holds
unfoldable pub first_holding : List Condition → Option Refusal
first_holding [] = none
first_holding (c ∷ cs) = pick c.holds (some c.refusal) (first_holding cs)

-- the lines that stand in more than one order: 1 and 2 of a word, 2 of a record too, and 3
abbrev pub above_longest : List ℕ → Condition
above_longest w = condition (ltb longest (length w)) TooLong

abbrev pub byte_outside : List ℕ → Condition
byte_outside w = condition (not (eqb (first_outside alphabet_size w) 0)) (NotALetter (first_outside alphabet_size w))

abbrev pub too_few_places : ℕ → ℕ → Condition
too_few_places needed places = condition (ltb places needed) (SliceTooShort needed)

-- the refusal of the first condition that holds, and behind them all 3, where so many words are needed of a slice of so many places
abbrev pub first_or_too_short : List Condition → ℕ → ℕ → Option Refusal
first_or_too_short cs needed places = first_holding (cs ++ (too_few_places needed places ∷ []))

-- "Order on a word: 1, 2, 7, 3", and 10 "after 2 and before 3" (C-17): 1, 2, 7, 10, and behind them 3. Only the judge may meet 7, and only the report's calls 10; every other call
-- gives false for them.
abbrev pub word_conditions : List ℕ → Bool → Bool → List Condition
word_conditions w out_of_range equal_letters =
    above_longest w ∷ byte_outside w ∷ condition out_of_range PairOutOfRange ∷ condition equal_letters OneLetter ∷ []

-- Of every call on a word but the report's: "Listers and tracker go on accepting it" (C-17), so never 10.
unfoldable pub word_refusal : List ℕ → Bool → ℕ → ℕ → Option Refusal
word_refusal w out_of_range needed places = first_or_too_short (word_conditions w out_of_range false) needed places

-- "The report, its count and the program refuse such a word" (C-17); these have no pair, so never 7.
unfoldable pub report_refusal : List ℕ → ℕ → ℕ → Option Refusal
report_refusal w needed places = first_or_too_short (word_conditions w false (one_letter w)) needed places

-- C-13, on a pattern and a record: "The pattern is checked as a word first, then the record's letters, with 2 giving the position in whichever failed. 8 when the pattern is
-- empty, after the pattern's 2; 9 when the record is above 65,536 bytes, next and before the record's letters." So 1, 2, 8, 9, 2; and a record is no word, so that 1 is never
-- given for it.
abbrev pub window_conditions : List ℕ → List ℕ → List Condition
window_conditions pattern events =
    above_longest pattern
    ∷ byte_outside pattern
    ∷ condition (eqb (length pattern) 0) PatternEmpty
    ∷ condition (ltb longest_record (length events)) RecordTooLong
    ∷ byte_outside events
    ∷ []

-- And 3 comes last here too.
unfoldable pub window_refusal : List ℕ → List ℕ → ℕ → ℕ → Option Refusal
window_refusal pattern events needed places = first_or_too_short (window_conditions pattern events) needed places

-- C-20, on an alphabet of k letters and a length n: "11 when k is outside 1 to 4; 12 when n is above 12, after it; both stand before 3."
abbrev pub square_free_conditions : ℕ → ℕ → List Condition
square_free_conditions k n =
    condition (not (leb 1 k && leb k largest_alphabet)) SquareFreeAlphabet ∷ condition (ltb longest_square_free n) SquareFreeLength ∷ []

unfoldable pub square_free_refusal : ℕ → ℕ → ℕ → ℕ → Option Refusal
square_free_refusal k n needed places = first_or_too_short (square_free_conditions k n) needed places

-- "On a tracker: 6, 2, 4, 5, 3", of a call that meets these conditions or not, and needs so many words of a slice of so many places.
unfoldable pub tracker_refusal : Bool → Bool → Bool → Bool → ℕ → ℕ → Option Refusal
tracker_refusal damaged not_a_letter full empty needed places =
    first_or_too_short
    (condition damaged TrackerDamaged
    ∷ condition not_a_letter (NotALetter 1)
    ∷ condition full TrackerFull
    ∷ condition empty TrackerEmpty
    ∷ [])
    needed places
