-- Laws of the refusals and answers of a report and its count. `check_reported` finds the refusals but for the slice's, `report_refusal w 0 0`: a call that goes by it reads from
-- these what its own answer is. Where it finds none, the word is one that every call takes, and the report is a list like any other.
use mathlib.Core.Path.{◌≡◌, refl, sym, ◌∙◌}
use mathlib.Core.Bool.{Bool, true, false, ◌&&◌}
use mathlib.Core.Option.{none, some}
use mathlib.Core.List.{List, [], ◌∷◌}
use Prim.Native.Nat.{ℕ, ◌≤◌, ◌<◌}
use lib.ListN.{length}
use lib.Dec.{T, leb}
use borrow.Author.Tests.{le-leb, lt-leb}
use Rattle.abelian.specs.Words.{longest, of_letters, all_equal, one_letter}
use Rattle.abelian.specs.Refusals.{Condition, condition, first_holding, above_longest, byte_outside, too_few_places, word_conditions, word_refusal, report_refusal}
use Rattle.abelian.specs.Output.{fill}
use Rattle.std.specs.Prelude.{Result, Ok, Err}
use Rattle.abelian.specs.Answers.{refusing, writing, counting, accepted_unless}
use Rattle.abelian.specs.Calls.{listing, report_words, reporting, report_count}
use Rattle.abelian.specs.declared.Refusal.{Refusal}
use Rattle.abelian.specs.declared.Refusal.TheVariants.{SliceTooShort, OneLetter}
use Rattle.abelian.proofs.Refusals.{none_holds, holding_first, holding_behind}
use Rattle.words.proofs.Refusals.{accepted_none, accepted_given, refused_some, accepted_letters, accepted_length}
use Rattle.words.proofs.Listings.{counted_short, counted_written}

-- ---- the refusal of each word

-- the conditions that every call on a word has
abbrev of_word : List ℕ → List Condition
of_word w = above_longest w ∷ byte_outside w ∷ []

-- and that of the report's calls alone
abbrev of_report : List ℕ → List Condition
of_report w = condition (one_letter w) OneLetter ∷ []

module _ (w : List ℕ) where
  -- a word that every call refuses
  pub word_refused : {r : Refusal} → word_refusal w false 0 0 ≡ some r → report_refusal w 0 0 ≡ some r
  unfolding word_refusal report_refusal first_holding
  word_refused e = holding_first (of_word w) (of_report w) e

  module _ (word : word_refusal w false 0 0 ≡ none) where
    behind_word : report_refusal w 0 0 ≡ first_holding (of_report w)
    unfolding word_refusal report_refusal first_holding
    behind_word = holding_behind (of_word w) (of_report w) word

    -- two or more letters that are all equal
    pub equal_refused : 2 ≤ length w → all_equal w ≡ true → report_refusal w 0 0 ≡ some OneLetter
    unfolding first_holding one_letter
    equal_refused h e = behind_word ∙ rw (le-leb 2 (length w) h, e)

    -- letters that are not, and fewer than two
    pub unequal_accepted : all_equal w ≡ false → report_refusal w 0 0 ≡ none
    unfolding first_holding one_letter
    unequal_accepted e = behind_word ∙ go (leb 2 (length w))
      where
        go : (b : Bool) → first_holding (condition (b && all_equal w) OneLetter ∷ []) ≡ none
        go true = rw e
        go false = refl

    pub fewer_accepted : length w < 2 → report_refusal w 0 0 ≡ none
    unfolding first_holding one_letter
    fewer_accepted h = behind_word ∙ rw (lt-leb 2 (length w) h)

-- ---- from the word alone to a call on it

module _ (w : List ℕ) where
  -- what is refused by itself: so is the report, with the slice as it came, and so is the count
  module _ {r : Refusal} (refused : report_refusal w 0 0 ≡ some r) where
    refused_anyway : (needed places : ℕ) → report_refusal w needed places ≡ some r
    unfolding report_refusal first_holding
    refused_anyway needed places = holding_first (word_conditions w false (one_letter w)) (too_few_places needed places ∷ []) refused

    pub report_refused : (out : List ℕ) → reporting w out ≡ refusing r out
    unfolding reporting
    report_refused out = rw (refused_anyway (length (report_words w)) (length out))

    pub count_refused : report_count w ≡ refusing r []
    unfolding report_count
    count_refused = rw refused

  module _ (accepted : report_refusal w 0 0 ≡ none) where
    -- what is accepted has fewer letters than two, or not all are equal
    pub accepted_other : one_letter w ≡ false
    unfolding report_refusal first_holding
    accepted_other =
        let long = none_holds (above_longest w) (byte_outside w ∷ of_report w) accepted in
        let outside = none_holds (byte_outside w) (of_report w) long.1 in
        (none_holds (condition (one_letter w) OneLetter) [] outside.1).0

    -- so it is refused as any word is
    as_word : (needed places : ℕ) → report_refusal w needed places ≡ word_refusal w false needed places
    unfolding report_refusal word_refusal first_holding
    as_word needed places = rw accepted_other

    pub reported_word : word_refusal w false 0 0 ≡ none
    reported_word = sym (as_word 0 0) ∙ accepted

    pub reported_letters : T (of_letters w)
    reported_letters = accepted_letters w reported_word

    pub reported_length : length w ≤ longest
    reported_length = accepted_length w reported_word

    -- the report is a list of its words
    report_listing : (out : List ℕ) → listing w out (report_words w) 0 0 0 ≡ reporting w out
    unfolding reporting listing
    report_listing out = rw (as_word (length (report_words w)) (length out))

    -- more words than places: the words needed, and the slice as it came
    pub report_short : (out : List ℕ) (needed : ℕ) → needed ≡ length (report_words w) → length out < needed → refusing (SliceTooShort needed) out ≡ reporting w out
    report_short out needed e h = counted_short w out (report_words w) 0 0 0 reported_word needed e h ∙ report_listing out

    -- places enough: the words in the first places
    pub report_written : (out : List ℕ) (needed : ℕ) → needed ≡ length (report_words w) → needed ≤ length out
        → writing needed 0 0 0 (fill (report_words w) out) ≡ reporting w out
    report_written out needed e h = counted_written w out (report_words w) 0 0 0 reported_word needed e h ∙ report_listing out

    -- the number of these words is the count's answer
    pub report_counted : (k : ℕ) → k ≡ length (report_words w) → counting k ≡ report_count w
    unfolding report_count
    report_counted k n = rw (accepted, n)

-- ---- by what `check_reported` has answered

module _ (w : List ℕ) {o : Result (List ℕ) Refusal} (checked : o ≡ accepted_unless (report_refusal w 0 0) w) where
  -- the word is refused: so is the report, with the slice as it came, and so is the count
  module _ {r : Refusal} (e : o ≡ Err r) where
    refused : report_refusal w 0 0 ≡ some r
    refused = refused_some (report_refusal w 0 0) r w (sym checked ∙ e)

    pub refused_report : (out : List ℕ) → refusing r out ≡ reporting w out
    refused_report out = sym (report_refused w refused out)

    pub refused_count : refusing r [] ≡ report_count w
    refused_count = sym (count_refused w refused)

  -- the word is accepted: it is handed back, and is to be reported
  module _ {given : List ℕ} (e : o ≡ Ok given) where
    pub given_word : given ≡ w
    given_word = sym (accepted_given (report_refusal w 0 0) w (sym checked ∙ e))

    pub reported : report_refusal w 0 0 ≡ none
    reported = accepted_none (report_refusal w 0 0) w (sym checked ∙ e)
