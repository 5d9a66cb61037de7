-- Laws of the refusals and answers of a call on a pattern and a record. `check_both` finds the refusals but for the slice's, `window_refusal pattern events 0 0`: a call that
-- goes by it reads from these what its own answer is.
use Rattle.std.proofs.Common.{◌≡◌, ℕ, ◌<◌, ◌≤◌, false, eqb, ltb, List, [], ◌∷◌, length, sym, ap, ◌∙◌, arith, le-ltb, lt-ltb, eq-eqb, ne_eqb}
use mathlib.Core.Option.{none, some}
use lib.Dec.{eqb→eq}
use Rattle.std.specs.Prelude.{Some, Result, Ok, Err}
use Rattle.abelian.specs.Lists.{nonzero}
use Rattle.abelian.specs.Words.{alphabet_size, first_outside, of_letters}
use Rattle.abelian.specs.Output.{fill}
use Rattle.abelian.specs.Windows.{longest_record, window_words}
use Rattle.abelian.specs.Refusals.{Condition, condition, first_holding, above_longest, byte_outside, word_refusal, window_conditions, window_refusal}
use Rattle.abelian.specs.Answers.{refusing, writing, counting, accepted_unless}
use Rattle.abelian.specs.Calls.{window_listing, window_count}
use Rattle.abelian.specs.declared.Refusal.{Refusal}
use Rattle.abelian.specs.declared.Refusal.TheVariants.{NotALetter, SliceTooShort, PatternEmpty, RecordTooLong}
use Rattle.abelian.proofs.Lists.{nonzero_some}
use Rattle.abelian.proofs.Tests.{passes}
use Rattle.abelian.proofs.Refusals.{holding_first, holding_behind}
use Rattle.words.specs.Prefixes.{IsWord}
use Rattle.words.proofs.Refusals.{accepted_none, accepted_given, refused_some, letters-none}
use Rattle.words.proofs.Listings.{accepted, given_word, conditions_refused, conditions_count_refused, conditions_short, conditions_written, conditions_counted}
use Rattle.windows.specs.Sliding.{Sought, Readable, fill_places}
use Rattle.windows.proofs.Places.{fill_places-all}

-- ---- the refusal of each pattern and record

-- the conditions of the pattern as a word, and those behind them but for the slice's
abbrev of_word : List ℕ → List Condition
of_word pattern = above_longest pattern ∷ byte_outside pattern ∷ []

abbrev of_both : List ℕ → List ℕ → List Condition
of_both pattern events = condition (eqb (length pattern) 0) PatternEmpty ∷ condition (ltb longest_record (length events)) RecordTooLong ∷ byte_outside events ∷ []

module _ (pattern events : List ℕ) where
  -- a pattern that is refused as a word
  pub word_refused : {r : Refusal} → word_refusal pattern false 0 0 ≡ some r → window_refusal pattern events 0 0 ≡ some r
  unfolding word_refusal window_refusal first_holding
  word_refused e = holding_first (of_word pattern) (of_both pattern events) e

  module _ (word : word_refusal pattern false 0 0 ≡ none) where
    behind_word : window_refusal pattern events 0 0 ≡ first_holding (of_both pattern events)
    unfolding word_refusal window_refusal first_holding
    behind_word = holding_behind (of_word pattern) (of_both pattern events) word

    -- an empty pattern
    pub empty_refused : length pattern ≡ 0 → window_refusal pattern events 0 0 ≡ some PatternEmpty
    unfolding first_holding
    empty_refused z = behind_word ∙ rw (eq-eqb (length pattern) 0 z)

    module _ (letters : 1 ≤ length pattern) where
      -- a record above the longest
      pub record_refused : longest_record < length events → window_refusal pattern events 0 0 ≡ some RecordTooLong
      unfolding first_holding
      record_refused h = behind_word ∙ rw (ne_eqb (length pattern) 0 (λ z. omega arith), lt-ltb longest_record (length events) h)

      module _ (within : length events ≤ longest_record) where
        -- a record that holds a byte that is no letter
        pub outside_refused : (position : ℕ) → first_outside alphabet_size events ≡ position → 1 ≤ position → window_refusal pattern events 0 0 ≡ some (NotALetter position)
        unfolding first_holding
        outside_refused position e h =
            behind_word
            ∙ rw (ne_eqb (length pattern) 0 (λ z. omega arith), le-ltb longest_record (length events) within, e, ne_eqb position 0 (λ z. omega arith))

        -- a record of letters
        pub both_accepted : first_outside alphabet_size events ≡ 0 → window_refusal pattern events 0 0 ≡ none
        unfolding first_holding
        both_accepted e = behind_word ∙ rw (ne_eqb (length pattern) 0 (λ z. omega arith), le-ltb longest_record (length events) within, e)

-- ---- what `check_both` hands back, by what `check_word` has answered

abbrev both : List ℕ → List ℕ → Result Sought Refusal
both pattern events = accepted_unless (window_refusal pattern events 0 0) (record { pattern = pattern; events = events })

module _ (pattern events : List ℕ) {o : Result (List ℕ) Refusal} (checked : o ≡ accepted_unless (word_refusal pattern false 0 0) pattern) where
  both_refused : {r : Refusal} → window_refusal pattern events 0 0 ≡ some r → Err r ≡ both pattern events
  both_refused e = rw e

  -- the pattern is refused as a word
  pub both_word : {r : Refusal} → o ≡ Err r → Err r ≡ both pattern events
  both_word {r} e = both_refused (word_refused pattern events (refused_some (word_refusal pattern false 0 0) r pattern (sym checked ∙ e)))

  module _ {given : List ℕ} (e : o ≡ Ok given) where
    word : word_refusal pattern false 0 0 ≡ none
    word = accepted pattern checked e

    long : length given ≡ length pattern
    long = ap length (given_word pattern checked e)

    pub both_empty : length given ≡ 0 → Err PatternEmpty ≡ both pattern events
    both_empty z = both_refused (empty_refused pattern events word (omega (arith, long)))

    module _ (letters : 1 ≤ length given) where
      pub both_long : longest_record < length events → Err RecordTooLong ≡ both pattern events
      both_long h = both_refused (record_refused pattern events word (omega (arith, long)) h)

      module _ (within : length events ≤ longest_record) where
        pub both_outside : {position : ℕ} → nonzero (first_outside alphabet_size events) ≡ Some position → Err (NotALetter position) ≡ both pattern events
        both_outside {position} q =
            let found = nonzero_some (first_outside alphabet_size events) position q in
            both_refused (outside_refused pattern events word (omega (arith, long)) within position found.0 found.1)

        pub both_given : first_outside alphabet_size events ≡ 0 → Ok (record { pattern = given; events = events }) ≡ both pattern events
        both_given z =
            ap (λ (w : List ℕ). Ok (record { pattern = w; events = events })) (given_word pattern checked e)
            ∙ rw (both_accepted pattern events word (omega (arith, long)) within z)

        pub given_readable : IsWord given → first_outside alphabet_size events ≡ 0 → Readable given events
        unfolding of_letters
        given_readable w z =
            record { word = w.all; short = w.short; some = letters; letters = passes (eqb (first_outside alphabet_size events) 0) (eq-eqb (first_outside alphabet_size events) 0 z); within = within }

-- ---- from both alone to a call on them

module _ (pattern events : List ℕ) where
  -- what may be taken has no refusal by itself
  pub readable_accepted : Readable pattern events → window_refusal pattern events 0 0 ≡ none
  unfolding of_letters
  readable_accepted h =
      both_accepted pattern events (letters-none pattern h.short h.word) h.some h.within (eqb→eq (first_outside alphabet_size events) 0 h.letters)

  module _ (readable : Readable pattern events) (out : List ℕ) (found : ℕ) (all : found ≡ length (window_words pattern events)) where
    -- more words than places: the words needed, and the slice as it came
    pub list_short : length out < found → refusing (SliceTooShort found) out ≡ window_listing pattern events out
    unfolding window_listing window_refusal first_holding
    list_short = conditions_short (window_conditions pattern events) (window_words pattern events) (readable_accepted readable) out found all

    -- places enough: the words in the first places
    pub list_written : (after : List ℕ) → after ≡ fill (window_words pattern events) out → found ≤ length out → writing found 0 0 0 after ≡ window_listing pattern events out
    unfolding window_listing window_refusal first_holding
    list_written after e h =
        ap (writing found 0 0 0) e ∙ conditions_written (window_conditions pattern events) (window_words pattern events) (readable_accepted readable) out found all (omega arith)

    -- as a window that slides leaves them
    pub list_slid : (after : List ℕ) → after ≡ fill_places (window_words pattern events) out → found ≤ length out → writing found 0 0 0 after ≡ window_listing pattern events out
    list_slid after e h = list_written after (e ∙ fill_places-all (window_words pattern events) out (omega arith)) h

  -- ---- by what `check_both` has answered

  module _ {o : Result Sought Refusal} (checked : o ≡ both pattern events) where
    -- what is refused by itself: so is the list, with the slice as it came, and so is the count
    module _ {r : Refusal} (e : o ≡ Err r) where
      refused : window_refusal pattern events 0 0 ≡ some r
      refused = refused_some (window_refusal pattern events 0 0) r (record { pattern = pattern; events = events }) (sym checked ∙ e)

      pub list_refused : (out : List ℕ) → refusing r out ≡ window_listing pattern events out
      unfolding window_listing window_refusal first_holding
      list_refused = conditions_refused (window_conditions pattern events) (window_words pattern events) refused

      pub count_refused : refusing r [] ≡ window_count pattern events
      unfolding window_count window_refusal first_holding
      count_refused = conditions_count_refused (window_conditions pattern events) (window_words pattern events) refused

    module _ {given : Sought} (e : o ≡ Ok given) where
      -- what is handed back is both
      pub sought : given ≡ record { pattern = pattern; events = events }
      sought = sym (accepted_given (window_refusal pattern events 0 0) (record { pattern = pattern; events = events }) (sym checked ∙ e))

      -- and the number of the list's words is the count's answer
      pub counted : (k : ℕ) → k ≡ length (window_words given.pattern given.events) → counting k ≡ window_count pattern events
      unfolding window_count window_refusal first_holding
      counted k n =
          conditions_counted (window_conditions pattern events) (window_words pattern events)
          (accepted_none (window_refusal pattern events 0 0) (record { pattern = pattern; events = events }) (sym checked ∙ e)) k
          (n ∙ ap (λ (s : Sought). length (window_words s.pattern s.events)) sought)
