-- Laws of the refusals and answers of a call on an alphabet and a length. `check_sizes` finds the refusals but for the slice's, `square_free_refusal k n 0 0`: a call that goes by
-- it reads from these what its own answer is.
use mathlib.Core.Path.{◌≡◌, sym, ap, ◌∙◌}
use mathlib.Core.Option.{none, some}
use mathlib.Core.List.{List, []}
use Prim.Native.Nat.{ℕ, ◌≤◌, ◌<◌}
use native.Mathlib.Omega.{arith}
use lib.ListN.{length}
use borrow.Author.Tests.{lt-ltb, le-ltb, lt-leb, le-leb}
use Rattle.std.specs.Prelude.{Result, Ok, Err}
use Rattle.abelian.specs.Patterns.{largest_alphabet, longest_square_free, pattern_words}
use Rattle.abelian.specs.Refusals.{first_holding, square_free_conditions, square_free_refusal}
use Rattle.abelian.specs.Answers.{refusing, writing, counting, accepted_unless}
use Rattle.abelian.specs.Calls.{square_free_listing, square_free_count}
use Rattle.abelian.specs.declared.Refusal.{Refusal}
use Rattle.abelian.specs.declared.Refusal.TheVariants.{SliceTooShort, SquareFreeAlphabet, SquareFreeLength}
use Rattle.words.proofs.Refusals.{accepted_none, accepted_given, refused_some}
use Rattle.words.proofs.Listings.{conditions_refused, conditions_count_refused, conditions_short, conditions_written, conditions_counted}
use Rattle.patterns.specs.Search.{Searched, stored}
use Rattle.patterns.proofs.Stored.{stored-all}

-- an alphabet and a length
abbrev pub sizes : ℕ → ℕ → Searched
sizes k n = record { letters = k; length = n }

-- ---- what `check_sizes` answers

-- refused, or both
abbrev checked_sizes : ℕ → ℕ → Result Searched Refusal
checked_sizes k n = accepted_unless (square_free_refusal k n 0 0) (sizes k n)

module _ (k n : ℕ) where
  -- the alphabet has no letter
  pub answered_none : k < 1 → Err SquareFreeAlphabet ≡ checked_sizes k n
  unfolding square_free_refusal first_holding
  answered_none h = rw (lt-leb 1 k h)

  -- it has more than the most
  pub answered_more : largest_alphabet < k → Err SquareFreeAlphabet ≡ checked_sizes k n
  unfolding square_free_refusal first_holding
  answered_more h = rw (le-leb 1 k (omega arith), lt-leb k largest_alphabet h)

  module _ (one : 1 ≤ k) (few : k ≤ largest_alphabet) where
    -- the length is above the longest
    pub answered_long : longest_square_free < n → Err SquareFreeLength ≡ checked_sizes k n
    unfolding square_free_refusal first_holding
    answered_long h = rw (le-leb 1 k one, le-leb k largest_alphabet few, lt-ltb longest_square_free n h)

    -- both may be taken
    pub answered_sizes : n ≤ longest_square_free → Ok (sizes k n) ≡ checked_sizes k n
    unfolding square_free_refusal first_holding
    answered_sizes h = rw (le-leb 1 k one, le-leb k largest_alphabet few, le-ltb longest_square_free n h)

-- ---- by what `check_sizes` has answered

module _ (k n : ℕ) {o : Result Searched Refusal} (checked : o ≡ checked_sizes k n) where
  -- refused: so is the list, with the slice as it came, and so is the count
  module _ {r : Refusal} (e : o ≡ Err r) where
    refused : square_free_refusal k n 0 0 ≡ some r
    refused = refused_some (square_free_refusal k n 0 0) r (sizes k n) (sym checked ∙ e)

    pub list_refused : (out : List ℕ) → refusing r out ≡ square_free_listing k n out
    unfolding square_free_listing square_free_refusal first_holding
    list_refused = conditions_refused (square_free_conditions k n) (pattern_words k n) refused

    pub count_refused : refusing r [] ≡ square_free_count k n
    unfolding square_free_count square_free_refusal first_holding
    count_refused = conditions_count_refused (square_free_conditions k n) (pattern_words k n) refused

  module _ {given : Searched} (e : o ≡ Ok given) where
    accepted : square_free_refusal k n 0 0 ≡ none
    accepted = accepted_none (square_free_refusal k n 0 0) (sizes k n) (sym checked ∙ e)

    words_given : pattern_words given.letters given.length ≡ pattern_words k n
    words_given = ap (λ (s : Searched). pattern_words s.letters s.length) (sym (accepted_given (square_free_refusal k n 0 0) (sizes k n) (sym checked ∙ e)))

    module _ {needed : ℕ} (all : needed ≡ length (pattern_words given.letters given.length)) where
      number : needed ≡ length (pattern_words k n)
      number = all ∙ ap length words_given

      -- more words than places: the words needed, and the slice as it came
      pub list_short : (out : List ℕ) → length out < needed → refusing (SliceTooShort needed) out ≡ square_free_listing k n out
      unfolding square_free_listing square_free_refusal first_holding
      list_short out = conditions_short (square_free_conditions k n) (pattern_words k n) accepted out needed number

      -- places enough: the words in the first places
      pub list_written : (out : List ℕ) {after : List ℕ} {written : ℕ} → needed ≤ length out → written ≡ length (pattern_words given.letters given.length)
          → after ≡ stored 0 (pattern_words given.letters given.length) out → writing written 0 0 0 after ≡ square_free_listing k n out
      unfolding square_free_listing square_free_refusal first_holding
      list_written out {after} {written} h w s =
          ap (writing written 0 0 0) (s ∙ ap (λ (ws : List ℕ). stored 0 ws out) words_given ∙ stored-all (pattern_words k n) out (omega (arith, number)))
          ∙ conditions_written (square_free_conditions k n) (pattern_words k n) accepted out written (w ∙ ap length words_given) (omega (arith, number))

      -- the number of the words is the count's answer
      pub counted : counting needed ≡ square_free_count k n
      unfolding square_free_count square_free_refusal first_holding
      counted = conditions_counted (square_free_conditions k n) (pattern_words k n) accepted needed number
