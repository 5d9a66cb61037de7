-- Laws of a list call's answer: it is refused for its word or another of its conditions, or for a slice that is too short, or writes its words. And of a count's: it is
-- refused for the same conditions, or gives the number of the list's words.
use mathlib.Core.Path.{◌≡◌, sym, ap, ◌∙◌}
use mathlib.Core.Bool.{false}
use mathlib.Core.Option.{none, some}
use mathlib.Core.List.{List, [], ◌∷◌}
use Prim.Native.Nat.{ℕ, ◌≤◌, ◌<◌}
use native.Mathlib.Omega.{arith}
use lib.ListN.{length}
use lib.Dec.{T}
use borrow.Author.Tests.{lt-ltb, le-ltb}
use Rattle.abelian.specs.Words.{longest, of_letters}
use Rattle.abelian.specs.Refusals.{Condition, first_holding, too_few_places, first_or_too_short, word_refusal}
use Rattle.abelian.specs.Output.{fill}
use Rattle.abelian.specs.Answers.{refusing, writing, counting, accepted_unless}
use Rattle.abelian.specs.Calls.{listing_unless, count_unless, listing, count_words}
use Rattle.abelian.specs.declared.Refusal.{Refusal}
use Rattle.abelian.specs.declared.Refusal.TheVariants.{SliceTooShort}
use Rattle.std.specs.Prelude.{Result, Ok, Err}
use Rattle.abelian.proofs.Refusals.{holding_first, holding_behind}
use Rattle.words.proofs.Refusals.{accepted_none, accepted_given, refused_some, accepted_letters, accepted_length, refused_anyway, accepted_short, accepted_fits}

module _ (w out ws : List ℕ) (trials s t : ℕ) where
  -- a word that is refused by itself: the slice is as it came
  pub listing_refused : {r : Refusal} → word_refusal w false 0 0 ≡ some r → listing w out ws trials s t ≡ refusing r out
  unfolding listing
  listing_refused e = rw (refused_anyway w e false (length ws) (length out))

  module _ (accepted : word_refusal w false 0 0 ≡ none) where
    -- more words than places: the words needed, and the slice as it came
    pub listing_short : length out < length ws → listing w out ws trials s t ≡ refusing (SliceTooShort (length ws)) out
    unfolding listing
    listing_short h = rw (accepted_short w accepted h)

    -- places enough: the words in the first places
    pub listing_written : length ws ≤ length out → listing w out ws trials s t ≡ writing (length ws) trials s t (fill ws out)
    unfolding listing
    listing_written h = rw (accepted_fits w accepted h)

    -- the same by the number of words that a call has counted
    pub counted_short : (needed : ℕ) → needed ≡ length ws → length out < needed → refusing (SliceTooShort needed) out ≡ listing w out ws trials s t
    counted_short needed e h = ap (λ (k : ℕ). refusing (SliceTooShort k) out) e ∙ sym (listing_short (omega (arith, e)))

    pub counted_written : (needed : ℕ) → needed ≡ length ws → needed ≤ length out → writing needed trials s t (fill ws out) ≡ listing w out ws trials s t
    counted_written needed e h = ap (λ (k : ℕ). writing k trials s t (fill ws out)) e ∙ sym (listing_written (omega (arith, e)))

-- by what `check_word` has answered
module _ (w : List ℕ) {o : Result (List ℕ) Refusal} (checked : o ≡ accepted_unless (word_refusal w false 0 0) w) where
  -- the word is refused: so is every count on it
  pub refused_count : (ws : List ℕ) {r : Refusal} → o ≡ Err r → refusing r [] ≡ count_words w ws
  unfolding count_words
  refused_count ws {r} e = rw (refused_some (word_refusal w false 0 0) r w (sym checked ∙ e))

  -- and every list
  pub refused_listing : (out ws : List ℕ) (trials s t : ℕ) {r : Refusal} → o ≡ Err r → refusing r out ≡ listing w out ws trials s t
  refused_listing out ws trials s t {r} e = sym (listing_refused w out ws trials s t (refused_some (word_refusal w false 0 0) r w (sym checked ∙ e)))

  module _ {given : List ℕ} (e : o ≡ Ok given) where
    -- the word that is handed back is the word
    pub given_word : given ≡ w
    given_word = sym (accepted_given (word_refusal w false 0 0) w (sym checked ∙ e))

    -- it has no refusal by itself
    pub accepted : word_refusal w false 0 0 ≡ none
    accepted = accepted_none (word_refusal w false 0 0) w (sym checked ∙ e)

    -- the word is accepted: it may be taken
    pub accepted_word : T (of_letters w) × (length w ≤ longest)
    accepted_word = (accepted_letters w accepted, accepted_length w accepted)

    -- and the number of the list's words is the count's answer
    pub accepted_count : (ws : List ℕ) {k : ℕ} → k ≡ length ws → counting k ≡ count_words w ws
    unfolding count_words
    accepted_count ws n = rw (accepted, n)

-- ---- a call with any conditions

module _ (cs : List Condition) (ws : List ℕ) where
  -- one of them holds: the list is refused, with the slice as it came, and so is the count
  module _ {r : Refusal} (refused : first_holding cs ≡ some r) where
    pub conditions_refused : (out : List ℕ) → refusing r out ≡ listing_unless (first_or_too_short cs) ws 0 0 0 out
    conditions_refused out = rw (holding_first cs (too_few_places (length ws) (length out) ∷ []) refused)

    pub conditions_count_refused : refusing r [] ≡ count_unless (first_or_too_short cs) ws
    conditions_count_refused = rw (holding_first cs (too_few_places 0 0 ∷ []) refused)

  module _ (accepted : first_holding cs ≡ none) where
    -- none holds, and there are more words than places: the words needed, and the slice as it came
    pub conditions_short : (out : List ℕ) (needed : ℕ) → needed ≡ length ws → length out < needed → refusing (SliceTooShort needed) out ≡ listing_unless (first_or_too_short cs) ws 0 0 0 out
    unfolding first_holding
    conditions_short out needed n h =
        let l : length out < length ws = omega arith in
        rw (holding_behind cs (too_few_places (length ws) (length out) ∷ []) accepted, lt-ltb (length out) (length ws) l, n)

    -- places enough: the words in the first places
    pub conditions_written : (out : List ℕ) (written : ℕ) → written ≡ length ws → length ws ≤ length out
        → writing written 0 0 0 (fill ws out) ≡ listing_unless (first_or_too_short cs) ws 0 0 0 out
    unfolding first_holding
    conditions_written out written n h = rw (holding_behind cs (too_few_places (length ws) (length out) ∷ []) accepted, le-ltb (length out) (length ws) h, n)

    -- the number of the list's words is the count's answer
    pub conditions_counted : (k : ℕ) → k ≡ length ws → counting k ≡ count_unless (first_or_too_short cs) ws
    unfolding first_holding
    conditions_counted k n = rw (holding_behind cs (too_few_places 0 0 ∷ []) accepted, n)
