-- Laws of the refusals of a call on a word. `check_word` finds those of the word alone, `word_refusal w false 0 0`: a call that goes by its
-- answer reads from these what its own refusal is.
use mathlib.Core.Path.{◌≡◌, refl}
use mathlib.Core.Bool.{Bool, true, false}
use mathlib.Core.Option.{Option, none, some}
use mathlib.Core.List.{List, [], ◌∷◌}
use Prim.Native.Nat.{ℕ, ◌≤◌, ◌<◌}
use native.Mathlib.Omega.{arith}
use lib.ListN.{length}
use lib.Dec.{T, eqb, ltb, eqb→eq}
use borrow.Author.Tests.{lt-ltb, le-ltb, ne_eqb, ltb-false, not-false}
use Rattle.abelian.proofs.Tests.{passes}
use Rattle.abelian.proofs.Refusals.{none_holds, holding_first}
use Rattle.abelian.specs.Words.{alphabet_size, longest, first_outside, of_letters}
use Rattle.abelian.specs.Refusals.{condition, first_holding, above_longest, byte_outside, too_few_places, word_refusal}
use Rattle.std.specs.Prelude.{Ok, Err}
use Rattle.abelian.specs.Answers.{accepted_unless}
use Rattle.abelian.specs.declared.Refusal.{Refusal}
use Rattle.abelian.specs.declared.Refusal.TheVariants.{TooLong, NotALetter, SliceTooShort, PairOutOfRange}

-- ---- what a call hands back

module _ {A : Type 0} where
  -- what is accepted has no refusal
  pub accepted_none : (o : Option Refusal) (found : A) {given : A} → accepted_unless o found ≡ Ok given → o ≡ none
  accepted_none none found e = refl
  accepted_none (some r) found e = let z : ◌≡◌ {A = ℕ} 0 1 = cc in absurd (omega arith)

  -- and hands back what was found
  pub accepted_given : (o : Option Refusal) (found : A) {given : A} → accepted_unless o found ≡ Ok given → found ≡ given
  accepted_given none found e = cc
  accepted_given (some r) found e = let z : ◌≡◌ {A = ℕ} 0 1 = cc in absurd (omega arith)

  -- what is refused has the refusal that is answered
  pub refused_some : (o : Option Refusal) (r : Refusal) (found : A) → accepted_unless o found ≡ Err r → o ≡ some r
  refused_some none r found e = let z : ◌≡◌ {A = ℕ} 0 1 = cc in absurd (omega arith)
  refused_some (some q) r found e = cc

-- ---- the refusal of each word

module _ (w : List ℕ) (out_of_range : Bool) (needed places : ℕ) where
  -- a word above the longest is too long, whatever the call
  pub long_refused : longest < length w → word_refusal w out_of_range needed places ≡ some TooLong
  unfolding word_refusal first_holding
  long_refused h = rw (lt-ltb longest (length w) h)

  -- a word that is not too long, with a byte that is no letter, is refused at the first such position, whatever the call
  pub outside_refused : (position : ℕ) → length w ≤ longest → first_outside alphabet_size w ≡ position → 1 ≤ position → word_refusal w out_of_range needed places ≡ some (NotALetter position)
  unfolding word_refusal first_holding
  outside_refused position h e l = rw (le-ltb longest (length w) h, e, ne_eqb position 0 (λ z. omega arith))

-- a word of letters that is not too long has no refusal by itself
pub letters_accepted : (w : List ℕ) → length w ≤ longest → first_outside alphabet_size w ≡ 0 → word_refusal w false 0 0 ≡ none
unfolding word_refusal first_holding
letters_accepted w h e = rw (le-ltb longest (length w) h, e)

-- ---- from the word alone to a call on it

module _ (w : List ℕ) where
  -- the word alone has no refusal where the first two conditions fail
  conditions : word_refusal w false 0 0 ≡ none → (ltb longest (length w) ≡ false) × (eqb (first_outside alphabet_size w) 0 ≡ true)
  unfolding word_refusal first_holding
  conditions e =
      let long = none_holds (above_longest w) (byte_outside w ∷ []) e in
      (long.0, not-false (eqb (first_outside alphabet_size w) 0) (none_holds (byte_outside w) [] long.1).0)

  -- a word that is accepted is not too long
  pub accepted_length : word_refusal w false 0 0 ≡ none → length w ≤ longest
  accepted_length e = ltb-false longest (length w) (conditions e).0

  -- a word that is accepted is one of letters
  pub accepted_letters : word_refusal w false 0 0 ≡ none → T (of_letters w)
  unfolding of_letters
  accepted_letters e = passes (eqb (first_outside alphabet_size w) 0) (conditions e).1

  -- a word of letters that is not too long is accepted
  pub letters-none : length w ≤ longest → T (of_letters w) → word_refusal w false 0 0 ≡ none
  unfolding of_letters
  letters-none h t = letters_accepted w h (eqb→eq (first_outside alphabet_size w) 0 t)

  -- a word that is refused by itself is refused for the same reason by every call
  pub refused_anyway : {r : Refusal} → word_refusal w false 0 0 ≡ some r → (out_of_range : Bool) (needed places : ℕ) → word_refusal w out_of_range needed places ≡ some r
  unfolding word_refusal first_holding
  refused_anyway e out_of_range needed places =
      holding_first (above_longest w ∷ byte_outside w ∷ []) (condition out_of_range PairOutOfRange ∷ too_few_places needed places ∷ []) e

  module _ (accepted : word_refusal w false 0 0 ≡ none) where
    -- the word is accepted, and the pair is out of range
    pub accepted_out_of_range : (needed places : ℕ) → word_refusal w true needed places ≡ some PairOutOfRange
    unfolding word_refusal first_holding
    accepted_out_of_range needed places = rw ((conditions accepted).0, (conditions accepted).1)

    -- the word is accepted, and the slice has too few places
    pub accepted_short : {needed places : ℕ} → places < needed → word_refusal w false needed places ≡ some (SliceTooShort needed)
    unfolding word_refusal first_holding
    accepted_short {needed} {places} h = rw ((conditions accepted).0, (conditions accepted).1, lt-ltb places needed h)

    -- the word is accepted, and the slice has places enough
    pub accepted_fits : {needed places : ℕ} → needed ≤ places → word_refusal w false needed places ≡ none
    unfolding word_refusal first_holding
    accepted_fits {needed} {places} h = rw ((conditions accepted).0, (conditions accepted).1, le-ltb places needed h)
