-- What the judge answers in each case: a word that is refused by itself, a pair out of range, and a pair in range.
use mathlib.Core.Path.{◌≡◌, sym, ap, ◌∙◌}
use mathlib.Core.Bool.{Bool, true, false, not}
use mathlib.Core.Option.{none, some}
use mathlib.Core.List.{List, []}
use Prim.Native.Nat.{ℕ}
use lib.ListN.{length}
use Rattle.abelian.specs.Periods.{Pair, in_range}
use Rattle.abelian.specs.Judge.{failures}
use Rattle.abelian.specs.Refusals.{word_refusal}
use Rattle.abelian.specs.Answers.{Answer, refusing, accepted_unless}
use Rattle.abelian.specs.Calls.{first_failure, judging}
use Rattle.abelian.specs.declared.Refusal.{Refusal}
use Rattle.abelian.specs.declared.Refusal.TheVariants.{PairOutOfRange}
use Rattle.std.specs.Prelude.{Result, Ok, Err}
use Rattle.words.proofs.Refusals.{refused_some, refused_anyway, accepted_out_of_range}
use Rattle.words.proofs.Listings.{accepted, given_word}

module _ (w : List ℕ) (x : Pair) where
  -- a word that is refused by itself is answered with its refusal
  pub judging_refused : {r : Refusal} → word_refusal w false 0 0 ≡ some r → judging w x ≡ refusing r []
  unfolding judging
  judging_refused e = rw (refused_anyway w e (not (in_range (length w) x)) 0 0)

  -- an accepted word with a pair out of range is answered with refusal 7
  pub judging_outside : word_refusal w false 0 0 ≡ none → in_range (length w) x ≡ false → judging w x ≡ refusing PairOutOfRange []
  unfolding judging
  judging_outside e i = rw (i, accepted_out_of_range w e 0 0)

  -- an accepted word with a pair in range is answered with yes or the first failure
  pub judging_inside : word_refusal w false 0 0 ≡ none → in_range (length w) x ≡ true → judging w x ≡ first_failure (failures w x)
  unfolding judging
  judging_inside e i = rw (i, e)

-- by what `check_word` and `in_range` have answered
module _ (w : List ℕ) (x : Pair) {o : Result (List ℕ) Refusal} (checked : o ≡ accepted_unless (word_refusal w false 0 0) w) where
  -- the word is refused
  pub refused_judging : {r : Refusal} → o ≡ Err r → refusing r [] ≡ judging w x
  refused_judging {r} e = sym (judging_refused w x (refused_some (word_refusal w false 0 0) r w (sym checked ∙ e)))

  -- the word is accepted, and the pair is out of range or in range for it
  module _ {given : List ℕ} (e : o ≡ Ok given) {n : ℕ} (l : n ≡ length given) {t : Bool} (tested : t ≡ in_range n x) where
    pub outside_judging : t ≡ false → refusing PairOutOfRange [] ≡ judging w x
    outside_judging f = sym (judging_outside w x (accepted w checked e) (ap (λ (m : ℕ). in_range m x) (sym (l ∙ ap length (given_word w checked e))) ∙ sym tested ∙ f))

    pub inside_judging : t ≡ true → {a : Answer} → a ≡ first_failure (failures given x) → a ≡ judging w x
    inside_judging f b =
        b ∙ ap (λ (v : List ℕ). first_failure (failures v x)) (given_word w checked e)
        ∙ sym (judging_inside w x (accepted w checked e) (ap (λ (m : ℕ). in_range m x) (sym (l ∙ ap length (given_word w checked e))) ∙ sym tested ∙ f))
