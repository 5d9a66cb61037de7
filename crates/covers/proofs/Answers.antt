-- What the search for a cover answers, by the word's cover length.
use mathlib.Core.Path.{◌≡◌, refl, sym, ap, ◌∙◌}
use mathlib.Core.Bool.{true, false}
use mathlib.Core.Logic.{◌≢◌, ⊎_elim}
use mathlib.Core.Option.{none}
use mathlib.Core.List.{List, []}
use Prim.Native.Nat.{ℕ, zero, suc}
use native.Mathlib.Omega.{arith}
use lib.Dec.{eqb}
use borrow.Author.Tests.{eqb-true, eqb-false, ne_eqb}
use Rattle.std.specs.Prelude.{Option, Result, Ok, Err}
use Rattle.abelian.specs.Lists.{nonzero}
use Rattle.abelian.specs.Covers.{cover_length}
use Rattle.abelian.specs.Refusals.{word_refusal}
use Rattle.abelian.specs.Answers.{Answer, refusing, deciding, accepted_unless, answered_covered}
use Rattle.abelian.specs.Calls.{none_or_length, cover_answer}
use Rattle.abelian.specs.declared.Refusal.{Refusal}
use Rattle.abelian.proofs.Tests.{decided}
use Rattle.words.proofs.Refusals.{refused_some}
use Rattle.words.proofs.Listings.{given_word, accepted}

module _ (w : List ℕ) (e : word_refusal w false 0 0 ≡ none) where
  -- a word that is accepted is answered with none, where its cover length is 0
  pub answer_nothing : cover_length w ≡ 0 → deciding 0 0 0 0 ≡ cover_answer w
  unfolding cover_answer none_or_length
  answer_nothing z = rw (e, z)

  -- and else with its cover length
  pub answer_length : {m : ℕ} → m ≡ cover_length w → m ≢ 0 → deciding 1 0 0 m ≡ cover_answer w
  unfolding cover_answer none_or_length
  answer_length {m} q n = rw (e, ← q, ne_eqb m 0 n)

  -- so the length among the answer's numbers is the cover length, also where that is 0
  pub answer_cover : (cover_answer w).cover ≡ cover_length w
  answer_cover =
      ⊎_elim
      (λ (t : eqb (cover_length w) 0 ≡ true).
      let z : cover_length w ≡ 0 = eqb-true (cover_length w) 0 t in
      sym (ap (λ (a : Answer). a.cover) (answer_nothing z)) ∙ sym z)
      (λ (t : eqb (cover_length w) 0 ≡ false). sym (ap (λ (a : Answer). a.cover) (answer_length refl (eqb-false (cover_length w) 0 t))))
      (decided (eqb (cover_length w) 0))

  -- and where the answer is yes it is not 0
  pub answer_yes : (cover_answer w).yes ≡ 1 → cover_length w ≢ 0
  answer_yes y z = omega (arith, ap (λ (a : Answer). a.yes) (answer_nothing z))

-- by what `check_word` has answered
module _ (w : List ℕ) {o : Result (List ℕ) Refusal} (checked : o ≡ accepted_unless (word_refusal w false 0 0) w) where
  -- a word that is refused is answered with its refusal
  pub refused_cover : {r : Refusal} → o ≡ Err r → refusing r [] ≡ cover_answer w
  unfolding cover_answer
  refused_cover {r} e = rw (refused_some (word_refusal w false 0 0) r w (sym checked ∙ e))

  -- a word that is accepted is answered with its cover length, or with none
  pub found_cover : {given : List ℕ} {m : Option ℕ} → o ≡ Ok given → m ≡ nonzero (cover_length given) → answered_covered (Ok m) ≡ cover_answer w
  found_cover {given} e q =
      let same : nonzero (cover_length given) ≡ nonzero (cover_length w) = ap (λ (x : List ℕ). nonzero (cover_length x)) (given_word w checked e) in
      ap (λ (x : Option ℕ). answered_covered (Ok x)) (q ∙ same) ∙ go (cover_length w) refl (accepted w checked e)
    where
      go : (k : ℕ) → k ≡ cover_length w → word_refusal w false 0 0 ≡ none → answered_covered (Ok (nonzero k)) ≡ cover_answer w
      go zero z a = answer_nothing w a (sym z)
      go (suc k) l a = answer_length w a l (λ z. omega arith)
