-- The judge's verdict is yes exactly where the pair is an Abelian period: there is no failure exactly where no letter breaks the rule in any
-- block, and that is what the test of Abelian periods asks of a word of letters and a pair in range.
use mathlib.Core.Path.{◌≡◌, refl, sym, ap, subst, ◌∙◌}
use mathlib.Core.Logic.{⊎_elim, ◌↔◌}
use mathlib.Core.Bool.{true, false, not}
use mathlib.Core.List.Memᴰ
use mathlib.Core.List.{List, [], ◌∷◌, Memᴰ}
use Prim.Native.Nat.{ℕ, ◌+◌, ◌≤◌, ◌<◌}
use native.Mathlib.Omega.{arith}
use lib.ListN.{length}
use lib.Dec.{T, eqb, leb, ltb}
use borrow.Author.Tests.{eqb-true, eqb-false, leb-true, leb-false, ltb-false, eq-eqb, ne_eqb, le-ltb, lt-ltb, not-false}
use Rattle.abelian.specs.Lists.{up_from, keep, each}
use Rattle.abelian.specs.Words.{longest, letters, of_letters, count, vector, none_above}
use Rattle.abelian.specs.Periods.{Pair, AbelianPeriod, in_range, head_of, block, whole_blocks, tail_of, is_period}
use Rattle.abelian.specs.Judge.{Failure, block_at, is_end, breaks, failures}
use Rattle.abelian.specs.Answers.{Answer, deciding}
use Rattle.abelian.specs.Calls.{first_failure, judging}
use Rattle.abelian.proofs.Tests.{is_true, is_false, passes, fails, decided}
use Rattle.abelian.proofs.Lists.{mem-keep, keep-mem, mem-up_from, up_from-mem, mem-each, each-mem}
use Rattle.abelian.proofs.Counts.{vector_counts, counts_vector, none_above_counts, counts_none_above, contained-none_above}
use Rattle.abelian.proofs.Pairs.{in_range_lem, range_in}
use Rattle.abelian.proofs.Definition1.{Conditions, period_conditions, definition_1}
use Rattle.words.proofs.Refusals.{letters-none}
use Rattle.periods.proofs.Kernel.{tail_decides}
use Rattle.judge.proofs.Blocks.{block_at_whole, block_at_tail}
use Rattle.judge.proofs.Failures.{failures_in}
use Rattle.judge.proofs.Answers.{judging_outside, judging_inside}

-- a list with no element is empty
no_element : {A : Type 0} (xs : List A) → ((a : A) → Memᴰ a xs → ⊥) → xs ≡ []
no_element [] h = refl
no_element (x ∷ xs) h = absurd (h x (Memᴰ.head refl))

-- the answer is yes only where there is no failure
yes_none : (fs : List Failure) → first_failure fs ≡ deciding 1 0 0 0 → fs ≡ []
unfolding first_failure
yes_none [] e = refl
yes_none (f ∷ fs) e = let z : ◌≡◌ {A = ℕ} 0 1 = ap (λ (a : Answer). a.yes) e in absurd (omega arith)

module _ (w : List ℕ) (x : Pair) where
  abbrev q : ℕ
  q = whole_blocks (length w) x

  -- no letter breaks the rule in any block
  abbrev Unbroken : Type 0
  Unbroken = (k c : ℕ) → k ≤ q + 1 → Memᴰ c letters → breaks w x k c ≡ false

  -- there is no failure exactly where no letter breaks the rule
  none_unbroken : failures w x ≡ [] → Unbroken
  unfolding failures
  none_unbroken e k c u m =
      is_false (breaks w x k c)
      (λ t. Memᴰ.not-nil
      (subst (λ (l : List Failure). Memᴰ (record { block = k; letter = c }) l) e
      (each-mem (failures_in w x) (up_from 0 (q + 2)) (up_from-mem 0 (q + 2) k (omega arith) (omega arith))
      (Memᴰ.map (λ (d : ℕ). record { block = k; letter = d }) (keep-mem (breaks w x k) letters m t)))))

  unbroken_none : Unbroken → failures w x ≡ []
  unfolding failures
  unbroken_none h =
      no_element (each (up_from 0 (q + 2)) (failures_in w x))
      (λ f m.
      let r = mem-each (failures_in w x) (up_from 0 (q + 2)) m in
      let k : ℕ = r.0 in
      let o = Memᴰ.of_map (λ (d : ℕ). record { block = k; letter = d }) (keep (breaks w x k) letters) r.2 in
      let b = mem-keep (breaks w x k) letters o.1 in
      fails (breaks w x k o.0) (h k o.0 (let l = mem-up_from 0 (q + 2) r.1 in omega arith) b.0) b.1)

  -- the rule of the head, of a whole block and of the tail
  breaks_head : (c : ℕ) → breaks w x 0 c ≡ ltb (count c (block w x 1)) (count c (head_of w x))
  unfolding breaks is_end block_at
  breaks_head c = refl

  breaks_whole : (k c : ℕ) → 1 ≤ k → k ≤ q → breaks w x k c ≡ not (eqb (count c (block w x k)) (count c (block w x 1)))
  unfolding breaks is_end
  breaks_whole k c l u = rw (block_at_whole w x k l u, ne_eqb k 0 (λ e. omega arith), le-ltb q k u)

  breaks_tail : (k c : ℕ) → q < k → breaks w x k c ≡ ltb (count c (block w x 1)) (count c (tail_of w x))
  unfolding breaks is_end
  breaks_tail k c l = rw (block_at_tail w x k l, ne_eqb k 0 (λ e. omega arith), lt-ltb q k l)

  -- an Abelian period breaks no rule
  period_unbroken : T (is_period w x) → Unbroken
  period_unbroken t k c u m =
      let d : Conditions w x = period_conditions w x t in
      ⊎_elim
      (λ (e : eqb k 0 ≡ true).
      rw (eqb-true k 0 e, breaks_head c)
      (le-ltb (count c (block w x 1)) (count c (head_of w x))
      (none_above_counts (head_of w x) (block w x 1) (contained-none_above (vector (head_of w x)) (vector (block w x 1)) d.head_contained) c m)))
      (λ (e : eqb k 0 ≡ false).
      let l : 1 ≤ k = let n = eqb-false k 0 e in omega arith in
      ⊎_elim
      (λ (f : leb k q ≡ true).
      breaks_whole k c l (leb-true k q f) ∙ ap not (eq-eqb (count c (block w x k)) (count c (block w x 1)) (vector_counts (block w x k) (block w x 1) (d.alike k l (leb-true k q f)) c m)))
      (λ (f : leb k q ≡ false).
      breaks_tail k c (leb-false k q f)
      ∙ le-ltb (count c (block w x 1)) (count c (tail_of w x))
      (none_above_counts (tail_of w x) (block w x 1) (contained-none_above (vector (tail_of w x)) (vector (block w x 1)) d.tail_contained) c m))
      (decided (leb k q)))
      (decided (eqb k 0))

  -- and a pair in range that breaks no rule is one
  unbroken_period : T (of_letters w) → T (in_range (length w) x) → Unbroken → T (is_period w x)
  unbroken_period t r h =
      passes (is_period w x)
      (tail_decides w x t (in_range_lem (length w) x r)
      (is_true (none_above (vector (head_of w x)) (vector (block w x 1)))
      (counts_none_above (head_of w x) (block w x 1) (λ c m. ltb-false (count c (block w x 1)) (count c (head_of w x)) (sym (breaks_head c) ∙ h 0 c (omega arith) m))))
      (λ k l u. counts_vector (block w x k) (block w x 1) (λ c m. eqb-true (count c (block w x k)) (count c (block w x 1)) (not-false (eqb (count c (block w x k)) (count c (block w x 1))) (sym (breaks_whole k c l u) ∙ h k c (omega arith) m))))
      ∙ is_true (none_above (vector (tail_of w x)) (vector (block w x 1)))
      (counts_none_above (tail_of w x) (block w x 1) (λ c m. ltb-false (count c (block w x 1)) (count c (tail_of w x)) (sym (breaks_tail (q + 1) c (omega arith)) ∙ h (q + 1) c (omega arith) m))))

  -- the answer is yes where there is no failure
  none_yes : failures w x ≡ [] → first_failure (failures w x) ≡ deciding 1 0 0 0
  unfolding first_failure
  none_yes e = rw e

  -- of a word of letters and a pair in range, the verdict is yes exactly where the pair passes the test of Abelian periods
  pub yes_is_period : T (of_letters w) → T (in_range (length w) x) → (first_failure (failures w x) ≡ deciding 1 0 0 0) ↔ T (is_period w x)
  yes_is_period t r = (
    λ e. unbroken_period t r (none_unbroken (yes_none (failures w x) e)),
    λ p. none_yes (unbroken_none (period_unbroken p)),
  )

-- of a word that no call refuses, the judge says yes exactly where Definition 1 holds of the pair, in range or not
pub judge_says_yes : (w : List ℕ) (x : Pair) → length w ≤ longest → T (of_letters w) → (judging w x ≡ deciding 1 0 0 0) ↔ AbelianPeriod w x
judge_says_yes w x l t = (
  λ e.
      ⊎_elim
      (λ (i : in_range (length w) x ≡ true).
      (definition_1 w x t).0 ((yes_is_period w x t (passes (in_range (length w) x) i)).0 (sym (judging_inside w x (letters-none w l t) i) ∙ e)))
      (λ (i : in_range (length w) x ≡ false).
      let z : ◌≡◌ {A = ℕ} 7 0 = ap (λ (a : Answer). a.number) (sym (judging_outside w x (letters-none w l t) i) ∙ e) in
      absurd (omega arith))
      (decided (in_range (length w) x)),
  λ d.
      let p : T (is_period w x) = (definition_1 w x t).1 d in
      let r : T (in_range (length w) x) = range_in (length w) x (period_conditions w x p).range in
      judging_inside w x (letters-none w l t) (is_true (in_range (length w) x) r) ∙ (yes_is_period w x t r).1 p,
)
