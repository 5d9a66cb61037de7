-- Laws of multiples: of counts that are so many times those of another vector, and of the multiples of a period that a table marks.
use mathlib.Core.Path.{◌≡◌, refl, sym, ap, ◌∙◌}
use mathlib.Core.Bool.{Bool, true, false, not, ◌&&◌, ◌||◌}
use mathlib.Core.List.{List}
use mathlib.Core.Logic.{⊎_elim}
use Prim.Native.Nat.{ℕ, suc, ◌+◌, ◌*◌, ◌/◌, ◌≤◌, ◌<◌}
use native.Mathlib.Nat.{zero-add, suc-mul, one-mul, le-div_iff_mul-le, div-mul-le_self, mul-le-mul_right, lt_of_mul-lt-mul_right}
use native.Mathlib.Numerals.{add-one}
use native.Mathlib.Omega.{arith}
use lib.ListN.{get_or}
use lib.Dec.{eqb}
use Rattle.abelian.specs.Lists.{up_from, all}
use Rattle.abelian.proofs.Tests.{is_true, is_false, passes, fails}
use Rattle.abelian.proofs.Lists.{all-mem, mem-all, mem-up_from, up_from-mem, below_or_not}
use Rattle.full_periods.specs.Marks.{is_marked, marks_multiples}
use Rattle.full_periods.proofs.Lists.{all_more}

-- the test of a place
abbrev pub fits : List ℕ → ℕ → List ℕ → ℕ → Bool
fits counts times unit j = eqb (get_or counts j 0) (times * get_or unit j 0)

-- one place more
pub tried-more : (f : ℕ → Bool) (j : ℕ) {differing : Bool} → differing ≡ not (all f (up_from 0 j)) → (differing || not (f j)) ≡ not (all f (up_from 0 (j + 1)))
tried-more f j e = rw (e, add-one j, all_more f 0 j, zero-add j) (go (all f (up_from 0 j)))
  where
    go : (b : Bool) → (not b || not (f j)) ≡ not (b && f j)
    go true = refl
    go false = refl

-- ---- the multiples of a period in a table of marks

-- k is a multiple of p, and those below it, from p on, are marked
pub record Passed (marks : List ℕ) (n p k : ℕ) : Type 0 where
  pub positive : 1 ≤ p
  pub times : ℕ
  pub from : 1 ≤ times
  pub multiple : k ≡ times * p
  pub below : (i : ℕ) → 1 ≤ i → i < times → is_marked marks (i * p) ≡ true

pub passed_start : (marks : List ℕ) (n p : ℕ) → 1 ≤ p → Passed marks n p p
passed_start marks n p l = record { positive = l; times = 1; from = omega arith; multiple = sym (one-mul p); below = λ i b s. absurd (omega arith) }

module _ {marks : List ℕ} {n p k : ℕ} (h : Passed marks n p k) where
  -- a multiple up to n that is not marked is one of those that are tried
  pub passed_failed : k ≤ n → is_marked marks k ≡ false → marks_multiples marks n p ≡ false
  unfolding marks_multiples
  passed_failed l e =
      let q : h.times ≤ n / p = (le-div_iff_mul-le h.positive).1 (omega (arith, h.multiple)) in
      is_false (all (λ (i : ℕ). is_marked marks (i * p)) (up_from 1 (n / p)))
      (λ t. fails (is_marked marks k) e
      (rw h.multiple (all-mem (λ (i : ℕ). is_marked marks (i * p)) (up_from 1 (n / p)) t (up_from-mem 1 (n / p) h.times h.from (omega arith)))))

  -- where the next multiple is above n, all that are tried were marked
  pub passed_end : n < k → marks_multiples marks n p ≡ true
  unfolding marks_multiples
  passed_end l =
      is_true (all (λ (i : ℕ). is_marked marks (i * p)) (up_from 1 (n / p)))
      (mem-all (λ (i : ℕ). is_marked marks (i * p)) (up_from 1 (n / p))
      (λ i m.
      let b : (1 ≤ i) × (i < 1 + n / p) = mem-up_from 1 (n / p) m in
      let s : i ≤ n / p = omega arith in
      let r : i * p ≤ n / p * p = mul-le-mul_right p s in
      let q : i < h.times = smaller i (omega (arith, div-mul-le_self n p, h.multiple)) in
      passes (is_marked marks (i * p)) (h.below i b.0 q)))
    where
      smaller : (i : ℕ) → i * p < h.times * p → i < h.times
      smaller i s = lt_of_mul-lt-mul_right p s

  -- the next multiple
  pub passed_next : is_marked marks k ≡ true → Passed marks n p (k + p)
  passed_next e = record {
    positive = h.positive;
    times = suc h.times;
    from = omega arith;
    multiple = omega (arith, suc-mul h.times p, h.multiple);
    below = λ i b s.
        ⊎_elim (λ (q : i < h.times). h.below i b q)
        (λ (q : h.times ≤ i). let r : i ≡ h.times = omega arith in rw r (ap (is_marked marks) (sym h.multiple) ∙ e)) (below_or_not i h.times);
  }
