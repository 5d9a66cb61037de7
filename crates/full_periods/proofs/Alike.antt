-- Laws of the blocks of a period, tried one after the other: whether each has the first one's vector.
use mathlib.Core.Path.{◌≡◌, sym, ap, ◌∙◌}
use mathlib.Core.Bool.{Bool, true, false, not}
use mathlib.Core.List.{List}
use mathlib.Core.Logic.{⊎_elim}
use Prim.Native.Nat.{ℕ, suc, ◌+◌, ◌-◌, ◌*◌, ◌≤◌, ◌<◌, ◌∣◌}
use native.Mathlib.Nat.{one-mul, zero-mul, suc-mul, lt_of_mul-lt-mul_right, pos_of_dvd_of_pos}
use native.Mathlib.Omega.{arith}
use lib.ListN.{length, take, drop}
use lib.Dec.{T}
use borrow.Author.Tests.{not-true, not-false}
use Rattle.abelian.specs.Lists.{same}
use Rattle.abelian.specs.Words.{of_letters, vector, part}
use Rattle.abelian.specs.FullPeriods.{proper_divisor, is_full}
use Rattle.abelian.proofs.Tests.{is_true, is_false, passes, fails}
use Rattle.abelian.proofs.Lists.{same_equal, equal_same, below_or_not}
use Rattle.full_periods.proofs.Divisors.{proper_dvd, proper_below}
use Rattle.full_periods.proofs.Blocks.{next_multiple, full_alike, alike_full}

-- a period that divides the word's length and is smaller
pub record Proper (w : List ℕ) (p : ℕ) : Type 0 where
  pub divisor : p ∣ length w
  pub below : p < length w
  pub positive : 1 ≤ p

pub proper : (w : List ℕ) (p : ℕ) → T (proper_divisor p (length w)) → Proper w p
proper w p t =
    let d : p ∣ length w = proper_dvd p (length w) t in
    let l : p < length w = proper_below p (length w) t in
    record { divisor = d; below = l; positive = pos_of_dvd_of_pos d (omega arith) }

-- `from` is a multiple of the period p, and the blocks before it have the vector of the first
pub record Alike (w : List ℕ) (p : ℕ) (first : List ℕ) (from : ℕ) : Type 0 where
  pub positive : 1 ≤ p
  pub first_is : first ≡ vector (take p w)
  pub times : ℕ
  pub multiple : from ≡ times * p
  pub before : (i : ℕ) → i < times → vector (part w (i * p) p) ≡ vector (take p w)

-- the first block has it
pub alike_start : {w : List ℕ} {p : ℕ} {first : List ℕ} → Proper w p → first ≡ vector (take p w) → Alike w p first p
alike_start {w} {p} g e = record {
  positive = g.positive;
  first_is = e;
  times = 1;
  multiple = sym (one-mul p);
  before = λ i b. let r : i * p ≡ 0 = ap (λ (k : ℕ). k * p) (omega arith) ∙ zero-mul p in ap (λ (k : ℕ). vector (part w k p)) r;
}

module _ {w : List ℕ} {p : ℕ} {first : List ℕ} {from : ℕ} (h : Alike w p first from) (g : Proper w p) where
  -- there is a whole block left
  pub next_fits : from < length w → from + p ≤ length w
  next_fits l = omega (arith, h.multiple, next_multiple p (length w) g.divisor h.times (omega (arith, h.multiple)))

  -- every block has it
  pub all_full : T (of_letters w) → length w ≤ from → is_full w p ≡ true
  all_full t l =
      is_true (is_full w p)
      (alike_full w p t g.divisor g.below (λ i k. h.before i (lt_of_mul-lt-mul_right p (omega (arith, h.multiple)))))

-- the next block is counted and compared with the first
module _ {w : List ℕ} {p : ℕ} {first : List ℕ} {from : ℕ} (h : Alike w p first from) {block counts : List ℕ} {differ : Bool}
    (block_is : block ≡ take (from + p - from) (drop from w)) (counted : counts ≡ vector block) (compared : differ ≡ not (same counts first)) where
  counts_are : counts ≡ vector (part w from p)
  counts_are = let e : from + p - from ≡ p = omega arith in counted ∙ ap vector (block_is ∙ ap (λ (k : ℕ). part w from k) e)

  -- it has the first one's vector
  pub alike_more : differ ≡ false → Alike w p first (from + p)
  alike_more d =
      let e : counts ≡ first = same_equal counts first (passes (same counts first) (not-false (same counts first) (sym compared ∙ d))) in
      record {
        positive = h.positive;
        first_is = h.first_is;
        times = suc h.times;
        multiple = omega (arith, suc-mul h.times p, h.multiple);
        before = λ i b.
            ⊎_elim (λ (q : i < h.times). h.before i q)
            (λ (q : h.times ≤ i).
            let r : i ≡ h.times = omega arith in
            rw r (ap (λ (k : ℕ). vector (part w k p)) (sym h.multiple) ∙ sym counts_are ∙ e ∙ h.first_is)) (below_or_not i h.times);
      }

  -- or not
  pub not_full : from < length w → differ ≡ true → is_full w p ≡ false
  not_full l d =
      is_false (is_full w p) (λ t.
      let e : counts ≡ first = counts_are ∙ ap (λ (k : ℕ). vector (part w k p)) h.multiple ∙ full_alike w p t h.times (omega (arith, h.multiple)) ∙ sym h.first_is in
      fails (same counts first) (not-true (same counts first) (sym compared ∙ d)) (equal_same counts first e))
