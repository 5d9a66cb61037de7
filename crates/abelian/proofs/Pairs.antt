-- Laws of pairs: the list of pairs has exactly the pairs in range, and rises by p and then h.
use mathlib.Core.Path.{◌≡◌, refl, sym, ap, subst, ◌∙◌}
use mathlib.Core.Logic.{inl, inr, ⊎_elim}
use mathlib.Core.Bool.{Bool, ◌&&◌}
use mathlib.Core.List.Memᴰ
use mathlib.Core.List.{List, [], ◌∷◌, Memᴰ}
use Prim.Native.Nat.{ℕ, suc, ◌+◌, ◌-◌, ◌≤◌, ◌<◌, min}
use native.Mathlib.Omega.{arith}
use lib.Dec.{T, leb, ltb, leb→le, le→leb, ltb→lt, lt→ltb}
use Rattle.abelian.specs.Lists.{up_from}
use Rattle.abelian.specs.Periods.{Pair, pair, in_range, heads, row, pairs, Before, Rising}
use Rattle.abelian.proofs.Tests.{both, left, right}
use Rattle.abelian.proofs.Lists.{mem-up_from, up_from-mem, mem-each, each-mem, ordered_up_from, ordered_map, ordered_each}

-- ---- the range

-- the three conditions of a pair in range, as facts about numbers
pub record InRange (n : ℕ) (x : Pair) : Type 0 where
  pub positive : 1 ≤ x.period
  pub below : x.head < x.period
  pub fits : x.head + x.period ≤ n

pub in_range_lem : (n : ℕ) (x : Pair) → T (in_range n x) → InRange n x
unfolding in_range
in_range_lem n x t =
    let p : Bool = leb 1 x.period in
    let h : Bool = ltb x.head x.period in
    let f : Bool = leb (x.head + x.period) n in
    let t' : T (p && h) = left (p && h) f t in
    record {
      positive = leb→le 1 x.period (left p h t');
      below = ltb→lt x.head x.period (right p h t');
      fits = leb→le (x.head + x.period) n (right (p && h) f t);
    }

pub range_in : (n : ℕ) (x : Pair) → InRange n x → T (in_range n x)
unfolding in_range
range_in n x r =
    let p : Bool = leb 1 x.period in
    let h : Bool = ltb x.head x.period in
    let f : Bool = leb (x.head + x.period) n in
    both (p && h) f (both p h (le→leb 1 x.period r.positive) (lt→ltb x.head x.period r.below))
    (le→leb (x.head + x.period) n r.fits)

-- what is in range for n is in range for what is longer
pub in_range_longer : {n m : ℕ} {x : Pair} → InRange n x → n ≤ m → InRange m x
in_range_longer r l = record { positive = r.positive; below = r.below; fits = omega (arith, r.fits) }

-- the heads of a row are in range
pub heads-in_range : {n p h : ℕ} → 1 ≤ p → p ≤ n → h < heads n p → InRange n (pair h p)
unfolding heads
heads-in_range l u b = record { positive = l; below = omega arith; fits = omega arith }

-- ---- membership

-- a row has pairs in range with its period
pub mem-row : (n p : ℕ) {x : Pair} → 1 ≤ p → Memᴰ x (row n p) → InRange n x × (x.period ≡ p)
unfolding row heads
mem-row n p {x} l m =
    let r : (h : ℕ) × Memᴰ h (up_from 0 (min p (suc n - p))) × (pair h p ≡ x) = Memᴰ.of_map (λ (h : ℕ). pair h p) (up_from 0 (min p (suc n - p))) m in
    let b : (0 ≤ r.0) × (r.0 < 0 + min p (suc n - p)) = mem-up_from 0 (min p (suc n - p)) r.1 in
    subst (λ (y : Pair). InRange n y × (y.period ≡ p)) r.2
    (record { positive = l; below = omega arith; fits = omega arith }, refl)

-- a pair is in the list of pairs exactly where it is in range
pub pairs-in_range : (n : ℕ) (x : Pair) → Memᴰ x (pairs n) → T (in_range n x)
unfolding pairs
pairs-in_range n x m =
    let r : (p : ℕ) × Memᴰ p (up_from 1 n) × Memᴰ x (row n p) = mem-each (row n) (up_from 1 n) m in
    range_in n x (mem-row n r.0 (mem-up_from 1 n r.1).0 r.2).0

pub in_range-pairs : (n : ℕ) (x : Pair) → T (in_range n x) → Memᴰ x (pairs n)
unfolding pairs row heads
in_range-pairs n x t =
    let r : InRange n x = in_range_lem n x t in
    each-mem (row n) (up_from 1 n) (up_from-mem 1 n x.period r.positive (omega arith))
    (Memᴰ.map (λ (h : ℕ). pair h x.period) (up_from-mem 0 (heads n x.period) x.head (omega arith) (omega arith)))

-- ---- order

-- the pairs of a row have its period
row_period : (n p : ℕ) {x : Pair} → Memᴰ x (row n p) → x.period ≡ p
unfolding row
row_period n p m = sym (ap (λ (z : Pair). z.period) (Memᴰ.of_map (λ (h : ℕ). pair h p) (up_from 0 (heads n p)) m).2)

-- the list of pairs rises by p and then h
pub pairs_rising : (n : ℕ) → Rising (pairs n)
unfolding pairs row
pairs_rising n =
    ordered_each ◌<◌ Before (row n)
    (λ p. ordered_map ◌<◌ Before (λ (h : ℕ). pair h p) (λ h k l. inr (refl, l)) (up_from 0 (heads n p)) (ordered_up_from 0 (heads n p)))
    (λ p q l x y m k. inl (omega (arith, row_period n p m, row_period n q k)))
    (up_from 1 n) (ordered_up_from 1 n)

-- no pair stands before one that stands before it
before_asym : (x y : Pair) → Before x y → Before y x → ⊥
before_asym x y (inl l) (inl m) = omega arith
before_asym x y (inl l) (inr q) = let e : y.period ≡ x.period = q.0 in omega arith
before_asym x y (inr q) (inl m) = let e : x.period ≡ y.period = q.0 in omega arith
before_asym x y (inr p) (inr q) = let l : x.head < y.head = p.1 in let m : y.head < x.head = q.1 in omega arith

-- two rising lists with the same pairs are equal
pub rising_equal : (xs ys : List Pair) → Rising xs → Rising ys → ((z : Pair) → Memᴰ z xs → Memᴰ z ys) → ((z : Pair) → Memᴰ z ys → Memᴰ z xs) → xs ≡ ys
rising_equal [] [] r s f g = refl
rising_equal [] (y ∷ ys) r s f g = absurd (Memᴰ.not-nil (g y (Memᴰ.head refl)))
rising_equal (x ∷ xs) [] r s f g = absurd (Memᴰ.not-nil (f x (Memᴰ.head refl)))
rising_equal (x ∷ xs) (y ∷ ys) r s f g =
    let e : x ≡ y =
    ⊎_elim (λ (q : x ≡ y). q)
    (λ (m : Memᴰ x ys).
    ⊎_elim (λ (q : y ≡ x). sym q) (λ (k : Memᴰ y xs). absurd (before_asym x y (r.0 y k) (s.0 x m)))
    (Memᴰ.cases_cons (g y (Memᴰ.head refl))))
    (Memᴰ.cases_cons (f x (Memᴰ.head refl))) in
    let t : xs ≡ ys =
    rising_equal xs ys r.1 s.1
    (λ z m. ⊎_elim (λ (q : z ≡ y). absurd (irrefl x (subst (λ (a : Pair). Before x a) (q ∙ sym e) (r.0 z m)))) (λ k. k) (Memᴰ.cases_cons (f z (Memᴰ.tail m))))
    (λ z m. ⊎_elim (λ (q : z ≡ x). absurd (irrefl y (subst (λ (a : Pair). Before y a) (q ∙ e) (s.0 z m)))) (λ k. k) (Memᴰ.cases_cons (g z (Memᴰ.tail m)))) in
    cc
  where
    irrefl : (a : Pair) → Before a a → ⊥
    irrefl a b = before_asym a a b b
