-- General laws of lists that are made number by number.
use mathlib.Core.Path.{◌≡◌, refl, sym, ap, ◌∙◌}
use mathlib.Core.List.{List, [], ◌∷◌, ◌++◌, map, append-nil}
use Prim.Native.Nat.{ℕ, zero, suc, ◌+◌, ◌-◌, ◌≤◌, ◌<◌}
use native.Mathlib.Nat.{add-zero}
use native.Mathlib.Omega.{arith}
use lib.ListN.{length, take, drop, length-append, length-take, drop_of_length-le}
use Rattle.abelian.specs.Lists.{up_from, each}
use Rattle.abelian.specs.Output.{fill}
use Rattle.abelian.proofs.Lists.{up_from-append, each_append}

-- f of one number more stands behind the others
pub map_more : {A : Type 0} (f : ℕ → A) (a n : ℕ) → map f (up_from a (suc n)) ≡ map f (up_from a n) ++ (f (a + n) ∷ [])
map_more f a zero = ap (λ (k : ℕ). f k ∷ []) (sym (add-zero a))
map_more f a (suc n) =
    let e : suc a + n ≡ a + suc n = omega arith in
    ap (λ (l : List _). f a ∷ l) (rw e at (map_more f (suc a) n))

-- a list that fills the first places whole, and the rest of the slice behind it
pub fill_part : (ws out xs : List ℕ) (n : ℕ) → length ws ≡ n → xs ≡ fill ws (take n out) → xs ++ drop n out ≡ fill ws out
unfolding fill
fill_part ws out xs n e f =
    let short : length (take n out) ≤ length ws = omega (arith, length-take n out) in
    let whole : xs ≡ ws = f ∙ ap (λ (l : List ℕ). ws ++ l) (drop_of_length-le (take n out) short) ∙ append-nil ws in
    rw (whole, e)

-- ---- the numbers up to n, each with a list of its own

module _ {B : Type 0} (f : ℕ → List B) where
  -- the list of a number stands behind those of the smaller ones, and before the others
  pub each_split : (q n : ℕ) → 1 ≤ q → q ≤ n → each (up_from 1 n) f ≡ each (up_from 1 (q - 1)) f ++ (f q ++ each (up_from (suc q) (n - q)) f)
  each_split q n l u =
      let e : q - 1 + suc (n - q) ≡ n = omega arith in
      let h : 1 + (q - 1) ≡ q = omega arith in
      ap (λ (xs : List ℕ). each xs f) (rw e at (up_from-append 1 (q - 1) (suc (n - q)))) ∙ each_append f (up_from 1 (q - 1)) (up_from (1 + (q - 1)) (suc (n - q))) ∙ rw h

  -- the lists of one number more
  pub each_more : (q : ℕ) → 1 ≤ q → each (up_from 1 (q + 1 - 1)) f ≡ each (up_from 1 (q - 1)) f ++ f q
  each_more q l =
      let e : q + 1 - 1 ≡ q = omega arith in
      let z : q - q ≡ 0 = omega arith in
      ap (λ (k : ℕ). each (up_from 1 k) f) e ∙ each_split q q l (omega arith) ∙ rw z (ap (λ (l : List B). each (up_from 1 (q - 1)) f ++ l) (append-nil (f q)))

  -- they are no longer than all lists
  pub each_fits : (q n : ℕ) → 1 ≤ q → q ≤ n → length (each (up_from 1 (q - 1)) f) + length (f q) ≤ length (each (up_from 1 n) f)
  each_fits q n l u =
      let later : List B = each (up_from (suc q) (n - q)) f in
      omega (arith, ap length (each_split q n l u), length-append (each (up_from 1 (q - 1)) f) (f q ++ later), length-append (f q) later)

  -- numbers whose lists are empty add nothing
  each_none : (a m : ℕ) → ((q : ℕ) → a ≤ q → f q ≡ []) → each (up_from a m) f ≡ []
  each_none a zero h = refl
  each_none a (suc m) h = rw (h a (omega arith)) (each_none (suc a) m (λ q l. h q (omega arith)))

  -- so the lists end where the others are empty
  pub each_rest : {k n : ℕ} → k ≤ n → ((q : ℕ) → k < q → f q ≡ []) → each (up_from 1 n) f ≡ each (up_from 1 k) f
  each_rest {k} {n} h z =
      let e : k + (n - k) ≡ n = omega arith in
      let none : each (up_from (1 + k) (n - k)) f ≡ [] = each_none (1 + k) (n - k) (λ q l. z q (omega arith)) in
      ap (λ (l : List ℕ). each l f) (rw e at (up_from-append 1 k (n - k))) ∙ each_append f (up_from 1 k) (up_from (1 + k) (n - k)) ∙ rw none (append-nil (each (up_from 1 k) f))
