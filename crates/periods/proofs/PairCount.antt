-- How many pairs are in range for n: floor((n+1)/2) × floor((n+2)/2).
use mathlib.Core.Path.{◌≡◌, refl, sym, ap, ◌∙◌}
use Prim.Native.Nat.{ℕ, zero, suc, ◌+◌, ◌*◌, ◌/◌, ◌≤◌}
use native.Mathlib.Nat.{mul_comm, suc-mul}
use native.Mathlib.Omega.{arith}
use lib.ListN.{length, length-append, length-map}
use Rattle.abelian.specs.Lists.{up_from, each}
use Rattle.abelian.specs.Periods.{pair, heads, row, pairs}
use Rattle.abelian.proofs.Lists.{length-up_from}

-- a row has a pair for each head
pub length-row : (n p : ℕ) → length (row n p) ≡ heads n p
unfolding row
length-row n p = length-map (up_from 0 (heads n p)) (λ (h : ℕ). pair h p) ∙ length-up_from 0 (heads n p)

-- the heads of the m rows from p = a on
heads_from : ℕ → ℕ → ℕ → ℕ
heads_from n a zero = 0
heads_from n a (suc m) = heads n a + heads_from n (suc a) m

length_rows : (n a m : ℕ) → length (each (up_from a m) (row n)) ≡ heads_from n a m
unfolding heads_from
length_rows n a zero = refl
length_rows n a (suc m) =
    let h : length (each (up_from (suc a) m) (row n)) ≡ heads_from n (suc a) m = length_rows n (suc a) m in
    omega (arith, length-append (row n a) (each (up_from (suc a) m) (row n)), length-row n a)

-- two letters more: each row of p from 1 on has one head more, one row later, and the last row has one head
heads_shift : (n a m : ℕ) → 1 ≤ a → a + m ≤ n + 1 → heads_from (suc (suc n)) (suc a) m ≡ heads_from n a m + m
unfolding heads_from heads
heads_shift n a zero l f = refl
heads_shift n a (suc m) l f =
    let h : heads_from (suc (suc n)) (suc (suc a)) m ≡ heads_from n (suc a) m + m = heads_shift n (suc a) m (omega arith) (omega arith) in
    omega arith

heads_last : (n a m : ℕ) → heads_from n a (suc m) ≡ heads_from n a m + heads n (a + m)
unfolding heads_from
heads_last n a zero = let e : a + 0 ≡ a = omega arith in rw e (omega arith)
heads_last n a (suc m) =
    let h : heads_from n (suc a) (suc m) ≡ heads_from n (suc a) m + heads n (suc a + m) = heads_last n (suc a) m in
    let e : a + suc m ≡ suc a + m = omega arith in
    rw e (omega arith)

heads-two-more : (n : ℕ) → heads_from (suc (suc n)) 1 (suc (suc n)) ≡ heads_from n 1 n + (n + 2)
unfolding heads_from heads
heads-two-more n = omega (arith, heads_last (suc (suc n)) 2 n, heads_shift n 1 n (omega arith) (omega arith))

product_two_more : (n : ℕ) → (suc (suc n) + 1) / 2 * ((suc (suc n) + 2) / 2) ≡ (n + 1) / 2 * ((n + 2) / 2) + (n + 2)
product_two_more n =
    let a : ℕ = (n + 1) / 2 in
    let b : ℕ = (n + 2) / 2 in
    let ea : (suc (suc n) + 1) / 2 ≡ suc a = omega arith in
    let eb : (suc (suc n) + 2) / 2 ≡ suc b = omega arith in
    rw (ea, eb) (omega (arith, suc-mul a (suc b), mul_comm a (suc b), suc-mul b a, mul_comm b a))

heads-sum : (n : ℕ) → heads_from n 1 n ≡ (n + 1) / 2 * ((n + 2) / 2)
unfolding heads_from heads
heads-sum zero = refl
heads-sum (suc zero) = refl
heads-sum (suc (suc n)) = heads-two-more n ∙ ap (λ (k : ℕ). k + (n + 2)) (heads-sum n) ∙ sym (product_two_more n)

pub pair-count : (n : ℕ) → length (pairs n) ≡ (n + 1) / 2 * ((n + 2) / 2)
unfolding pairs
pair-count n = length_rows n 1 n ∙ heads-sum n
