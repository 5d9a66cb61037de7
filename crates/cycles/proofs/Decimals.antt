-- Numbers in decimal: the digits that the kit's `io::decimal` writes are those of the definition, and a number of 14 bits has at most five.
use mathlib.Core.Path.{◌≡◌, refl, sym, ap, ◌∙◌}
use mathlib.Core.Bool.{Bool, true}
use mathlib.Core.List.{◌∷◌, []}
use Prim.Native.Nat.{ℕ, zero, suc, ◌+◌, ◌-◌, ◌/◌, ◌%◌, ◌^◌, ◌≤◌, ◌<◌}
use native.Mathlib.Nat.{pow-le-pow_right}
use native.Mathlib.Decide.{dec_le}
use native.Mathlib.Omega.{arith}
use lib.ListN.{length, length-append}
use lib.Dec.{T, ltb, ltb→lt}
use borrow.Author.Tests.{lt-ltb}
use Rattle.io.specs.Digits.{hex_digit_ascii, last_digits, IsDigitCount}
use Rattle.abelian.specs.Lists.{up_from, first_passing}
use Rattle.abelian.proofs.Tests.{picked}
use Rattle.abelian.proofs.Lists.{mem-up_from, up_from-append, none-first_passing, first_passing-append, first_passing-within}
use Rattle.cycles.specs.Text.{places, decimal}

length_digits : (b k n : ℕ) → length (last_digits b k n) ≡ k
length_digits b zero n = refl
length_digits b (suc k) n = omega (arith, length-append (last_digits b k (n / b)) (hex_digit_ascii (n % b) ∷ []), length_digits b k (n / b))

pub length-decimal : (n : ℕ) → length (decimal n) ≡ places n
unfolding decimal
length-decimal n = length_digits 10 (places n) n

-- the first number from 1 on that passes is k, if k is among them and passes, and none below does
first_passing_at : (f : ℕ → Bool) (k m : ℕ) → 1 ≤ k → f k ≡ true → ((j : ℕ) → 1 ≤ j → j < k → T (f j) → ⊥) → first_passing f (up_from 1 (k - 1 + suc m)) ≡ k
first_passing_at f k m l t below =
    let e : 1 + (k - 1) ≡ k = omega arith in
    let none : first_passing f (up_from 1 (k - 1)) ≡ 0 =
    none-first_passing f (up_from 1 (k - 1)) (λ j i. let b : (1 ≤ j) × (j < 1 + (k - 1)) = mem-up_from 1 (k - 1) i in below j b.0 (omega arith)) in
    ap (first_passing f) (up_from-append 1 (k - 1) (suc m))
    ∙ first_passing-append f (up_from 1 (k - 1)) (up_from (1 + (k - 1)) (suc m)) (λ j i. (mem-up_from 1 (k - 1) i).0)
    ∙ rw (none, e, t)

-- a number that 20 digits hold has no more than 20
few_digits : (n k : ℕ) → n < 10 ^ 20 → IsDigitCount 10 1 n k → k ≤ 20
few_digits n k h f = go (dec_le k 20)
  where
    go : Dec (k ≤ 20) → k ≤ 20
    go (yes b) = b
    go (no b) = let most : 10 ^ 20 ≤ 10 ^ (k - 1) = pow-le-pow_right (omega arith) {i = 20} (omega arith) in absurd (omega (arith, f.2 (omega arith)))

-- The fewest digits that hold n are n in decimal.
pub digits_decimal : (n k : ℕ) → n < 10 ^ 20 → IsDigitCount 10 1 n k → last_digits 10 k n ≡ decimal n
unfolding decimal places
digits_decimal n k h f =
    let e : k - 1 + suc (20 - k) ≡ 20 = omega (arith, few_digits n k h f, f.0) in
    let least : first_passing (λ (j : ℕ). ltb n (10 ^ j)) (up_from 1 (k - 1 + suc (20 - k))) ≡ k =
    first_passing_at (λ (j : ℕ). ltb n (10 ^ j)) k (20 - k) f.0 (lt-ltb n (10 ^ k) f.1)
    (λ j p b t. let most : 10 ^ j ≤ 10 ^ (k - 1) = pow-le-pow_right (omega arith) (omega arith) in omega (arith, ltb→lt n (10 ^ j) t, f.2 (omega arith))) in
    ap (λ (j : ℕ). last_digits 10 j n) (sym (rw e at least))

-- a number below 2^14 has at most five digits
pub few_places : (n : ℕ) → n < 2 ^ 14 → places n ≤ 5
unfolding places
few_places n h =
    let Few : ℕ → Type 0 = λ k. k ≤ 5 in
    rw (lt-ltb n 100000 (omega arith))
    (picked Few (ltb n 10) (omega arith)
    (picked Few (ltb n 100) (omega arith) (picked Few (ltb n 1000) (omega arith) (picked Few (ltb n 10000) (omega arith) (omega arith)))))

-- no number has more than twenty
pub most-places : (n : ℕ) → places n ≤ 20
unfolding places
most-places n = first_passing-within (λ (k : ℕ). ltb n (10 ^ k)) 0 20
