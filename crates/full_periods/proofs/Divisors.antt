-- Laws of divisors: the tests, Euclid's algorithm, the greatest common divisor of a list, and the quotients of a list.
use mathlib.Core.Path.{◌≡◌, refl, sym, ap, subst, ◌∙◌}
use mathlib.Core.Logic.{⊎_elim}
use mathlib.Core.List.Memᴰ
use mathlib.Core.List.{List, [], ◌∷◌, ◌++◌}
use Prim.Native.Nat.{ℕ, zero, suc, ◌+◌, ◌/◌, ◌%◌, ◌≤◌, ◌<◌, ◌∣◌}
use native.Mathlib.Nat.{dvd_refl, dvd-zero, dvd_trans, dvd-mod_iff, dvd_antisymm, mod-lt, mod-eq-zero_of_dvd, dvd_of_mod-eq-zero, eq-zero-or-pos, zero-div}
use native.Mathlib.Numerals.{add-one}
use native.Mathlib.Omega.{arith}
use lib.ListN.{length, take, get_or, set, length-map, length-set, get_or-map}
use lib.Seq.{take-suc, take_all, ext_get_or, get_or-set_same, get_or-set_other}
use lib.Dec.{T, eqb, ltb, eqb→eq, leb→le, le→leb}
use borrow.Author.Tests.{eq-eqb}
use Rattle.abelian.specs.FullPeriods.{divides, proper_divisor}
use Rattle.abelian.proofs.Tests.{passes, both, left, right}
use Rattle.abelian.proofs.Lists.{below_or_not}
use Rattle.full_periods.specs.Divisors.{GreatestDivisor, divided}

-- ---- the tests

-- the test of a divisor passes exactly where it divides
pub divides-dvd : (d n : ℕ) → T (divides d n) → d ∣ n
unfolding divides
divides-dvd d n t = dvd_of_mod-eq-zero d (eqb→eq (n % d) 0 t)

pub dvd-divides : (d n : ℕ) → d ∣ n → T (divides d n)
unfolding divides
dvd-divides d n h = passes (eqb (n % d) 0) (eq-eqb (n % d) 0 (mod-eq-zero_of_dvd d h))

-- that of a proper one where it is also smaller
pub proper_dvd : (d n : ℕ) → T (proper_divisor d n) → d ∣ n
unfolding proper_divisor
proper_dvd d n t = divides-dvd d n (left (divides d n) (ltb d n) t)

pub proper_below : (d n : ℕ) → T (proper_divisor d n) → d < n
unfolding proper_divisor
proper_below d n t = leb→le (suc d) n (right (divides d n) (ltb d n) t)

pub dvd_proper : (d n : ℕ) → d ∣ n → d < n → T (proper_divisor d n)
unfolding proper_divisor
dvd_proper d n h l = both (divides d n) (ltb d n) (dvd-divides d n h) (le→leb (suc d) n l)

-- ---- Euclid's algorithm

-- a and b have the common divisors of x and y
pub record SameDivisors (a b x y : ℕ) : Type 0 where
  pub to : (d : ℕ) → d ∣ a → d ∣ b → (d ∣ x) × (d ∣ y)
  pub back : (d : ℕ) → d ∣ x → d ∣ y → (d ∣ a) × (d ∣ b)

pub same_start : (a b : ℕ) → SameDivisors a b a b
same_start a b = record { to = λ d h k. (h, k); back = λ d h k. (h, k) }

-- a step of the algorithm keeps them
pub same_step : {a b x y : ℕ} → SameDivisors a b x y → SameDivisors a b y (x % y)
same_step {a} {b} {x} {y} s = record {
  to = λ d h k. let r : (d ∣ x) × (d ∣ y) = s.to d h k in (r.1, (dvd-mod_iff d r.1).1 r.0);
  back = λ d h k. s.back d ((dvd-mod_iff d h).0 k) h;
}

-- where it ends, at 0, the other number is the greatest
pub same_greatest : {a b x : ℕ} → SameDivisors a b x 0 → GreatestDivisor (a ∷ b ∷ []) x
same_greatest {a} {b} {x} s = record {
  common = λ z m.
      let r : (x ∣ a) × (x ∣ b) = s.back x (dvd_refl x) (dvd-zero x) in
      ⊎_elim (λ (q : z ≡ a). subst (λ (i : ℕ). x ∣ i) (sym q) r.0)
      (λ m'. subst (λ (i : ℕ). x ∣ i) (sym (Memᴰ.eq_of_singleton m')) r.1) (Memᴰ.cases_cons m);
  greatest = λ d h. (s.to d (h a (Memᴰ.head refl)) (h b (Memᴰ.tail (Memᴰ.head refl)))).0;
}

-- two numbers have a greatest common divisor: the algorithm ends, since the second number falls
euclid : (bound x y : ℕ) → y ≤ bound → (g : ℕ) × SameDivisors x y g 0
euclid zero x y h = let e : y ≡ 0 = omega arith in (x, rw e (same_start x 0))
euclid (suc bound) x y h =
    ⊎_elim (λ (e : y ≡ 0). (x, rw e (same_start x 0)))
    (λ (l : 0 < y).
    let r : (g : ℕ) × SameDivisors y (x % y) g 0 = euclid bound y (x % y) (let b : x % y < y = mod-lt x l in omega arith) in
    let s : SameDivisors x y y (x % y) = same_step (same_start x y) in (
      r.0,
      record {
        to = λ d i k. r.1.to d (s.to d i k).0 (s.to d i k).1;
        back = λ d i k. s.back d (r.1.back d i k).0 (r.1.back d i k).1;
      },
    ))
    (eq-zero-or-pos y)

-- ---- the greatest common divisor of a list

pub greatest_nil : GreatestDivisor [] 0
greatest_nil = record { common = λ x m. absurd (Memᴰ.not-nil m); greatest = λ d h. dvd-zero d }

-- with one number more
pub greatest_more : {xs : List ℕ} {g x r : ℕ} → GreatestDivisor xs g → GreatestDivisor (g ∷ x ∷ []) r → GreatestDivisor (xs ++ (x ∷ [])) r
greatest_more {xs} {g} {x} {r} h k = record {
  common = λ z m.
      ⊎_elim (λ i. dvd_trans r (k.common g (Memᴰ.head refl)) (h.common z i))
      (λ i. subst (λ (j : ℕ). r ∣ j) (sym (Memᴰ.eq_of_singleton i)) (k.common x (Memᴰ.tail (Memᴰ.head refl))))
      (Memᴰ.append_cases xs m);
  greatest = λ d i.
      k.greatest d (λ z m.
      ⊎_elim (λ (q : z ≡ g). subst (λ (j : ℕ). d ∣ j) (sym q) (h.greatest d (λ y n. i y (Memᴰ.append_left (x ∷ []) n))))
      (λ n. subst (λ (j : ℕ). d ∣ j) (sym (Memᴰ.eq_of_singleton n)) (i x (Memᴰ.append_right xs (Memᴰ.head refl))))
      (Memᴰ.cases_cons m));
}

-- g is the greatest common divisor of the first i numbers
pub record FirstDivisor (xs : List ℕ) (i g : ℕ) : Type 0 where
  pub greatest : GreatestDivisor (take i xs) g

pub first_divisor_start : (xs : List ℕ) → FirstDivisor xs 0 0
first_divisor_start xs = record { greatest = greatest_nil }

-- with the next number
pub first_divisor_more : {xs : List ℕ} {i g r : ℕ} → FirstDivisor xs i g → i < length xs → GreatestDivisor (g ∷ get_or xs i 0 ∷ []) r → FirstDivisor xs (i + 1) r
first_divisor_more {xs} {i} h l k = record { greatest = rw (add-one i, take-suc xs i 0 l) (greatest_more h.greatest k) }

-- of all
pub first_divisor_end : {xs : List ℕ} {i g : ℕ} → FirstDivisor xs i g → length xs ≤ i → GreatestDivisor xs g
first_divisor_end {xs} {i} h l = rw (take_all i xs l) at h.greatest

-- a list has one greatest common divisor alone
pub greatest_unique : {xs : List ℕ} {g r : ℕ} → GreatestDivisor xs g → GreatestDivisor xs r → g ≡ r
greatest_unique {xs} {g} {r} h k = dvd_antisymm (k.greatest g h.common) (h.greatest r k.common)

-- every list has one
pub greatest_exists : (xs : List ℕ) → (g : ℕ) × GreatestDivisor xs g
greatest_exists [] = (0, greatest_nil)
greatest_exists (x ∷ xs) =
    let h : (g : ℕ) × GreatestDivisor xs g = greatest_exists xs in
    let r : (g : ℕ) × SameDivisors x h.0 g 0 = euclid h.0 x h.0 (omega arith) in (
      r.0,
      record {
        common = λ z m.
            let b : (r.0 ∣ x) × (r.0 ∣ h.0) = r.1.back r.0 (dvd_refl r.0) (dvd-zero r.0) in
            ⊎_elim (λ (q : z ≡ x). subst (λ (i : ℕ). r.0 ∣ i) (sym q) b.0) (λ i. dvd_trans r.0 b.1 (h.1.common z i)) (Memᴰ.cases_cons m);
        greatest = λ d i. (r.1.to d (i x (Memᴰ.head refl)) (h.1.greatest d (λ y m. i y (Memᴰ.tail m)))).0;
      },
    )

-- ---- quotients of counts, place by place

-- the places below j have the counts divided by g, and those from j on the counts
pub record Divided (counts : List ℕ) (g : ℕ) (unit : List ℕ) (j : ℕ) : Type 0 where
  pub size : length unit ≡ length counts
  pub done : (i : ℕ) → i < j → get_or unit i 0 ≡ get_or counts i 0 / g
  pub ahead : (i : ℕ) → j ≤ i → get_or unit i 0 ≡ get_or counts i 0

module _ (counts : List ℕ) (g : ℕ) where
  -- before the first place
  pub divided-none : Divided counts g counts 0
  divided-none = record { size = refl; done = λ i m. absurd (omega arith); ahead = λ i m. refl }

  module _ (unit : List ℕ) (j : ℕ) (h : Divided counts g unit j) where
    -- one place more
    pub divided-more : j < length unit → Divided counts g (set unit j (get_or unit j 0 / g)) (j + 1)
    divided-more b = record {
      size = length-set unit j (get_or unit j 0 / g) ∙ h.size;
      done = λ i m.
          ⊎_elim (λ (q : i < j). get_or-set_other unit j i (get_or unit j 0 / g) 0 (λ r. omega arith) ∙ h.done i q)
          (λ (q : j ≤ i).
          let r : i ≡ j = omega arith in
          rw r (get_or-set_same unit j (get_or unit j 0 / g) 0 b ∙ ap (λ (x : ℕ). x / g) (h.ahead j (omega arith)))) (below_or_not i j);
      ahead = λ i m. get_or-set_other unit j i (get_or unit j 0 / g) 0 (λ r. omega arith) ∙ h.ahead i (omega arith);
    }

    -- all places
    pub divided-all : length counts ≤ j → unit ≡ divided counts g
    unfolding divided
    divided-all l =
        ext_get_or 0 unit (divided counts g) (h.size ∙ sym (length-map counts (λ (x : ℕ). x / g)))
        (λ i m.
        let e : get_or (divided counts g) i (0 / g) ≡ get_or counts i 0 / g = get_or-map (λ (x : ℕ). x / g) counts i 0 in
        h.done i (omega (arith, h.size)) ∙ sym (rw (zero-div g) at e))
