-- A period that divides the word's length and is smaller is full exactly where all blocks have the first one's vector: head and tail are empty then.
use mathlib.Core.Path.{◌≡◌, sym, ap, ◌∙◌}
use mathlib.Core.Bool.{false}
use mathlib.Core.Logic.{◌↔◌}
use mathlib.Core.List.Memᴰ
use mathlib.Core.List.{List, [], Memᴰ}
use Prim.Native.Nat.{ℕ, zero, suc, ◌+◌, ◌-◌, ◌*◌, ◌/◌, ◌%◌, ◌≤◌, ◌<◌, ◌∣◌}
use native.Mathlib.Nat.{zero-add, zero-mul, suc-mul, div-mul_cancel, mul-le-mul_right, lt_of_mul-lt-mul_right, le-div_iff_mul-le, mod-eq-zero_of_dvd, le_of_dvd, pos_of_dvd_of_pos, dvd-sub, dvd_refl}
use native.Mathlib.Omega.{arith}
use lib.ListN.{length, take, drop_of_length-le}
use lib.Dec.{T}
use Rattle.abelian.specs.Lists.{up_from}
use Rattle.abelian.specs.Words.{of_letters, count, vector, contained, part}
use Rattle.abelian.specs.Periods.{pair, head_of, block, whole_blocks, tail_of, is_period}
use Rattle.abelian.specs.FullPeriods.{proper_divisor, is_full, full_periods}
use Rattle.abelian.proofs.Tests.{is_false, both, left, right}
use Rattle.abelian.proofs.Lists.{mem-keep, keep-mem, up_from-mem}
use Rattle.abelian.proofs.Counts.{inside_letters, letters-part, counts_none_above, shorter_contained}
use Rattle.abelian.proofs.Pairs.{InRange}
use Rattle.abelian.proofs.Definition1.{Conditions, Alike, period_conditions, conditions_period, block-length}
use Rattle.full_periods.proofs.Divisors.{proper_dvd, proper_below, dvd_proper}

-- the empty stretch is contained in every other
pub empty_contained : (v : List ℕ) → T (of_letters v) → 1 ≤ length v → T (contained (vector []) (vector v))
unfolding count
empty_contained v t l =
    shorter_contained [] v (inside_letters [] (λ x m. absurd (Memᴰ.not-nil m))) t (counts_none_above [] v (λ c m. omega arith)) (omega arith)

-- a multiple of p below another has room for p more
pub next_multiple : (p n : ℕ) → p ∣ n → (i : ℕ) → i * p < n → i * p + p ≤ n
next_multiple p n d i l =
    let e : n / p * p ≡ n = div-mul_cancel p d in
    let s : i < n / p = lt_of_mul-lt-mul_right p (rw e l) in
    let r : suc i * p ≤ n / p * p = mul-le-mul_right p s in
    omega (arith, suc-mul i p)

-- the blocks of a divisor have all letters
whole_blocks_lem : (p n : ℕ) → whole_blocks n (pair 0 p) ≡ n / p
unfolding whole_blocks
whole_blocks_lem p n = let z : n - 0 ≡ n = omega arith in ap (λ (k : ℕ). k / p) z

pub whole_all : (p n : ℕ) → p ∣ n → whole_blocks n (pair 0 p) * p ≡ n
whole_all p n d = ap (λ (k : ℕ). k * p) (whole_blocks_lem p n) ∙ div-mul_cancel p d

module _ (w : List ℕ) (p : ℕ) where
  -- block number i + 1 begins after i * p letters
  block-part : (i : ℕ) → block w (pair 0 p) (suc i) ≡ part w (i * p) p
  unfolding block
  block-part i =
      let e : suc i - 1 ≡ i = omega arith in
      rw (e, zero-add (i * p))

  block_first : block w (pair 0 p) 1 ≡ take p w
  block_first = block-part 0 ∙ ap (λ (k : ℕ). part w k p) (zero-mul p)

  -- behind the blocks of a divisor no letter is left
  pub divisor_tail : p ∣ length w → tail_of w (pair 0 p) ≡ []
  unfolding tail_of
  divisor_tail d = let h : length w ≤ 0 + whole_blocks (length w) (pair 0 p) * p = omega (arith, whole_all p (length w) d) in drop_of_length-le w h

  -- a full period divides the length and is smaller
  full_proper : T (is_full w p) → T (proper_divisor p (length w))
  unfolding is_full
  full_proper t = left (proper_divisor p (length w)) (is_period w (pair 0 p)) t

  pub full_divides : T (is_full w p) → p ∣ length w
  full_divides t = proper_dvd p (length w) (full_proper t)

  pub full_below : T (is_full w p) → p < length w
  full_below t = proper_below p (length w) (full_proper t)

  -- and is an Abelian period with head 0
  full_period : T (is_full w p) → T (is_period w (pair 0 p))
  unfolding is_full
  full_period t = right (proper_divisor p (length w)) (is_period w (pair 0 p)) t

  pub full_conditions : T (is_full w p) → Conditions w (pair 0 p)
  full_conditions t = period_conditions w (pair 0 p) (full_period t)

  -- so it is not 0
  pub full_positive : T (is_full w p) → 1 ≤ p
  full_positive t = (full_conditions t).range.positive

  -- every block of p letters, from the first on, has the first one's vector
  abbrev pub BlocksAlike : Type 0
  BlocksAlike = (i : ℕ) → i * p < length w → vector (part w (i * p) p) ≡ vector (take p w)

  -- those of a full period have it
  pub full_alike : T (is_full w p) → BlocksAlike
  full_alike t i l =
      let c : Conditions w (pair 0 p) = full_conditions t in
      let s : suc i ≤ length w / p = (le-div_iff_mul-le c.range.positive).1 (omega (arith, suc-mul i p, next_multiple p (length w) (full_divides t) i l)) in
      ap vector (sym (block-part i)) ∙ c.alike (suc i) (omega arith) (omega (arith, whole_blocks_lem p (length w))) ∙ ap vector block_first

  -- and where they have, a divisor of the length is an Abelian period with head 0
  alike_period : T (of_letters w) → 0 < length w → p ∣ length w → BlocksAlike → T (is_period w (pair 0 p))
  unfolding block head_of
  alike_period t some d alike =
      conditions_period w (pair 0 p)
      (record {
        range = r;
        head_contained = none;
        alike = same;
        tail_contained = rw (divisor_tail d) none;
      })
    where
      l : 1 ≤ p
      l = pos_of_dvd_of_pos d some

      r : InRange (length w) (pair 0 p)
      r = record { positive = l; below = l; fits = omega (arith, le_of_dvd some d) }

      none : T (contained (vector []) (vector (block w (pair 0 p) 1)))
      none = empty_contained (block w (pair 0 p) 1) (letters-part w (0 + (1 - 1) * p) p t) (omega (arith, l, block-length w (pair 0 p) r))

      same : Alike w (pair 0 p)
      same zero a b = absurd (omega arith)
      same (suc i) a b =
          let s : suc i * p ≤ length w = (le-div_iff_mul-le l).0 (omega (arith, whole_blocks_lem p (length w))) in
          ap vector (block-part i) ∙ alike i (omega (arith, l, suc-mul i p)) ∙ ap vector (sym block_first)

  -- and a smaller one a full period
  pub alike_full : T (of_letters w) → p ∣ length w → p < length w → BlocksAlike → T (is_full w p)
  unfolding is_full
  alike_full t d l alike = both (proper_divisor p (length w)) (is_period w (pair 0 p)) (dvd_proper p (length w) d l) (alike_period t (omega arith) d alike)

  -- 0 is no full period, nor is a number that does not divide n, nor one above n / 2
  pub zero_not_full : p ≡ 0 → is_full w p ≡ false
  zero_not_full e = is_false (is_full w p) (λ t. let h : 1 ≤ p = full_positive t in omega arith)

  pub indivisible_not_full : (length w % p ≡ 0 → ⊥) → is_full w p ≡ false
  indivisible_not_full n = is_false (is_full w p) (λ t. n (mod-eq-zero_of_dvd p (full_divides t)))

  pub above_half_not_full : length w < p + p → is_full w p ≡ false
  above_half_not_full l =
      is_false (is_full w p) (λ t.
      let b : p < length w = full_below t in
      let d : p ≤ length w - p = le_of_dvd (omega arith) (dvd-sub p (full_divides t) (dvd_refl p)) in
      omega arith)

  -- a number is in the list of full periods exactly where it is one
  pub full_listed : Memᴰ p (full_periods w) ↔ T (is_full w p)
  unfolding full_periods
  full_listed = (
    λ m. (mem-keep (is_full w) (up_from 1 (length w)) m).1,
    λ t. keep-mem (is_full w) (up_from 1 (length w)) (up_from-mem 1 (length w) p (full_positive t) (let h : p < length w = full_below t in omega arith)) t,
  )

-- n is none, and remains the period of an Abelian period with head 0
pub whole_not_full : (w : List ℕ) → is_full w (length w) ≡ false
whole_not_full w = is_false (is_full w (length w)) (λ t. let b : length w < length w = full_below w (length w) t in omega arith)

pub whole_period : (w : List ℕ) → T (of_letters w) → 0 < length w → T (is_period w (pair 0 (length w)))
whole_period w t some = alike_period w (length w) t some (dvd_refl (length w)) alike
  where
    alike : BlocksAlike w (length w)
    alike zero l = ap (λ (k : ℕ). vector (part w k (length w))) (zero-mul (length w))
    alike (suc i) l = absurd (omega (arith, suc-mul i (length w)))
