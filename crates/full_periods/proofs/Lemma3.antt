-- Document 002: the greatest common divisor of the letter counts, scaled positions, Lemma 3 and Observation 1, for words of letters.
use mathlib.Core.Path.{◌≡◌, refl, sym, ap, subst, ◌∙◌}
use mathlib.Core.Bool.{Bool}
use mathlib.Core.Logic.{⊎_elim, ◌↔◌}
use mathlib.Core.List.{List, [], ◌∷◌, Memᴰ}
use Prim.Native.Nat.{ℕ, zero, suc, ◌+◌, ◌*◌, ◌/◌, ◌≤◌, ◌<◌, ◌∣◌}
use native.Mathlib.Nat.{zero-mul, one-mul, suc-mul, add-mul, mul-add, mul_comm, mul-mul-mul_comm, eq_of_mul-eq-mul_left, eq-zero_of_zero-dvd, pos_of_dvd_of_pos, dvd_refl, dvd-zero, dvd-add, dvd-mul_left_of_dvd, dvd-mul_right, mul-dvd-mul_right, dvd_of_mul-dvd-mul_left, mul-div_cancel', div-mul_cancel, le_of_dvd, eq-zero-or-pos}
use native.Mathlib.Omega.{arith}
use lib.ListN.{length, take}
use lib.Seq.{take-length}
use lib.Dec.{T, eqb, eqb→eq}
use borrow.Author.Tests.{eq-eqb}
use Rattle.abelian.specs.Lists.{up_from, sum, keep, all, largest}
use Rattle.abelian.specs.Words.{letters, of_letters, count, vector, part}
use Rattle.abelian.specs.FullPeriods.{divides, is_full, count_divisor, scale, is_scaled}
use Rattle.abelian.proofs.Tests.{passes, both, left, right}
use Rattle.abelian.proofs.Lists.{mem-keep, keep-mem, all-mem, mem-all, up_from-mem, le-largest, largest-le}
use Rattle.abelian.proofs.Counts.{sum-vector, count-part, vector_counts, counts_vector}
use Rattle.full_periods.specs.Divisors.{GreatestDivisor}
use Rattle.full_periods.proofs.Divisors.{divides-dvd, dvd-divides, greatest_exists}
use Rattle.full_periods.proofs.Blocks.{next_multiple, full_divides, full_positive, full_alike, alike_full}

-- what divides every number of a list divides their sum
dvd-sum : (d : ℕ) (xs : List ℕ) → ((x : ℕ) → Memᴰ x xs → d ∣ x) → d ∣ sum xs
dvd-sum d [] h = dvd-zero d
dvd-sum d (x ∷ xs) h = dvd-add d (h x (mathlib.Core.List.Memᴰ.head refl)) (dvd-sum d xs (λ y m. h y (mathlib.Core.List.Memᴰ.tail m)))

-- ---- the greatest common divisor of the letter counts

-- of the empty word it is 0
pub empty_divisor : (w : List ℕ) → length w ≡ 0 → count_divisor w ≡ 0
unfolding count_divisor
empty_divisor w e = ap (λ (n : ℕ). largest (keep (λ (d : ℕ). all (divides d) (vector w)) (up_from 1 n))) e

module _ (w : List ℕ) (t : T (of_letters w)) where
  -- a common divisor of the counts divides the length
  common_length : {g : ℕ} → GreatestDivisor (vector w) g → g ∣ length w
  common_length {g} h = subst (λ (n : ℕ). g ∣ n) (sum-vector w t) (dvd-sum g (vector w) h.common)

  -- what Euclid's algorithm gives for the counts is g
  pub greatest_count_divisor : {g : ℕ} → GreatestDivisor (vector w) g → g ≡ count_divisor w
  unfolding count_divisor
  greatest_count_divisor {g} h =
      let f : ℕ → Bool = λ d. all (divides d) (vector w) in
      let xs : List ℕ = keep f (up_from 1 (length w)) in
      ⊎_elim
      (λ (e : length w ≡ 0).
      let z : g ≡ 0 = eq-zero_of_zero-dvd (h.greatest 0 (λ x m. subst (λ (i : ℕ). 0 ∣ i) (sym (entry_zero e x m)) (dvd_refl 0))) in
      z ∙ ap (λ (n : ℕ). largest (keep f (up_from 1 n))) (sym e))
      (λ (l : 0 < length w).
      let d : g ∣ length w = common_length h in
      let p : 0 < g = pos_of_dvd_of_pos d l in
      let b : g ≤ length w = le_of_dvd l d in
      let m : Memᴰ g xs = keep-mem f (up_from 1 (length w)) (up_from-mem 1 (length w) g p (omega arith)) (mem-all (divides g) (vector w) (λ x i. dvd-divides g x (h.common x i))) in
      let a : g ≤ largest xs = le-largest xs m in
      let c : largest xs ≤ g = largest-le xs g (λ x i. le_of_dvd p (h.greatest x (λ y j. divides-dvd x y (all-mem (divides x) (vector w) (mem-keep f (up_from 1 (length w)) i).1 j)))) in
      omega arith)
      (eq-zero-or-pos (length w))
    where
      entry_zero : length w ≡ 0 → (x : ℕ) → Memᴰ x (vector w) → x ≡ 0
      entry_zero e x m = let l : x ≤ sum (vector w) = le-sum (vector w) x m in omega (arith, sum-vector w t)
        where
          le-sum : (ys : List ℕ) (y : ℕ) → Memᴰ y ys → y ≤ sum ys
          le-sum [] y i = absurd (mathlib.Core.List.Memᴰ.not-nil i)
          le-sum (z ∷ ys) y i = ⊎_elim (λ (q : y ≡ z). omega arith) (λ j. let k : y ≤ sum ys = le-sum ys y j in omega arith) (mathlib.Core.List.Memᴰ.cases_cons i)

  -- so g is the greatest common divisor of the counts
  pub count_divisor_greatest : GreatestDivisor (vector w) (count_divisor w)
  count_divisor_greatest = subst (GreatestDivisor (vector w)) (greatest_count_divisor (greatest_exists (vector w)).1) (greatest_exists (vector w)).1

  -- g times s is n
  pub divisor_times_scale : count_divisor w * scale w ≡ length w
  unfolding scale
  divisor_times_scale = mul-div_cancel' (count_divisor w) (common_length count_divisor_greatest)

  -- s divides n
  pub scale-divides : scale w ∣ length w
  scale-divides = subst (λ (n : ℕ). scale w ∣ n) (mul_comm (scale w) (count_divisor w) ∙ divisor_times_scale) (dvd-mul_right (scale w) (count_divisor w))

  -- g divides each letter's count
  pub divisor_divides : (c : ℕ) → Memᴰ c letters → count_divisor w ∣ count c w
  unfolding vector
  divisor_divides c m = count_divisor_greatest.common (count c w) (mathlib.Core.List.Memᴰ.map (λ (a : ℕ). count a w) m)

  module _ (some : 0 < length w) where
    -- in a word that is not empty neither is 0
    pub divisor_positive : 0 < count_divisor w
    divisor_positive = pos_of_dvd_of_pos (common_length count_divisor_greatest) some

    pub scale_positive : 0 < scale w
    scale_positive = pos_of_dvd_of_pos scale-divides some

    -- ---- scaled positions

    -- n times what a scaled position asks of a letter's count is k times the letter's count in the word
    unit_times : (k c : ℕ) → scale w ∣ k → Memᴰ c letters → length w * (k / scale w * (count c w / count_divisor w)) ≡ k * count c w
    unit_times k c d m =
        ap (λ (n : ℕ). n * (k / scale w * (count c w / count_divisor w))) (sym divisor_times_scale ∙ mul_comm (count_divisor w) (scale w))
        ∙ mul-mul-mul_comm (scale w) (count_divisor w) (k / scale w) (count c w / count_divisor w)
        ∙ ap (λ (a : ℕ). a * (count_divisor w * (count c w / count_divisor w))) (mul-div_cancel' (scale w) d)
        ∙ ap (λ (a : ℕ). k * a) (mul-div_cancel' (count_divisor w) (divisor_divides c m))

    abbrev asks : ℕ → ℕ → Bool
    asks k c = eqb (count c (take k w)) (k / scale w * (count c w / count_divisor w))

    pub scaled_divides : (k : ℕ) → T (is_scaled w k) → scale w ∣ k
    unfolding is_scaled
    scaled_divides k p = divides-dvd (scale w) k (left (divides (scale w) k) (all (asks k) letters) p)

    -- k is scaled exactly where s divides it and each letter's count in the first k letters is to its count in the word as k is to n
    pub scaled_proportional : (k : ℕ) → T (is_scaled w k) → (c : ℕ) → Memᴰ c letters → length w * count c (take k w) ≡ k * count c w
    unfolding is_scaled
    scaled_proportional k p c m =
        ap (λ (a : ℕ). length w * a) (eqb→eq (count c (take k w)) (k / scale w * (count c w / count_divisor w)) (all-mem (asks k) letters (right (divides (scale w) k) (all (asks k) letters) p) m))
        ∙ unit_times k c (scaled_divides k p) m

    pub proportional_scaled : (k : ℕ) → scale w ∣ k → ((c : ℕ) → Memᴰ c letters → length w * count c (take k w) ≡ k * count c w) → T (is_scaled w k)
    unfolding is_scaled
    proportional_scaled k d h =
        both (divides (scale w) k) (all (asks k) letters) (dvd-divides (scale w) k d)
        (mem-all (asks k) letters (λ c m.
        passes (asks k c) (eq-eqb (count c (take k w)) (k / scale w * (count c w / count_divisor w))
        (eq_of_mul-eq-mul_left (length w) some (count c (take k w)) (k / scale w * (count c w / count_divisor w)) (h c m ∙ sym (unit_times k c d m))))))

    -- the word's end is scaled
    pub end_scaled : T (is_scaled w (length w))
    end_scaled = proportional_scaled (length w) scale-divides (λ c m. ap (λ (u : List ℕ). length w * count c u) (take-length w))

    -- ---- Lemma 3

    module _ (p : ℕ) where
      -- the letters of the first i blocks of a full period are i times those of the first
      blocks_count : T (is_full w p) → (i c : ℕ) → i * p ≤ length w → Memᴰ c letters → count c (take (i * p) w) ≡ i * count c (take p w)
      unfolding count
      blocks_count f zero c l m = ap (λ (k : ℕ). count c (take k w)) (zero-mul p) ∙ sym (zero-mul (count c (take p w)))
      blocks_count f (suc i) c l m =
          let e : suc i * p ≡ i * p + p = suc-mul i p in
          let b : i * p < length w = omega (arith, full_positive w p f) in
          let h : count c (take (i * p) w) ≡ i * count c (take p w) = blocks_count f i c (omega arith) m in
          let q : count c (part w (i * p) p) ≡ count c (take p w) = vector_counts (part w (i * p) p) (take p w) (full_alike w p f i b) c m in
          let s : count c (take (i * p + p) w) ≡ count c (take (i * p) w) + count c (part w (i * p) p) = count-part c (i * p) p w in
          ap (λ (k : ℕ). count c (take k w)) e ∙ (omega (arith, suc-mul i (count c (take p w))))

      -- so n / p times those of the first block are the word's
      full_count_lem : T (is_full w p) → (c : ℕ) → Memᴰ c letters → count c w ≡ length w / p * count c (take p w)
      full_count_lem f c m =
          let e : length w / p * p ≡ length w = div-mul_cancel p (full_divides w p f) in
          ap (count c) (sym (take-length w)) ∙ ap (λ (k : ℕ). count c (take k w)) (sym e) ∙ blocks_count f (length w / p) c (omega arith) m

      -- Lemma 3, first step: k = n / p divides every letter's count
      pub full_divides_counts : T (is_full w p) → (c : ℕ) → Memᴰ c letters → length w / p ∣ count c w
      full_divides_counts f c m = subst (λ (a : ℕ). length w / p ∣ a) (sym (full_count_lem f c m)) (dvd-mul_right (length w / p) (count c (take p w)))

      -- Observation 1: a full period is a multiple of s, so that s is the smallest possible one
      pub observation_1 : T (is_full w p) → scale w ∣ p
      unfolding vector
      observation_1 f =
          let q : ℕ = length w / p in
          let e : q * p ≡ length w = div-mul_cancel p (full_divides w p f) in
          let g : q ∣ count_divisor w = count_divisor_greatest.greatest q (λ x m.
          let r : (c : ℕ) × Memᴰ c letters × (count c w ≡ x) = mathlib.Core.List.Memᴰ.of_map (λ (a : ℕ). count a w) letters m in
          subst (λ (a : ℕ). q ∣ a) r.2 (full_divides_counts f r.0 r.1)) in
          let s : q * scale w ∣ q * p = subst (λ (a : ℕ). q * scale w ∣ a) (divisor_times_scale ∙ sym e) (mul-dvd-mul_right q g (scale w)) in
          dvd_of_mul-dvd-mul_left (scale w) (positive q e) s
        where
          positive : (q : ℕ) → q * p ≡ length w → 0 < q
          positive zero e = absurd (omega (arith, zero-mul p))
          positive (suc q) e = omega arith

      pub observation_1_smallest : T (is_full w p) → scale w ≤ p
      observation_1_smallest f = le_of_dvd (full_positive w p f) (observation_1 f)

      -- every multiple of a full period is a scaled position
      pub full_multiples_scaled : T (is_full w p) → (i : ℕ) → i * p ≤ length w → T (is_scaled w (i * p))
      full_multiples_scaled f i l =
          proportional_scaled (i * p) (dvd-mul_left_of_dvd (scale w) (observation_1 f) i)
          (λ c m.
          let x : ℕ = count c (take p w) in
          let q : ℕ = length w / p in
          let e : q * p ≡ length w = div-mul_cancel p (full_divides w p f) in
          ap (λ (a : ℕ). length w * a) (blocks_count f i c l m)
          ∙ ap (λ (a : ℕ). a * (i * x)) (sym e ∙ mul_comm q p)
          ∙ mul-mul-mul_comm p q i x
          ∙ ap (λ (a : ℕ). a * (q * x)) (mul_comm p i)
          ∙ ap (λ (a : ℕ). i * p * a) (sym (full_count_lem f c m)))

      -- and back: a divisor of n that is smaller and whose multiples are all scaled is a full period
      pub multiples_scaled_full : p ∣ length w → p < length w → ((i : ℕ) → i * p ≤ length w → T (is_scaled w (i * p))) → T (is_full w p)
      multiples_scaled_full d l h =
          alike_full w p t d l (λ i b.
          counts_vector (part w (i * p) p) (take p w) (λ c m.
          eq_of_mul-eq-mul_left (length w) some (count c (part w (i * p) p)) (count c (take p w)) (block_counts i b c m ∙ sym (first_counts c m))))
        where
          first_counts : (c : ℕ) → Memᴰ c letters → length w * count c (take p w) ≡ p * count c w
          first_counts c m = subst (λ (k : ℕ). length w * count c (take k w) ≡ k * count c w) (one-mul p) (scaled_proportional (1 * p) (h 1 (omega (arith, one-mul p, le_of_dvd some d))) c m)

          block_counts : (i : ℕ) → i * p < length w → (c : ℕ) → Memᴰ c letters → length w * count c (part w (i * p) p) ≡ p * count c w
          block_counts i b c m =
              let r : i * p + p ≤ length w = next_multiple p (length w) d i b in
              let e : suc i * p ≡ i * p + p = suc-mul i p in
              let a : length w * count c (take (i * p) w) ≡ i * p * count c w = scaled_proportional (i * p) (h i (omega arith)) c m in
              let a' : length w * count c (take (i * p + p) w) ≡ (i * p + p) * count c w =
              subst (λ (k : ℕ). length w * count c (take k w) ≡ k * count c w) e (scaled_proportional (suc i * p) (h (suc i) (omega arith)) c m) in
              let s : length w * count c (take (i * p + p) w) ≡ length w * count c (take (i * p) w) + length w * count c (part w (i * p) p) =
              ap (λ (k : ℕ). length w * k) (count-part c (i * p) p w) ∙ mul-add (length w) (count c (take (i * p) w)) (count c (part w (i * p) p)) in
              omega (arith, add-mul (i * p) p (count c w))

      -- Lemma 3: a divisor of n that is smaller is a full period exactly where all its multiples up to n are scaled positions. Of n itself document 002
      -- has the lemma too, and C-18 counts it no more.
      pub lemma_3 : p ∣ length w → p < length w → T (is_full w p) ↔ ((i : ℕ) → i * p ≤ length w → T (is_scaled w (i * p)))
      lemma_3 d l = (full_multiples_scaled, multiples_scaled_full d l)
