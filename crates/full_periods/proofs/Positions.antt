-- The scaled positions of a word and their distances: Observation 4 of document 002, the tables by which the scaled path finds the full
-- periods, and the empty word.
use mathlib.Core.Path.{◌≡◌, refl, sym, ap, subst, ◌∙◌}
use mathlib.Core.Bool.{Bool, true, false, ◌&&◌}
use mathlib.Core.Logic.{⊎_elim}
use mathlib.Core.List.{List, [], ◌∷◌, Memᴰ}
use Prim.Native.Nat.{ℕ, zero, suc, ◌+◌, ◌*◌, ◌/◌, ◌≤◌, ◌<◌, ◌∣◌}
use native.Mathlib.Nat.{zero-mul, mul-zero, one-mul, suc-mul, mul-div_cancel, mul-div-le, div-mul_cancel, div-mul-le_self, lt-div-mul-add, le-div_iff_mul-le, mul-le-mul_right, lt_of_mul-lt-mul_right, le_of_dvd, pos_of_dvd_of_pos, dvd-zero, dvd-mul_left, zero-div, div-zero}
use native.Mathlib.Omega.{arith}
use lib.ListN.{length, take, get_or, get_or-map}
use lib.Dec.{T, eqb, leb}
use borrow.Author.Tests.{le-leb, lt-leb}
use Rattle.abelian.specs.Lists.{up_from, keep, all, largest}
use Rattle.abelian.specs.Words.{alphabet_size, first_letter, longest, letters, of_letters, count, vector}
use Rattle.abelian.specs.FullPeriods.{divides, is_full, count_divisor, scale, is_scaled, scaled_positions, distances, scaled_gap}
use Rattle.abelian.proofs.Tests.{is_true, is_false, passes, fails, both, right, decided, iff_equal}
use Rattle.abelian.proofs.Lists.{mem-keep, keep-mem, all-mem, mem-all, mem-up_from, up_from-mem, keep_agree, below_or_not}
use Rattle.words.proofs.Vectors.{vector_at, places-letters, place_letter}
use Rattle.full_periods.specs.Marks.{Steps, is_marked, marked, marks_multiples, scaled_marks}
use Rattle.full_periods.specs.Divisors.{divided, unit_counts, is_multiple}
use Rattle.full_periods.proofs.Tables.{marks-is_marked}
use Rattle.full_periods.proofs.Divisors.{dvd-divides}
use Rattle.full_periods.proofs.Blocks.{next_multiple, full_divides, full_positive}
use Rattle.full_periods.proofs.Lemma3.{scale_positive, scale-divides, scaled_divides, proportional_scaled, end_scaled, full_multiples_scaled, multiples_scaled_full}

-- k is a scaled position of the word
abbrev pub is_position : List ℕ → ℕ → Bool
is_position w k = leb k (length w) && is_scaled w k

pub within_position : (w : List ℕ) (k : ℕ) → k ≤ length w → is_position w k ≡ is_scaled w k
within_position w k l = ap (λ (b : Bool). b && is_scaled w k) (le-leb k (length w) l)

pub behind_no_position : (w : List ℕ) (k : ℕ) → length w < k → is_position w k ≡ false
behind_no_position w k l = ap (λ (b : Bool). b && is_scaled w k) (lt-leb k (length w) l)

-- ---- distances

-- a list has no distance above p where behind each number below n that passes another passes within p
module _ (f : ℕ → Bool) (p n : ℕ) (near : (y : ℕ) → y < n → T (f y) → (b : ℕ) × (y < b) × (b ≤ y + p) × T (f b)) where
  distances-le : (m a x : ℕ) → x < a → a + m ≡ suc n → T (f x) → ((k : ℕ) → x < k → k < a → T (f k) → ⊥) → largest (distances x (keep f (up_from a m))) ≤ p
  unfolding distances
  distances-le zero a x l e t none = omega arith
  distances-le (suc m) a x l e t none =
      ⊎_elim
      (λ (y : f a ≡ true).
      let r : (b : ℕ) × (x < b) × (b ≤ x + p) × T (f b) = near x (omega arith) t in
      let h : a ≤ r.0 = ⊎_elim (λ q. absurd (none r.0 r.1 q r.3)) (λ q. q) (below_or_not r.0 a) in
      let i : largest (distances a (keep f (up_from (suc a) m))) ≤ p = distances-le m (suc a) a (omega arith) (omega arith) (passes (f a) y) (λ k u v. absurd (omega arith)) in
      let g : a ≤ x + p = omega (arith, r.2) in
      rw y (omega arith))
      (λ (y : f a ≡ false).
      rw y (distances-le m (suc a) x (omega arith) (omega arith) t (λ k u v s.
      ⊎_elim (λ q. none k u q s) (λ q. let z : k ≡ a = omega arith in fails (f a) y (subst (λ (j : ℕ). T (f j)) z s)) (below_or_not k a))))
      (decided (f a))

-- and one at least s where its numbers, of which there is one, are at least s
first_distance : (s : ℕ) (xs : List ℕ) {x : ℕ} → Memᴰ x xs → ((y : ℕ) → Memᴰ y xs → s ≤ y) → s ≤ largest (distances 0 xs)
unfolding distances
first_distance s [] m h = absurd (mathlib.Core.List.Memᴰ.not-nil m)
first_distance s (y ∷ ys) m h = let l : s ≤ y = h y (mathlib.Core.List.Memᴰ.head refl) in omega arith

module _ (w : List ℕ) (t : T (of_letters w)) (some : 0 < length w) where
  -- position 0 is scaled
  pub start_scaled : T (is_scaled w 0)
  unfolding count
  start_scaled = proportional_scaled w t some 0 (dvd-zero (scale w)) (λ c m. mul-zero (length w) ∙ sym (zero-mul (count c w)))

  -- the scaled positions but 0
  abbrev pub later : List ℕ
  later = keep (is_scaled w) (up_from 1 (length w))

  -- so the distances between neighbours are those of the others from 0 on
  greatest_later : largest (distances 0 (scaled_positions w)) ≡ largest (distances 0 later)
  unfolding scaled_positions distances
  greatest_later = rw (is_true (is_scaled w 0) start_scaled) (omega arith)

  gap_le : (p : ℕ) → ((y : ℕ) → y < length w → T (is_scaled w y) → (b : ℕ) × (y < b) × (b ≤ y + p) × T (is_scaled w b)) → largest (distances 0 later) ≤ p
  gap_le p near = distances-le (is_scaled w) p (length w) near (length w) 1 0 (omega arith) (omega arith) start_scaled (λ k u v. absurd (omega arith))

  -- T is at least 1
  pub gap_positive : 1 ≤ scaled_gap w
  unfolding scaled_gap
  gap_positive =
      let s : 0 < scale w = scale_positive w t some in
      let e : Memᴰ (length w) later = keep-mem (is_scaled w) (up_from 1 (length w)) (up_from-mem 1 (length w) (length w) some (omega arith)) (end_scaled w t some) in
      let l : scale w ≤ largest (distances 0 later) = first_distance (scale w) later e (λ y m.
      let r : Memᴰ y (up_from 1 (length w)) × T (is_scaled w y) = mem-keep (is_scaled w) (up_from 1 (length w)) m in
      let b : (1 ≤ y) × (y < 1 + length w) = mem-up_from 1 (length w) r.0 in
      le_of_dvd b.0 (scaled_divides w t some y r.1)) in
      (le-div_iff_mul-le s).1 (omega (arith, one-mul (scale w), greatest_later))

  -- s times T is at most the greatest distance
  scale_times_gap : scale w * scaled_gap w ≤ largest (distances 0 later)
  unfolding scaled_gap
  scale_times_gap = omega (arith, mul-div-le (largest (distances 0 (scaled_positions w))) (scale w), greatest_later)

  -- so it is at most n
  pub gap_within : scale w * scaled_gap w ≤ length w
  gap_within =
      let h : largest (distances 0 later) ≤ length w = gap_le (length w) (λ y l s. (length w, l, omega arith, end_scaled w t some)) in
      omega (arith, scale_times_gap)

  -- Observation 4: a full period is at least s times T
  pub observation_4 : (p : ℕ) → T (is_full w p) → scale w * scaled_gap w ≤ p
  observation_4 p f =
      let h : largest (distances 0 later) ≤ p = gap_le p (λ y l s.
      let b : y / p * p ≤ y = div-mul-le_self y p in
      let a : y < y / p * p + p = lt-div-mul-add (full_positive w p f) in
      let n : y / p * p + p ≤ length w = next_multiple p (length w) (full_divides w p f) (y / p) (omega arith) in
      let e : suc (y / p) * p ≡ y / p * p + p = suc-mul (y / p) p in
      (suc (y / p) * p, omega arith, omega arith, full_multiples_scaled w t some p f (suc (y / p)) (omega arith))) in
      omega (arith, scale_times_gap)

  -- ---- the tables

  module _ (short : length w ≤ longest) where
    -- up to n the table of the scaled positions marks them
    scaled_marked : (k : ℕ) → k ≤ length w → is_marked (scaled_marks w) k ≡ is_scaled w k
    unfolding scaled_marks
    scaled_marked k l = marks-is_marked (is_position w) k (omega arith) ∙ within_position w k l

    -- it marks multiples of s only
    pub scaled_steps : {step : ℕ} {table : List ℕ} → step ≡ scale w → table ≡ scaled_marks w → Steps step (length w) table
    scaled_steps e f = rw (e, f) record { end = scale-divides w t; multiples = λ k l m. scaled_divides w t some k (subst T (scaled_marked k l) m) }

    -- T by the table
    pub gap_marked : scaled_gap w ≡ largest (distances 0 (marked (length w) (scaled_marks w))) / scale w
    unfolding scaled_gap marked
    gap_marked =
        let e : keep (is_marked (scaled_marks w)) (up_from 1 (length w)) ≡ later = keep_agree (is_marked (scaled_marks w)) (is_scaled w) (up_from 1 (length w))
        (λ k m. let b : (1 ≤ k) × (k < 1 + length w) = mem-up_from 1 (length w) m in scaled_marked k (omega arith)) in
        ap (λ (g : ℕ). g / scale w) (greatest_later ∙ ap (λ (xs : List ℕ). largest (distances 0 xs)) (sym e))

    -- a divisor of n that is smaller and whose multiples are all marked is a full period, and no other
    pub multiples_full : (p : ℕ) → p ∣ length w → p < length w → marks_multiples (scaled_marks w) (length w) p ≡ is_full w p
    unfolding marks_multiples
    multiples_full p d below =
        let f : ℕ → Bool = λ i. is_marked (scaled_marks w) (i * p) in
        iff_equal (all f (up_from 1 (length w / p))) (is_full w p)
        (λ a. multiples_scaled_full w t some p d below (λ i b. scaled_multiple a i b))
        (λ a. mem-all f (up_from 1 (length w / p)) (λ i m.
        let b : (1 ≤ i) × (i < 1 + length w / p) = mem-up_from 1 (length w / p) m in
        let r : i * p ≤ length w = (le-div_iff_mul-le l).0 (omega arith) in
        passes (f i) (scaled_marked (i * p) r ∙ is_true (is_scaled w (i * p)) (full_multiples_scaled w t some p a i r))))
      where
        l : 1 ≤ p
        l = pos_of_dvd_of_pos d some

        scaled_multiple : T (all (λ (i : ℕ). is_marked (scaled_marks w) (i * p)) (up_from 1 (length w / p))) → (i : ℕ) → i * p ≤ length w → T (is_scaled w (i * p))
        scaled_multiple a zero b = subst (λ (k : ℕ). T (is_scaled w k)) (sym (zero-mul p)) start_scaled
        scaled_multiple a (suc i) b =
            let q : suc i ≤ length w / p = (le-div_iff_mul-le l).1 b in
            subst T (scaled_marked (suc i * p) b) (all-mem (λ (j : ℕ). is_marked (scaled_marks w) (j * p)) (up_from 1 (length w / p)) a (up_from-mem 1 (length w / p) (suc i) (omega arith) (omega arith)))

  -- ---- the running counts

  -- an entry of the unit is the letter's count divided by g
  unit_at : (j : ℕ) → j < alphabet_size → get_or (unit_counts w) j 0 ≡ count (first_letter + j) w / count_divisor w
  unfolding unit_counts divided
  unit_at j b =
      let e : get_or (unit_counts w) j (0 / count_divisor w) ≡ get_or (vector w) j 0 / count_divisor w = get_or-map (λ (x : ℕ). x / count_divisor w) (vector w) j 0 in
      ap (λ (z : ℕ). get_or (unit_counts w) j z) (sym (zero-div (count_divisor w))) ∙ e ∙ ap (λ (x : ℕ). x / count_divisor w) (vector_at w j b)

  -- at a multiple of s the counts are compared with so many times the unit
  pub multiple_scaled : (k times : ℕ) → k ≡ times * scale w → is_multiple (vector (take k w)) times (unit_counts w) ≡ is_scaled w k
  unfolding is_multiple is_scaled
  multiple_scaled k times e =
      let s : 0 < scale w = scale_positive w t some in
      let q : k / scale w ≡ times = ap (λ (a : ℕ). a / scale w) e ∙ mul-div_cancel times s in
      let f : ℕ → Bool = λ j. eqb (get_or (vector (take k w)) j 0) (times * get_or (unit_counts w) j 0) in
      let g : ℕ → Bool = λ c. eqb (count c (take k w)) (k / scale w * (count c w / count_divisor w)) in
      let same : (j : ℕ) → j < alphabet_size → f j ≡ g (first_letter + j) = λ j b. rw (vector_at (take k w) j b, unit_at j b, q) refl in
      iff_equal (all f (up_from 0 alphabet_size)) (divides (scale w) k && all g letters)
      (λ a. both (divides (scale w) k) (all g letters) (dvd-divides (scale w) k (subst (λ (n : ℕ). scale w ∣ n) (sym e) (dvd-mul_left (scale w) times)))
      (mem-all g letters (places-letters (λ (c : ℕ). T (g c)) (λ j b. subst T (same j b) (all-mem f (up_from 0 alphabet_size) a (up_from-mem 0 alphabet_size j (omega arith) (omega arith)))))))
      (λ a. mem-all f (up_from 0 alphabet_size) (λ j m.
      let b : (0 ≤ j) × (j < 0 + alphabet_size) = mem-up_from 0 alphabet_size m in
      let l : j < alphabet_size = omega arith in
      subst T (sym (same j l)) (all-mem g letters (right (divides (scale w) k) (all g letters) a) (place_letter j l))))

  -- between two multiples of s no position is scaled
  pub between_not_scaled : (k times : ℕ) → k < times * scale w → times * scale w < k + scale w → is_scaled w k ≡ false
  between_not_scaled k times a b =
      is_false (is_scaled w k) (λ f.
      let e : k / scale w * scale w ≡ k = div-mul_cancel (scale w) (scaled_divides w t some k f) in
      let l : k / scale w < times = lt_of_mul-lt-mul_right (scale w) (omega arith) in
      let r : suc (k / scale w) * scale w ≤ times * scale w = mul-le-mul_right (scale w) l in
      omega (arith, suc-mul (k / scale w) (scale w)))

-- ---- the empty word

-- s and T of the empty word are 0
pub empty_scale : (w : List ℕ) → length w ≡ 0 → scale w ≡ 0
unfolding scale
empty_scale w e = ap (λ (n : ℕ). n / count_divisor w) e ∙ zero-div (count_divisor w)

pub empty_gap : (w : List ℕ) → length w ≡ 0 → scaled_gap w ≡ 0
unfolding scaled_gap
empty_gap w e = ap (λ (s : ℕ). largest (distances 0 (scaled_positions w)) / s) (empty_scale w e) ∙ div-zero (largest (distances 0 (scaled_positions w)))
