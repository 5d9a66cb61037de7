-- Laws of the scaled path: of its two loops, the running counts with the scaled positions up to a letter and the full periods below a multiple of s; and of what the
-- functions on the way give.
use mathlib.Core.Path.{◌≡◌, sym, ap, ap₂, subst, ◌∙◌}
use mathlib.Core.Bool.{Bool, true, false}
use mathlib.Core.Logic.{⊎_elim, ◌≢◌}
use mathlib.Core.List.{List, []}
use Prim.Native.Nat.{ℕ, suc, ◌+◌, ◌-◌, ◌*◌, ◌/◌, ◌%◌, ◌≤◌, ◌<◌, ◌∣◌}
use native.Mathlib.Nat.{zero-mul, div-le_self, eq-zero-or-pos, one-mul, suc-mul, mul-le-mul_right, le-mul_of_pos_right, dvd-add, dvd_refl, dvd-mul_right, dvd-sub, le_of_dvd, dvd_of_mod-eq-zero, mul-pos}
use native.Mathlib.Numerals.{add-one}
use native.Mathlib.Omega.{arith}
use lib.ListN.{length, take, get_or, set, replicate}
use lib.Seq.{get_or-take}
use Rattle.abelian.specs.Words.{alphabet_size, first_letter, longest, vector}
use Rattle.abelian.specs.Lists.{largest}
use Rattle.abelian.specs.FullPeriods.{is_full, count_divisor, scale, is_scaled, distances, scaled_gap}
use Rattle.abelian.proofs.Tests.{is_true, is_false}
use Rattle.words.specs.Prefixes.{IsWord}
use Rattle.words.proofs.Vectors.{letter_at, vector-take-more, entry_le}
use Rattle.full_periods.specs.declared.scaled.ScaledPath.{ScaledPath}
use Rattle.full_periods.specs.Paths.{scaled_path}
use Rattle.full_periods.specs.Marks.{Steps, marked, marks_multiples, full_marks, scaled_marks}
use Rattle.full_periods.specs.Divisors.{GreatestDivisor, divided, unit_counts, is_multiple}
use Rattle.full_periods.proofs.Tables.{Marking, marking_start, marking_mark, marking_pass, marking_skip, marking_end}
use Rattle.full_periods.proofs.Blocks.{full_below, above_half_not_full}
use Rattle.full_periods.proofs.Lemma3.{empty_divisor, greatest_count_divisor, divisor_times_scale, scale_positive, scale-divides, end_scaled, observation_1}
use Rattle.full_periods.proofs.Positions.{is_position, within_position, behind_no_position, start_scaled, multiple_scaled, between_not_scaled, gap_positive, gap_within, observation_4, multiples_full, scaled_steps, gap_marked, empty_scale, empty_gap}

-- an accepted word that is not empty, with its s
pub record Given (w : List ℕ) (s : ℕ) : Type 0 where
  pub word : IsWord w
  pub some : 1 ≤ length w
  pub scale_is : s ≡ scale w

pub given : {w : List ℕ} {s : ℕ} → IsWord w → 1 ≤ s → s ≡ scale w → Given w s
unfolding scale
given {w} word positive scale_is = record { word = word; some = omega (arith, div-le_self (length w) (count_divisor w)); scale_is = scale_is }

module _ {w : List ℕ} {s : ℕ} (g : Given w s) where
  pub step_positive : 0 < s
  step_positive = omega (arith, g.scale_is, scale_positive w g.word.all g.some)

  pub step_small : s ≤ length w
  step_small = omega (arith, g.scale_is, le_of_dvd g.some (scale-divides w g.word.all))

-- ---- the scaled positions

pub record Running (w : List ℕ) (s : ℕ) (marks counts : List ℕ) (times next i : ℕ) : Type 0 where
  pub running : counts ≡ vector (take i w)
  pub table : Marking (is_position w) marks (i + 1)
  pub from : 1 ≤ times
  pub multiple : next ≡ times * s
  pub ahead : i < next
  pub near : next ≤ i + s

module _ {w : List ℕ} {s : ℕ} (g : Given w s) where
  -- before the first letter
  pub running_start : {marks counts : List ℕ} → Marking (is_position w) marks 0 → counts ≡ vector [] → Running w s (set marks 0 1) counts 1 s 0
  running_start {marks} m e = record {
    running = e;
    table = marking_mark (is_position w) marks 0 m (omega arith) (within_position w 0 (omega arith) ∙ is_true (is_scaled w 0) (start_scaled w g.word.all g.some));
    from = omega arith;
    multiple = sym (one-mul s);
    ahead = step_positive g;
    near = omega arith;
  }

  -- of the last s positions the word's end alone is scaled
  pub running_end : {marks counts : List ℕ} {times next i : ℕ} → Running w s marks counts times next i → length w - s ≤ i → i ≤ length w - s → set marks (length w) 1 ≡ scaled_marks w
  unfolding scaled_marks
  running_end {marks} {counts} {times} {next} {i} h l r =
      let n : ℕ = length w in
      let e : count_divisor w * scale w ≡ n = divisor_times_scale w g.word.all in
      let last : i + s ≡ n = omega (arith, step_small g) in
      marking_end (is_position w) (set marks n 1) (n + 1)
      (marking_mark (is_position w) marks n
      (marking_pass (is_position w) marks (i + 1) h.table n (omega (arith, step_positive g)) (λ k a b.
      within_position w k (omega arith)
      ∙ between_not_scaled w g.word.all g.some k (count_divisor w) (omega arith) (omega (arith, g.scale_is))))
      g.word.short (within_position w n (omega arith) ∙ is_true (is_scaled w n) (end_scaled w g.word.all g.some)))
      (λ k a. behind_no_position w k (omega arith))

module _ {w : List ℕ} {s : ℕ} {marks counts : List ℕ} {times next i : ℕ} (g : Given w s) (h : Running w s marks counts times next i) (l : i < length w - s) where
  inside : i < length w
  inside = omega arith

  -- what is read of the letters before the last s is the word's letter
  pub read_at : {letters : List ℕ} {n : ℕ} → letters ≡ w → n ≡ length w → get_or (take (n - s - 0) letters) i 0 ≡ get_or w i 0
  read_at {letters} {n} e long = let b : i < n - s - 0 = omega arith in rw (e, get_or-take)

  -- it is one of the alphabet, and no count is that of the longest word yet
  pub read_letter : {x : ℕ} → x ≡ get_or w i 0 → (first_letter ≤ x) × (x < first_letter + alphabet_size)
  read_letter e = rw e (letter_at w i g.word.all inside)

  pub counts_small : (j : ℕ) → j < alphabet_size → get_or counts j 0 < longest
  counts_small j b = let e : get_or counts j 0 ≡ get_or (vector (take i w)) j 0 = ap (λ (v : List ℕ). get_or v j 0) h.running in omega (arith, entry_le w i j b, inside, g.word.short)

  -- the counts with the letter that was read
  pub read_more : {x : ℕ} {more : List ℕ} → x ≡ get_or w i 0 → more ≡ set counts (x - first_letter) (get_or counts (x - first_letter) 0 + 1) → more ≡ vector (take (i + 1) w)
  read_more e m =
      let k : ℕ = get_or w i 0 - first_letter in
      rw e at m ∙ ap (λ (v : List ℕ). set v k (get_or v k 0 + 1)) h.running ∙ vector-take-more w i g.word.all inside

  -- a multiple of s is at least as many times s as it says, and at least s
  pub times_small : i + 1 ≡ next → (times ≤ length w) × (s ≤ length w)
  times_small e =
      let a : times ≤ times * s = le-mul_of_pos_right times (step_positive g) in
      let b : 1 * s ≤ times * s = mul-le-mul_right s h.from in
      (omega (arith, h.multiple), omega (arith, h.multiple, one-mul s))

  -- the comparison at a multiple of s says whether it is scaled
  pub compared : (read unit : List ℕ) → read ≡ vector (take (i + 1) w) → unit ≡ unit_counts w → i + 1 ≡ next → is_multiple read times unit ≡ is_scaled w (i + 1)
  compared read unit a b e =
      ap (λ (v : List ℕ). is_multiple v times unit) a ∙ ap (is_multiple (vector (take (i + 1) w)) times) b
      ∙ multiple_scaled w g.word.all g.some (i + 1) times (e ∙ h.multiple ∙ ap (λ (k : ℕ). times * k) g.scale_is)

  -- a scaled position is marked
  pub table_mark : is_scaled w (i + 1) ≡ true → Marking (is_position w) (set marks (i + 1) 1) (i + 1 + 1)
  table_mark e = marking_mark (is_position w) marks (i + 1) h.table (omega (arith, g.word.short)) (within_position w (i + 1) (omega arith) ∙ e)

  -- another is passed over
  pub table_pass : is_scaled w (i + 1) ≡ false → Marking (is_position w) marks (i + 1 + 1)
  table_pass e = marking_skip (is_position w) marks (i + 1) h.table (within_position w (i + 1) (omega arith) ∙ e)

  -- behind a multiple of s the next one is s further
  pub at_multiple : {marked read : List ℕ} → read ≡ vector (take (i + 1) w) → i + 1 ≡ next → Marking (is_position w) marked (i + 1 + 1) → Running w s marked read (times + 1) (next + s) (i + 1)
  at_multiple a e m =
      let p : 0 < s = step_positive g in
      record {
        running = a;
        table = m;
        from = omega arith;
        multiple = ap (λ (k : ℕ). k + s) h.multiple ∙ sym (ap (λ (k : ℕ). k * s) (add-one times) ∙ suc-mul times s);
        ahead = omega arith;
        near = omega arith;
      }

  -- and between two multiples it stays
  pub between : {read : List ℕ} → read ≡ vector (take (i + 1) w) → i + 1 ≢ next → Running w s marks read times next (i + 1)
  between a n =
      let e : next ≡ times * scale w = h.multiple ∙ ap (λ (k : ℕ). times * k) g.scale_is in
      record {
        running = a;
        table = table_pass (between_not_scaled w g.word.all g.some (i + 1) times (omega (arith, h.ahead)) (omega (arith, h.near, g.scale_is)));
        from = h.from;
        multiple = h.multiple;
        ahead = omega (arith, h.ahead);
        near = omega (arith, h.near);
      }

-- ---- the full periods

pub record Marked (w : List ℕ) (s : ℕ) (marks : List ℕ) (p : ℕ) : Type 0 where
  pub step : 1 ≤ s
  pub from : 1 ≤ p
  pub multiple : s ∣ p
  pub table : Marking (is_full w) marks p

module _ {w : List ℕ} {s : ℕ} (g : Given w s) {t : ℕ} (gap_is : t ≡ scaled_gap w) where
  first_is : s * t ≡ scale w * scaled_gap w
  first_is = ap₂ (λ (a b : ℕ). a * b) g.scale_is gap_is

  -- the first period tried is at most n
  pub first_within : s * t ≤ length w
  first_within = omega (arith, first_is, gap_within w g.word.all g.some)

  -- below it there is no full period
  none_below : (k : ℕ) → k < s * t → is_full w k ≡ false
  none_below k l = is_false (is_full w k) (λ f. omega (arith, first_is, observation_4 w g.word.all g.some k f))

  pub marked_start : {table : List ℕ} → Marking (is_full w) table 0 → Marked w s table (s * t)
  marked_start {table} m = record {
    step = step_positive g;
    from = mul-pos (step_positive g) (omega (arith, gap_is, gap_positive w g.word.all g.some));
    multiple = dvd-mul_right s t;
    table = marking_pass (is_full w) table 0 m (s * t) (omega arith) (λ k a b. none_below k b);
  }

module _ {w : List ℕ} {s : ℕ} (g : Given w s) {marks : List ℕ} {p : ℕ} (h : Marked w s marks p) where
  -- between two multiples of s there is none either
  none_between : (k : ℕ) → p < k → k < p + s → is_full w k ≡ false
  none_between k a b =
      is_false (is_full w k) (λ f.
      let e : s ∣ k = subst (λ (j : ℕ). j ∣ k) (sym g.scale_is) (observation_1 w g.word.all g.some k f) in
      let m : s ≤ k - p = le_of_dvd (omega arith) (dvd-sub s e h.multiple) in
      omega arith)

  -- the next multiple of s, once p is marked or not
  marked_next : {table : List ℕ} → Marking (is_full w) table (p + 1) → Marked w s table (p + s)
  marked_next {table} m = record {
    step = h.step;
    from = omega (arith, h.from);
    multiple = dvd-add s h.multiple (dvd_refl s);
    table = marking_pass (is_full w) table (p + 1) m (p + s) (omega (arith, h.step)) (λ k a b. none_between k (omega arith) b);
  }

  -- p is a full period
  pub marked_more : p ≤ length w → is_full w p ≡ true → Marked w s (set marks p 1) (p + s)
  marked_more l e = marked_next (marking_mark (is_full w) marks p h.table (omega (arith, g.word.short)) e)

  -- p is none
  pub marked_same : is_full w p ≡ false → Marked w s marks (p + s)
  marked_same e = marked_next (marking_skip (is_full w) marks p h.table e)

  -- behind the last p that is tried there is none
  pub marked_end : length w < p + p → marks ≡ full_marks w
  unfolding full_marks
  marked_end l = marking_end (is_full w) marks p h.table (λ k a. above_half_not_full w k (omega arith))

  -- what the multiples of a divisor say
  pub tried : {n m : ℕ} {positions : List ℕ} {b : Bool} → n ≡ length w → m ≡ length w → positions ≡ scaled_marks w → p + p ≤ length w → n % p ≡ 0 → b ≡ marks_multiples positions m p → is_full w p ≡ b
  tried {b = b} n m e l d r =
      sym (rw (m, e) at r ∙ multiples_full w g.word.all g.some g.word.short p (dvd_of_mod-eq-zero p (rw n at d)) (omega (arith, h.from)))

-- ---- the path

-- a path is its three parts
pub path_is : {s s' t t' : ℕ} {m m' : List ℕ} → s ≡ s' → t ≡ t' → m ≡ m' → ◌≡◌ {A = ScaledPath} (record { s = s; t = t; marks = m }) (record { s = s'; t = t'; marks = m' })
path_is a b c = cc

module _ {w : List ℕ} (word : IsWord w) {counts : List ℕ} {g : ℕ} (counted : counts ≡ vector w) (d : GreatestDivisor counts g) where
  -- what Euclid's algorithm gave is g
  divisor_is : g ≡ count_divisor w
  divisor_is = greatest_count_divisor w word.all (subst (λ (v : List ℕ). GreatestDivisor v g) counted d)

  -- where it is 0 the word is empty, and has no full period
  pub empty_path : g ≡ 0 → ◌≡◌ {A = ScaledPath} (record { s = 0; t = 0; marks = replicate (suc longest) 0 }) (scaled_path w)
  unfolding full_marks
  empty_path z =
      let y : count_divisor w ≡ 0 = sym divisor_is ∙ z in
      let e : length w ≡ 0 = sym (divisor_times_scale w word.all) ∙ ap (λ (k : ℕ). k * scale w) y ∙ zero-mul (scale w) in
      path_is (sym (empty_scale w e)) (sym (empty_gap w e))
      (marking_end (is_full w) (replicate (suc longest) 0) 0 (marking_start (is_full w))
      (λ k h. is_false (is_full w k) (λ f. let b : k < length w = full_below w k f in omega arith)))

  -- where it is not, n / g is s
  module _ {n : ℕ} (long : n ≡ length w) (not_zero : g ≡ 0 → ⊥) where
    pub path_given : Given w (n / g)
    unfolding scale
    path_given = record {
      word = word;
      some = ⊎_elim (λ (e : length w ≡ 0). absurd (not_zero (divisor_is ∙ empty_divisor w e))) (λ l. l) (eq-zero-or-pos (length w));
      scale_is = ap₂ (λ (a b : ℕ). a / b) long divisor_is;
    }

    pub path_unit : {unit : List ℕ} → unit ≡ divided counts g → unit ≡ unit_counts w
    unfolding unit_counts
    path_unit e = e ∙ ap₂ divided counted divisor_is

    -- T by the table of the scaled positions
    pub path_gap : {positions : List ℕ} {greatest : ℕ} → positions ≡ scaled_marks w → greatest ≡ largest (distances 0 (marked n positions)) → greatest / (n / g) ≡ scaled_gap w
    path_gap e q =
        ap₂ (λ (a b : ℕ). a / b) (q ∙ ap₂ (λ (k : ℕ) (table : List ℕ). largest (distances 0 (marked k table))) long e) path_given.scale_is
        ∙ sym (gap_marked w word.all path_given.some word.short)

    pub path_steps : {positions : List ℕ} → positions ≡ scaled_marks w → Steps (n / g) n positions
    path_steps e = rw long (scaled_steps w word.all path_given.some word.short (rw long at path_given.scale_is) e)
