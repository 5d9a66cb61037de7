-- Laws of tables of marks: what a table holds at each number, how a table is filled from the front, and what it marks up to a number.
use mathlib.Core.Path.{◌≡◌, refl, sym, ap, ap₂, ◌∙◌}
use mathlib.Core.Bool.{Bool, true, false}
use mathlib.Core.Logic.{⊎_elim, ◌≢◌}
use mathlib.Core.List.{List, [], ◌∷◌, ◌++◌}
use Prim.Native.Nat.{ℕ, zero, suc, ◌+◌, ◌-◌, ◌≤◌, ◌<◌, ◌∣◌, max}
use native.Mathlib.Nat.{zero-add, add-zero, le_of_dvd, dvd-sub, pos_of_dvd_of_pos}
use native.Mathlib.Omega.{arith}
use lib.ListN.{length, get_or, set, replicate, length-map, length-set, length-replicate}
use lib.Seq.{ext_get_or, get_or-set_same, get_or-set_other}
use lib.Dec.{eqb}
use borrow.Author.Tests.{eqb-true, eqb-false, eq-eqb, ne_eqb}
use Rattle.abelian.specs.Lists.{one, up_from, keep, largest}
use Rattle.abelian.specs.Words.{longest}
use Rattle.abelian.specs.FullPeriods.{distances}
use Rattle.abelian.proofs.Tests.{is_false, decided}
use Rattle.abelian.proofs.Lists.{length-up_from, mem-up_from, keep_agree, below_or_not}
use Rattle.words.proofs.Vectors.{map-up_from_at}
use Rattle.words.proofs.Padded.{zeros_at}
use Rattle.full_periods.specs.Marks.{Steps, marks, is_marked, marked}
use Rattle.words.proofs.Lists.{keep_rises}
use Rattle.full_periods.proofs.Lists.{keep-more, keep_no_more, largest-more, last_of, last_of_more, distances-more}

-- ---- a table

module _ (f : ℕ → Bool) where
  -- a table has an entry for each number up to the longest
  pub length-marks : length (marks f) ≡ suc longest
  unfolding marks
  length-marks = length-map (up_from 0 (suc longest)) (λ (k : ℕ). one (f k)) ∙ length-up_from 0 (suc longest)

  -- the entry of k is 1 where k passes
  pub marks_at : (k : ℕ) → k ≤ longest → get_or (marks f) k 0 ≡ one (f k)
  unfolding marks
  marks_at k h = map-up_from_at (λ (i : ℕ). one (f i)) 0 (suc longest) k 0 (omega arith) ∙ ap (λ (i : ℕ). one (f i)) (zero-add k)

  -- what is marked is what passes
  pub marks-is_marked : (k : ℕ) → k ≤ longest → is_marked (marks f) k ≡ f k
  unfolding is_marked
  marks-is_marked k h = rw (marks_at k h) (go (f k))
    where
      go : (b : Bool) → eqb (one b) 1 ≡ b
      go true = refl
      go false = refl

  -- a table marks, up to n, the numbers that pass
  pub marks-marked : (n : ℕ) → n ≤ longest → marked n (marks f) ≡ keep f (up_from 1 n)
  unfolding marked
  marks-marked n h =
      keep_agree (is_marked (marks f)) f (up_from 1 n)
      (λ k m. let b : (1 ≤ k) × (k < 1 + n) = mem-up_from 1 n m in marks-is_marked k (omega arith))

-- ---- a table that is filled from the front

-- the numbers below i are marked where they pass, and no other
pub record Marking (f : ℕ → Bool) (table : List ℕ) (i : ℕ) : Type 0 where
  pub size : length table ≡ suc longest
  pub passed : (k : ℕ) → k < i → k ≤ longest → get_or table k 0 ≡ one (f k)
  pub ahead : (k : ℕ) → i ≤ k → get_or table k 0 ≡ 0

module _ (f : ℕ → Bool) where
  -- a table of zeros marks nothing
  pub marking_start : Marking f (replicate (suc longest) 0) 0
  marking_start = record { size = length-replicate (suc longest) 0; passed = λ k h l. absurd (omega arith); ahead = λ k h. zeros_at (suc longest) k }

  module _ (table : List ℕ) (i : ℕ) (m : Marking f table i) where
    -- the next number passes and is marked
    pub marking_mark : i ≤ longest → f i ≡ true → Marking f (set table i 1) (i + 1)
    marking_mark h e = record {
      size = length-set table i 1 ∙ m.size;
      passed = λ k l b.
          ⊎_elim
          (λ (q : eqb k i ≡ true).
          let r : k ≡ i = eqb-true k i q in
          rw (r, e) (get_or-set_same table i 1 0 (omega (arith, m.size))))
          (λ (q : eqb k i ≡ false).
          let r : k ≢ i = eqb-false k i q in
          get_or-set_other table i k 1 0 r ∙ m.passed k (omega arith) b)
          (decided (eqb k i));
      ahead = λ k l. get_or-set_other table i k 1 0 (λ r. omega arith) ∙ m.ahead k (omega arith);
    }

    -- numbers that fail are passed over
    pub marking_pass : (j : ℕ) → i ≤ j → ((k : ℕ) → i ≤ k → k < j → f k ≡ false) → Marking f table j
    marking_pass j h fail = record {
      size = m.size;
      passed = λ k l b.
          ⊎_elim (λ q. m.passed k q b) (λ q. m.ahead k q ∙ sym (ap one (fail k q l))) (below_or_not k i);
      ahead = λ k l. m.ahead k (omega arith);
    }

    -- so is one that fails
    pub marking_skip : f i ≡ false → Marking f table (i + 1)
    marking_skip e = marking_pass (i + 1) (omega arith) (λ k a b. let q : k ≡ i = omega arith in ap f q ∙ e)

    -- where all that are left fail, the table is that of the numbers that pass
    pub marking_end : ((k : ℕ) → i ≤ k → f k ≡ false) → table ≡ marks f
    marking_end fail =
        ext_get_or 0 table (marks f) (m.size ∙ sym (length-marks f))
        (λ k l.
        let b : k ≤ longest = omega (arith, m.size) in
        ⊎_elim (λ q. m.passed k q b) (λ q. m.ahead k q ∙ sym (ap one (fail k q))) (below_or_not k i)
        ∙ sym (marks_at f k b))

-- ---- what a table marks, up to one number more

-- an entry that is 1 is a mark, and no other is
pub one-marked : (table : List ℕ) (k : ℕ) → get_or table k 0 ≡ 1 → is_marked table k ≡ true
unfolding is_marked
one-marked table k e = eq-eqb (get_or table k 0) 1 e

pub other_not_marked : (table : List ℕ) (k : ℕ) → get_or table k 0 ≢ 1 → is_marked table k ≡ false
unfolding is_marked
other_not_marked table k n = ne_eqb (get_or table k 0) 1 n

-- up to a greater number no fewer are marked
pub marked_rises : (table : List ℕ) {k n : ℕ} → k ≤ n → length (marked k table) ≤ length (marked n table)
unfolding marked
marked_rises table h = keep_rises (is_marked table) 1 h

-- where no number behind a is marked, up to a + m, the same are marked
marked_pass : (table : List ℕ) (a m : ℕ) → ((k : ℕ) → a < k → k ≤ a + m → is_marked table k ≡ false) → marked (a + m) table ≡ marked a table
unfolding marked
marked_pass table a zero none = ap (λ (k : ℕ). marked k table) (add-zero a)
marked_pass table a (suc m) none =
    let e : a + suc m ≡ suc (a + m) = omega arith in
    ap (λ (k : ℕ). marked k table) e
    ∙ keep_no_more (is_marked table) 1 (a + m) (none (1 + (a + m)) (omega arith) (omega arith)) ∙ marked_pass table a m (λ k l h. none k l (omega arith))

-- one step further, from a multiple of the step below n
module _ (table : List ℕ) {step n p : ℕ} (steps : Steps step n table) (d : step ∣ p) (l : p < n) where
  pub step-within : p + step ≤ n
  step-within = let h : step ≤ n - p = le_of_dvd (omega arith) (dvd-sub step steps.end d) in omega arith

  pub step_positive : 1 ≤ step
  step_positive = pos_of_dvd_of_pos steps.end (omega arith)

  -- between the two nothing is marked
  marked_between : marked (p + step - 1) table ≡ marked p table
  marked_between =
      let e : p + step - 1 ≡ p + (step - 1) = omega (arith, step_positive) in
      ap (λ (k : ℕ). marked k table) e
      ∙ marked_pass table p (step - 1) (λ k a b. is_false (is_marked table k) (λ t.
      let h : step ≤ k - p = le_of_dvd (omega arith) (dvd-sub step (steps.multiples k (omega (arith, step-within)) t) d) in
      omega (arith, step_positive)))

  pub marked_more : is_marked table (p + step) ≡ true → marked (p + step) table ≡ marked p table ++ ((p + step) ∷ [])
  unfolding marked
  marked_more e =
      let s : p + step ≡ suc (p + step - 1) = omega (arith, step_positive) in
      let q : 1 + (p + step - 1) ≡ p + step = omega (arith, step_positive) in
      ap (λ (j : ℕ). marked j table) s
      ∙ keep-more (is_marked table) 1 (p + step - 1) (ap (is_marked table) q ∙ e)
      ∙ ap₂ (λ (xs : List ℕ) (j : ℕ). xs ++ (j ∷ [])) marked_between q

  pub marked_no_more : is_marked table (p + step) ≡ false → marked (p + step) table ≡ marked p table
  unfolding marked
  marked_no_more e =
      let s : p + step ≡ suc (p + step - 1) = omega (arith, step_positive) in
      let q : 1 + (p + step - 1) ≡ p + step = omega (arith, step_positive) in
      ap (λ (j : ℕ). marked j table) s ∙ keep_no_more (is_marked table) 1 (p + step - 1) (ap (is_marked table) q ∙ e) ∙ marked_between

  -- one marked number more is one distance more, from the last
  pub gap_more : is_marked table (p + step) ≡ true → largest (distances 0 (marked (p + step) table)) ≡ max (largest (distances 0 (marked p table))) (p + step - last_of 0 (marked p table))
  gap_more e =
      ap (λ (xs : List ℕ). largest (distances 0 xs)) (marked_more e)
      ∙ ap largest (distances-more 0 (marked p table) (p + step))
      ∙ largest-more (distances 0 (marked p table)) (p + step - last_of 0 (marked p table))

  pub last_more : is_marked table (p + step) ≡ true → last_of 0 (marked (p + step) table) ≡ p + step
  last_more e = ap (last_of 0) (marked_more e) ∙ last_of_more 0 (marked p table) (p + step)
