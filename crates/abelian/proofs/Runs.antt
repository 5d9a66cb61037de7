-- The list of Abelian runs is right: for a word of letters a run is in it exactly where it is one as C-11 says. It rises by d and then i, so that it
-- has each run once, and the two words of a run give it back.
use mathlib.Core.Path.{◌≡◌, refl, sym, ap, subst, ◌∙◌}
use mathlib.Core.Logic.{inl, inr, ◌↔◌}
use mathlib.Core.Bool.{not}
use mathlib.Core.List.Memᴰ
use mathlib.Core.List.{List, [], map, Memᴰ}
use Prim.Native.Nat.{ℕ, suc, ◌+◌, ◌-◌, ◌*◌, ◌/◌, ◌%◌, ◌^◌, ◌≤◌, ◌<◌}
use native.Mathlib.Nat.{mul-le-mul_right}
use native.Mathlib.Omega.{arith}
use lib.ListN.{length, drop, length-take, length-drop}
use lib.Dec.{T}
use Rattle.abelian.specs.Lists.{up_from, Ordered}
use Rattle.abelian.specs.Words.{longest, of_letters, count, vector, contained, part}
use Rattle.abelian.specs.Output.{run_word, hands_word}
use Rattle.abelian.specs.Squares.{is_square, square_starts}
use Rattle.abelian.specs.Runs.{Run, most, goes_back, run_starts, repeats, run_end, left_fits, right_fits, left_hand, right_hand, run_at, runs, words_of_run, run_words, read_run, AbelianRun, RunBefore}
use Rattle.abelian.proofs.Tests.{left, right}
use Rattle.abelian.proofs.Lists.{equal_same, mem-up_from, up_from-mem, mem-each, each-mem, length-each, ordered_keep, ordered_up_from, ordered_map, ordered_each}
use Rattle.abelian.proofs.Counts.{counts_none_above, letters-part, shorter_contained}
use Rattle.abelian.proofs.Output.{upper_read, lower_read}
use Rattle.abelian.proofs.Largest.{largest-most, le-most, most-largest, most-le}
use Rattle.abelian.proofs.Blocks.{Blocks, Ends, RunStart, alike_back, back_alike, blocks_largest, blocks_repeats, first_vector, fits_start, end_within, found_blocks, largest_blocks, start_fits, two_blocks}

-- ---- from the list to the record

module _ (w : List ℕ) (d i : ℕ) (s : RunStart w d i) where
  -- no letters are contained in a block, which has some
  none-contained : 1 ≤ d → T (of_letters w) → (at : ℕ) → T (contained (vector (part w at 0)) (first_vector w d i))
  unfolding count
  none-contained size t at =
      shorter_contained [] (part w (i - 1) d) (letters-part w at 0 t) (letters-part w (i - 1) d t)
      (counts_none_above [] (part w (i - 1) d) (λ c m. omega arith))
      (omega (arith, length-take d (drop (i - 1) w), length-drop (i - 1) w))

  -- what stands at a start is a run
  pub start_run : 1 ≤ d → T (of_letters w) → AbelianRun w (run_at w d i)
  unfolding run_at run_end left_hand right_hand left_fits right_fits
  start_run size t =
      let k : ℕ = most (repeats w d i) (length w) in
      let b : Blocks w d i k × Ends w d i k = largest_blocks w d i k size (found_blocks w d i (omega arith)) in
      record {
        size = size;
        start = s.start;
        blocks = k;
        two = le-most (repeats w d i) (length w) 2 (omega arith) (blocks_repeats w d i 2 (two_blocks w d i s.start s.within s.square));
        whole = refl;
        within = b.0.within;
        equal = b.0.equal;
        before = λ l e. s.first (alike_back w d i l e);
        after = b.1;
        left_hand = most-largest (left_fits w d i) (i - 1) (none-contained size t (i - 1 - 0));
        right_hand = most-largest (right_fits w d i (run_end w d i)) (length w - run_end w d i) (none-contained size t (run_end w d i));
      }

-- ---- from the record to the list

module _ (w : List ℕ) (r : Run) (a : AbelianRun w r) where
  -- a run's blocks lie in the word
  blocks_of_run : Blocks w r.d r.i a.blocks
  blocks_of_run = record { within = omega arith; equal = a.equal }

  -- a run begins at a start of its block length
  run_start : RunStart w r.d r.i
  unfolding is_square
  run_start =
      let e : r.i - 1 + 1 * r.d ≡ r.i - 1 + r.d = omega arith in
      let square : vector (part w (r.i - 1 + r.d) r.d) ≡ first_vector w r.d r.i = rw e at (a.equal 1 a.two) in
      record {
        start = a.start;
        within = omega (arith, mul-le-mul_right r.d a.two);
        square = equal_same (first_vector w r.d r.i) (vector (part w (r.i - 1 + r.d) r.d)) (sym square);
        first = λ t. a.before (back_alike w r.d r.i t).0 (back_alike w r.d r.i t).1;
      }

  -- it is the one that the list has there
  run_listed : run_at w r.d r.i ≡ r
  unfolding run_at run_end left_hand right_hand
  run_listed =
      let n : most (repeats w r.d r.i) (length w) ≡ a.blocks =
      largest-most (repeats w r.d r.i) (length w) a.blocks
      (blocks_largest w r.d r.i a.blocks a.size blocks_of_run (λ h e. a.after (omega arith) (rw (← a.whole) at e))) in
      let e : run_end w r.d r.i ≡ r.j = ap (λ (k : ℕ). r.i - 1 + k * r.d) n ∙ sym a.whole in
      let f : most (left_fits w r.d r.i) (r.i - 1) ≡ r.left = largest-most (left_fits w r.d r.i) (r.i - 1) r.left a.left_hand in
      let g : most (right_fits w r.d r.i r.j) (length w - r.j) ≡ r.right =
      largest-most (right_fits w r.d r.i r.j) (length w - r.j) r.right a.right_hand in
      rw (e, f, g)

-- ---- the theorem

module _ (w : List ℕ) where
  -- the runs with blocks of d letters
  abbrev pub runs_of : ℕ → List Run
  runs_of d = map (run_at w d) (run_starts w d)

  -- a run's position is a start, and the run is the one that stands there
  pub record AtStart (r : Run) : Type 0 where
    pub start : RunStart w r.d r.i
    pub whole : run_at w r.d r.i ≡ r

  -- each run with blocks of d letters is at a start
  pub mem_runs_of : (d : ℕ) {r : Run} → Memᴰ r (runs_of d) → (r.d ≡ d) × AtStart r
  unfolding run_at
  mem_runs_of d {r} m =
      let k : (i : ℕ) × Memᴰ i (run_starts w d) × (run_at w d i ≡ r) = Memᴰ.of_map (run_at w d) (run_starts w d) m in
      subst (λ (x : Run). (x.d ≡ d) × AtStart x) k.2 (refl, record { start = start_fits w d k.0 k.1; whole = refl })

  -- the list has exactly the runs of the starts
  pub mem-runs : {r : Run} → Memᴰ r (runs w) → (1 ≤ r.d) × AtStart r
  unfolding runs
  mem-runs {r} m =
      let e : (d : ℕ) × Memᴰ d (up_from 1 (length w)) × Memᴰ r (runs_of d) = mem-each runs_of (up_from 1 (length w)) m in
      (omega (arith, mem-up_from 1 (length w) e.1, mem_runs_of e.0 e.2), (mem_runs_of e.0 e.2).1)

  pub runs-mem : (d i : ℕ) → 1 ≤ d → RunStart w d i → Memᴰ (run_at w d i) (runs w)
  unfolding runs
  runs-mem d i size s =
      each-mem runs_of (up_from 1 (length w)) (up_from-mem 1 (length w) d size (omega arith)) (Memᴰ.map (run_at w d) (fits_start w d i s))

  -- For a word of letters a run is in the list exactly where it is an Abelian run. In a block of other bytes nothing is contained, not even a stretch
  -- of no letters, so that such a block has no longest hand.
  pub runs_definition : (r : Run) → T (of_letters w) → Memᴰ r (runs w) ↔ AbelianRun w r
  runs_definition r t = (
    λ m.
        let l : (1 ≤ r.d) × AtStart r = mem-runs m in
        subst (AbelianRun w) l.1.whole (start_run w r.d r.i l.1.start l.0 t),
    λ a. subst (λ (x : Run). Memᴰ x (runs w)) (run_listed w r a) (runs-mem r.d r.i a.size (run_start w r a)),
  )

  -- ---- order

  -- the runs with blocks of d letters rise by i
  runs_of_rise : (d : ℕ) → Ordered RunBefore (runs_of d)
  unfolding run_starts square_starts run_at
  runs_of_rise d =
      ordered_map ◌<◌ RunBefore (run_at w d) (λ i k l. inr (refl, l)) (run_starts w d)
      (ordered_keep ◌<◌ (λ (i : ℕ). not (goes_back w d i)) (square_starts w d)
      (ordered_keep ◌<◌ (is_square w d) (up_from 1 (suc (length w) - 2 * d)) (ordered_up_from 1 (suc (length w) - 2 * d))))

  -- the list rises by d and then i: each run is in it once
  pub runs_rise : Ordered RunBefore (runs w)
  unfolding runs
  runs_rise =
      ordered_each ◌<◌ RunBefore runs_of runs_of_rise
      (λ a b l x y m n. inl (omega (arith, mem_runs_of a m, mem_runs_of b n))) (up_from 1 (length w)) (ordered_up_from 1 (length w))

-- ---- words

-- a run's two words give it back
pub read_run_words : (r : Run) → r.d < 2 ^ 14 → r.i < 2 ^ 14 → r.j < 2 ^ 12 → r.left < 2 ^ 8 → r.right < 2 ^ 8
    → read_run (run_word r.d r.i) (hands_word r.j r.left r.right) ≡ r
unfolding read_run run_word hands_word
read_run_words r d i j left right =
    let second : ℕ = 6 * 2 ^ 28 + r.j * 2 ^ 16 + r.left * 2 ^ 8 + r.right in
    let g : second / 2 ^ 16 % 2 ^ 12 ≡ r.j = omega arith in
    let h : second / 2 ^ 8 % 2 ^ 8 ≡ r.left = omega arith in
    let k : second % 2 ^ 8 ≡ r.right = omega arith in
    rw (upper_read 5 r.d r.i d i, lower_read 5 r.d r.i d i, g, h, k)

-- no number of the run is above n
pub record Within (n : ℕ) (r : Run) : Type 0 where
  pub size : r.d ≤ n
  pub start : r.i ≤ n
  pub end : r.j ≤ n
  pub left_hand : r.left ≤ n
  pub right_hand : r.right ≤ n

-- no number of a run in the list is above the word's length
pub runs-within : (w : List ℕ) {r : Run} → Memᴰ r (runs w) → Within (length w) r
unfolding run_at run_end left_hand right_hand
runs-within w {r} m =
    let l : (1 ≤ r.d) × AtStart w r = mem-runs w m in
    let j : ℕ = run_end w r.d r.i in
    subst (Within (length w)) l.1.whole
    (record {
      size = omega arith;
      start = omega arith;
      end = end_within w r.d r.i (omega arith);
      left_hand = omega (arith, most-le (left_fits w r.d r.i) (r.i - 1));
      right_hand = omega (arith, most-le (right_fits w r.d r.i j) (length w - j));
    })

-- the two words of a run in the list give it back
pub read_back : (w : List ℕ) (r : Run) → length w ≤ longest → Memᴰ r (runs w)
    → read_run (run_word r.d r.i) (hands_word r.j r.left r.right) ≡ r
unfolding longest
read_back w r short m =
    let b : Within (length w) r = runs-within w m in
    read_run_words r (omega arith) (omega arith) (omega arith) (omega arith) (omega arith)

-- each run has two words
pub length-run_words : (w : List ℕ) → length (run_words w) ≡ 2 * length (runs w)
unfolding run_words words_of_run
length-run_words w = length-each words_of_run 2 (λ r. refl) (runs w)
