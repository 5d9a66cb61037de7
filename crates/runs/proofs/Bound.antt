-- Laws of how many words the runs of a word can have: no two runs of one block length start one block apart, so that of the candidates of two blocks in a row
-- at most half are starts.
use mathlib.Core.Path.{◌≡◌, refl, sym, ap, ◌∙◌}
use mathlib.Core.Bool.{Bool, true, false}
use mathlib.Core.List.{List, map}
use Prim.Native.Nat.{ℕ, zero, suc, ◌+◌, ◌-◌, ◌*◌, ◌/◌, ◌%◌, ◌≤◌, ◌<◌, min}
use native.Mathlib.Nat.{suc-mul, mul-suc, mod-lt, div-add-mod'}
use native.Mathlib.Omega.{arith}
use lib.ListN.{length, length-append}
use lib.Dec.{T}
use borrow.Author.Tests.{lt-ltb}
use Rattle.abelian.specs.Lists.{one, up_from, sum, keep, each}
use Rattle.abelian.specs.Words.{longest}
use Rattle.abelian.specs.Squares.{is_square}
use Rattle.abelian.specs.Runs.{goes_back, run_words}
use Rattle.abelian.proofs.Lists.{length-up_from, up_from-append, keep_append, length-keep-more, keep_shorter}
use Rattle.abelian.proofs.Tests.{is_true}
use Rattle.words.proofs.Lists.{keep_rises}
use Rattle.squares.proofs.Lists.{each_rest}
use Rattle.runs.specs.Rows.{starts_run, row_words}
use Rattle.runs.specs.Places.{row_bound, runs_bound}
use Rattle.runs.proofs.Rows.{all_starts, length_up_to, words_of_rows, long_no_words}
use Rattle.runs.proofs.Marks.{starts_square}

-- ---- numbers in a row that pass a test

module _ (f : ℕ → Bool) where
  -- how many of the m numbers from a on pass
  abbrev kept : ℕ → ℕ → ℕ
  kept a m = length (keep f (up_from a m))

  -- they are counted in two parts
  kept_append : (a m n : ℕ) → kept a (m + n) ≡ kept a m + kept (a + m) n
  kept_append a m n =
      ap (λ (l : List ℕ). length (keep f l)) (up_from-append a m n)
      ∙ ap length (keep_append f (up_from a m) (up_from (a + m) n))
      ∙ length-append (keep f (up_from a m)) (keep f (up_from (a + m) n))

-- a test that does not pass at two numbers that are d apart
module _ (f : ℕ → Bool) (d : ℕ) (apart : (i : ℕ) → 1 ≤ i → T (f i) → T (f (i + d)) → ⊥) where
  -- of two such numbers at most one passes
  one_of_two : (i : ℕ) → 1 ≤ i → one (f i) + one (f (i + d)) ≤ 1
  one_of_two i h = go (f i) (f (i + d)) (apart i h)
    where
      go : (x y : Bool) → (T x → T y → ⊥) → one x + one y ≤ 1
      go true true n = absurd (n tt tt)
      go true false n = omega arith
      go false true n = omega arith
      go false false n = omega arith

  -- of m numbers in a row and the m numbers d behind them at most m pass
  at_most_one_of_two : (a m : ℕ) → 1 ≤ a → kept f a m + kept f (a + d) m ≤ m
  at_most_one_of_two a zero h = omega arith
  at_most_one_of_two a (suc m) h =
      let e : a + d + m ≡ a + m + d = omega arith in
      let more : kept f (a + d) (suc m) ≡ kept f (a + d) m + one (f (a + m + d)) = rw e at (length-keep-more f (a + d) m) in
      omega (arith, at_most_one_of_two a m h, length-keep-more f a m, more, one_of_two (a + m) (omega arith))

  -- so of 2 * d numbers in a row at most d pass
  at_most_half : (a : ℕ) → 1 ≤ a → kept f a (2 * d) ≤ d
  at_most_half a h =
      let e : d + d ≡ 2 * d = omega arith in
      omega (arith, rw e at (kept_append f a d d), at_most_one_of_two a d h)

  -- of fewer numbers no more pass, and no more than there are
  at_most_part : (a r : ℕ) → 1 ≤ a → r ≤ 2 * d → kept f a r ≤ min r d
  at_most_part a r h l = omega (arith, keep_shorter f (up_from a r), length-up_from a r, keep_rises f a l, at_most_half a h)

  -- k times 2 * d numbers in a row, and r more
  at_most_halves : (k a r : ℕ) → 1 ≤ a → r ≤ 2 * d → kept f a (k * (2 * d) + r) ≤ d * k + min r d
  at_most_halves zero a r h l =
      let e : 0 * (2 * d) + r ≡ r = omega arith in
      rw e (omega (arith, at_most_part a r h l))
  at_most_halves (suc k) a r h l =
      let e : suc k * (2 * d) + r ≡ 2 * d + (k * (2 * d) + r) = omega (arith, suc-mul k (2 * d)) in
      rw e (omega (arith, kept_append f a (2 * d) (k * (2 * d) + r), at_most_half a h, at_most_halves k (a + 2 * d) r (omega arith) l, mul-suc d k))

  -- so the bound holds for every c numbers in a row
  kept_bound : (a c : ℕ) → 1 ≤ a → 1 ≤ d → kept f a c ≤ row_bound c d
  unfolding row_bound
  kept_bound a c h size =
      let positive : 0 < 2 * d = omega arith in
      rw (div-add-mod' c (2 * d)) at (at_most_halves (c / (2 * d)) a (c % (2 * d)) h (omega (arith, mod-lt c positive)))

-- ---- starts of runs

module _ (w : List ℕ) where
  -- no two runs of one block length start one block apart: a square stands one block before the second start
  starts_apart : (d i : ℕ) → 1 ≤ i → T (starts_run w d i) → T (starts_run w d (i + d)) → ⊥
  unfolding starts_run goes_back
  starts_apart d i h s t =
      let e : i + d - d ≡ i = omega arith in
      let square : is_square w d i ≡ true = is_true (is_square w d i) (starts_square w d i (is_true (starts_run w d i) s)) in
      rw (lt-ltb d (i + d) (omega arith), e, square) at t

  module _ (n : ℕ) (within : length w ≤ n) where
    -- the words of one block length are at most two for each start that there can be among the candidates of n letters
    row_bound_lem : (d : ℕ) → 1 ≤ d → length (row_words w d) ≤ 2 * row_bound (suc n - 2 * d) d
    row_bound_lem d size =
        let s : ℕ = suc (length w) - 2 * d in
        let l : s ≤ suc n - 2 * d = omega arith in
        omega (
          arith,
          ap length (all_starts w d s refl),
          length_up_to w d s,
          keep_rises (starts_run w d) 1 l,
          kept_bound (starts_run w d) d (starts_apart d) 1 (suc n - 2 * d) (omega arith) size,
        )

    -- those of k block lengths are at most the sum of these bounds
    rows_bound : (a k : ℕ) → 1 ≤ a → length (each (up_from a k) (row_words w)) ≤ 2 * sum (map (λ (d : ℕ). row_bound (suc n - 2 * d) d) (up_from a k))
    rows_bound a zero h = omega arith
    rows_bound a (suc k) h =
        omega (arith, length-append (row_words w a) (each (up_from (suc a) k) (row_words w)), row_bound_lem a h, rows_bound (suc a) k (omega arith))

    -- and so are those of all block lengths: blocks that are longer than the word have no run
    words_bound : length (run_words w) ≤ 2 * runs_bound n
    unfolding runs_bound
    words_bound =
        let all : each (up_from 1 n) (row_words w) ≡ run_words w =
        each_rest (row_words w) within (λ k l. long_no_words w k (omega arith)) ∙ sym (words_of_rows w) in
        omega (arith, ap length all, rows_bound 1 n (omega arith))

-- so no word needs more places than the bound for the longest
pub places_enough : (w : List ℕ) → length w ≤ longest → length (run_words w) ≤ 2 * runs_bound longest
places_enough w h = words_bound w longest h

-- that bound as a number
pub bound_number : 2 * runs_bound longest ≡ 17682
unfolding longest runs_bound row_bound
bound_number = refl
