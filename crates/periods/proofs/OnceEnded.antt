-- Once ended, ended for good (document 004, Proposition 4.1): an Abelian period of a word is one of each prefix for which it is in range.
use mathlib.Core.Path.{◌≡◌, sym, ap, ◌∙◌}
use mathlib.Core.List.{List, [], ◌∷◌, Memᴰ}
use Prim.Native.Nat.{ℕ, zero, suc, ◌+◌, ◌-◌, ◌*◌, ◌/◌, ◌≤◌, ◌<◌, min}
use native.Mathlib.Nat.{suc-mul, mul-le-mul_right, div-mul-le_self, lt-div-mul-add, le-div_iff_mul-le}
use native.Mathlib.Decide.{dec_lt}
use native.Mathlib.Omega.{arith}
use lib.ListN.{length, take, drop, length-take, length-drop}
use lib.Seq.{take-take, take-nil}
use lib.Dec.{T}
use Rattle.abelian.specs.Words.{of_letters, letters, count, vector, part}
use Rattle.abelian.specs.Periods.{Pair, head_of, block, whole_blocks, tail_of, is_period}
use Rattle.abelian.proofs.Counts.{count-take-drop, vector_counts, none_above_counts, counts_none_above, letters-take, letters-drop, letters-part, shorter_contained, contained-none_above}
use Rattle.abelian.proofs.Pairs.{InRange}
use Rattle.abelian.proofs.Definition1.{Conditions, period_conditions, conditions_period, block-length}

-- ---- parts of a prefix

pub drop-take : (a k : ℕ) (v : List ℕ) → drop a (take k v) ≡ take (k - a) (drop a v)
drop-take zero k v = let e : k - 0 ≡ k = omega arith in rw e
drop-take (suc a) zero v = let e : 0 - suc a ≡ 0 = omega arith in rw e
drop-take (suc a) (suc k) [] = sym (take-nil (suc k - suc a))
drop-take (suc a) (suc k) (x ∷ v) = let e : suc k - suc a ≡ k - a = omega arith in rw e (drop-take a k v)

pub part-take : (a size k : ℕ) (v : List ℕ) → a + size ≤ k → part (take k v) a size ≡ part v a size
part-take a size k v l = ap (take size) (drop-take a k v) ∙ take-take size (k - a) (drop a v) (omega arith)

-- a prefix has no count above the whole's
pub count-take-le : (c k : ℕ) (v : List ℕ) → count c (take k v) ≤ count c v
count-take-le c k v = omega (arith, count-take-drop c k v)

-- ---- how far the whole blocks reach

pub record Reach (n : ℕ) (x : Pair) : Type 0 where
  pub low : whole_blocks n x * x.period ≤ n - x.head
  pub high : n - x.head < whole_blocks n x * x.period + x.period

pub reach : (n : ℕ) (x : Pair) → 1 ≤ x.period → Reach n x
unfolding whole_blocks
reach n x p = record { low = div-mul-le_self (n - x.head) x.period; high = lt-div-mul-add p }

pub blocks_rise : (k n : ℕ) (x : Pair) → 1 ≤ x.period → k ≤ n → whole_blocks k x ≤ whole_blocks n x
unfolding whole_blocks
blocks_rise k n x p l =
    (le-div_iff_mul-le p).1 (let q : (k - x.head) / x.period * x.period ≤ k - x.head = div-mul-le_self (k - x.head) x.period in omega arith)

-- each whole block has p letters
pub whole_length : (w : List ℕ) (x : Pair) → InRange (length w) x → (k : ℕ) → 1 ≤ k → k ≤ whole_blocks (length w) x → length (block w x k) ≡ x.period
unfolding block
whole_length w x r k l m =
    let e : suc (k - 1) ≡ k = omega arith in
    let i : suc (k - 1) * x.period ≤ whole_blocks (length w) x * x.period = mul-le-mul_right x.period (omega arith) in
    simp (length-take, length-drop) (omega (arith, suc-mul (k - 1) x.period, (reach (length w) x r.positive).low, r.fits))

-- ---- the conditions of a prefix

module _ (v : List ℕ) (x : Pair) (k : ℕ) (t : T (of_letters v)) (c : Conditions v x) (l : x.head + x.period ≤ k) where
  abbrev u : List ℕ
  u = take k v

  abbrev q : ℕ
  q = whole_blocks (length u) x

  prefix_length : length u ≡ min k (length v)
  prefix_length = length-take k v

  prefix_range : InRange (length u) x
  prefix_range =
      record { positive = c.range.positive; below = c.range.below; fits = omega (arith, prefix_length, c.range.fits) }

  prefix_reach : Reach (length u) x
  prefix_reach = reach (length u) x c.range.positive

  -- the prefix's whole blocks are whole blocks of the word
  prefix_blocks : q ≤ whole_blocks (length v) x
  prefix_blocks = blocks_rise (length u) (length v) x c.range.positive (omega (arith, prefix_length))

  prefix_block : (j : ℕ) → 1 ≤ j → j ≤ q → block u x j ≡ block v x j
  unfolding block
  prefix_block j o m =
      let e : suc (j - 1) ≡ j = omega arith in
      let i : suc (j - 1) * x.period ≤ q * x.period = mul-le-mul_right x.period (omega arith) in
      part-take (x.head + (j - 1) * x.period) x.period k v
      (omega (arith, suc-mul (j - 1) x.period, prefix_reach.low, prefix_length, prefix_range.fits))

  prefix_head : head_of u x ≡ head_of v x
  unfolding head_of
  prefix_head = take-take x.head k v (omega arith)

  some_block : 1 ≤ q
  unfolding whole_blocks
  some_block = (le-div_iff_mul-le c.range.positive).1 (omega (arith, prefix_range.fits))

  first_block : block u x 1 ≡ block v x 1
  first_block = prefix_block 1 (omega arith) some_block

  abbrev at : ℕ
  at = x.head + q * x.period

  prefix_tail : tail_of u x ≡ take (k - at) (drop at v)
  unfolding tail_of
  prefix_tail = drop-take at k v

  tail_short : length (tail_of u x) < x.period
  unfolding tail_of
  tail_short = simp length-drop (omega (arith, prefix_reach.high, prefix_reach.low, prefix_range.fits))

  -- the prefix's tail is the beginning of a whole block of the word, or of its tail
  tail_counts : (d : ℕ) → Memᴰ d letters → count d (tail_of u x) ≤ count d (block v x 1)
  unfolding tail_of block
  tail_counts d m = go (dec_lt q (whole_blocks (length v) x))
    where
      go : Dec (q < whole_blocks (length v) x) → count d (tail_of u x) ≤ count d (block v x 1)
      go (yes i) =
          let e : suc q - 1 ≡ q = omega arith in
          let r : suc q * x.period ≤ whole_blocks (length v) x * x.period = mul-le-mul_right x.period i in
          let s : length (take (k - at) (drop at v)) < x.period = rw prefix_tail at tail_short in
          let short : k - at ≤ x.period =
          omega (arith, length-take (k - at) (drop at v), length-drop at v, suc-mul q x.period, (reach (length v) x c.range.positive).low, c.range.fits) in
          let b : block v x (suc q) ≡ take x.period (drop at v) = rw e in
          let n : count d (block v x (suc q)) ≡ count d (block v x 1) =
          vector_counts (block v x (suc q)) (block v x 1) (c.alike (suc q) (omega arith) i) d m in
          rw (prefix_tail, ← n, b, ← take-take (k - at) x.period (drop at v) short) (count-take-le d (k - at) (take x.period (drop at v)))
      go (no i) =
          let e : whole_blocks (length v) x ≡ q = omega (arith, prefix_blocks) in
          let n : count d (tail_of v x) ≤ count d (block v x 1) =
          none_above_counts (tail_of v x) (block v x 1) (contained-none_above (vector (tail_of v x)) (vector (block v x 1)) c.tail_contained) d m in
          let f : tail_of v x ≡ drop at v = ap (λ (j : ℕ). drop (x.head + j * x.period) v) e in
          rw prefix_tail (omega (arith, count-take-le d (k - at) (drop at v), rw f at n))

  tail_letters : T (of_letters (tail_of u x))
  unfolding tail_of
  tail_letters = letters-drop at u (letters-take k v t)

  block-letters : T (of_letters (block u x 1))
  unfolding block
  block-letters = letters-part u (x.head + (1 - 1) * x.period) x.period (letters-take k v t)

  prefix_conditions : Conditions u x
  prefix_conditions =
      record {
        range = prefix_range;
        head_contained = rw (prefix_head, first_block) c.head_contained;
        alike = λ j o m. ap vector (prefix_block j o m) ∙ c.alike j o (omega (arith, prefix_blocks)) ∙ ap vector (sym first_block);
        tail_contained =
            shorter_contained (tail_of u x) (block u x 1) tail_letters block-letters
            (counts_none_above (tail_of u x) (block u x 1) (λ d m. rw first_block (tail_counts d m))) (omega (arith, tail_short, block-length u x prefix_range));
      }

pub once_ended : (w : List ℕ) (x : Pair) (k m : ℕ) → T (of_letters w) → T (is_period (take m w) x) → x.head + x.period ≤ k → k ≤ m → T (is_period (take k w) x)
once_ended w x k m t p l i =
    let r : T (is_period (take k (take m w)) x) =
    conditions_period (take k (take m w)) x (prefix_conditions (take m w) x k (letters-take m w t) (period_conditions (take m w) x p) l) in
    rw (take-take k m w i) at r
