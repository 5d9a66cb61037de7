-- Laws of the blocks of a word by their numbers: where each stands in the word, for a pair in range, and what the counts in two vectors say of
-- a letter.
use mathlib.Core.Path.{◌≡◌, sym, ap, ◌∙◌}
use mathlib.Core.Bool.{Bool, not, ◌||◌}
use mathlib.Core.List.{List}
use Prim.Native.Nat.{ℕ, suc, ◌+◌, ◌-◌, ◌*◌, ◌/◌, ◌≤◌, ◌<◌, min}
use native.Mathlib.Nat.{suc-mul, mul-le-mul_right, le-div_iff_mul-le, div-lt_iff_lt-mul, div-le_self}
use native.Mathlib.Decide.{dec_le}
use native.Mathlib.Omega.{arith}
use lib.ListN.{length, take, drop, get_or, length-drop}
use lib.Seq.{take_all}
use lib.Dec.{eqb, ltb}
use borrow.Author.Tests.{ne_eqb, le-leb, lt-leb}
use Rattle.abelian.specs.Lists.{pick}
use Rattle.abelian.specs.Words.{alphabet_size, first_letter, vector, part}
use Rattle.abelian.specs.Periods.{Pair, head_of, block, whole_blocks, tail_of}
use Rattle.abelian.specs.Judge.{block_at, is_end, breaks}
use Rattle.abelian.proofs.Pairs.{InRange}
use Rattle.words.proofs.Vectors.{vector_at}
use Rattle.periods.proofs.OnceEnded.{reach}

-- ---- head, whole blocks and tail

module _ (w : List ℕ) (x : Pair) where
  -- block 0 is the head
  pub block_at_head : {k : ℕ} → k ≡ 0 → block_at w x k ≡ take x.head w
  unfolding block_at head_of
  block_at_head e = rw e

  -- from 1 on stand the whole blocks
  pub block_at_whole : (k : ℕ) → 1 ≤ k → k ≤ whole_blocks (length w) x → block_at w x k ≡ block w x k
  unfolding block_at
  block_at_whole k l u = rw (ne_eqb k 0 (λ e. omega arith), le-leb k (whole_blocks (length w) x) u)

  -- behind the last whole block stands the tail
  pub block_at_tail : (k : ℕ) → whole_blocks (length w) x < k → block_at w x k ≡ tail_of w x
  unfolding block_at
  block_at_tail k l = rw (ne_eqb k 0 (λ e. omega arith), lt-leb k (whole_blocks (length w) x) l)

  -- their number, as it is found
  pub blocks_found : {n : ℕ} → n ≡ length w → (n - x.head) / x.period ≡ whole_blocks (length w) x
  unfolding whole_blocks
  blocks_found e = ap (λ (m : ℕ). (m - x.head) / x.period) e

  -- there are at most as many whole blocks as letters
  pub blocks_le_length : whole_blocks (length w) x ≤ length w
  unfolding whole_blocks
  blocks_le_length = omega (arith, div-le_self (length w - x.head) x.period)

-- ---- where a block begins

-- where whole block or tail number k begins
abbrev pub start : Pair → ℕ → ℕ
start x k = x.head + (k - 1) * x.period

module _ (w : List ℕ) (x : Pair) (r : InRange (length w) x) (k : ℕ) (l : 1 ≤ k) where
  behind : k * x.period ≡ (k - 1) * x.period + x.period
  behind = let e : suc (k - 1) ≡ k = omega arith in rw e at (suc-mul (k - 1) x.period)

  -- a block begins within the word
  pub start_within : k ≤ whole_blocks (length w) x + 1 → start x k ≤ length w
  start_within u =
      let m : (k - 1) * x.period ≤ whole_blocks (length w) x * x.period = mul-le-mul_right x.period (omega arith) in
      omega (arith, (reach (length w) x r.positive).low, r.fits)

  -- it is whole where p letters are left
  part_whole : x.period ≤ length w - start x k → block_at w x k ≡ part w (start x k) x.period
  unfolding block whole_blocks
  part_whole h = block_at_whole w x k l ((le-div_iff_mul-le r.positive).1 (omega (arith, behind, r.positive)))

  -- all whole blocks stand before a block with fewer letters left
  all_before : length w - start x k < x.period → whole_blocks (length w) x < k
  unfolding whole_blocks
  all_before h = (div-lt_iff_lt-mul r.positive).1 (omega (arith, behind, r.positive))

  -- where fewer letters are left, they are the tail
  part_tail : k ≤ whole_blocks (length w) x + 1 → length w - start x k < x.period → block_at w x k ≡ part w (start x k) (length w - start x k)
  unfolding tail_of
  part_tail u h =
      let e : whole_blocks (length w) x ≡ k - 1 = omega (arith, all_before h) in
      block_at_tail w x k (all_before h) ∙ rw e (sym (take_all (length w - start x k) (drop (start x k) w) (omega (arith, length-drop (start x k) w))))

  -- so a block goes as far as p letters behind its beginning, or to the word's end
  pub block_part : k ≤ whole_blocks (length w) x + 1 → (to : ℕ) → to ≡ min (length w) (start x k + x.period) → block_at w x k ≡ part w (start x k) (to - start x k)
  block_part u to e = go (dec_le x.period (length w - start x k))
    where
      go : Dec (x.period ≤ length w - start x k) → block_at w x k ≡ part w (start x k) (to - start x k)
      go (yes h) = let size : to - start x k ≡ x.period = omega (arith, start_within u) in rw size (part_whole h)
      go (no h) = let size : to - start x k ≡ length w - start x k = omega (arith, start_within u) in rw size (part_tail u (omega arith))

-- ---- the rule by two vectors

module _ (w : List ℕ) (x : Pair) (r : InRange (length w) x) where
  one_whole : 1 ≤ whole_blocks (length w) x
  unfolding whole_blocks
  one_whole = (le-div_iff_mul-le r.positive).1 (omega (arith, r.fits))

  -- a letter's counts in the vectors of a block and of block 1 say whether it breaks the rule there; n letters have so many whole blocks
  pub rule_at : (k j : ℕ) {n : ℕ} {counts first : List ℕ} {end broken : Bool} → n ≡ length w → j < alphabet_size
      → end ≡ (eqb k 0 || ltb ((n - x.head) / x.period) k) → counts ≡ vector (block_at w x k) → first ≡ vector (block_at w x 1)
      → broken ≡ pick end (ltb (get_or first j 0) (get_or counts j 0)) (not (eqb (get_or counts j 0) (get_or first j 0))) → broken ≡ breaks w x k (first_letter + j)
  unfolding breaks is_end
  rule_at k j {end = end} l b e c f t =
      let z : end ≡ is_end w x k = e ∙ ap (λ (q : ℕ). eqb k 0 || ltb q k) (blocks_found w x l) in
      t ∙ rw (z, c, f, block_at_whole w x 1 (omega arith) one_whole, vector_at (block_at w x k) j b, vector_at (block w x 1) j b)
