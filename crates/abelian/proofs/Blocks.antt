-- Laws of blocks that repeat from a position on, and of the starts of runs: what the tests of the definitions say.
use mathlib.Core.Path.{◌≡◌, sym, subst}
use mathlib.Core.Logic.{⊎_elim, ◌≢◌}
use mathlib.Core.Bool.{Bool, not}
use mathlib.Core.List.{List, Memᴰ}
use Prim.Native.Nat.{ℕ, zero, suc, ◌+◌, ◌-◌, ◌*◌, ◌≤◌, ◌<◌}
use native.Mathlib.Nat.{mul-le-mul_left, mul-le-mul_right}
use native.Mathlib.Omega.{arith}
use lib.ListN.{length}
use lib.Dec.{T, leb, ltb, leb→le, le→leb, ltb→lt, lt→ltb, T_not, not_T}
use Rattle.abelian.specs.Lists.{up_from, same, all}
use Rattle.abelian.specs.Words.{vector, part}
use Rattle.abelian.specs.Squares.{is_square, square_starts}
use Rattle.abelian.specs.Runs.{most, goes_back, run_starts, repeats, run_end, Largest}
use Rattle.abelian.proofs.Tests.{both, left, right}
use Rattle.abelian.proofs.Lists.{same_equal, equal_same, mem-keep, keep-mem, all-mem, mem-all, mem-up_from, up_from-mem, below_or_not}
use Rattle.abelian.proofs.Largest.{most-largest}

module _ (w : List ℕ) (d i : ℕ) where
  -- ---- blocks that repeat

  -- the vector of block m, from 0, of the blocks of d letters from position i on
  abbrev pub block_vector : ℕ → List ℕ
  block_vector m = vector (part w (i - 1 + m * d) d)

  -- the vector of the first of them
  abbrev pub first_vector : List ℕ
  first_vector = vector (part w (i - 1) d)

  -- k whole blocks of d letters from position i on lie in the word, and all have the vector of the first
  pub record Blocks (k : ℕ) : Type 0 where
    pub within : i - 1 + k * d ≤ length w
    pub equal : (m : ℕ) → m < k → block_vector m ≡ first_vector

  -- what the test says
  pub repeats_blocks : (k : ℕ) → T (repeats w d i k) → Blocks k
  unfolding repeats
  repeats_blocks k t =
      let inside : Bool = leb (i - 1 + k * d) (length w) in
      let alike : ℕ → Bool = λ m. same (block_vector m) first_vector in
      let every : T (all alike (up_from 0 k)) = right inside (all alike (up_from 0 k)) t in
      record {
        within = leb→le (i - 1 + k * d) (length w) (left inside (all alike (up_from 0 k)) t);
        equal = λ m l. same_equal (block_vector m) first_vector (all-mem alike (up_from 0 k) every (up_from-mem 0 k m (omega arith) (omega arith)));
      }

  -- and what passes it
  pub blocks_repeats : (k : ℕ) → Blocks k → T (repeats w d i k)
  unfolding repeats
  blocks_repeats k b =
      let alike : ℕ → Bool = λ m. same (block_vector m) first_vector in
      both (leb (i - 1 + k * d) (length w)) (all alike (up_from 0 k)) (le→leb (i - 1 + k * d) (length w) b.within)
      (mem-all alike (up_from 0 k)
      (λ m e. let l : (0 ≤ m) × (m < 0 + k) = mem-up_from 0 k e in equal_same (block_vector m) first_vector (b.equal m (omega arith))))

  -- a square has two blocks
  pub two_blocks : 1 ≤ i → i + 2 * d ≤ length w + 1 → T (is_square w d i) → Blocks 2
  unfolding is_square
  two_blocks start within square = record { within = omega arith; equal = alike }
    where
      alike : (m : ℕ) → m < 2 → block_vector m ≡ first_vector
      alike zero l = let e : i - 1 + 0 * d ≡ i - 1 = omega arith in rw e
      alike (suc zero) l =
          let e : i - 1 + 1 * d ≡ i - 1 + d = omega arith in
          rw e (sym (same_equal (vector (part w (i - 1) d)) (vector (part w (i - 1 + d) d)) square))
      alike (suc (suc m)) l = absurd (omega arith)

  -- one block more that has the vector of the first
  pub one-block-more : (k : ℕ) → Blocks k → i - 1 + k * d + d ≤ length w → block_vector k ≡ first_vector → Blocks (suc k)
  one-block-more k b h e =
      record {
        within = omega arith;
        equal = λ m u. ⊎_elim (b.equal m) (λ v. let q : k ≡ m = omega arith in subst (λ (a : ℕ). block_vector a ≡ first_vector) q e) (below_or_not m k);
      }

  -- the block behind k blocks lies outside the word or differs from the first
  abbrev pub Ends : ℕ → Type 0
  Ends k = i - 1 + k * d + d ≤ length w → block_vector k ≢ first_vector

  -- k is the largest number of blocks that repeat: no other follows
  pub largest_blocks : (k : ℕ) → 1 ≤ d → Largest (repeats w d i) (length w) k → Blocks k × Ends k
  largest_blocks k size l =
      let b : Blocks k = repeats_blocks k l.passes in
      (b, λ h e. l.none (suc k) (omega arith) (omega (arith, mul-le-mul_left (suc k) size)) (blocks_repeats (suc k) (one-block-more k b h e)))

  -- k blocks that no other follows are the largest number
  pub blocks_largest : (k : ℕ) → 1 ≤ d → Blocks k → Ends k → Largest (repeats w d i) (length w) k
  blocks_largest k size b ends =
      record {
        within = omega (arith, mul-le-mul_left k size);
        passes = blocks_repeats k b;
        none = λ m l u t.
            let c : Blocks m = repeats_blocks m t in
            let h : suc k * d ≤ m * d = mul-le-mul_right d l in
            ends (omega arith) (c.equal k l);
      }

  -- where position i is at most one behind the word, the number that is found is the largest that repeat
  pub found_blocks : i - 1 ≤ length w → Largest (repeats w d i) (length w) (most (repeats w d i) (length w))
  found_blocks h =
      most-largest (repeats w d i) (length w) (blocks_repeats 0 (record { within = omega arith; equal = λ m l. absurd (omega arith) }))

  -- so these blocks end in the word
  pub end_within : i - 1 ≤ length w → run_end w d i ≤ length w
  unfolding run_end
  end_within h = (repeats_blocks (most (repeats w d i) (length w)) (found_blocks h).passes).within

  -- ---- starts

  -- the test of a square at i − d, by the places of its two blocks
  back_square : d < i → is_square w d (i - d) ≡ same (vector (part w (i - 1 - d) d)) first_vector
  unfolding is_square
  back_square l =
      let e : i - d - 1 + d ≡ i - 1 = omega arith in
      let f : i - d - 1 ≡ i - 1 - d = omega arith in
      rw (e, f)

  -- what the test of a start says: the block before position i lies in the word and has the vector of the one from i on
  pub back_alike : T (goes_back w d i) → (d < i) × (vector (part w (i - 1 - d) d) ≡ first_vector)
  unfolding goes_back
  back_alike t =
      let l : d < i = ltb→lt d i (left (ltb d i) (is_square w d (i - d)) t) in
      (l, same_equal (vector (part w (i - 1 - d) d)) first_vector (subst T (back_square l) (right (ltb d i) (is_square w d (i - d)) t)))

  -- and where it does, the test passes
  pub alike_back : d < i → vector (part w (i - 1 - d) d) ≡ first_vector → T (goes_back w d i)
  unfolding goes_back
  alike_back l e =
      both (ltb d i) (is_square w d (i - d)) (lt→ltb d i l)
      (subst T (sym (back_square l)) (equal_same (vector (part w (i - 1 - d) d)) first_vector e))

  -- a square of half length d stands at i, and none at i − d
  pub record RunStart : Type 0 where
    pub start : 1 ≤ i
    pub within : i + 2 * d ≤ length w + 1
    pub square : T (is_square w d i)
    pub first : T (goes_back w d i) → ⊥

  -- the list of starts has exactly those
  pub start_fits : Memᴰ i (run_starts w d) → RunStart
  unfolding run_starts square_starts
  start_fits m =
      let k : Memᴰ i (square_starts w d) × T (not (goes_back w d i)) = mem-keep (λ (a : ℕ). not (goes_back w d a)) (square_starts w d) m in
      let s : Memᴰ i (up_from 1 (suc (length w) - 2 * d)) × T (is_square w d i) = mem-keep (is_square w d) (up_from 1 (suc (length w) - 2 * d)) k.0 in
      let b : (1 ≤ i) × (i < 1 + (suc (length w) - 2 * d)) = mem-up_from 1 (suc (length w) - 2 * d) s.0 in
      record { start = b.0; within = omega arith; square = s.1; first = T_not (goes_back w d i) k.1 }

  pub fits_start : RunStart → Memᴰ i (run_starts w d)
  unfolding run_starts square_starts
  fits_start s =
      keep-mem (λ (a : ℕ). not (goes_back w d a)) (square_starts w d)
      (keep-mem (is_square w d) (up_from 1 (suc (length w) - 2 * d)) (up_from-mem 1 (suc (length w) - 2 * d) i s.start (omega arith)) s.square)
      (not_T (goes_back w d i) s.first)
