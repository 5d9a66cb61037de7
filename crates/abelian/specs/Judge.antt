-- The judge's verdict on a pair that is in range.
use Rattle.std.specs.Prelude.{ℕ, ◌+◌, Bool, not, ◌||◌, List, map, length, eqb, ltb, leb}
use Rattle.abelian.specs.Lists.{pick, up_from, keep, each}
use Rattle.abelian.specs.Words.{letters, count}
use Rattle.abelian.specs.Periods.{Pair, head_of, block, whole_blocks, tail_of}

-- Where a pair fails: the number of the block, and the letter's byte.
pub record Failure : Type 0 where
  pub block : ℕ
  pub letter : ℕ

-- The letters of block number k: 0 is the head, 1 the first whole block, and so on to the tail, which is behind the last whole one.
unfoldable pub block_at : List ℕ → Pair → ℕ → List ℕ
block_at w x k = pick (eqb k 0) (head_of w x) (pick (leb k (whole_blocks (length w) x)) (block w x k) (tail_of w x))

-- block number k is the head or the tail
unfoldable pub is_end : List ℕ → Pair → ℕ → Bool
is_end w x k = eqb k 0 || ltb (whole_blocks (length w) x) k

-- The letter c breaks the rule in block number k, against block 1: head and tail fail only by excess, a whole block by any difference.
unfoldable pub breaks : List ℕ → Pair → ℕ → ℕ → Bool
breaks w x k c =
    pick (is_end w x k)
    (ltb (count c (block w x 1)) (count c (block_at w x k)))
    (not (eqb (count c (block_at w x k)) (count c (block w x 1))))

-- All failures, block by block and in each by letter order.
unfoldable pub failures : List ℕ → Pair → List Failure
failures w x =
    each (up_from 0 (whole_blocks (length w) x + 2))
    (λ (k : ℕ). map (λ (c : ℕ). record { block = k; letter = c }) (keep (breaks w x k) letters))
