-- Abelian periods: pairs, their range and order, the test of a pair, and Definition 1 of documents 002 and 004.
use Rattle.std.specs.Prelude.{ℕ, suc, ◌+◌, ◌-◌, ◌*◌, ◌/◌, min, ◌<◌, ◌≡◌, ◌⊎◌, Bool, ◌&&◌, length, take, drop, T, leb, ltb}
use mathlib.Core.List.{List, ◌++◌, map, Memᴰ}
use Rattle.abelian.specs.Lists.{up_from, same, keep, all, join, each, Ordered}
use Rattle.abelian.specs.Words.{vector, contained, part}

-- A pair (h, p): the head's length and the period.
pub record Pair : Type 0 where
  pub head : ℕ
  pub period : ℕ

abbrev pub pair : ℕ → ℕ → Pair
pair h p = record { head = h; period = p }

-- "In range for n": p ≥ 1, h < p and h + p ≤ n.
unfoldable pub in_range : ℕ → Pair → Bool
in_range n x = leb 1 x.period && ltb x.head x.period && leb (x.head + x.period) n

-- how many heads are in range for n with the period p
unfoldable pub heads : ℕ → ℕ → ℕ
heads n p = min p (suc n - p)

-- the pairs in range for n with the period p, by h
unfoldable pub row : ℕ → ℕ → List Pair
row n p = map (λ (h : ℕ). pair h p) (up_from 0 (heads n p))

-- The pairs in range for n, in "pair order": p first, then h.
unfoldable pub pairs : ℕ → List Pair
pairs n = each (up_from 1 n) (row n)

-- The head: the first h letters.
unfoldable pub head_of : List ℕ → Pair → List ℕ
head_of w x = take x.head w

-- Whole block number k, from 1: p letters.
unfoldable pub block : List ℕ → Pair → ℕ → List ℕ
block w x k = part w (x.head + (k - 1) * x.period) x.period

-- How many whole blocks follow the head.
unfoldable pub whole_blocks : ℕ → Pair → ℕ
whole_blocks n x = (n - x.head) / x.period

-- The tail: what is left behind the last whole block, (n − h) mod p letters.
unfoldable pub tail_of : List ℕ → Pair → List ℕ
tail_of w x = drop (x.head + whole_blocks (length w) x * x.period) w

-- "Abelian period": the pair is in range, all whole blocks have block 1's vector, and head and tail are contained in it.
unfoldable pub is_period : List ℕ → Pair → Bool
is_period w x =
    in_range (length w) x
    && contained (vector (head_of w x)) (vector (block w x 1))
    && all (λ (k : ℕ). same (vector (block w x k)) (vector (block w x 1))) (up_from 1 (whole_blocks (length w) x))
    && contained (vector (tail_of w x)) (vector (block w x 1))

-- The Abelian periods of a word, in pair order.
unfoldable pub periods : List ℕ → List Pair
periods w = keep (is_period w) (pairs (length w))

-- Definition 1 of documents 002 and 004, of a word of letters: the word is u₀ u₁ .. uₖ₋₁ uₖ, the vectors of u₁ to uₖ₋₁ are equal, those of u₀ and uₖ are contained in
-- them, |u₀| = h and |u₁| = p. Here `head` is u₀, `first` is u₁, `others` are u₂ to uₖ₋₁, and `tail` is uₖ.
pub record AbelianPeriod (w : List ℕ) (x : Pair) : Type 0 where
  pub head : List ℕ
  pub first : List ℕ
  pub others : List (List ℕ)
  pub tail : List ℕ
  pub whole : w ≡ head ++ (first ++ (join others ++ tail))
  pub equal : (u : List ℕ) → Memᴰ u others → vector u ≡ vector first
  pub head_contained : T (contained (vector head) (vector first))
  pub tail_contained : T (contained (vector tail) (vector first))
  pub head_length : length head ≡ x.head
  pub period_length : length first ≡ x.period

-- x stands before y in pair order: p first, then h.
abbrev pub Before : Pair → Pair → Type 0
Before x y = (x.period < y.period) ⊎ ((x.period ≡ y.period) × (x.head < y.head))

-- Each pair of the list stands before all behind it: the list rises strictly by p and then h.
abbrev pub Rising : List Pair → Type 0
Rising = Ordered Before
