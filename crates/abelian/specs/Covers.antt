-- Abelian covers (document 003).
use Rattle.std.specs.Prelude.{ℕ, suc, ◌-◌, ◌*◌, ◌≤◌, ◌<◌, ◌≡◌, Bool, ◌&&◌, length, take, drop, leb}
use mathlib.Core.List.{List, Memᴰ}
use Rattle.abelian.specs.Lists.{up_from, first_passing, same}
use Rattle.abelian.specs.Words.{vector, part}

-- An interval of positions, counted from 1, that has both its ends.
pub record Interval : Type 0 where
  pub from : ℕ
  pub to : ℕ

-- the letters at the interval's positions
unfoldable pub within : List ℕ → Interval → List ℕ
within w i = part w (i.from - 1) (suc i.to - i.from)

-- The interval stands in a word of n letters, and is not the whole word.
pub record Proper (n : ℕ) (i : Interval) : Type 0 where
  pub starts : 1 ≤ i.from
  pub ordered : i.from ≤ i.to
  pub ends : i.to ≤ n
  pub not_whole : i.from ≡ 1 → i.to ≡ n → ⊥

-- The interval holds position k.
pub record Holds (i : Interval) (k : ℕ) : Type 0 where
  pub above : i.from ≤ k
  pub below : k ≤ i.to

-- "Cover", of a word of letters: one or more intervals, none the whole word, with equal vectors, that together hold every position; n ≥ 2.
pub record Cover (w : List ℕ) (intervals : List Interval) : Type 0 where
  pub long : 2 ≤ length w
  pub some : 1 ≤ length intervals
  pub proper : (i : Interval) → Memᴰ i intervals → Proper (length w) i
  pub equal : (i j : Interval) → Memᴰ i intervals → Memᴰ j intervals → vector (within w i) ≡ vector (within w j)
  pub holding : (k : ℕ) → 1 ≤ k → k ≤ length w → (i : Interval) × Memᴰ i intervals × Holds i k

-- "A length m < n, 2m ≥ n, where the first m and the last m letters have equal vectors": the lengths among which document 01 leaves the answer
-- free.
pub record CoverLength (w : List ℕ) (m : ℕ) : Type 0 where
  pub below : m < length w
  pub half : length w ≤ 2 * m
  pub equal : vector (take m w) ≡ vector (drop (length w - m) w)

-- C-14's "the smallest length m among those that document 01 left free": one of these, and none of them is smaller.
pub record SmallestCoverLength (w : List ℕ) (m : ℕ) : Type 0 where
  pub is_one : CoverLength w m
  pub least : (k : ℕ) → CoverLength w k → m ≤ k

-- m is at least half the length, and the first m and the last m letters have equal vectors; where m < n, they are a cover
unfoldable pub is_cover_length : List ℕ → ℕ → Bool
is_cover_length w m = leb (length w) (2 * m) && same (vector (take m w)) (vector (drop (length w - m) w))

-- The cover length: the smallest such m < n, or 0 where there is none.
unfoldable pub cover_length : List ℕ → ℕ
cover_length w = first_passing (is_cover_length w) (up_from 1 (length w - 1))
