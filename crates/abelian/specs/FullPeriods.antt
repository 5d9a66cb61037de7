-- Full periods, and the numbers that the scaled path answers.
use Rattle.std.specs.Prelude.{ℕ, suc, ◌-◌, ◌*◌, ◌/◌, ◌%◌, ◌≤◌, ◌≡◌, Bool, ◌&&◌, length, take, eqb, ltb}
use mathlib.Core.List.{List, [], ◌∷◌, ◌++◌, Memᴰ}
use Rattle.abelian.specs.Lists.{up_from, largest, keep, all, join}
use Rattle.abelian.specs.Words.{letters, count, vector}
use Rattle.abelian.specs.Periods.{pair, is_period}

-- d divides n
unfoldable pub divides : ℕ → ℕ → Bool
divides d n = eqb (n % d) 0

-- d divides n and is smaller
unfoldable pub proper_divisor : ℕ → ℕ → Bool
proper_divisor d n = divides d n && ltb d n

-- "Full period": an Abelian period with h = 0 and p dividing n; and by C-18 "a full period is smaller than n".
unfoldable pub is_full : List ℕ → ℕ → Bool
is_full w p = proper_divisor p (length w) && is_period w (pair 0 p)

-- The full periods of a word, by rising p.
unfoldable pub full_periods : List ℕ → List ℕ
full_periods w = keep (is_full w) (up_from 1 (length w))

-- Document 003's full Abelian period, of a word of letters: the word is u₁ u₂ .. uₖ with k ≥ 2, the vectors of all are equal, and |u₁| = p, which is not 0. Here `first` is u₁,
-- `second` is u₂, and `others` are u₃ to uₖ.
pub record FullPeriod (w : List ℕ) (p : ℕ) : Type 0 where
  pub first : List ℕ
  pub second : List ℕ
  pub others : List (List ℕ)
  pub whole : w ≡ first ++ (second ++ join others)
  pub equal : (u : List ℕ) → Memᴰ u (second ∷ others) → vector u ≡ vector first
  pub period_length : length first ≡ p
  pub positive : 1 ≤ p

-- "g": the greatest common divisor of the letter counts; 0 for the empty word, which has no letter.
unfoldable pub count_divisor : List ℕ → ℕ
count_divisor w = largest (keep (λ (d : ℕ). all (divides d) (vector w)) (up_from 1 (length w)))

-- "s": n / g; 0 for the empty word.
unfoldable pub scale : List ℕ → ℕ
scale w = length w / count_divisor w

-- "Scaled": s divides k and each letter's count in the first k letters is (k / s) times its count in the word divided by g.
unfoldable pub is_scaled : List ℕ → ℕ → Bool
is_scaled w k =
    divides (scale w) k
    && all (λ (c : ℕ). eqb (count c (take k w)) (k / scale w * (count c w / count_divisor w))) letters

-- The scaled positions, 0 to n.
unfoldable pub scaled_positions : List ℕ → List ℕ
scaled_positions w = keep (is_scaled w) (up_from 0 (suc (length w)))

-- the distances between neighbours of a rising list, the first of them from x
unfoldable pub distances : ℕ → List ℕ → List ℕ
distances x [] = []
distances x (y ∷ ys) = (y - x) ∷ distances y ys

-- "T": the greatest distance between neighbouring scaled positions, divided by s. Position 0 is the first of them. 0 for the empty word.
unfoldable pub scaled_gap : List ℕ → ℕ
scaled_gap w = largest (distances 0 (scaled_positions w)) / scale w
