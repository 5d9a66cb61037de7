-- Greatest common divisors, and multiples of vectors.
use Rattle.std.specs.Prelude.{ℕ, ◌*◌, ◌/◌, Bool, get_or, eqb}
use Rattle.std.specs.Int.{◌∣◌}
use mathlib.Core.List.{List, map, Memᴰ}
use Rattle.abelian.specs.Lists.{up_from, all}
use Rattle.abelian.specs.Words.{alphabet_size, vector}
use Rattle.abelian.specs.FullPeriods.{count_divisor}

-- g divides each number of the list, and every number that divides them all divides g. No other number than g does so; where all numbers are 0, g is 0.
pub record GreatestDivisor (xs : List ℕ) (g : ℕ) : Type 0 where
  pub common : (x : ℕ) → Memᴰ x xs → g ∣ x
  pub greatest : (d : ℕ) → ((x : ℕ) → Memᴰ x xs → d ∣ x) → d ∣ g

-- the counts of the vector, each divided by g
unfoldable pub divided : List ℕ → ℕ → List ℕ
divided v g = map (λ (x : ℕ). x / g) v

-- the word's counts, each divided by their greatest common divisor
unfoldable pub unit_counts : List ℕ → List ℕ
unit_counts w = divided (vector w) (count_divisor w)

-- each count of the vector v is k times that of u
unfoldable pub is_multiple : List ℕ → ℕ → List ℕ → Bool
is_multiple v k u = all (λ (j : ℕ). eqb (get_or v j 0) (k * get_or u j 0)) (up_from 0 alphabet_size)
