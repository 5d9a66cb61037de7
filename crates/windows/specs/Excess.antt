-- By how much the counts of one vector exceed those of another, in numbers of 8 bits: 0 where they are equal.
use Rattle.std.specs.Prelude.{ℕ, ◌+◌, ◌-◌, ◌%◌, ◌^◌, not, List, [], ◌∷◌, ◌==◌}
use Rattle.abelian.specs.Lists.{one}

-- the first count less the second, modulo 2^8
unfoldable pub excess_of : ℕ → ℕ → ℕ
excess_of a b = (2 ^ 8 + a - b) % 2 ^ 8

-- the first vector's counts, each less the second's, modulo 2^8
unfoldable pub excess : List ℕ → List ℕ → List ℕ
excess [] v = []
excess (a ∷ u) [] = []
excess (a ∷ u) (b ∷ v) = excess_of a b ∷ excess u v

-- how many of the numbers are not 0
unfoldable pub nonzero : List ℕ → ℕ
nonzero [] = 0
nonzero (x ∷ xs) = one (not (x == 0)) + nonzero xs
