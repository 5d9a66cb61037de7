-- The difference of two vectors.
use Rattle.std.specs.Prelude.{ℕ, ◌-◌, List, [], ◌∷◌}

-- the first vector's counts, each less the second's
unfoldable pub minus : List ℕ → List ℕ → List ℕ
minus [] v = []
minus (a ∷ u) [] = []
minus (a ∷ u) (b ∷ v) = (a - b) ∷ minus u v
