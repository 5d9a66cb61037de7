-- Stretches beside a place of a word, and which of them are contained in a block. One definition stands for both hands, which says on which side.
use Rattle.std.specs.Prelude.{ℕ, ◌-◌, Bool, List, length}
use Rattle.abelian.specs.Words.{vector, contained, part}
use Rattle.abelian.specs.Runs.{most}
use Rattle.runs.specs.declared.hands.Side.{Side}
use Rattle.runs.specs.declared.hands.Side.TheVariants.{Before, Behind}

-- the last k of the first `at` letters, or the first k behind them
abbrev pub beside : List ℕ → Side → ℕ → ℕ → List ℕ
beside w Before at k = part w (at - k) k
beside w Behind at k = part w at k

-- how many letters stand on that side
abbrev pub room : List ℕ → Side → ℕ → ℕ
room w Before at = at
room w Behind at = length w - at

-- the stretch of k letters on that side is contained in the block of d letters from position i on
unfoldable pub beside_fits : List ℕ → ℕ → ℕ → Side → ℕ → ℕ → Bool
beside_fits w d i side at k = contained (vector (beside w side at k)) (vector (part w (i - 1) d))

-- the largest length of such a stretch
unfoldable pub hand_of : List ℕ → ℕ → ℕ → Side → ℕ → ℕ
hand_of w d i side at = most (beside_fits w d i side at) (room w side at)
