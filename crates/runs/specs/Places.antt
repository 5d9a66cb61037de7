-- How many places the words of runs can take: bounds by the length of the word alone.
use Rattle.std.specs.Prelude.{ℕ, suc, ◌+◌, ◌-◌, ◌*◌, ◌/◌, ◌%◌, min, map}
use Rattle.abelian.specs.Lists.{up_from, sum}

-- of c candidates in a row, how many can be starts where no two starts are d apart: d of each 2 * d, and of those that are left all, but no more than d
unfoldable pub row_bound : ℕ → ℕ → ℕ
row_bound c d = d * (c / (2 * d)) + min (c % (2 * d)) d

-- how many runs a word of n letters can have: the sum over the block lengths d, each with n + 1 − 2 * d candidates
unfoldable pub runs_bound : ℕ → ℕ
runs_bound n = sum (map (λ (d : ℕ). row_bound (suc n - 2 * d) d) (up_from 1 n))
