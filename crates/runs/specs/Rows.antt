-- Runs of one block length.
use Rattle.std.specs.Prelude.{ℕ, Bool, ◌&&◌, not, List, map}
use Rattle.abelian.specs.Lists.{each}
use Rattle.abelian.specs.Squares.{is_square}
use Rattle.abelian.specs.Runs.{goes_back, run_starts, run_at, words_of_run}

-- a square of half length d stands at i, and none stands at i − d
unfoldable pub starts_run : List ℕ → ℕ → ℕ → Bool
starts_run w d i = not (goes_back w d i) && is_square w d i

-- the words of the runs with blocks of d letters, by start
unfoldable pub row_words : List ℕ → ℕ → List ℕ
row_words w d = each (map (run_at w d) (run_starts w d)) words_of_run
