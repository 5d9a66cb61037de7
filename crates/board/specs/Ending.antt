-- The pairs of some rows ended by a word, for the functions that go row by row.
use Rattle.std.specs.Prelude.{ℕ, List, eqb}
use Rattle.abelian.specs.Lists.{pick, keep}
use Rattle.abelian.specs.Words.{longest}
use Rattle.abelian.specs.Periods.{Pair, row, pairs}
use Rattle.abelian.specs.Trackers.{entries, entry_added}
use Rattle.board.specs.Places.{is_open}

-- the entry of a pair after the row of the period p has been gone through: made anew in this row, and else as it was
unfoldable pub entry_in_row : (Pair → ℕ → ℕ) → ℕ → Pair → ℕ → ℕ
entry_in_row f p x e = pick (eqb x.period p) (f x e) e

-- a board after the row of the period p has been gone through as by the tracker's add
unfoldable pub row_ended : List ℕ → ℕ → List ℕ → List ℕ
row_ended w p board = entries (entry_in_row (entry_added w) p) (pairs longest) board

-- the pairs of the row, in range for n, whose entry is 0
unfoldable pub row_open : ℕ → List ℕ → ℕ → List Pair
row_open n board p = keep (is_open board) (row n p)

-- a board after all rows have been gone through: each entry that is 0 is set to the word's length where the pair is in range and no Abelian period
unfoldable pub all_ended : List ℕ → List ℕ → List ℕ
all_ended w board = entries (entry_added w) (pairs longest) board
