-- Pairs that the skipping lister passes over.
use Rattle.std.specs.Prelude.{ℕ, List, length, get_or, ltb}
use Rattle.abelian.specs.Lists.{pick}
use Rattle.abelian.specs.Words.{longest}
use Rattle.abelian.specs.Periods.{Pair, in_range, pairs}
use Rattle.abelian.specs.Trackers.{entries}
use Rattle.board.specs.Ending.{entry_in_row}
use Rattle.listers.specs.Lowest.{lowest_periods}

-- the entry of a pair in range of this period, whose head has this lowest one: 1 where the period is below it, and else as it was
abbrev pub passed_below : ℕ → ℕ → ℕ → ℕ
passed_below period lowest e = pick (ltb period lowest) 1 e

-- the entry of a pair, after the pairs in range for n have been passed over whose period is below the lowest for their head: 1 for these
unfoldable pub entry_passed : ℕ → List ℕ → Pair → ℕ → ℕ
entry_passed n lowest x e = pick (in_range n x) (passed_below x.period (get_or lowest x.head 0) e) e

-- a board after the row of the period p has been gone through in this way, and after all rows
unfoldable pub row_passed : ℕ → List ℕ → ℕ → List ℕ → List ℕ
row_passed n lowest p board = entries (entry_in_row (entry_passed n lowest) p) (pairs longest) board

unfoldable pub all_passed : ℕ → List ℕ → List ℕ → List ℕ
all_passed n lowest board = entries (entry_passed n lowest) (pairs longest) board

-- a board after the pairs in range for the word that are no candidates have been passed over
unfoldable pub others_passed : List ℕ → List ℕ → List ℕ
others_passed w board = all_passed (length w) (lowest_periods w) board
