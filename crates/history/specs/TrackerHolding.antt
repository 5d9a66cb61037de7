-- The one tracker that calls from a fresh one leave with a word.
use Rattle.std.specs.Prelude.{ℕ, ◌-◌, List, ◌++◌, length, replicate}
use Rattle.abelian.specs.Words.{longest}
use Rattle.abelian.specs.EndedLengths.{ended_length, board_of}
use Rattle.abelian.specs.Trackers.{with_totals}
use Rattle.abelian.specs.declared.Tracker.{Tracker}

-- it holds the word, each board entry is its pair's ended length, and the totals are those of this board
unfoldable pub tracker_holding : List ℕ → Tracker
tracker_holding w = with_totals (length w) (w ++ replicate (longest - length w) 0) (board_of (ended_length w))
