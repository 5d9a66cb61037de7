-- What a lister has done on a board on which all pairs were open: those in range that are no Abelian period are ended.
use Rattle.std.specs.Prelude.{◌≡◌, ℕ, List, length}
use Rattle.abelian.specs.Periods.{periods}
use Rattle.abelian.specs.Trackers.{open_pairs}
use Rattle.board.specs.declared.ending.Trials.{Trials}

-- The pairs in range that are still open are the Abelian periods, and they are counted, and those that were tried.
pub record PeriodsLeft (w : List ℕ) (trials : ℕ) (found : Trials) (board : List ℕ) : Type 0 where
  pub tried : found.tried ≡ trials
  pub live : found.live ≡ length (open_pairs (length w) board)
  pub left : open_pairs (length w) board ≡ periods w
