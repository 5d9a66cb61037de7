-- Places enough for every report.
use Rattle.std.specs.Prelude.{ℕ, ◌+◌, ◌*◌, ◌/◌}
use Rattle.abelian.specs.Words.{longest}
use Rattle.abelian.specs.Trackers.{board_size}

-- a bound that no report reaches: the head, a full period for each divisor of a length but the length itself, of which no length has more than 19, and all pairs and
-- all squares of the longest word
unfoldable pub report_places : ℕ
report_places = 1 + 19 + board_size + longest / 2 * (longest / 2)
