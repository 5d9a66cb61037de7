-- The place of a pair on a board.
use Rattle.std.specs.Prelude.{ℕ, ◌+◌, ◌-◌, ◌*◌, ◌/◌, Bool, List, get_or, leb, eqb}
use Rattle.abelian.specs.Lists.{pick}
use Rattle.abelian.specs.Periods.{Pair}

-- Where the row of a period begins: behind all pairs with a smaller one. Rows grow by one pair up to p = 120; the row of 121 has 120
-- pairs too, and from 122 on they shrink by one.
unfoldable pub row_start : ℕ → ℕ
row_start p = pick (leb p 121) (p * (p - 1) / 2) (14520 - (241 - p) * (242 - p) / 2)

-- The place of a pair: its row's start, and its head.
unfoldable pub place_of : Pair → ℕ
place_of x = row_start x.period + x.head

-- The entry of a pair.
abbrev pub entry_at : List ℕ → Pair → ℕ
entry_at board x = get_or board (place_of x) 0

-- The pair's entry is 0.
abbrev pub is_open : List ℕ → Pair → Bool
is_open board x = eqb (entry_at board x) 0
