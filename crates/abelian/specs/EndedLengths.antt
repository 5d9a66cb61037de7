-- Ended lengths and the board.
use Rattle.std.specs.Prelude.{ℕ, suc, ◌+◌, ◌-◌, not, List, map, length, take}
use Rattle.abelian.specs.Lists.{up_from, first_passing}
use Rattle.abelian.specs.Words.{longest}
use Rattle.abelian.specs.Periods.{Pair, is_period, pairs}

-- "Ended length": the smallest m from h + p to n at which the pair is no Abelian period of the first m letters, or 0 if there is none.
unfoldable pub ended_length : List ℕ → Pair → ℕ
ended_length w x =
    first_passing (λ (m : ℕ). not (is_period (take m w) x))
    (up_from (x.head + x.period) (suc (length w) - (x.head + x.period)))

-- A board: one entry for each pair in range for 240, in pair order.
unfoldable pub board_of : (Pair → ℕ) → List ℕ
board_of f = map f (pairs longest)
