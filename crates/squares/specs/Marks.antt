-- Marks of candidates: 1 where the candidate is a square, 0 where it is none.
use Rattle.std.specs.Prelude.{ℕ, suc, ◌-◌, ◌*◌, List, map, length, get_or, eqb}
use Rattle.abelian.specs.Lists.{one, up_from, keep, each}
use Rattle.abelian.specs.Squares.{is_square}

-- the marks of the candidates of one half length, by start
unfoldable pub start_marks : List ℕ → ℕ → List ℕ
start_marks w q = map (λ (i : ℕ). one (is_square w q i)) (up_from 1 (suc (length w) - 2 * q))

-- the marks of all candidates, by half length and then by start
unfoldable pub square_marks : List ℕ → List ℕ
square_marks w = each (up_from 1 (length w)) (start_marks w)

-- the starts, counted from 1, whose mark is 1
unfoldable pub marked_starts : List ℕ → List ℕ
marked_starts marks = keep (λ (i : ℕ). eqb (get_or marks (i - 1) 0) 1) (up_from 1 (length marks))
