-- What the skipping lister looks up: for each letter and number the position of that occurrence, for each head the greatest gap behind it and the lowest period that is
-- tried with it.
use Rattle.std.specs.Prelude.{ℕ, suc, ◌+◌, ◌-◌, ◌*◌, ◌/◌, max, not, ◌&&◌, List, map, length, drop, replicate, ltb}
use Rattle.abelian.specs.Lists.{pick, up_from}
use Rattle.abelian.specs.Words.{alphabet_size, longest, letters}
use Rattle.abelian.specs.Trials.{ruled_out, occurrence, greatest_gap, lowest_tried}

-- row j, entry k: the position of occurrence number k + 1 of the letter of place j, or 0 where the letter has no more than k
unfoldable pub positions : List ℕ → List (List ℕ)
positions w = map (λ (c : ℕ). map (λ (k : ℕ). occurrence c k w) (up_from 1 (suc longest))) letters

-- a table of that size in which no position has been entered
abbrev pub no_positions : List (List ℕ)
no_positions = replicate alphabet_size (replicate (suc longest) 0)

-- entry h, from 0 to 240: G of the letters after position h
unfoldable pub greatest_gaps : List ℕ → List ℕ
greatest_gaps w = map (λ (h : ℕ). greatest_gap (drop h w)) (up_from 0 (suc longest))

-- L(h) by the head's reach, the greatest position of an occurrence number 2c of a letter that the head has c times, and by the greatest gap behind it: the largest of
-- h + 1, the reach less h, and floor((gap + 1)/2)
abbrev pub lowest_above : ℕ → ℕ → ℕ → ℕ
lowest_above h reach gap = max (suc h) (max (reach - h) ((gap + 1) / 2))

-- the entry of a head with which no pair is tried: it is above every period
unfoldable pub untried : ℕ
untried = 255

-- the lowest period that is tried with the head h: L(h), where h is not ruled out and is the head of a pair in range, of which 2h < n
unfoldable pub lowest_period : List ℕ → ℕ → ℕ
lowest_period w h = pick (ltb (2 * h) (length w) && not (ruled_out w h)) (lowest_tried w h) untried

-- entry h, from 0 to 240: the lowest period that is tried with the head h
unfoldable pub lowest_periods : List ℕ → List ℕ
lowest_periods w = map (lowest_period w) (up_from 0 (suc longest))
