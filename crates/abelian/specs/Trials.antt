-- The two listers' trials.
use Rattle.std.specs.Prelude.{ℕ, suc, ◌+◌, ◌-◌, ◌*◌, ◌/◌, max, Bool, not, ◌&&◌, List, [], ◌∷◌, map, length, take, drop, leb, ltb, eqb}
use Rattle.abelian.specs.Lists.{pick, up_from, largest, first_passing, keep, all}
use Rattle.abelian.specs.Words.{letters, count}
use Rattle.abelian.specs.Periods.{Pair, pairs}

-- The plain lister's trials: the pairs in range.
unfoldable pub plain_trials : List ℕ → ℕ
plain_trials w = length (pairs (length w))

-- "Ruled out": some letter's count in the first h letters, doubled, exceeds its count in the word.
unfoldable pub ruled_out : List ℕ → ℕ → Bool
ruled_out w h = not (all (λ (c : ℕ). leb (2 * count c (take h w)) (count c w)) letters)

-- The position of c's occurrence number k, k ≥ 1: the first at which c has been counted k times; 0 where c has fewer occurrences.
unfoldable pub occurrence : ℕ → ℕ → List ℕ → ℕ
occurrence c k w = first_passing (λ (m : ℕ). eqb (count c (take m w)) k) (up_from 1 (length w))

-- The distance from a letter x to its next occurrence, which is sought in the letters behind it; 0 where there is none.
unfoldable pub distance : ℕ → List ℕ → ℕ
distance x w = occurrence x 1 w

-- "G", of the letters after position h: the greatest distance between two neighbouring occurrences of one letter, or 0.
unfoldable pub greatest_gap : List ℕ → ℕ
greatest_gap [] = 0
greatest_gap (x ∷ w) = max (distance x w) (greatest_gap w)

-- of the letter c, where its count in the head is above 0: the position of its occurrence number twice that count, less h
unfoldable pub occurrence_bound : List ℕ → ℕ → ℕ → ℕ
occurrence_bound w h c = pick (ltb 0 (count c (take h w))) (occurrence c (2 * count c (take h w)) w - h) 0

-- "L(h)": the largest of h + 1, the bounds by occurrences of each letter, and floor((G + 1)/2).
unfoldable pub lowest_tried : List ℕ → ℕ → ℕ
lowest_tried w h = max (suc h) (max (largest (map (occurrence_bound w h) letters)) ((greatest_gap (drop h w) + 1) / 2))

-- the pair is one that the skipping lister tries
unfoldable pub is_candidate : List ℕ → Pair → Bool
is_candidate w x = not (ruled_out w x.head) && leb (lowest_tried w x.head) x.period

-- The pairs in range whose h is not ruled out and with p ≥ L(h).
unfoldable pub candidates : List ℕ → List Pair
candidates w = keep (is_candidate w) (pairs (length w))

-- The skipping lister's trials: the number of these pairs.
unfoldable pub skipping_trials : List ℕ → ℕ
skipping_trials w = length (candidates w)
