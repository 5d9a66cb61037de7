-- Words and counts. A word, and any stretch of one, is the list of its bytes.
use Rattle.std.specs.Prelude.{ℕ, suc, ◌+◌, Bool, true, false, ◌&&◌, List, [], ◌∷◌, map, length, take, drop, get_or, eqb, leb, ltb}
use Rattle.abelian.specs.Lists.{pick, one, up_from, sum, all}

-- How many letters there are. C-16: "Letters become the bytes 97 to 122, a to z, and every vector has 26 counts." Beside the rows of `Marked`, which have
-- it as a result, this is the one place of the definitions that names the number.
unfoldable pub alphabet_size : ℕ
alphabet_size = 26

-- The byte of the letter a, from which the letters go up.
unfoldable pub first_letter : ℕ
first_letter = 97

-- "A word has n letters, 0 to 240": the longest word.
unfoldable pub longest : ℕ
longest = 240

-- The letters, in letter order.
unfoldable pub letters : List ℕ
unfolding alphabet_size first_letter
letters = up_from first_letter alphabet_size

-- b is one of the first `size` letters
unfoldable pub is_letter : ℕ → ℕ → Bool
is_letter size b = leb first_letter b && ltb b (first_letter + size)

-- The first position that holds none of the first `size` letters, where the list's first position is `at`; 0 where there is none.
unfoldable pub outside_from : ℕ → ℕ → List ℕ → ℕ
outside_from size at [] = 0
outside_from size at (x ∷ w) = pick (is_letter size x) (outside_from size (suc at) w) at

-- The first position, counted from 1, that holds none of the first `size` letters; 0 where there is none.
unfoldable pub first_outside : ℕ → List ℕ → ℕ
first_outside size w = outside_from size 1 w

-- A word of letters: no position holds anything else.
unfoldable pub of_letters : List ℕ → Bool
of_letters w = eqb (first_outside alphabet_size w) 0

-- C-17's "all are equal": every letter equals the first. True of one letter alone, and of none.
unfoldable pub all_equal : List ℕ → Bool
all_equal w = all (λ (x : ℕ). eqb x (get_or w 0 0)) w

-- C-17's "the word has two or more letters and all are equal", which one letter by itself is not.
unfoldable pub one_letter : List ℕ → Bool
one_letter w = leb 2 (length w) && all_equal w

-- How often c stands in the stretch.
unfoldable pub count : ℕ → List ℕ → ℕ
count c [] = 0
count c (x ∷ w) = one (eqb x c) + count c w

-- "Count vector": the number of each letter in the stretch.
unfoldable pub vector : List ℕ → List ℕ
vector w = map (λ (c : ℕ). count c w) letters

-- no count of the first vector exceeds that of the second
unfoldable pub none_above : List ℕ → List ℕ → Bool
none_above [] v = true
none_above (a ∷ u) [] = false
none_above (a ∷ u) (b ∷ v) = leb a b && none_above u v

-- "Contained": no count of u exceeds that of v, and u's sum is smaller.
unfoldable pub contained : List ℕ → List ℕ → Bool
contained u v = none_above u v && ltb (sum u) (sum v)

-- the `size` letters behind the first `from`
abbrev pub part : List ℕ → ℕ → ℕ → List ℕ
part w from size = take size (drop from w)
