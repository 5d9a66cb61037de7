-- Abelian runs: document 003 defines them in its section 2 and finds them in section 3.3; the words here are those of C-11.
use Rattle.std.specs.Prelude.{ℕ, suc, ◌+◌, ◌-◌, ◌*◌, ◌/◌, ◌%◌, ◌^◌, ◌≤◌, ◌<◌, ◌≡◌, ◌⊎◌, ◌≢◌, Bool, ◌&&◌, not, List, [], ◌∷◌, map, length, T, leb, ltb}
use Rattle.abelian.specs.Lists.{up_from, largest, same, keep, all, each}
use Rattle.abelian.specs.Words.{vector, contained, part}
use Rattle.abelian.specs.Output.{run_word, hands_word}
use Rattle.abelian.specs.Squares.{is_square, square_starts}

-- A run: whole blocks of d letters from position i to position j, and the lengths of its left and right hands.
pub record Run : Type 0 where
  pub d : ℕ
  pub i : ℕ
  pub j : ℕ
  pub left : ℕ
  pub right : ℕ

abbrev pub run : ℕ → ℕ → ℕ → ℕ → ℕ → Run
run d i j left right = record { d = d; i = i; j = j; left = left; right = right }

-- ---- the list

-- the largest number up to n that passes the test, or 0 where none does
unfoldable pub most : (ℕ → Bool) → ℕ → ℕ
most f n = largest (keep f (up_from 0 (suc n)))

-- the block of d letters before position i lies in the word and has the vector of the one from i on: a square stands at i − d
unfoldable pub goes_back : List ℕ → ℕ → ℕ → Bool
goes_back w d i = ltb d i && is_square w d (i - d)

-- the starts i of the maximal repetitions with blocks of d letters: a square of half length d stands at i, and the block before i lies outside the word or
-- differs
unfoldable pub run_starts : List ℕ → ℕ → List ℕ
run_starts w d = keep (λ (i : ℕ). not (goes_back w d i)) (square_starts w d)

-- k whole blocks of d letters from position i on lie in the word and have equal vectors
unfoldable pub repeats : List ℕ → ℕ → ℕ → ℕ → Bool
repeats w d i k =
    leb (i - 1 + k * d) (length w)
    && all (λ (m : ℕ). same (vector (part w (i - 1 + m * d) d)) (vector (part w (i - 1) d))) (up_from 0 k)

-- j: the position at which the last of the whole blocks with equal vectors ends
unfoldable pub run_end : List ℕ → ℕ → ℕ → ℕ
run_end w d i = i - 1 + most (repeats w d i) (length w) * d

-- the stretch of k letters that ends at i − 1 is contained in the block of d letters from i on
unfoldable pub left_fits : List ℕ → ℕ → ℕ → ℕ → Bool
left_fits w d i k = contained (vector (part w (i - 1 - k) k)) (vector (part w (i - 1) d))

-- the stretch of k letters that begins at j + 1 is contained in the block of d letters from i on
unfoldable pub right_fits : List ℕ → ℕ → ℕ → ℕ → ℕ → Bool
right_fits w d i j k = contained (vector (part w j k)) (vector (part w (i - 1) d))

-- The left hand's length: that of the longest stretch of the word that ends at i − 1 and is contained in a block.
unfoldable pub left_hand : List ℕ → ℕ → ℕ → ℕ
left_hand w d i = most (left_fits w d i) (i - 1)

-- The right hand's length: that of the longest stretch of the word that begins at j + 1 and is contained in a block.
unfoldable pub right_hand : List ℕ → ℕ → ℕ → ℕ → ℕ
right_hand w d i j = most (right_fits w d i j) (length w - j)

-- the run with blocks of d letters from position i on
unfoldable pub run_at : List ℕ → ℕ → ℕ → Run
run_at w d i = run d i (run_end w d i) (left_hand w d i) (right_hand w d i (run_end w d i))

-- The Abelian runs of a word of letters, by d and then by i.
unfoldable pub runs : List ℕ → List Run
runs w = each (up_from 1 (length w)) (λ (d : ℕ). map (run_at w d) (run_starts w d))

-- the two words of a run
unfoldable pub words_of_run : Run → List ℕ
words_of_run r = run_word r.d r.i ∷ hands_word r.j r.left r.right ∷ []

-- The words of all runs, two for each.
unfoldable pub run_words : List ℕ → List ℕ
run_words w = each (runs w) words_of_run

-- the run that two words say: the 14 bits of d and of i in the first, the 12 bits of j and the 8 bits of each hand in the second
unfoldable pub read_run : ℕ → ℕ → Run
read_run first second = run (first / 2 ^ 14 % 2 ^ 14) (first % 2 ^ 14) (second / 2 ^ 16 % 2 ^ 12) (second / 2 ^ 8 % 2 ^ 8) (second % 2 ^ 8)

-- ---- what C-11 says

-- k is the largest number up to n that passes the test: it passes, and every larger one is above n or does not.
pub record Largest (f : ℕ → Bool) (n k : ℕ) : Type 0 where
  pub within : k ≤ n
  pub passes : T (f k)
  pub none : (m : ℕ) → k < m → m ≤ n → T (f m) → ⊥

-- An Abelian run, of a word of letters. A maximal repetition: two or more whole blocks of d letters from i to j with equal vectors; the block of d letters
-- before i lies outside the word or differs, and so does the one after j. Its hands: the longest stretches of the word, ending at i − 1 and beginning at j + 1,
-- that are contained in a block.
pub record AbelianRun (w : List ℕ) (r : Run) : Type 0 where
  pub size : 1 ≤ r.d
  pub start : 1 ≤ r.i
  pub blocks : ℕ
  pub two : 2 ≤ blocks
  pub whole : r.j ≡ r.i - 1 + blocks * r.d
  pub within : r.j ≤ length w
  pub equal : (m : ℕ) → m < blocks → vector (part w (r.i - 1 + m * r.d) r.d) ≡ vector (part w (r.i - 1) r.d)
  pub before : r.d < r.i → vector (part w (r.i - 1 - r.d) r.d) ≢ vector (part w (r.i - 1) r.d)
  pub after : r.j + r.d ≤ length w → vector (part w r.j r.d) ≢ vector (part w (r.i - 1) r.d)
  pub left_hand : Largest (left_fits w r.d r.i) (r.i - 1) r.left
  pub right_hand : Largest (right_fits w r.d r.i r.j) (length w - r.j) r.right

-- x stands before y in the list: "order is d, then i".
abbrev pub RunBefore : Run → Run → Type 0
RunBefore x y = (x.d < y.d) ⊎ ((x.d ≡ y.d) × (x.i < y.i))
