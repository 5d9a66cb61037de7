-- The list of squares is right: a half length and a start are in it exactly where they are an Abelian square, and the list rises strictly, by half
-- length and then by start, so that it has each square once.
use mathlib.Core.Path.{◌≡◌, subst}
use mathlib.Core.Logic.{◌↔◌}
use mathlib.Core.List.{List, Memᴰ}
use Prim.Native.Nat.{ℕ, suc, ◌+◌, ◌-◌, ◌*◌, ◌^◌, ◌≤◌, ◌<◌}
use native.Mathlib.Omega.{arith}
use lib.ListN.{length, drop, length-take, length-drop}
use lib.Dec.{T}
use Rattle.abelian.specs.Lists.{up_from}
use Rattle.abelian.specs.Words.{longest, vector, part}
use Rattle.abelian.specs.Output.{output_word, square_word}
use Rattle.abelian.specs.Squares.{is_square, square_starts, square_words}
use Rattle.abelian.proofs.Lists.{same_equal, equal_same, mem-keep, keep-mem, mem-up_from, up_from-mem, mem-each, each-mem, ordered_keep, ordered_up_from, ordered_map, ordered_each}
use Rattle.squares.specs.Squares.{AbelianSquare, Increasing}
use Rattle.squares.proofs.Candidates.{half_words}

-- ---- a square's halves

-- both halves lie in the word: each has q letters
module _ (w : List ℕ) (q i : ℕ) (s : AbelianSquare w q i) where
  pub first_half_whole : length (part w (i - 1) q) ≡ q
  first_half_whole = omega (arith, length-take q (drop (i - 1) w), length-drop (i - 1) w, s.half, s.start, s.within)

  pub second_half_whole : length (part w (i - 1 + q) q) ≡ q
  second_half_whole = omega (arith, length-take q (drop (i - 1 + q) w), length-drop (i - 1 + q) w, s.half, s.start, s.within)

-- ---- the starts of one half length

module _ (w : List ℕ) (q i : ℕ) where
  pub start_square : 1 ≤ q → Memᴰ i (square_starts w q) → AbelianSquare w q i
  unfolding square_starts is_square
  start_square l m =
      let k : Memᴰ i (up_from 1 (suc (length w) - 2 * q)) × T (is_square w q i) = mem-keep (is_square w q) (up_from 1 (suc (length w) - 2 * q)) m in
      let b : (1 ≤ i) × (i < 1 + (suc (length w) - 2 * q)) = mem-up_from 1 (suc (length w) - 2 * q) k.0 in
      record {
        half = l;
        start = b.0;
        within = omega arith;
        alike = same_equal (vector (part w (i - 1) q)) (vector (part w (i - 1 + q) q)) k.1;
      }

  pub square_start : AbelianSquare w q i → Memᴰ i (square_starts w q)
  unfolding square_starts is_square
  square_start s =
      keep-mem (is_square w q) (up_from 1 (suc (length w) - 2 * q))
      (up_from-mem 1 (suc (length w) - 2 * q) i s.start (omega (arith, s.within, s.half, s.start)))
      (equal_same (vector (part w (i - 1) q)) (vector (part w (i - 1 + q) q)) s.alike)

  -- a start is listed for its half length exactly where the two are a square
  pub starts_definition : 1 ≤ q → Memᴰ i (square_starts w q) ↔ AbelianSquare w q i
  starts_definition l = (start_square l, square_start)

-- ---- the words of all squares

-- half length and start can be read off an output word
pub square_word_half : (q i r j : ℕ) → i < 2 ^ 14 → j < 2 ^ 14 → square_word q i ≡ square_word r j → (q ≡ r) × (i ≡ j)
unfolding square_word output_word
square_word_half q i r j h l e = omega arith

module _ (w : List ℕ) where
  -- every word of the list is that of a square
  pub word_square : {x : ℕ} → Memᴰ x (square_words w) → (q : ℕ) × (i : ℕ) × AbelianSquare w q i × (square_word q i ≡ x)
  unfolding square_words
  word_square {x} m =
      let r : (q : ℕ) × Memᴰ q (up_from 1 (length w)) × Memᴰ x (half_words w q) = mem-each (half_words w) (up_from 1 (length w)) m in
      let k : (i : ℕ) × Memᴰ i (square_starts w r.0) × (square_word r.0 i ≡ x) = mathlib.Core.List.Memᴰ.of_map (square_word r.0) (square_starts w r.0) r.2 in
      (r.0, k.0, start_square w r.0 k.0 (mem-up_from 1 (length w) r.1).0 k.1, k.2)

  -- every square's word is in the list
  pub square_word_lem : {q i : ℕ} → AbelianSquare w q i → Memᴰ (square_word q i) (square_words w)
  unfolding square_words
  square_word_lem {q} {i} s =
      each-mem (half_words w) (up_from 1 (length w)) (up_from-mem 1 (length w) q s.half (omega (arith, s.within, s.start)))
      (mathlib.Core.List.Memᴰ.map (square_word q) (square_start w q i s))

  -- a start is small where the word is
  start_small : length w ≤ longest → (q i : ℕ) → Memᴰ i (square_starts w q) → i < 2 ^ 14
  unfolding square_starts longest
  start_small short q i m = omega (arith, mem-up_from 1 (suc (length w) - 2 * q) (mem-keep (is_square w q) (up_from 1 (suc (length w) - 2 * q)) m).0)

  -- a half length and a start are in the list exactly where they are a square
  pub words_definition : (q i : ℕ) → length w ≤ longest → i < 2 ^ 14 → Memᴰ (square_word q i) (square_words w) ↔ AbelianSquare w q i
  words_definition q i l b = (from, square_word_lem)
    where
      from : Memᴰ (square_word q i) (square_words w) → AbelianSquare w q i
      from m =
          let r : (p : ℕ) × (j : ℕ) × AbelianSquare w p j × (square_word p j ≡ square_word q i) = word_square m in
          let e : (r.0 ≡ q) × (r.1 ≡ i) = square_word_half r.0 r.1 q i (start_small l r.0 r.1 (square_start w r.0 r.1 r.2)) b r.3 in
          subst (λ (j : ℕ). AbelianSquare w q j) e.1 (subst (λ (p : ℕ). AbelianSquare w p r.1) e.0 r.2)

-- ---- order

module _ (w : List ℕ) where
  -- the starts of a half length rise
  pub starts_increasing : (q : ℕ) → Increasing (square_starts w q)
  unfolding square_starts
  starts_increasing q = ordered_keep ◌<◌ (is_square w q) (up_from 1 (suc (length w) - 2 * q)) (ordered_up_from 1 (suc (length w) - 2 * q))

  -- and so do their words
  words_of_starts : (q : ℕ) → Increasing (half_words w q)
  unfolding square_word output_word
  words_of_starts q = ordered_map ◌<◌ ◌<◌ (square_word q) (λ i j l. omega arith) (square_starts w q) (starts_increasing q)

  -- the word of a square is below that of one with a greater half length
  half_first : (q i r j : ℕ) → q < r → i < 2 ^ 14 → square_word q i < square_word r j
  unfolding square_word output_word
  half_first q i r j l b = omega arith

  -- the words of all squares rise: each square is listed once, by half length and then by start
  pub words_increasing : length w ≤ longest → Increasing (square_words w)
  unfolding square_words
  words_increasing short =
      ordered_each ◌<◌ ◌<◌ (half_words w) words_of_starts
      (λ q r l x y m n.
      let i : (i : ℕ) × Memᴰ i (square_starts w q) × (square_word q i ≡ x) = mathlib.Core.List.Memᴰ.of_map (square_word q) (square_starts w q) m in
      let j : (j : ℕ) × Memᴰ j (square_starts w r) × (square_word r j ≡ y) = mathlib.Core.List.Memᴰ.of_map (square_word r) (square_starts w r) n in
      omega (arith, i.2, j.2, half_first q i.0 r j.0 l (start_small w short q i.0 i.1)))
      (up_from 1 (length w)) (ordered_up_from 1 (length w))
