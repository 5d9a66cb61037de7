-- Laws of cover lengths: the first and the last letters of a length have equal vectors exactly where those of the length that is left have,
-- so the smallest cover length is found among lengths that are left by equal ends of at most half the word.
use mathlib.Core.Path.{◌≡◌, refl, sym, ap, ◌∙◌}
use mathlib.Core.Bool.{Bool}
use mathlib.Core.List.{List, ◌++◌}
use Prim.Native.Nat.{ℕ, zero, suc, ◌+◌, ◌-◌, ◌*◌, ◌≤◌, ◌<◌}
use native.Mathlib.Omega.{arith}
use native.Mathlib.Numerals.{add-one}
use lib.ListN.{length, take, drop}
use lib.Dec.{T, eqb, leb, leb→le, le→leb}
use Rattle.abelian.specs.Lists.{pick, up_from, first_passing, same}
use Rattle.abelian.specs.Words.{vector}
use Rattle.abelian.specs.Covers.{CoverLength, is_cover_length, cover_length}
use Rattle.abelian.proofs.Tests.{both, left, right, iff_equal}
use Rattle.abelian.proofs.Lists.{same_equal, equal_same, mem-up_from, up_from-append, none-first_passing, first_passing-append}
use Rattle.abelian.proofs.Counts.{count-take-drop, vector_counts, counts_vector}
use Rattle.words.proofs.Vectors.{length-vector}
use Rattle.covers.specs.Differing.{differing}
use Rattle.covers.proofs.Differing.{differing-none}

-- ---- the ends

-- where the first j letters have the vector of the letters behind the first k, the first k have that of the letters behind the first j
pub ends_mirrored : (w : List ℕ) (j k : ℕ) → vector (take j w) ≡ vector (drop k w) → vector (take k w) ≡ vector (drop j w)
ends_mirrored w j k e =
    counts_vector (take k w) (drop j w)
    (λ c m. omega (arith, vector_counts (take j w) (drop k w) e c m, count-take-drop c j w, count-take-drop c k w))

module _ (w : List ℕ) (m : ℕ) where
  abbrev long : Bool
  long = leb (length w) (2 * m)

  abbrev alike : Bool
  alike = same (vector (take m w)) (vector (drop (length w - m) w))

  -- below the word's length, what passes the test is a cover length
  pub test_cover : m < length w → T (is_cover_length w m) → CoverLength w m
  unfolding is_cover_length
  test_cover b t =
      record {
        below = b;
        half = leb→le (length w) (2 * m) (left long alike t);
        equal = same_equal (vector (take m w)) (vector (drop (length w - m) w)) (right long alike t);
      }

  -- and a cover length passes it
  pub cover_test : CoverLength w m → T (is_cover_length w m)
  unfolding is_cover_length
  cover_test c =
      both long alike (le→leb (length w) (2 * m) c.half)
      (equal_same (vector (take m w)) (vector (drop (length w - m) w)) c.equal)

-- ---- the search

-- the smallest cover length among the j lengths from m on, or 0
unfoldable pub smallest_from : List ℕ → ℕ → ℕ → ℕ
smallest_from w m j = first_passing (is_cover_length w) (up_from m j)

module _ (w : List ℕ) where
  -- among the lengths from m on, m comes first
  pub smallest_more : (m j : ℕ) → smallest_from w m (suc j) ≡ pick (is_cover_length w m) m (smallest_from w (suc m) j)
  unfolding smallest_from
  smallest_more m j = refl

  -- two parts that add up to the word, the first at least as long: its length is a cover length exactly where the ends that are as long
  -- as the second have equal vectors
  pub mirrored_test : (j m : ℕ) → j + m ≡ length w → 1 ≤ j → j ≤ m → is_cover_length w m ≡ same (vector (take j w)) (vector (drop m w))
  mirrored_test j m e p h =
      let q : length w - m ≡ j = omega arith in
      let b : m < length w = omega arith in
      iff_equal (is_cover_length w m) (same (vector (take j w)) (vector (drop m w)))
      (λ t. equal_same (vector (take j w)) (vector (drop m w)) (ends_mirrored w m j (rw q at (test_cover w m b t).equal)))
      (λ t.
      cover_test w m
      (record { below = b; half = omega arith; equal = rw q (ends_mirrored w j m (same_equal (vector (take j w)) (vector (drop m w)) t)) }))

  -- one letter more from each end: the smallest length is the first part's, where the ends do not differ, and else as before
  pub smallest_next : (j m differ : ℕ) → j + m ≡ length w → j + 1 < m → differ ≡ differing (vector (take (j + 1) w)) (vector (drop (m - 1) w))
      → smallest_from w (m - 1) (j + 1) ≡ pick (eqb differ 0) (m - 1) (smallest_from w m j)
  smallest_next j m differ e h d =
      let s : suc (m - 1) ≡ m = omega arith in
      let n : length (vector (take (j + 1) w)) ≡ length (vector (drop (m - 1) w)) = length-vector (take (j + 1) w) ∙ sym (length-vector (drop (m - 1) w)) in
      let test : is_cover_length w (m - 1) ≡ eqb differ 0 =
      mirrored_test (j + 1) (m - 1) (omega arith) (omega arith) (omega arith)
      ∙ sym (differing-none (vector (take (j + 1) w)) (vector (drop (m - 1) w)) n)
      ∙ ap (λ (k : ℕ). eqb k 0) (sym d) in
      rw (add-one j, smallest_more (m - 1) j, test, s)

  -- the ends have met in the middle: no length below half the word's is a cover length, so the smallest is that of the word
  pub smallest_whole : (j m : ℕ) → j + m ≡ length w → j ≤ m → m ≤ j + 1 → smallest_from w m j ≡ cover_length w
  unfolding smallest_from cover_length
  smallest_whole j zero e h l =
      let z : j ≡ 0 = omega arith in
      let n : length w - 1 ≡ 0 = omega arith in
      rw (z, n)
  smallest_whole j (suc m) e h l =
      let s : length w - 1 ≡ m + j = omega arith in
      let o : 1 + m ≡ suc m = omega arith in
      let none : first_passing (is_cover_length w) (up_from 1 m) ≡ 0 =
      none-first_passing (is_cover_length w) (up_from 1 m)
      (λ k i t. let b : (1 ≤ k) × (k < 1 + m) = mem-up_from 1 m i in omega (arith, (test_cover w k (omega arith) t).half)) in
      let parts : first_passing (is_cover_length w) (up_from 1 m ++ up_from (suc m) j)
      ≡ pick (eqb (first_passing (is_cover_length w) (up_from 1 m)) 0) (first_passing (is_cover_length w) (up_from (suc m) j)) (first_passing (is_cover_length w) (up_from 1 m)) =
      first_passing-append (is_cover_length w) (up_from 1 m) (up_from (suc m) j) (λ k i. (mem-up_from 1 m i).0) in
      sym (rw (s, up_from-append 1 m j, o, parts, none))
