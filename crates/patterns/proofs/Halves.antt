-- The totals of a word and of its beginnings, as the search has them, tell whether a square ends where the word ends.
use mathlib.Core.Path.{◌≡◌, sym, ap, ◌∙◌}
use mathlib.Core.Logic.{◌↔◌}
use mathlib.Core.Bool.{true, false, not}
use mathlib.Core.List.{List, [], ◌∷◌, ◌++◌, map}
use Prim.Native.Nat.{ℕ, zero, suc, ◌+◌, ◌-◌, ◌*◌, ◌≤◌, ◌<◌}
use native.Mathlib.Omega.{arith}
use lib.ListN.{length, take, drop, get_or, length-append, length-take, length-map}
use lib.Seq.{take-append-le, take_all, ext_get_or}
use lib.Dec.{T, eqb, eqb→eq}
use borrow.Author.Tests.{eq-eqb}
use Rattle.abelian.specs.Lists.{up_from}
use Rattle.abelian.specs.Words.{first_letter, part}
use Rattle.abelian.specs.Patterns.{largest_alphabet, longest_square_free, square_free}
use Rattle.abelian.proofs.Tests.{is_true, is_false, passes, fails, iff_equal}
use Rattle.abelian.proofs.Lists.{length-up_from}
use Rattle.words.proofs.Vectors.{map-up_from_at}
use Rattle.patterns.specs.Search.{halves_agree, ends_square, with_letter}
use Rattle.patterns.specs.SquareFree.{Over}
use Rattle.patterns.proofs.Ends.{agree_ends, apart_ends}
use Rattle.patterns.proofs.Beginnings.{SquareAtEnd, letter_free}
use Rattle.patterns.proofs.Totals.{over_part, total, total_append, total_part, vector_total, total_vector}

-- ---- the totals of all beginnings

-- the totals of the word and of its beginnings, the longest first: the last is that of no letters
unfoldable pub totals_of : List ℕ → List ℕ
totals_of w = map (λ (j : ℕ). total (take (length w - j) w)) (up_from 0 (suc (length w)))

module _ (w : List ℕ) where
  -- there is one more than the word has letters
  pub length-totals : length (totals_of w) ≡ suc (length w)
  unfolding totals_of
  length-totals = length-map (up_from 0 (suc (length w))) (λ (j : ℕ). total (take (length w - j) w)) ∙ length-up_from 0 (suc (length w))

  -- place j has the total of the word without its last j letters
  pub totals_at : (j : ℕ) → j ≤ length w → get_or (totals_of w) j 0 ≡ total (take (length w - j) w)
  unfolding totals_of
  totals_at j h = let e : 0 + j ≡ j = omega arith in rw e at (map-up_from_at (λ (i : ℕ). total (take (length w - i) w)) 0 (suc (length w)) j 0 (omega arith))

  -- the first is that of the whole word
  pub totals_whole : get_or (totals_of w) 0 0 ≡ total w
  totals_whole = totals_at 0 (omega arith) ∙ ap total (take_all (length w - 0) w (omega arith))

-- a letter behind the word adds a total in front
pub totals_letter : (w : List ℕ) (c : ℕ) → totals_of (w ++ (c ∷ [])) ≡ with_letter (totals_of w) (c - first_letter)
unfolding total
totals_letter w c =
    ext_get_or 0 (totals_of (w ++ (c ∷ []))) (with_letter (totals_of w) (c - first_letter)) (omega (arith, longer, length-totals (w ++ (c ∷ [])), length-totals w))
    (λ i h. at i (omega (arith, longer, length-totals (w ++ (c ∷ [])))))
  where
    longer : length (w ++ (c ∷ [])) ≡ suc (length w)
    longer = omega (arith, length-append w (c ∷ []))

    at : (i : ℕ) → i ≤ suc (length w) → get_or (totals_of (w ++ (c ∷ []))) i 0 ≡ get_or (with_letter (totals_of w) (c - first_letter)) i 0
    at zero h = omega (arith, totals_whole (w ++ (c ∷ [])), totals_whole w, total_append w (c ∷ []))
    at (suc i) h =
        let e : length (w ++ (c ∷ [])) - suc i ≡ length w - i = omega (arith, longer) in
        totals_at (w ++ (c ∷ [])) (suc i) (omega (arith, longer)) ∙ rw e (ap total (take-append-le (length w - i) w (c ∷ []) (omega arith))) ∙ sym (totals_at w i (omega arith))

-- ---- the halves at the end

-- the two stretches of q letters at the end of the word
abbrev first_half : List ℕ → ℕ → List ℕ
first_half x q = part x (suc (length x) - 2 * q - 1) q

abbrev second_half : List ℕ → ℕ → List ℕ
second_half x q = part x (suc (length x) - 2 * q - 1 + q) q

module _ (x : List ℕ) (q : ℕ) (fits : 2 * q ≤ length x) where
  -- the three totals that the test reads, by those of the two stretches
  three_totals : (get_or (totals_of x) q 0 ≡ get_or (totals_of x) (2 * q) 0 + total (first_half x q)) × (get_or (totals_of x) 0 0 ≡ get_or (totals_of x) q 0 + total (second_half x q))
  three_totals =
      let s : ℕ = suc (length x) - 2 * q - 1 in
      let a : length x - 2 * q ≡ s = omega arith in
      let b : length x - q ≡ s + q = omega arith in
      let c : length x - 0 ≡ s + q + q = omega arith in
      let ta : get_or (totals_of x) (2 * q) 0 ≡ total (take s x) = rw a at (totals_at x (2 * q) fits) in
      let tb : get_or (totals_of x) q 0 ≡ total (take (s + q) x) = rw b at (totals_at x q (omega arith)) in
      let tc : get_or (totals_of x) 0 0 ≡ total (take (s + q + q) x) = rw c at (totals_at x 0 (omega arith)) in
      (omega (arith, total_part x s q), omega (arith, total_part x (s + q) q))

  -- the test passes exactly where the stretches have equal totals
  agree_totals : T (halves_agree (totals_of x) q) ↔ (total (first_half x q) ≡ total (second_half x q))
  unfolding halves_agree
  agree_totals =
      let t0 : ℕ = get_or (totals_of x) 0 0 + get_or (totals_of x) (2 * q) 0 in
      let t1 : ℕ = 2 * get_or (totals_of x) q 0 in
      (λ t. omega (arith, eqb→eq t0 t1 t, three_totals), λ e. passes (eqb t0 t1) (eq-eqb t0 t1 (omega (arith, three_totals))))

  module _ (over : Over largest_alphabet x) where
    -- both stretches are over the first letters where the word is
    first_over : Over largest_alphabet (first_half x q)
    first_over = over_part largest_alphabet x (suc (length x) - 2 * q - 1) q over

    second_over : Over largest_alphabet (second_half x q)
    second_over = over_part largest_alphabet x (suc (length x) - 2 * q - 1 + q) q over

    -- stretches of a short word that pass the test are a square
    pub agree_square : length x ≤ longest_square_free → 1 ≤ q → T (halves_agree (totals_of x) q) → SquareAtEnd x q
    unfolding longest_square_free
    agree_square short half t =
        let short-first : length (first_half x q) < 32 = omega (arith, length-take q (drop (suc (length x) - 2 * q - 1) x)) in
        let short-second : length (second_half x q) < 32 = omega (arith, length-take q (drop (suc (length x) - 2 * q - 1 + q) x)) in
        record {
          half = half;
          start = omega arith;
          within = omega arith;
          alike = total_vector (first_half x q) (second_half x q) first_over second_over short-first short-second (agree_totals.0 t);
        }

    -- the halves of a square pass it
    pub square_agree : SquareAtEnd x q → T (halves_agree (totals_of x) q)
    square_agree s = agree_totals.1 (vector_total (first_half x q) (second_half x q) first_over second_over s.alike)

-- ---- the test of all half lengths

module _ (x : List ℕ) (over : Over largest_alphabet x) where
  -- a square that ends where the word ends passes the test
  square_ends : (q : ℕ) → SquareAtEnd x q → true ≡ ends_square (totals_of x)
  square_ends q s =
      agree_ends (totals_of x) q s.half (omega (arith, length-totals x, s.half, s.start))
      (is_true (halves_agree (totals_of x) q) (square_agree x q (omega (arith, s.start)) over s))

  -- where none does, the test fails
  none_ends : length x ≤ longest_square_free → ((q : ℕ) → SquareAtEnd x q → ⊥) → false ≡ ends_square (totals_of x)
  none_ends short h =
      apart_ends (totals_of x) (λ q l b. is_false (halves_agree (totals_of x) q) (λ t. h q (agree_square x q (omega (arith, length-totals x)) over short l t)))

-- a letter behind a square-free word leaves it square-free exactly where the test fails
pub letter_test : (w : List ℕ) (c : ℕ) → Over largest_alphabet (w ++ (c ∷ [])) → length (w ++ (c ∷ [])) ≤ longest_square_free → T (square_free w)
    → square_free (w ++ (c ∷ [])) ≡ not (ends_square (totals_of (w ++ (c ∷ []))))
letter_test w c over short free =
    let x : List ℕ = w ++ (c ∷ []) in
    iff_equal (square_free x) (not (ends_square (totals_of x)))
    (λ t. passes (not (ends_square (totals_of x))) (ap not (sym (none_ends x over short ((letter_free w c free).1 t)))))
    (λ n. (letter_free w c free).0 (λ q s. fails (not (ends_square (totals_of x))) (ap not (sym (square_ends x over q s))) n))
