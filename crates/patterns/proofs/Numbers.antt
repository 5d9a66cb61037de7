-- The number of a word: of words over the first k letters that have n letters each, the numbers rise with alphabetical order, so that no two are equal, and they stay below
-- the kind.
use Prim.Native.Nat.{ℕ, suc, ◌+◌, ◌-◌, ◌^◌, ◌≤◌, ◌<◌}
use native.Mathlib.Nat.{suc-mul, mul-le-mul_right, pow-zero, pow-succ', pow-le-pow_left, pow-le-pow_right}
use native.Mathlib.Omega.{arith}
use mathlib.Core.Path.{◌≡◌, refl, sym, subst}
use mathlib.Core.Logic.{◌⊎◌, inl, inr, ⊎_elim}
use mathlib.Core.List.Memᴰ
use mathlib.Core.List.{List, [], ◌∷◌, map, Memᴰ}
use lib.ListN.{length}
use Rattle.abelian.specs.Lists.{Ordered}
use Rattle.abelian.specs.Words.{first_letter}
use Rattle.abelian.specs.Output.{pattern_word}
use Rattle.abelian.specs.Patterns.{largest_alphabet, longest_square_free, words_over, square_free, square_free_words, read_in, pattern_words}
use Rattle.abelian.proofs.Lists.{below_or_not, mem-keep}
use Rattle.patterns.specs.SquareFree.{Over, WordBefore}
use Rattle.patterns.proofs.SquareFree.{words_over_exactly, square_free_rises}

-- ---- the number of a word

-- the number of a word over the first k letters is below k to the power of its length
number_below : (k : ℕ) (w : List ℕ) → Over k w → read_in k w < k ^ length w
unfolding read_in
number_below k [] h = omega (arith, pow-zero k)
number_below k (c ∷ w) h =
    let l : (first_letter ≤ c) × (c < first_letter + k) = h c (Memᴰ.head refl) in
    let d : suc (c - first_letter) ≤ k = omega arith in
    omega (arith, number_below k w (λ x m. h x (Memᴰ.tail m)), suc-mul (c - first_letter) (k ^ length w), mul-le-mul_right (k ^ length w) d, pow-succ' k (length w))

-- so the numbers of the words of n letters are below k to the power of n
pub over_below : (k n : ℕ) (w : List ℕ) → Memᴰ w (words_over k n) → read_in k w < k ^ n
over_below k n w m = let r = (words_over_exactly k n w).0 m in rw r.0 at (number_below k w r.1)

-- of two words of one length, the one that stands before the other has the smaller number
number_before : (k : ℕ) (u v : List ℕ) → length u ≡ length v → Over k u → WordBefore u v → read_in k u < read_in k v
unfolding read_in
number_before k u [] e h b = absurd b
number_before k [] (y ∷ v) e h b = absurd (omega arith)
number_before k (x ∷ u) (y ∷ v) e h b =
    let s : length u ≡ length v = omega arith in
    let rest : Over k u = λ c m. h c (Memᴰ.tail m) in
    ⊎_elim
    (λ (l : x < y).
    let first : (first_letter ≤ x) × (x < first_letter + k) = h x (Memᴰ.head refl) in
    let d : suc (x - first_letter) ≤ y - first_letter = omega arith in
    rw (← s) (omega (arith, number_below k u rest, suc-mul (x - first_letter) (k ^ length u), mul-le-mul_right (k ^ length u) d)))
    (λ (r : (x ≡ y) × WordBefore u v). rw (r.0, s) (omega (arith, number_before k u v s rest r.1)))
    b

-- ---- order

-- what f gives for an ordered list's elements is ordered where f takes the one relation to the other on the elements of the list
ordered_map_within : {A B : Type 0} (R : A → A → Type 0) (S : B → B → Type 0) (f : A → B) (xs : List A)
    → ((x y : A) → Memᴰ x xs → Memᴰ y xs → R x y → S (f x) (f y)) → Ordered R xs → Ordered S (map f xs)
ordered_map_within R S f [] h r = tt
ordered_map_within {A} R S f (x ∷ xs) h r = (
  λ z m.
      let k : (y : A) × Memᴰ y xs × (f y ≡ z) = Memᴰ.of_map f xs m in
      subst (S (f x)) k.2 (h x k.0 (Memᴰ.head refl) (Memᴰ.tail k.1) (r.0 k.0 k.1)),
  ordered_map_within R S f xs (λ a b i j. h a b (Memᴰ.tail i) (Memᴰ.tail j)) r.1,
)

module _ (k n : ℕ) where
  -- of two words of the list, the one that stands before the other has the smaller number
  pub over_before : (u v : List ℕ) → Memᴰ u (words_over k n) → Memᴰ v (words_over k n) → WordBefore u v → read_in k u < read_in k v
  over_before u v i j b =
      let r = (words_over_exactly k n u).0 i in
      let s = (words_over_exactly k n v).0 j in
      number_before k u v (cc) r.1 b

  -- the output words of the list rise
  pub numbers_rise : Ordered ◌<◌ (pattern_words k n)
  unfolding pattern_words pattern_word square_free_words
  numbers_rise =
      ordered_map_within WordBefore ◌<◌ (λ (w : List ℕ). pattern_word (read_in k w)) (square_free_words k n)
      (λ u v i j b. omega (arith, over_before u v (mem-keep square_free (words_over k n) i).0 (mem-keep square_free (words_over k n) j).0 b)) (square_free_rises k n)

-- ---- different words have different numbers

-- two words of one length are equal, or one stands before the other
before_or_behind : (u v : List ℕ) → length u ≡ length v → (u ≡ v) ⊎ (WordBefore u v ⊎ WordBefore v u)
before_or_behind [] [] e = inl refl
before_or_behind [] (y ∷ v) e = absurd (omega arith)
before_or_behind (x ∷ u) [] e = absurd (omega arith)
before_or_behind (x ∷ u) (y ∷ v) e =
    ⊎_elim (λ (l : x < y). inr (inl (inl l)))
    (λ (l : y ≤ x).
    ⊎_elim (λ (g : y < x). inr (inr (inl g)))
    (λ (g : x ≤ y).
    let s : x ≡ y = omega arith in
    ⊎_elim (λ (q : u ≡ v). inl (cc)) (⊎_elim (λ b. inr (inl (inr (s, b)))) (λ b. inr (inr (inr (sym s, b))))) (before_or_behind u v (omega arith)))
    (below_or_not y x))
    (below_or_not x y)

-- two words of the list that have the same number are equal, also words with squares
pub numbers_differ : (k n : ℕ) (u v : List ℕ) → Memᴰ u (words_over k n) → Memᴰ v (words_over k n) → pattern_word (read_in k u) ≡ pattern_word (read_in k v) → u ≡ v
unfolding pattern_word
numbers_differ k n u v i j e =
    let r = (words_over_exactly k n u).0 i in
    let s = (words_over_exactly k n v).0 j in
    ⊎_elim (λ q. q) (⊎_elim (λ b. absurd (omega (arith, over_before k n u v i j b))) (λ b. absurd (omega (arith, over_before k n v u j i b))))
    (before_or_behind u v (cc))

-- the number stays below the kind
pub number_fits : (k n : ℕ) (u : List ℕ) → k ≤ largest_alphabet → n ≤ longest_square_free → Memᴰ u (words_over k n) → read_in k u < 2 ^ 28
unfolding largest_alphabet longest_square_free
number_fits k n u h l m = omega (arith, over_below k n u m, pow-le-pow_left h n, pow-le-pow_right {n = 4} (omega arith) l)
