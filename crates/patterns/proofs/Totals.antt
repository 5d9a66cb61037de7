-- Totals of words over the first letters: a total has the counts of a word's letters, so two short words have equal totals exactly where they have equal vectors.
use mathlib.Core.Path.{◌≡◌, refl, sym, ap, subst, ◌∙◌}
use mathlib.Core.Logic.{⊎_elim}
use mathlib.Core.List.{List, [], ◌∷◌, ◌++◌, Memᴰ}
use Prim.Native.Nat.{ℕ, zero, suc, ◌+◌, ◌-◌, ◌*◌, ◌≤◌, ◌<◌}
use native.Mathlib.Omega.{arith}
use lib.ListN.{length, take, drop, take-append-drop}
use lib.Seq.{take-add}
use lib.Dec.{eqb}
use borrow.Author.Tests.{ne_eqb}
use Rattle.abelian.specs.Lists.{one}
use Rattle.abelian.specs.Words.{alphabet_size, first_letter, count, vector, part}
use Rattle.abelian.specs.Patterns.{largest_alphabet}
use Rattle.abelian.proofs.Lists.{below_or_not}
use Rattle.abelian.proofs.Counts.{count-le-length, vector_counts, counts_vector}
use Rattle.words.proofs.Vectors.{place_letter, places-letters}
use Rattle.patterns.specs.Search.{weight}
use Rattle.patterns.specs.SquareFree.{Over}

-- ---- words over the first letters

-- the first j letters are among the first k where k is not smaller
pub over_more : {j k : ℕ} (w : List ℕ) → j ≤ k → Over j w → Over k w
over_more w l o c m = let b : (first_letter ≤ c) × (c < first_letter + _) = o c m in (b.0, omega arith)

-- a word over the first k letters with one of them behind it is another
pub over_letter : (k : ℕ) (w : List ℕ) (c : ℕ) → Over k w → first_letter ≤ c → c < first_letter + k → Over k (w ++ (c ∷ []))
over_letter k w c o l h d m = ⊎_elim (o d) (λ n. let e : d ≡ c = mathlib.Core.List.Memᴰ.eq_of_singleton n in (omega arith, omega arith)) (mathlib.Core.List.Memᴰ.append_cases w m)

-- the letters of a stretch are letters of the word
pub over_part : (k : ℕ) (w : List ℕ) (from size : ℕ) → Over k w → Over k (part w from size)
over_part k w from size o c m =
    let n : Memᴰ c (drop from w) = subst (Memᴰ c) (take-append-drop size (drop from w)) (mathlib.Core.List.Memᴰ.append_left (drop size (drop from w)) m) in
    o c (subst (Memᴰ c) (take-append-drop from w) (mathlib.Core.List.Memᴰ.append_right (take from w) n))

-- ---- totals

-- the weights of the word's letters, one added to the other
unfoldable pub total : List ℕ → ℕ
total [] = 0
total (c ∷ w) = weight (c - first_letter) + total w

-- the total of a word in two parts
pub total_append : (u v : List ℕ) → total (u ++ v) ≡ total u + total v
unfolding total
total_append [] v = omega arith
total_append (c ∷ u) v = omega (arith, total_append u v)

-- the total of a stretch is a difference of the totals of two beginnings
pub total_part : (w : List ℕ) (from size : ℕ) → total (take (from + size) w) ≡ total (take from w) + total (part w from size)
total_part w from size = ap total (take-add from size w) ∙ total_append (take from w) (part w from size)

-- ---- totals and counts

-- the number in base 32 that has f 0, f 1, f 2 and f 3 for its digits, the lowest first
abbrev pub digits : (ℕ → ℕ) → ℕ
digits f = f 0 + 32 * f 1 + 1024 * f 2 + 32768 * f 3

-- the letter in place j has 1 for its own digit, and 0 for the others
weight_digits : (j : ℕ) → j < largest_alphabet → weight j ≡ digits (λ (i : ℕ). one (eqb (first_letter + j) (first_letter + i)))
unfolding weight largest_alphabet first_letter
weight_digits zero h = refl
weight_digits (suc zero) h = refl
weight_digits (suc (suc zero)) h = refl
weight_digits (suc (suc (suc zero))) h = refl
weight_digits (suc (suc (suc (suc j)))) h = absurd (omega arith)

-- the digits of a total are the counts of the letters
pub total_counts : (w : List ℕ) → Over largest_alphabet w → total w ≡ digits (λ (j : ℕ). count (first_letter + j) w)
unfolding total count
total_counts [] o = refl
total_counts (c ∷ w) o =
    let b : (first_letter ≤ c) × (c < first_letter + largest_alphabet) = o c (mathlib.Core.List.Memᴰ.head refl) in
    let e : first_letter + (c - first_letter) ≡ c = omega arith in
    omega (arith, rw e at (weight_digits (c - first_letter) (omega arith)), total_counts w (λ d m. o d (mathlib.Core.List.Memᴰ.tail m)))

-- equal numbers with digits below 32 have equal digits
same_digits : (f g : ℕ → ℕ) → ((j : ℕ) → f j < 32) → ((j : ℕ) → g j < 32) → digits f ≡ digits g → (j : ℕ) → j < largest_alphabet → f j ≡ g j
unfolding largest_alphabet
same_digits f g h l e zero b = omega (arith, h 0, h 1, h 2, h 3, l 0, l 1, l 2, l 3)
same_digits f g h l e (suc zero) b = omega (arith, h 0, h 1, h 2, h 3, l 0, l 1, l 2, l 3)
same_digits f g h l e (suc (suc zero)) b = omega (arith, h 0, h 1, h 2, h 3, l 0, l 1, l 2, l 3)
same_digits f g h l e (suc (suc (suc zero))) b = omega (arith, h 0, h 1, h 2, h 3, l 0, l 1, l 2, l 3)
same_digits f g h l e (suc (suc (suc (suc j)))) b = absurd (omega arith)

-- a letter that is not one of the first k is not in the word
pub count_outside : (k c : ℕ) (w : List ℕ) → Over k w → first_letter + k ≤ c → count c w ≡ 0
unfolding count
count_outside k c [] o h = refl
count_outside k c (d ∷ w) o h =
    let b : (first_letter ≤ d) × (d < first_letter + k) = o d (mathlib.Core.List.Memᴰ.head refl) in
    omega (arith, ap one (ne_eqb d c (omega arith)), count_outside k c w (λ x m. o x (mathlib.Core.List.Memᴰ.tail m)) h)

module _ (u v : List ℕ) (ou : Over largest_alphabet u) (ov : Over largest_alphabet v) where
  -- equal vectors give equal totals
  pub vector_total : vector u ≡ vector v → total u ≡ total v
  unfolding alphabet_size
  vector_total e =
      let at : (j : ℕ) → j < alphabet_size → count (first_letter + j) u ≡ count (first_letter + j) v = λ j h. vector_counts u v e (first_letter + j) (place_letter j h) in
      omega (arith, total_counts u ou, total_counts v ov, at 0 (omega arith), at 1 (omega arith), at 2 (omega arith), at 3 (omega arith))

  -- and equal totals give equal vectors, where no letter stands 32 times in the words
  pub total_vector : length u < 32 → length v < 32 → total u ≡ total v → vector u ≡ vector v
  total_vector lu lv e =
      let few : (w : List ℕ) → length w < 32 → (j : ℕ) → count (first_letter + j) w < 32 = λ w l j. omega (arith, count-le-length (first_letter + j) w) in
      counts_vector u v (places-letters (λ c. count c u ≡ count c v) (λ j h.
      ⊎_elim (same_digits (λ (i : ℕ). count (first_letter + i) u) (λ (i : ℕ). count (first_letter + i) v) (few u lu) (few v lv) (sym (total_counts u ou) ∙ e ∙ total_counts v ov) j)
      (λ (l : largest_alphabet ≤ j). count_outside largest_alphabet (first_letter + j) u ou (omega arith) ∙ sym (count_outside largest_alphabet (first_letter + j) v ov (omega arith)))
      (below_or_not j largest_alphabet)))
