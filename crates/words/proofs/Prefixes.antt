-- Laws of prefix counts: what the rows of `prefix_counts w` hold, and how the counts of a part are read off two of them.
use mathlib.Core.Path.{◌≡◌, refl, sym, ap, ◌∙◌}
use mathlib.Core.List.{List, []}
use Prim.Native.Nat.{ℕ, suc, ◌+◌, ◌-◌, ◌≤◌, ◌<◌}
use native.Mathlib.Nat.{zero-add}
use native.Mathlib.Omega.{arith}
use lib.ListN.{length, take, get_or, set, length-map}
use lib.Seq.{ext_get_or}
use lib.Dec.{T, eqb, leb}
use Rattle.abelian.specs.Lists.{up_from, same}
use Rattle.abelian.specs.Words.{alphabet_size, first_letter, longest, of_letters, count, vector, part, none_above}
use Rattle.abelian.proofs.Lists.{length-up_from}
use Rattle.abelian.proofs.Counts.{count-part, count-take_rises, counts_none_above}
use Rattle.words.specs.Differences.{minus}
use Rattle.words.specs.Prefixes.{width, padded, prefix_counts, Counted}
use Rattle.words.proofs.Pairwise.{through_zeros, minus_at, length-minus}
use Rattle.words.proofs.Padded.{padded_at, padded-set, padded-le, minus-padded}
use Rattle.words.proofs.Vectors.{map-up_from_at, vector_at, entry_le, length-vector, counts_are_vector, letter_at, vector-take-more, vector-take-all}

-- vectors have equal lengths
equal_lengths : (u v : List ℕ) → length (vector u) ≡ length (vector v)
equal_lengths u v = length-vector u ∙ sym (length-vector v)

-- ---- a row

module _ (w : List ℕ) where
  -- the row of the first i letters: their vector, with zeros behind it
  abbrev pub prefix_row : ℕ → List ℕ
  prefix_row i = padded (vector (take i w))

  -- at a letter's place it has the letter's count
  pub prefix_row_at : (i j : ℕ) → j < alphabet_size → get_or (prefix_row i) j 0 ≡ count (first_letter + j) (take i w)
  prefix_row_at i j place = padded_at (vector (take i w)) (length-vector (take i w)) j place ∙ vector_at (take i w) j place

  -- no place of it is above i
  pub prefix_row_le : (i j : ℕ) → get_or (prefix_row i) j 0 ≤ i
  prefix_row_le i = padded-le (vector (take i w)) (length-vector (take i w)) i (entry_le w i)

  -- with one letter more it has one more at the letter's place
  pub prefix_row_more : (i : ℕ) → T (of_letters w) → i < length w
      → set (prefix_row i) (get_or w i 0 - first_letter) (get_or (prefix_row i) (get_or w i 0 - first_letter) 0 + 1) ≡ prefix_row (i + 1)
  prefix_row_more i t l =
      let v : List ℕ = vector (take i w) in
      let e : length v ≡ alphabet_size = length-vector (take i w) in
      let k : ℕ = get_or w i 0 - first_letter in
      let place : k < alphabet_size = omega (arith, letter_at w i t l) in
      rw (padded_at v e k place) (padded-set v e k (get_or v k 0 + 1) place ∙ ap padded (vector-take-more w i t l))

  -- and behind the word's end it stays
  pub prefix_row_all : (i : ℕ) → length w ≤ i → prefix_row i ≡ prefix_row (i + 1)
  prefix_row_all i l = ap padded (vector-take-all w i l)

-- the two tests of rows are those of the vectors, since zeros behind both change neither
module _ (x y : List ℕ) {u v : List ℕ} (e : u ≡ padded (vector x)) (f : v ≡ padded (vector y)) where
  pub none_above_rows : none_above u v ≡ none_above (vector x) (vector y)
  unfolding padded none_above
  none_above_rows = rw (e, f) (through_zeros leb none_above refl (λ a b u v. refl) refl (width - alphabet_size) (vector x) (vector y) (equal_lengths x y))

  pub same_rows : same u v ≡ same (vector x) (vector y)
  unfolding padded
  same_rows = rw (e, f) (through_zeros eqb same refl (λ a b u v. refl) refl (width - alphabet_size) (vector x) (vector y) (equal_lengths x y))

-- ---- the table

module _ (w : List ℕ) where
  -- there is a row for each length of a prefix, 0 to the longest
  length-prefix_counts : length (prefix_counts w) ≡ suc longest
  unfolding prefix_counts
  length-prefix_counts = length-map (up_from 0 (suc longest)) (prefix_row w) ∙ length-up_from 0 (suc longest)

  -- row i is that of the first i letters
  prefix_row_lem : (i : ℕ) → i ≤ longest → get_or (prefix_counts w) i [] ≡ prefix_row w i
  unfolding prefix_counts
  prefix_row_lem i h = map-up_from_at (prefix_row w) 0 (suc longest) i [] (omega arith) ∙ ap (prefix_row w) (zero-add i)

  -- a table of that many rows, each that of its prefix, is that of the prefix counts
  pub rows_are_prefix_counts : (table : List (List ℕ)) → length table ≡ suc longest → ((i : ℕ) → i ≤ longest → get_or table i [] ≡ prefix_row w i) → table ≡ prefix_counts w
  rows_are_prefix_counts table e h =
      ext_get_or [] table (prefix_counts w) (e ∙ sym length-prefix_counts)
      (λ i m. let b : i ≤ longest = omega arith in h i b ∙ sym (prefix_row_lem i b))

-- what is read from a table that is known to hold an accepted word's prefix counts
module _ {w : List ℕ} {table : List (List ℕ)} (c : Counted w table) where
  pub counted_row : (i : ℕ) → i ≤ length w → get_or table i [] ≡ prefix_row w i
  counted_row i l = rw c.rows (prefix_row_lem w i (omega (arith, c.short)))

  module _ {longer shorter : List ℕ} where
    -- no count falls from a row to a later one
    pub counted_rises : (b a : ℕ) → longer ≡ get_or table b [] → shorter ≡ get_or table a [] → a ≤ b → b ≤ length w → T (none_above shorter longer)
    counted_rises b a e f up l =
        rw (none_above_rows (take a w) (take b w) (f ∙ counted_row a (omega arith)) (e ∙ counted_row b l))
        (counts_none_above (take a w) (take b w) (λ c m. count-take_rises c w up))

    -- the difference of the rows before and behind a part is that of the part
    pub counted_part : (a size : ℕ) → longer ≡ get_or table (a + size) [] → shorter ≡ get_or table a [] → a + size ≤ length w → {d : List ℕ} → d ≡ minus longer shorter → d ≡ padded (vector (part w a size))
    counted_part a size e f l g =
        let u : List ℕ = vector (take (a + size) w) in
        let v : List ℕ = vector (take a w) in
        let q : length u ≡ length v = equal_lengths (take (a + size) w) (take a w) in
        g
        ∙ rw (e ∙ counted_row (a + size) l, f ∙ counted_row a (omega arith), minus-padded u v q)
        (ap padded (counts_are_vector (part w a size) (minus u v) (length-minus u v q ∙ length-vector (take (a + size) w))
        (λ j m. minus_at u v j q ∙ omega (arith, vector_at (take (a + size) w) j m, vector_at (take a w) j m, count-part (first_letter + j) a size w))))
