-- Laws of what the loops over a word read: the letter at a position, as the word hands its letters out, how often it stands in a prefix, by a row of the table of prefix
-- counts, and an entry of its row in the table of positions. And of a step of each loop by what it reads.
use mathlib.Core.Path.{◌≡◌, refl, ap, ◌∙◌}
use mathlib.Core.List.{List, []}
use Prim.Native.Nat.{ℕ, suc, ◌+◌, ◌-◌, ◌*◌, ◌≤◌, ◌<◌, max}
use native.Mathlib.Numerals.{add-one}
use native.Mathlib.Omega.{arith}
use lib.ListN.{length, take, drop, get_or, set, length-take, length-drop}
use Rattle.abelian.specs.Words.{alphabet_size, first_letter, longest, count}
use Rattle.abelian.specs.Trials.{occurrence, greatest_gap}
use Rattle.abelian.proofs.Counts.{count-le-length}
use Rattle.words.specs.Prefixes.{prefix_counts, Counted}
use Rattle.words.proofs.Vectors.{letter_at}
use Rattle.listers.specs.Lowest.{positions, greatest_gaps, lowest_above}
use Rattle.listers.proofs.Select.{count_here}
use Rattle.listers.proofs.Positions.{Found, letter_counted, letter_position, next_found}
use Rattle.listers.proofs.Gaps.{Gaps, gap_length, gap_more, more_gaps, gaps_at}

module _ {w letters : List ℕ} (same : letters ≡ w) (t : Counted w (prefix_counts w)) (i : ℕ) (l : i < length letters) where
  -- the position is one of the word
  pub read_inside : i < length w
  read_inside = rw same at l

  -- the letter that stands there, and its place in a row
  abbrev letter : ℕ
  letter = get_or w i 0

  abbrev place : ℕ
  place = get_or letters i 0 - first_letter

  pub read_from : first_letter ≤ get_or letters i 0
  read_from = rw same (letter_at w i t.all read_inside).0

  pub read_place : place < alphabet_size
  read_place = let b = letter_at w i t.all read_inside in rw same (omega arith)

  its_letter : letter ≡ first_letter + place
  its_letter = let b = letter_at w i t.all read_inside in rw same (omega arith)

  -- how often it stands in the first k letters
  module _ (k : ℕ) (b : k ≤ length w) {row : List ℕ} (r : row ≡ get_or (prefix_counts w) k []) where
    pub read_count : get_or row place 0 ≡ count letter (take k w)
    read_count = rw (r, same) (letter_counted t i read_inside k b)

    pub read_small : get_or row place 0 ≤ k
    read_small = omega (arith, read_count, count-le-length letter (take k w), length-take k w)

  -- its position is entered: that of one occurrence more
  pub next_position : {row : List ℕ} → row ≡ get_or (prefix_counts w) i [] → (table : List (List ℕ)) → Found w table i
      → Found w (set table place (set (get_or table place []) (get_or row place 0) (i + 1))) (i + 1)
  next_position {row} r table f =
      let within : i ≤ length w = omega (arith, read_inside) in
      let k : get_or row place 0 ≡ count (first_letter + place) (take i w) = read_count i within r ∙ ap (λ (c : ℕ). count c (take i w)) its_letter in
      rw k (next_found w t.short table i place read_inside read_place its_letter f)

  -- what is read of the table of positions, by the row of the prefix that ends with the letter
  module _ {select : List (List ℕ)} (s : select ≡ positions w) {row : List ℕ} (r : row ≡ get_or (prefix_counts w) (i + 1) []) where
    through : i + 1 ≤ length w
    through = omega (arith, read_inside)

    pub read_on_table : get_or row place 0 ≤ longest
    read_on_table = omega (arith, read_small (i + 1) through r, through, t.short)

    -- the position of its next occurrence
    next-occurrence : get_or (get_or select place []) (get_or row place 0) 0 ≡ occurrence letter (suc (count letter (take (suc i) w))) w
    next-occurrence =
        rw same (letter_position t i read_inside s (get_or row (letter - first_letter) 0) (rw same at read_on_table))
        ∙ ap (λ (n : ℕ). occurrence letter (suc n) w) (read_count (i + 1) through r)
        ∙ ap (λ (n : ℕ). occurrence letter (suc (count letter (take n w))) w) (add-one i)

    -- the gap behind the shorter head, and its entry
    module _ {gap gap' : ℕ} {gaps : List ℕ} {n : ℕ} (m : n ≡ suc i) (g : Gaps w gaps gap n) (e : gap' ≡ max gap (get_or (get_or select place []) (get_or row place 0) 0 - (i + 1))) where
      gap_is : gap' ≡ greatest_gap (drop i w)
      gap_is =
          let last : gap ≡ greatest_gap (drop (suc i) w) = g.last ∙ ap (λ (k : ℕ). greatest_gap (drop k w)) m in
          omega (arith, e, last, next-occurrence, gap_more w i read_inside)

      pub gap_fits : gap' ≤ longest
      gap_fits = omega (arith, gap_is, gap_length (drop i w), length-drop i w, t.short)

      pub next_gaps : Gaps w (set gaps i gap') gap' i
      next_gaps = more_gaps w gaps gap gap' i t.short read_inside gap_is (rw m at g)

    -- the position that the head which ends with the letter asks for
    pub read_some : 1 ≤ get_or row place 0
    read_some = omega (arith, read_count (i + 1) through r, count_here w i read_inside letter refl)

    module _ (half : 2 * i < length w) where
      pub read_twice : 2 * get_or row place 0 - 1 ≤ longest
      read_twice = omega (arith, read_small (i + 1) through r, t.short)

      pub asked_position : get_or (get_or select place []) (2 * get_or row place 0 - 1) 0 ≡ occurrence letter (2 * count letter (take (i + 1) w)) w
      asked_position =
          let e : suc (2 * get_or row place 0 - 1) ≡ 2 * count letter (take (i + 1) w) = omega (arith, read_some, read_count (i + 1) through r) in
          rw same (letter_position t i read_inside s (2 * get_or row (letter - first_letter) 0 - 1) (rw same at read_twice))
          ∙ ap (λ (n : ℕ). occurrence letter n w) e

-- the entry of a head, by its reach and the table of gaps
pub entry_found : (w : List ℕ) {gaps : List ℕ} (h reach : ℕ) {entry : ℕ} → gaps ≡ greatest_gaps w → h ≤ longest → entry ≡ lowest_above h reach (get_or gaps h 0)
    → entry ≡ lowest_above h reach (greatest_gap (drop h w))
entry_found w h reach g l e = e ∙ ap (lowest_above h reach) (ap (λ (gaps : List ℕ). get_or gaps h 0) g ∙ gaps_at w h l)
