-- Laws of the table of positions: how it is filled from the left.
use mathlib.Core.Path.{◌≡◌, sym, ap, ◌∙◌}
use mathlib.Core.Bool.{true, false}
use mathlib.Core.Logic.{◌⊎◌, inl, inr, ◌≢◌}
use mathlib.Core.List.{List, [], map}
use Prim.Native.Nat.{ℕ, suc, ◌+◌, ◌-◌, ◌≤◌, ◌<◌}
use native.Mathlib.Decide.{dec_lt}
use native.Mathlib.Omega.{arith}
use lib.ListN.{length, take, get_or, set, length-map, length-set, get_or-replicate, length-replicate, replicate, length-take}
use lib.Seq.{ext_get_or, get_or-set_same, get_or-set_other, take_all}
use lib.Dec.{eqb}
use mir.Val.{Fits}
use mir.Syntax.{w64}
use borrow.Author.Tests.{eqb-true, eqb-false}
use Rattle.abelian.specs.Lists.{up_from}
use Rattle.abelian.specs.Words.{alphabet_size, first_letter, longest, letters, count}
use Rattle.abelian.specs.Trials.{occurrence}
use Rattle.abelian.proofs.Tests.{decided}
use Rattle.abelian.proofs.Lists.{length-up_from}
use Rattle.abelian.proofs.Counts.{count-le-length}
use Rattle.words.proofs.Vectors.{letter_at, map-up_from_at}
use Rattle.words.specs.Prefixes.{Counted}
use Rattle.words.proofs.Padded.{zeros_at}
use Rattle.words.proofs.Prefixes.{prefix_row_at, counted_row}
use Rattle.listers.specs.Lowest.{positions, no_positions}
use Rattle.listers.proofs.Select.{count_here, count_elsewhere, occurrence_is, occurrence-none, occurrence-length}

module _ (w : List ℕ) where
  -- a row has one entry for each number of occurrences, from none before it to the longest word's length
  abbrev row : ℕ → List ℕ
  row c = map (λ (k : ℕ). occurrence c k w) (up_from 1 (suc longest))

  length-row : (c : ℕ) → length (row c) ≡ suc longest
  length-row c = length-map (up_from 1 (suc longest)) (λ (k : ℕ). occurrence c k w) ∙ length-up_from 1 (suc longest)

  -- there is a row for each letter
  pub length-positions : length (positions w) ≡ alphabet_size
  unfolding positions letters
  length-positions = length-map (up_from first_letter alphabet_size) row ∙ length-up_from first_letter alphabet_size

  positions-row : (j : ℕ) → j < alphabet_size → get_or (positions w) j [] ≡ row (first_letter + j)
  unfolding positions letters
  positions-row j l = map-up_from_at row first_letter alphabet_size j [] l

  -- entry k of row j is the position of occurrence number k + 1
  position_at : (j k : ℕ) → j < alphabet_size → k ≤ longest → get_or (get_or (positions w) j []) k 0 ≡ occurrence (first_letter + j) (suc k) w
  position_at j k l m =
      let e : 1 + k ≡ suc k = omega arith in
      ap (λ (r : List ℕ). get_or r k 0) (positions-row j l) ∙ map-up_from_at (λ (n : ℕ). occurrence (first_letter + j) n w) 1 (suc longest) k 0 (omega arith)
      ∙ ap (λ (n : ℕ). occurrence (first_letter + j) n w) e

-- ---- the entries that are read

-- an entry of the table of prefix counts: how often the letter of the place stands in the prefix
pub counted_entry : {w : List ℕ} {table : List (List ℕ)} → Counted w table → (i : ℕ) → i ≤ length w → (j : ℕ) → j < alphabet_size → get_or (get_or table i []) j 0 ≡ count (first_letter + j) (take i w)
counted_entry {w} t i l j place = ap (λ (row : List ℕ). get_or row j 0) (counted_row t i l) ∙ prefix_row_at w i j place

-- the letter at a position
module _ {w : List ℕ} {table : List (List ℕ)} (t : Counted w table) (i : ℕ) (l : i < length w) where
  abbrev letter : ℕ
  letter = get_or w i 0

  letter_place : (letter - first_letter < alphabet_size) × (first_letter + (letter - first_letter) ≡ letter)
  letter_place = let b = letter_at w i t.all l in (omega arith, omega arith)

  -- its entry in a row of the table of prefix counts
  module _ (k : ℕ) (b : k ≤ length w) where
    pub letter_counted : get_or (get_or table k []) (letter - first_letter) 0 ≡ count letter (take k w)
    letter_counted = counted_entry t k b (letter - first_letter) letter_place.0 ∙ ap (λ (c : ℕ). count c (take k w)) letter_place.1

    pub letter_small : get_or (get_or table k []) (letter - first_letter) 0 ≤ k
    letter_small = omega (arith, letter_counted, count-le-length letter (take k w), length-take k w)

  -- and an entry of its row in the table of positions
  module _ {select : List (List ℕ)} (e : select ≡ positions w) (k : ℕ) (b : k ≤ longest) where
    pub letter_position : get_or (get_or select (letter - first_letter) []) k 0 ≡ occurrence letter (suc k) w
    letter_position =
        ap (λ (a : List (List ℕ)). get_or (get_or a (letter - first_letter) []) k 0) e
        ∙ position_at w (letter - first_letter) k letter_place.0 b
        ∙ ap (λ (c : ℕ). occurrence c (suc k) w) letter_place.1

    pub position_fits : Fits w64 (get_or (get_or select (letter - first_letter) []) k 0)
    unfolding longest
    position_fits = omega (arith, letter_position, occurrence-length letter (suc k) w (omega arith), t.short)

-- ---- the loop that fills the table

-- the table has the positions of the occurrences among the first i letters, and 0 elsewhere
pub record Found (w : List ℕ) (table : List (List ℕ)) (i : ℕ) : Type 0 where
  pub within : i ≤ length w
  pub rows : length table ≡ alphabet_size
  pub sizes : (j : ℕ) → j < alphabet_size → length (get_or table j []) ≡ suc longest
  pub filled : (j k : ℕ) → j < alphabet_size → k < count (first_letter + j) (take i w) → get_or (get_or table j []) k 0 ≡ occurrence (first_letter + j) (suc k) w
  pub empty : (j k : ℕ) → j < alphabet_size → count (first_letter + j) (take i w) ≤ k → get_or (get_or table j []) k 0 ≡ 0

-- a row of zeros
abbrev pub empty_row : List ℕ
empty_row = replicate (suc longest) 0

-- before the first letter nothing is found
pub nothing_found : (w : List ℕ) → Found w no_positions 0
unfolding count
nothing_found w =
    record {
      within = omega arith;
      rows = length-replicate alphabet_size empty_row;
      sizes = λ j l. ap length (get_or-replicate alphabet_size j empty_row [] l) ∙ length-replicate (suc longest) 0;
      filled = λ j k l m. absurd (omega arith);
      empty = λ j k l m. ap (λ (r : List ℕ). get_or r k 0) (get_or-replicate alphabet_size j empty_row [] l) ∙ zeros_at (suc longest) k;
    }

-- the letter of place j₀ stands behind the first i, and is written at the number of its occurrences there
module _ (w : List ℕ) (short : length w ≤ longest) (table : List (List ℕ)) (i j₀ : ℕ) (l : i < length w) (place : j₀ < alphabet_size) (e : get_or w i 0 ≡ first_letter + j₀) (f : Found w table i) where
  abbrev k₀ : ℕ
  k₀ = count (first_letter + j₀) (take i w)

  abbrev new : List (List ℕ)
  new = set table j₀ (set (get_or table j₀ []) k₀ (i + 1))

  here : get_or new j₀ [] ≡ set (get_or table j₀ []) k₀ (i + 1)
  here = get_or-set_same table j₀ (set (get_or table j₀ []) k₀ (i + 1)) [] (omega (arith, f.rows))

  elsewhere : (j : ℕ) → j ≢ j₀ → get_or new j [] ≡ get_or table j []
  elsewhere j n = get_or-set_other table j₀ j (set (get_or table j₀ []) k₀ (i + 1)) [] n

  counted_here : count (first_letter + j₀) (take (i + 1) w) ≡ k₀ + 1
  counted_here = count_here w i l (first_letter + j₀) e

  counted_elsewhere : (j : ℕ) → j ≢ j₀ → count (first_letter + j) (take (i + 1) w) ≡ count (first_letter + j) (take i w)
  counted_elsewhere j n = count_elsewhere w i l (first_letter + j) (omega arith)

  k₀_small : k₀ < suc longest
  k₀_small = omega (arith, count-le-length (first_letter + j₀) (take i w), length-take i w)

  written : get_or (get_or new j₀ []) k₀ 0 ≡ occurrence (first_letter + j₀) (suc k₀) w
  written =
      let z : i + 1 - 1 ≡ i = omega arith in
      let o : occurrence (first_letter + j₀) (suc k₀) w ≡ i + 1 =
      occurrence_is (first_letter + j₀) (suc k₀) w
      (record { some = omega arith; within = omega arith; reached = omega (arith, counted_here); before = rw z (omega arith) }) in
      rw (here, o) (get_or-set_same (get_or table j₀ []) k₀ (i + 1) 0 (omega (arith, k₀_small, f.sizes j₀ place)))

  kept : (k : ℕ) → k ≢ k₀ → get_or (get_or new j₀ []) k 0 ≡ get_or (get_or table j₀ []) k 0
  kept k n = rw here (get_or-set_other (get_or table j₀ []) k₀ k (i + 1) 0 n)

  pub next_found : Found w new (i + 1)
  next_found =
      record {
        within = omega arith;
        rows = length-set table j₀ (set (get_or table j₀ []) k₀ (i + 1)) ∙ f.rows;
        sizes = λ j m. sizes j m (decided (eqb j j₀));
        filled = λ j k m b. filled j k m b (decided (eqb j j₀)) (decided (eqb k k₀));
        empty = λ j k m b. empty j k m b (decided (eqb j j₀));
      }
    where
      sizes : (j : ℕ) → j < alphabet_size → (eqb j j₀ ≡ true) ⊎ (eqb j j₀ ≡ false) → length (get_or new j []) ≡ suc longest
      sizes j m (inl q) = rw (eqb-true j j₀ q, here, length-set) (f.sizes j₀ place)
      sizes j m (inr n) = rw (elsewhere j (eqb-false j j₀ n)) (f.sizes j m)

      filled : (j k : ℕ) → j < alphabet_size → k < count (first_letter + j) (take (i + 1) w) → (eqb j j₀ ≡ true) ⊎ (eqb j j₀ ≡ false) → (eqb k k₀ ≡ true) ⊎ (eqb k k₀ ≡ false)
          → get_or (get_or new j []) k 0 ≡ occurrence (first_letter + j) (suc k) w
      filled j k m b (inl q) (inl r) = rw (eqb-true j j₀ q, eqb-true k k₀ r) written
      filled j k m b (inl q) (inr n) =
          let d : k < count (first_letter + j₀) (take (i + 1) w) = rw (eqb-true j j₀ q) at b in
          let u : k ≢ k₀ = eqb-false k k₀ n in
          rw (eqb-true j j₀ q, kept k u) (f.filled j₀ k place (omega (arith, counted_here)))
      filled j k m b (inr n) r = let u : j ≢ j₀ = eqb-false j j₀ n in rw (elsewhere j u) (f.filled j k m (rw (counted_elsewhere j u) at b))

      empty : (j k : ℕ) → j < alphabet_size → count (first_letter + j) (take (i + 1) w) ≤ k → (eqb j j₀ ≡ true) ⊎ (eqb j j₀ ≡ false) → get_or (get_or new j []) k 0 ≡ 0
      empty j k m b (inl q) =
          let d : count (first_letter + j₀) (take (i + 1) w) ≤ k = rw (eqb-true j j₀ q) at b in
          rw (eqb-true j j₀ q, kept k (omega (arith, counted_here))) (f.empty j₀ k place (omega (arith, counted_here)))
      empty j k m b (inr n) = let u : j ≢ j₀ = eqb-false j j₀ n in rw (elsewhere j u) (f.empty j k m (rw (counted_elsewhere j u) at b))

-- behind the last letter all is found
pub all_found : (w : List ℕ) (table : List (List ℕ)) (i : ℕ) → length w ≤ i → Found w table i → table ≡ positions w
all_found w table i l f =
    ext_get_or [] table (positions w) (f.rows ∙ sym (length-positions w))
    (λ j m.
    let b : j < alphabet_size = omega (arith, f.rows) in
    ext_get_or 0 (get_or table j []) (get_or (positions w) j []) (f.sizes j b ∙ sym (ap length (positions-row w j b) ∙ length-row w (first_letter + j)))
    (λ k n. at j k b (omega (arith, f.sizes j b)) (dec_lt k (count (first_letter + j) w))))
  where
    at : (j k : ℕ) → j < alphabet_size → k ≤ longest → Dec (k < count (first_letter + j) w) → get_or (get_or table j []) k 0 ≡ get_or (get_or (positions w) j []) k 0
    at j k b s (yes o) = rw (position_at w j k b s) (f.filled j k b (rw (take_all i w l) o))
    at j k b s (no o) = rw (position_at w j k b s, occurrence-none (first_letter + j) (suc k) w (omega arith)) (f.empty j k b (rw (take_all i w l) (omega arith)))
