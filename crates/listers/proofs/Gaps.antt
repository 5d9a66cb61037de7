-- Laws of the greatest gap: how it grows by the letter before, whose next occurrence the table of positions has, and how the gaps behind all heads are found from the right.
use mathlib.Core.Path.{◌≡◌, sym, ap, ◌∙◌}
use mathlib.Core.Bool.{true, false}
use mathlib.Core.Logic.{⊎_elim, ◌≢◌}
use mathlib.Core.List.{List, [], ◌∷◌}
use Prim.Native.Nat.{ℕ, suc, ◌-◌, ◌≤◌, ◌<◌, max}
use native.Mathlib.Nat.{zero-add, max-le}
use native.Mathlib.Numerals.{add-one}
use native.Mathlib.Omega.{arith}
use lib.ListN.{length, take, drop, get_or, set, length-map, length-set, length-drop, drop_of_length-le, get_or-replicate, length-replicate}
use lib.Seq.{ext_get_or, drop-cons, get_or-set_same, get_or-set_other}
use lib.Dec.{eqb}
use borrow.Author.Tests.{eqb-true, eqb-false}
use Rattle.abelian.specs.Lists.{up_from}
use Rattle.abelian.specs.Words.{longest, count}
use Rattle.abelian.specs.Trials.{occurrence, distance, greatest_gap}
use Rattle.abelian.proofs.Tests.{decided}
use Rattle.abelian.proofs.Lists.{length-up_from}
use Rattle.words.proofs.Vectors.{map-up_from_at}
use Rattle.listers.specs.Lowest.{greatest_gaps}
use Rattle.listers.proofs.Select.{occurrence-length, occurrence-drop}
use Rattle.listers.proofs.Positions.{empty_row}

-- the greatest gap is at most what the distance from each letter to its next occurrence is
pub gap_le : (v : List ℕ) (b : ℕ) → ((i : ℕ) → i < length v → distance (get_or v i 0) (drop (suc i) v) ≤ b) → greatest_gap v ≤ b
unfolding greatest_gap
gap_le [] b h = omega arith
gap_le (x ∷ v) b h = max-le (h 0 (omega arith)) (gap_le v b (λ i l. h (suc i) (omega arith)))

-- a gap is within the letters
pub gap_length : (v : List ℕ) → greatest_gap v ≤ length v
unfolding distance
gap_length v = gap_le v (length v) (λ i l. omega (arith, occurrence-length (get_or v i 0) 1 (drop (suc i) v) (omega arith), length-drop (suc i) v))

-- one letter more, the one before position i: the distance to its next occurrence is that from the table of positions
pub gap_more : (w : List ℕ) (i : ℕ) → i < length w
    → greatest_gap (drop i w) ≡ max (occurrence (get_or w i 0) (suc (count (get_or w i 0) (take (suc i) w))) w - suc i) (greatest_gap (drop (suc i) w))
unfolding greatest_gap distance
gap_more w i l =
    let e : occurrence (get_or w i 0) 1 (drop (suc i) w) ≡ occurrence (get_or w i 0) (suc (count (get_or w i 0) (take (suc i) w))) w - suc i =
    rw add-one at (occurrence-drop (get_or w i 0) (suc i) w) in
    ap greatest_gap (drop-cons w i 0 l) ∙ ap (λ (d : ℕ). max d (greatest_gap (drop (suc i) w))) e

-- the gaps behind the heads from i on are found, and the last of them is at hand
pub record Gaps (w gaps : List ℕ) (gap i : ℕ) : Type 0 where
  pub within : i ≤ length w
  pub size : length gaps ≡ suc longest
  pub last : gap ≡ greatest_gap (drop i w)
  pub found : (h : ℕ) → i ≤ h → h ≤ longest → get_or gaps h 0 ≡ greatest_gap (drop h w)

-- behind the whole word there is none
pub no_gaps : (w : List ℕ) → Gaps w empty_row 0 (length w)
unfolding greatest_gap
no_gaps w =
    record {
      within = omega arith;
      size = length-replicate (suc longest) 0;
      last = sym (none (length w) (omega arith));
      found = λ h l m. get_or-replicate (suc longest) h 0 0 (omega arith) ∙ sym (none h l);
    }
  where
    none : (h : ℕ) → length w ≤ h → greatest_gap (drop h w) ≡ 0
    none h l = ap greatest_gap (drop_of_length-le w l)

-- the next one, to the left
pub more_gaps : (w gaps : List ℕ) (gap gap' i : ℕ) → length w ≤ longest → i < length w → gap' ≡ greatest_gap (drop i w) → Gaps w gaps gap (suc i) → Gaps w (set gaps i gap') gap' i
more_gaps w gaps gap gap' i s l e g =
    record {
      within = omega arith;
      size = length-set gaps i gap' ∙ g.size;
      last = e;
      found = λ h m n.
          ⊎_elim (λ (q : eqb h i ≡ true). rw (eqb-true h i q) (get_or-set_same gaps i gap' 0 (omega (arith, g.size)) ∙ e))
          (λ (q : eqb h i ≡ false). let u : h ≢ i = eqb-false h i q in get_or-set_other gaps i h gap' 0 u ∙ g.found h (omega arith) n)
          (decided (eqb h i));
    }

module _ (w : List ℕ) where
  length_gaps : length (greatest_gaps w) ≡ suc longest
  unfolding greatest_gaps
  length_gaps = length-map (up_from 0 (suc longest)) (λ (h : ℕ). greatest_gap (drop h w)) ∙ length-up_from 0 (suc longest)

  -- entry h is the greatest gap behind the head h
  pub gaps_at : (h : ℕ) → h ≤ longest → get_or (greatest_gaps w) h 0 ≡ greatest_gap (drop h w)
  unfolding greatest_gaps
  gaps_at h l = map-up_from_at (λ (k : ℕ). greatest_gap (drop k w)) 0 (suc longest) h 0 (omega arith) ∙ ap (λ (k : ℕ). greatest_gap (drop k w)) (zero-add h)

  -- at the left end all are found
  pub all_gaps : (gaps : List ℕ) (gap i : ℕ) → i ≤ 0 → Gaps w gaps gap i → gaps ≡ greatest_gaps w
  all_gaps gaps gap i z g =
      ext_get_or 0 gaps (greatest_gaps w) (g.size ∙ sym length_gaps)
      (λ h l. let b : h ≤ longest = omega (arith, g.size) in g.found h (omega arith) b ∙ sym (gaps_at h b))
