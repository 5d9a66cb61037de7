-- The search for the cover length from both ends, turn by turn: what it knows, and that each turn keeps it.
use mathlib.Core.Path.{◌≡◌, refl, sym, ap, ◌∙◌}
use mathlib.Core.Logic.{◌≢◌}
use mathlib.Core.List.{List, []}
use Prim.Native.Nat.{ℕ, zero, suc, ◌+◌, ◌-◌, ◌/◌, ◌≤◌, ◌<◌}
use native.Mathlib.Omega.{arith}
use lib.ListN.{length, take, drop, get_or, length-take, length-drop}
use lib.Seq.{drop-length}
use lib.Dec.{eqb}
use Rattle.std.specs.Prelude.{Option, Some, None}
use borrow.Author.Tests.{eq-eqb, ne_eqb}
use Rattle.abelian.specs.Lists.{pick, nonzero}
use Rattle.abelian.specs.Words.{alphabet_size, first_letter, longest, letters, count, vector}
use Rattle.abelian.specs.Covers.{cover_length}
use Rattle.abelian.proofs.Counts.{bounds_letter}
use Rattle.words.proofs.Vectors.{letter_at, length-vector}
use Rattle.covers.specs.Differing.{differing, one_more, CanCount}
use Rattle.covers.proofs.Differing.{differing_sym, differing_equal, count_of-le-length, vector_first_more, vector_last_more}
use Rattle.words.specs.Prefixes.{IsWord}
use Rattle.covers.proofs.CoverLengths.{smallest_from, smallest_next, smallest_whole}

-- `left` letters from each end are passed: the counts are those of the letters passed, and what is found is the smallest cover length among
-- those that leave no more than these letters.
pub record Passed (word first last : List ℕ) (differ : ℕ) (found : Option ℕ) (left : ℕ) : Type 0 where
  pub is_word : IsWord word
  pub order : left + left ≤ length word
  pub firsts : first ≡ vector (take left word)
  pub lasts : last ≡ vector (drop (length word - left) word)
  pub differs : differ ≡ differing first last
  pub smallest : found ≡ nonzero (smallest_from word (length word - left) left)

-- a number above 0 is one that is there
nonzero_positive : (k : ℕ) → 1 ≤ k → nonzero k ≡ Some k
nonzero_positive zero h = absurd (omega arith)
nonzero_positive (suc k) h = refl

-- nothing is passed
pub none_passed : {w first : List ℕ} → IsWord w → first ≡ vector [] → Passed w first first 0 None 0
unfolding smallest_from differing vector letters count
none_passed {w} word e = record { is_word = word; order = omega arith; firsts = e; lasts = let z : length w - 0 ≡ length w = omega arith in rw (z, drop-length w) e; differs = rw e; smallest = refl }

module _ (w : List ℕ) where
  -- a letter of the word can be counted in the vector of fewer letters than the longest word has
  can_count : (word : IsWord w) (i : ℕ) {a b : List ℕ} {differ : ℕ} (u v : List ℕ) → i < length w → length u < longest → a ≡ vector u → b ≡ vector v
      → differ ≡ differing a b → CanCount a b (get_or w i 0) differ
  can_count word i u v h l p q d =
      let x : (first_letter ≤ get_or w i 0) × (get_or w i 0 < first_letter + alphabet_size) = letter_at w i word.all h in
      record {
        is_one = bounds_letter alphabet_size (get_or w i 0) x.0 x.1;
        places = ap length p ∙ length-vector u;
        other_places = ap length q ∙ length-vector v;
        room = rw p (omega (arith, count_of-le-length u (get_or w i 0) x.0 x.1));
        number = d;
      }

  -- a turn begins, with two letters or more between; `right` is where the last of them stands
  module _ {first last : List ℕ} {differ : ℕ} {found : Option ℕ} {left : ℕ} (h : Passed w first last differ found left) (turn : left < length w / 2)
      (right : ℕ) (r : right ≡ length w - 1 - left) where
    between : left + 1 < length w - left
    between = omega arith

    shorter : right ≡ length w - left - 1
    shorter = omega arith

    -- the next letter from the front can be counted
    pub can_count_first : CanCount first last (get_or w left 0) differ
    can_count_first =
        can_count h.is_word left (take left w) (drop (length w - left) w) (omega arith) (omega (arith, between, h.is_word.short, length-take left w)) h.firsts h.lasts h.differs

    -- the front's letter is counted
    module _ {first' : List ℕ} {differ' : ℕ} (f : first' ≡ one_more first (get_or w left 0)) (d : differ' ≡ differing (one_more first (get_or w left 0)) last) where
      first_vector_lem : first' ≡ vector (take (left + 1) w)
      first_vector_lem = f ∙ vector_first_more w h.is_word.all left (omega arith) h.firsts

      -- the next letter from the end can be counted
      pub can_count_last : CanCount last first' (get_or w right 0) differ'
      can_count_last =
          can_count h.is_word right (drop (length w - left) w) (take (left + 1) w) (omega (arith, between)) (omega (arith, between, h.is_word.short, length-drop (length w - left) w)) h.lasts
          first_vector_lem (d ∙ differing_equal (sym f) refl ∙ differing_sym first' last)

      -- both letters are counted
      module _ {last' : List ℕ} {differ'' : ℕ} (g : last' ≡ one_more last (get_or w right 0)) (e : differ'' ≡ differing (one_more last (get_or w right 0)) first') where
        last_vector : last' ≡ vector (drop right w)
        last_vector = rw shorter (rw shorter at g ∙ vector_last_more w h.is_word.all (length w - left) (omega arith) (omega arith) h.lasts)

        both_differ : differ'' ≡ differing first' last'
        both_differ = e ∙ differing_equal (sym g) refl ∙ differing_sym last' first'

        passed : (m : Option ℕ) → m ≡ nonzero (pick (eqb differ'' 0) right (smallest_from w (length w - left) left)) → Passed w first' last' differ'' m (left + 1)
        passed m q =
            let next : length w - (left + 1) ≡ right = omega arith in
            record {
              is_word = h.is_word;
              order = omega (arith, between);
              firsts = first_vector_lem;
              lasts = rw next last_vector;
              differs = both_differ;
              smallest =
                  rw next
                  (q ∙ ap nonzero
                  (sym (rw (← shorter) at (smallest_next w left (length w - left) differ'' (omega arith) between (both_differ ∙ differing_equal first_vector_lem (rw shorter at last_vector))))));
            }

        -- no letter differs: the length that is left is a cover length, and the smallest so far
        pub passed_found : {m : Option ℕ} → differ'' ≡ 0 → m ≡ Some right → Passed w first' last' differ'' m (left + 1)
        passed_found {m} z q = passed m (rw (eq-eqb differ'' 0 z) (q ∙ sym (nonzero_positive right (omega (arith, between)))))

        -- some letter differs: what was found before stays
        pub passed_on : {m : Option ℕ} → differ'' ≢ 0 → m ≡ found → Passed w first' last' differ'' m (left + 1)
        passed_on {m} n q = passed m (rw (ne_eqb differ'' 0 n) (q ∙ h.smallest))

-- the ends have met: what is found is the word's cover length
pub all_passed : (w : List ℕ) {first last : List ℕ} {differ : ℕ} {found : Option ℕ} {left : ℕ} → Passed w first last differ found left → length w / 2 ≤ left
    → found ≡ nonzero (cover_length w)
all_passed w {left = left} h met = h.smallest ∙ ap nonzero (smallest_whole w left (length w - left) (omega (arith, h.order)) (omega (arith, h.order)) (omega (arith, h.order)))
