-- Laws of a list with one more at a place, where it is found place by place.
use mathlib.Core.Path.{◌≡◌, refl, sym, ◌∙◌}
use mathlib.Core.Bool.{Bool, true, false, not}
use mathlib.Core.List.{List}
use mathlib.Core.Logic.{⊎_elim, ◌≢◌}
use Prim.Native.Nat.{ℕ, ◌+◌, ◌≤◌, ◌<◌}
use native.Mathlib.Omega.{arith}
use lib.ListN.{length, get_or, set, length-set}
use lib.Seq.{ext_get_or, get_or-set_same, get_or-set_other}
use lib.Dec.{eqb}
use mir.Val.{bool_byte}
use borrow.Author.Tests.{eqb-true, eqb-false}
use Rattle.abelian.specs.Lists.{one}
use Rattle.abelian.proofs.Tests.{decided}
use Rattle.abelian.proofs.Lists.{below_or_not}

-- the counts with one more at the place
abbrev pub raised : List ℕ → ℕ → List ℕ
raised counts place = set counts place (get_or counts place 0 + 1)

-- the places below j hold what they hold with one more at the place
pub record Raised (counts : List ℕ) (place : ℕ) (more : List ℕ) (j : ℕ) : Type 0 where
  pub within : j ≤ length counts
  pub size : length more ≡ length counts
  pub done : (i : ℕ) → i < j → get_or more i 0 ≡ get_or (raised counts place) i 0

module _ {counts : List ℕ} {place : ℕ} where
  -- before the first place
  pub raised_none : Raised counts place counts 0
  raised_none = record { within = omega arith; size = refl; done = λ i m. absurd (omega arith) }

  module _ {more : List ℕ} {j : ℕ} (h : Raised counts place more j) where
    -- one place more
    pub raised_more : {v : ℕ} → j < length counts → v ≡ get_or (raised counts place) j 0 → Raised counts place (set more j v) (j + 1)
    raised_more {v} l e = record {
      within = omega arith;
      size = length-set more j v ∙ h.size;
      done = λ i m.
          ⊎_elim (λ (q : i < j). get_or-set_other more j i v 0 (λ r. omega arith) ∙ h.done i q)
          (λ (q : j ≤ i). let r : i ≡ j = omega arith in rw r (get_or-set_same more j v 0 (omega (arith, h.size)) ∙ e)) (below_or_not i j);
    }

    -- all places
    pub raised_all : length counts ≤ j → more ≡ raised counts place
    raised_all l =
        let s : length (raised counts place) ≡ length counts = length-set counts place (get_or counts place 0 + 1) in
        ext_get_or 0 more (raised counts place) (h.size ∙ sym s) (λ i m. h.done i (omega (arith, h.size)))

-- what is written at j
pub raised_at : (counts : List ℕ) (place j : ℕ) → j < length counts → get_or counts j 0 + bool_byte (eqb place j) ≡ get_or (raised counts place) j 0
raised_at counts place j l =
    ⊎_elim
    (λ (e : eqb place j ≡ true). let r : place ≡ j = eqb-true place j e in rw (e, r) (sym (get_or-set_same counts j (get_or counts j 0 + 1) 0 l)))
    (λ (e : eqb place j ≡ false).
    let r : place ≢ j = eqb-false place j e in
    let s : get_or (raised counts place) j 0 ≡ get_or counts j 0 = get_or-set_other counts place j (get_or counts place 0 + 1) 0 (λ q. r (sym q)) in
    rw e (omega arith))
    (decided (eqb place j))

-- and at most one is added
pub byte_le_1 : (b : Bool) → bool_byte b ≤ 1
byte_le_1 true = omega arith
byte_le_1 false = omega arith

-- a test holds or not, and what is added where it holds is 1 or 0
pub flag_or_not : (b : Bool) → bool_byte b + one (not b) ≡ 1
flag_or_not true = refl
flag_or_not false = refl
