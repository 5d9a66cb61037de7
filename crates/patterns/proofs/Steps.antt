-- The search letter by letter: the totals with one letter more, the words that were found behind the letters tried, and the bounds of what the code counts.
use Prim.Native.Nat.{ℕ, zero, suc, ◌+◌, ◌-◌, ◌*◌, ◌^◌, ◌≤◌, ◌<◌}
use mathlib.Core.Path.{◌≡◌, refl, sym, ap, ap₂, subst, ◌∙◌}
use mathlib.Core.Logic.{⊎_elim}
use mathlib.Core.Bool.{true, false}
use mathlib.Core.List.{List, [], ◌∷◌, ◌++◌, append-nil}
use native.Mathlib.Nat.{mul-suc, mul-le-mul_left, one-le-pow, pow-zero, pow-suc, pow-le-pow_right, eq-or-lt_of_le}
use native.Mathlib.Omega.{arith}
use lib.ListN.{length, take, drop, get_or, set, length-set, length-drop}
use lib.Seq.{take_all, drop-cons, drop-drop, drop-set-lt, get_or-drop, get_or-set_same, get_or-set_other}
use Rattle.abelian.specs.Lists.{pick, up_from, each}
use Rattle.abelian.specs.Patterns.{largest_alphabet, longest_square_free}
use Rattle.abelian.proofs.Tests.{picked}
use Rattle.abelian.proofs.Lists.{length-up_from, each_last}
use Rattle.patterns.proofs.Lists.{length-each-le}
use Rattle.patterns.specs.Search.{weight, with_letter, ends_square, found, Totals, Numbered}

-- ---- the totals with one letter more

-- a letter of a pattern weighs no more than the last that a pattern may have
pub weight_small : (c : ℕ) → c < largest_alphabet → weight c ≤ 2 ^ 15
unfolding weight largest_alphabet
weight_small c h = pow-le-pow_right {n = 32} (omega arith) {i = c} {j = 3} (omega arith)

-- the next letter's weight
pub weight-more : (c : ℕ) → weight c * 32 ≡ weight (c + 1)
unfolding weight
weight-more c = let e : c + 1 ≡ suc c = omega arith in rw e (sym (pow-suc 32 c))

module _ (totals : List ℕ) (left next : ℕ) (one_less : left ≡ next + 1) (t : Totals totals left) (x : ℕ) where
  abbrev stored_total : List ℕ
  stored_total = set totals next (get_or totals left 0 + x)

  -- they stand from one place before on
  pub letter_totals : drop next stored_total ≡ (get_or (drop left totals) 0 0 + x) ∷ drop left totals
  letter_totals =
      let e : left + 0 ≡ left = omega arith in
      let s : suc next ≡ left = omega arith in
      drop-cons stored_total next 0 (omega (arith, length-set totals next (get_or totals left 0 + x), t.within))
      ∙ ap₂ (λ (a : ℕ) (l : List ℕ). a ∷ l)
      (get_or-set_same totals next (get_or totals left 0 + x) 0 (omega (arith, t.within)) ∙ ap (λ (a : ℕ). a + x) (sym (get_or-drop left totals 0 0 ∙ ap (λ (i : ℕ). get_or totals i 0) e)))
      (drop-set-lt (suc next) totals next (get_or totals left 0 + x) (omega arith) ∙ ap (λ (i : ℕ). drop i totals) s)

  -- and are no larger than their letters make them
  pub totals-more : x ≤ 2 ^ 15 → Totals stored_total next
  totals-more h =
      let size : length stored_total ≡ length totals = length-set totals next (get_or totals left 0 + x) in
      record {
        within = omega (arith, t.within);
        short = omega (arith, t.short);
        small = λ i from to. ⊎_elim
            (λ (e : next ≡ i).
            rw (← e) (omega (arith, get_or-set_same totals next (get_or totals left 0 + x) 0 (omega (arith, t.within)), t.small left (omega arith) t.within)))
            (λ (l : next < i).
            omega (arith, get_or-set_other totals next i (get_or totals left 0 + x) 0 (λ q. omega arith), t.small i (omega arith) (omega arith)))
            (eq-or-lt_of_le from);
      }

-- what is kept from a place on stays so from the next
pub kept_behind : (l m : List ℕ) (left next : ℕ) → left ≡ next + 1 → drop next l ≡ drop next m → drop left l ≡ drop left m
kept_behind l m left next e h = rw (e, ← drop-drop 1 next l, ← drop-drop 1 next m) (ap (drop 1) h)

-- totals that are kept from a place on are those of the same beginning
pub totals_kept : (l m : List ℕ) (left : ℕ) → Totals m left → length l ≡ length m → drop left l ≡ drop left m → Totals l left
totals_kept l m left t size kept = record {
  within = omega (arith, t.within);
  short = omega (arith, t.short);
  small = λ i from to.
      let e : left + (i - left) ≡ i = omega arith in
      let s : get_or l i 0 ≡ get_or m i 0 =
      ap (λ (j : ℕ). get_or l j 0) (sym e) ∙ sym (get_or-drop left l (i - left) 0) ∙ ap (λ (d : List ℕ). get_or d (i - left) 0) kept ∙ get_or-drop left m (i - left) 0
      ∙ ap (λ (j : ℕ). get_or m j 0) e in
      omega (arith, t.small i from (omega arith));
}

-- what a slice from a place on holds
pub rest_taken : (l : List ℕ) (at : ℕ) → take (length l - at) (drop at l) ≡ drop at l
rest_taken l at = take_all (length l - at) (drop at l) (omega (arith, length-drop at l))

-- from their place on they are totals by themselves
pub totals_from : (l : List ℕ) (at : ℕ) → Totals l at → Totals (take (length l - at) (drop at l)) 0
totals_from l at t = subst (λ (d : List ℕ). Totals d 0) (sym (rest_taken l at)) (record {
  within = omega (arith, length-drop at l, t.within);
  short = omega (arith, length-drop at l, t.short);
  small = λ i from to. omega (arith, length-drop at l, get_or-drop at l i 0, t.within, t.small (at + i) (omega arith) (omega (arith, length-drop at l)));
})

-- ---- the words behind the letters tried

module _ (k next : ℕ) (totals : List ℕ) (number : ℕ) where
  -- the words that go on with the letter in place c
  abbrev continued : ℕ → List ℕ
  continued c = pick (ends_square (with_letter totals c)) [] (found k next (with_letter totals c) (number * k + c))

  -- those that go on with one of the first c letters
  abbrev pub tried : ℕ → List ℕ
  tried c = each (up_from 0 c) continued

  -- all letters were tried
  pub tried_all : (left : ℕ) → left ≡ next + 1 → tried k ≡ found k left totals number
  unfolding found
  tried_all left e = let s : left ≡ suc next = omega arith in rw s refl

  module _ (c : ℕ) where
    tried_next : tried (c + 1) ≡ tried c ++ continued c
    tried_next =
        let e : c + 1 ≡ suc c = omega arith in
        let z : 0 + c ≡ c = omega arith in
        rw e (rw z at (each_last continued 0 c))

    -- a letter that completes a square
    pub tried_square : ends_square (with_letter totals c) ≡ true → tried (c + 1) ≡ tried c
    tried_square e = tried_next ∙ rw e (append-nil (tried c))

    -- one that completes none
    pub tried_free : ends_square (with_letter totals c) ≡ false → tried (c + 1) ≡ tried c ++ found k next (with_letter totals c) (number * k + c)
    tried_free e = tried_next ∙ rw e refl

-- ---- how many they are

-- where no letter has more than b words behind it, c letters have no more than c times b
tried_le : (k next : ℕ) (totals : List ℕ) (number b : ℕ) → ((ts : List ℕ) (m : ℕ) → length (found k next ts m) ≤ b) → (c : ℕ) → length (tried k next totals number c) ≤ b * c
tried_le k next totals number b h c =
    rw (length-up_from 0 c) at
    (length-each-le (continued k next totals number) b
    (λ d. picked (λ (l : List ℕ). length l ≤ b) (ends_square (with_letter totals d)) (omega arith) (h (with_letter totals d) (number * k + d))) (up_from 0 c))

-- no more words are found than there are words of so many letters
found_few : (k left : ℕ) (totals : List ℕ) (number : ℕ) → k ≤ largest_alphabet → length (found k left totals number) ≤ largest_alphabet ^ left
unfolding found
found_few k zero totals number h = omega (arith, pow-zero largest_alphabet)
found_few k (suc left) totals number h =
    rw (pow-suc largest_alphabet left)
    (omega (arith, tried_le k left totals number (largest_alphabet ^ left) (λ ts m. found_few k left ts m h) k, mul-le-mul_left (largest_alphabet ^ left) h))

-- ---- what the code counts stays small

module _ {left number at : ℕ} (n : Numbered left number at) where
  -- the number of a beginning
  pub number_small : number < 2 ^ 24
  unfolding largest_alphabet longest_square_free
  number_small = omega (arith, n.digits, pow-le-pow_right {n = 4} (omega arith) {i = 12 - left} {j = 12} (omega arith))

  -- the place behind one word more
  pub place_small : at + 1 ≤ 2 ^ 24
  unfolding largest_alphabet longest_square_free
  place_small = omega (arith, n.places, one-le-pow left 4 (omega arith))

  module _ {k c : ℕ} (few : k ≤ largest_alphabet) (l : c ≤ k) where
    -- the number with one letter more
    pub longer_small : number * k + c ≤ 2 ^ 26 + 4
    unfolding largest_alphabet
    longer_small = omega (arith, number_small, mul-le-mul_left number few)

  -- behind the letters tried, the words that go on with the next can be numbered too
  pub numbered_more : (k c next to : ℕ) (totals : List ℕ) → k ≤ largest_alphabet → c < k → left ≡ next + 1 → to ≡ at + length (tried k next totals number c)
      → Numbered next (number * k + c) to
  unfolding largest_alphabet
  numbered_more k c next to totals few l e p =
      let one_more_lem : longest_square_free - next ≡ suc (longest_square_free - left) = omega (arith, n.within) in
      let s : left ≡ suc next = omega arith in
      let room : at + 4 ^ next * 4 ≤ 4 ^ longest_square_free = rw (s, pow-suc 4 next) at n.places in
      let last : suc c ≤ 4 = omega arith in
      record {
        within = omega (arith, n.within);
        digits = rw (one_more_lem, pow-suc 4 (longest_square_free - left)) (omega (arith, n.digits, mul-le-mul_left number few));
        places = omega (arith, room, tried_le k next totals number (4 ^ next) (λ ts m. found_few k next ts m few) c, mul-le-mul_left (4 ^ next) last, mul-suc (4 ^ next) c);
      }
