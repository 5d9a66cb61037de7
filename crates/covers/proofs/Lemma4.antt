-- Document 003's Lemma 4, on the definition of a cover, for words of letters: a cover length is the length of a cover of two intervals, and
-- where there is none, no intervals are a cover, however many they are and however they overlap. And C-14's promise: of the lengths that
-- document 01 leaves free the smallest is answered.
use mathlib.Core.Path.{◌≡◌, refl, sym, ap, subst, ◌∙◌}
use mathlib.Core.Bool.{true, false}
use mathlib.Core.Logic.{◌≢◌, ◌↔◌, ⊎_elim}
use mathlib.Core.Option.{none}
use mathlib.Core.List.{List, [], ◌∷◌, Memᴰ}
use Prim.Native.Nat.{ℕ, suc, ◌-◌, ◌*◌, ◌≤◌, ◌<◌}
use native.Mathlib.Omega.{arith}
use lib.ListN.{length, take, drop, length-drop}
use lib.Seq.{take_all, length-take-le}
use lib.Dec.{T, eqb, leb}
use borrow.Author.Tests.{eqb-true, eqb-false, leb-true, leb-false}
use Rattle.abelian.specs.Lists.{up_from}
use Rattle.abelian.specs.Words.{of_letters, vector}
use Rattle.abelian.specs.Covers.{Interval, within, Proper, Holds, Cover, CoverLength, SmallestCoverLength, is_cover_length, cover_length}
use Rattle.abelian.specs.Refusals.{word_refusal}
use Rattle.abelian.specs.Answers.{Answer, deciding}
use Rattle.abelian.specs.Calls.{cover_answer}
use Rattle.abelian.proofs.Tests.{decided}
use Rattle.abelian.proofs.Lists.{mem-up_from, up_from-mem, first_passing-found, first_passing-none, first_passing-within, first_passing_least}
use Rattle.abelian.proofs.Counts.{letters-take, letters-drop, vector-length}
use Rattle.words.proofs.Refusals.{accepted_letters}
use Rattle.covers.proofs.CoverLengths.{test_cover, cover_test, ends_mirrored}
use Rattle.covers.proofs.Answers.{answer_nothing, answer_length, answer_cover, answer_yes}

-- ---- the lengths

module _ (w : List ℕ) where
  -- the cover length is one of those that document 01 leaves free
  pub cover_length_is : cover_length w ≢ 0 → CoverLength w (cover_length w)
  unfolding cover_length
  cover_length_is h =
      let f : Memᴰ (cover_length w) (up_from 1 (length w - 1)) × T (is_cover_length w (cover_length w)) = first_passing-found (is_cover_length w) (up_from 1 (length w - 1)) h in
      test_cover w (cover_length w) (omega (arith, mem-up_from 1 (length w - 1) f.0)) f.1

  -- each of them is among the lengths that are tried
  among_tried : (m : ℕ) → CoverLength w m → Memᴰ m (up_from 1 (length w - 1))
  among_tried m c = up_from-mem 1 (length w - 1) m (omega (arith, c.below, c.half)) (omega (arith, c.below))

  -- where the cover length is 0 there is none of them
  pub cover_length-none : cover_length w ≡ 0 → (m : ℕ) → CoverLength w m → ⊥
  unfolding cover_length
  cover_length-none e m c =
      first_passing-none (is_cover_length w) (up_from 1 (length w - 1)) (λ k i. (mem-up_from 1 (length w - 1) i).0) e m (among_tried m c) (cover_test w m c)

  -- and else it is the smallest of them
  pub cover_length_smallest : cover_length w ≢ 0 → SmallestCoverLength w (cover_length w)
  unfolding cover_length
  cover_length_smallest h =
      record { is_one = cover_length_is h; least = λ k c. first_passing_least (is_cover_length w) 1 (length w - 1) k (among_tried k c) (cover_test w k c) }

  -- no other length is
  pub smallest_cover_length : (m : ℕ) → SmallestCoverLength w m → cover_length w ≡ m
  smallest_cover_length m s =
      let some : cover_length w ≢ 0 = λ z. cover_length-none z m s.is_one in
      omega (arith, (cover_length_smallest some).least m s.is_one, s.least (cover_length w) (cover_length_is some))

  -- it is no larger than the word's length
  pub cover_length-le-length : cover_length w ≤ length w
  unfolding cover_length
  cover_length-le-length = omega (arith, first_passing-within (is_cover_length w) 0 (length w - 1))

  -- a word of fewer than two letters has none
  pub short_none : length w < 2 → cover_length w ≡ 0
  unfolding cover_length
  short_none h = let z : length w - 1 ≡ 0 = omega arith in rw z

-- ---- from a length to a cover

-- the first m and the last m of n positions
unfoldable pub first_interval : ℕ → Interval
first_interval m = record { from = 1; to = m }

unfoldable pub last_interval : ℕ → ℕ → Interval
last_interval n m = record { from = suc (n - m); to = n }

-- an interval that holds the first position begins there, and one that holds the last ends there
module _ (w : List ℕ) (i : Interval) (p : Proper (length w) i) where
  holds_first : Holds i 1 → within w i ≡ take i.to w
  unfolding within
  holds_first h =
      let f : i.from - 1 ≡ 0 = omega (arith, h.above) in
      let n : suc i.to - i.from ≡ i.to = omega (arith, h.above, p.starts) in
      rw (f, n)

  holds_last : Holds i (length w) → within w i ≡ drop (i.from - 1) w
  unfolding within
  holds_last h =
      let n : suc i.to - i.from ≡ length w - (i.from - 1) = omega (arith, h.below, p.starts, p.ends, p.ordered) in
      rw n (take_all (length w - (i.from - 1)) (drop (i.from - 1) w) (omega (arith, length-drop (i.from - 1) w)))

module _ (w : List ℕ) (m : ℕ) (c : CoverLength w m) where
  abbrev both : List Interval
  both = first_interval m ∷ last_interval (length w) m ∷ []

  -- one of the two intervals is the first or the last
  by_cases : (P : Interval → Type 0) → P (first_interval m) → P (last_interval (length w) m) → (i : Interval) → Memᴰ i both → P i
  by_cases P f l i h =
      ⊎_elim (λ (e : i ≡ first_interval m). subst P (sym e) f)
      (λ t. subst P (sym (mathlib.Core.List.Memᴰ.eq_of_singleton t)) l) (mathlib.Core.List.Memᴰ.cases_cons h)

  first_proper : Proper (length w) (first_interval m)
  unfolding first_interval
  first_proper = record { starts = omega arith; ordered = omega (arith, c.below, c.half); ends = omega (arith, c.below); not_whole = λ a b. omega (arith, c.below) }

  last_proper : Proper (length w) (last_interval (length w) m)
  unfolding last_interval
  last_proper = record { starts = omega arith; ordered = omega (arith, c.below, c.half); ends = omega arith; not_whole = λ a b. omega (arith, c.below) }

  -- both have the vector of the first m letters
  alike : (i : Interval) → Memᴰ i both → vector (within w i) ≡ vector (take m w)
  unfolding first_interval last_interval
  alike =
      let s : suc (length w - m) - 1 ≡ length w - m = omega arith in
      let f : within w (first_interval m) ≡ take m w =
      holds_first w (first_interval m) first_proper (record { above = omega arith; below = first_proper.ordered }) in
      let l : within w (last_interval (length w) m) ≡ drop (suc (length w - m) - 1) w =
      holds_last w (last_interval (length w) m) last_proper (record { above = last_proper.ordered; below = omega arith }) in
      by_cases (λ (i : Interval). vector (within w i) ≡ vector (take m w)) (ap vector f) (ap vector (rw s at l) ∙ sym c.equal)

  -- the first m and the last m positions are a cover
  pub two_intervals : Cover w (first_interval m ∷ last_interval (length w) m ∷ [])
  unfolding first_interval last_interval
  two_intervals =
      let half : length w ≤ 2 * m = c.half in
      let below : m < length w = c.below in
      record {
        long = omega arith;
        some = omega arith;
        proper = by_cases (Proper (length w)) first_proper last_proper;
        equal = λ i j a b. alike i a ∙ sym (alike j b);
        holding = λ k a b.
            ⊎_elim
            (λ (e : leb k m ≡ true). (first_interval m, mathlib.Core.List.Memᴰ.head refl, record { above = a; below = leb-true k m e }))
            (λ (e : leb k m ≡ false).
            let l : m < k = leb-false k m e in
            (last_interval (length w) m, mathlib.Core.List.Memᴰ.tail (mathlib.Core.List.Memᴰ.head refl), record { above = omega arith; below = b }))
            (decided (leb k m));
      }

-- ---- from a cover to a length

-- equal ends of any length below the word's are those of a cover length, or else the letters that they leave are
pub ends_length : (w : List ℕ) (m : ℕ) → 1 ≤ m → m < length w → vector (take m w) ≡ vector (drop (length w - m) w) → (k : ℕ) × CoverLength w k
ends_length w m p l e =
    ⊎_elim
    (λ (h : leb (length w) (2 * m) ≡ true). (m, record { below = l; half = leb-true (length w) (2 * m) h; equal = e }))
    (λ (h : leb (length w) (2 * m) ≡ false).
    let s : 2 * m < length w = leb-false (length w) (2 * m) h in
    let q : length w - (length w - m) ≡ m = omega arith in
    (length w - m, record { below = omega arith; half = omega arith; equal = rw q (ends_mirrored w m (length w - m) e) }))
    (decided (leb (length w) (2 * m)))

-- two intervals with equal vectors that hold the first and the last position have the same length, and are the ends of a cover length: they themselves where they meet or overlap,
-- and else what they leave
outer_length : (w : List ℕ) → T (of_letters w) → (i j : Interval) → Proper (length w) i → Proper (length w) j → Holds i 1 → Holds j (length w)
    → vector (within w i) ≡ vector (within w j) → (m : ℕ) × CoverLength w m
outer_length w t i j p q a b e =
    let s : vector (take i.to w) ≡ vector (drop (j.from - 1) w) = sym (ap vector (holds_first w i p a)) ∙ e ∙ ap vector (holds_last w j q b) in
    let same : length (take i.to w) ≡ length (drop (j.from - 1) w) =
    vector-length (take i.to w) (drop (j.from - 1) w) (letters-take i.to w t) (letters-drop (j.from - 1) w t) s in
    let first : i.from ≡ 1 = omega (arith, a.above, p.starts) in
    let below : i.to < length w = omega (arith, p.ends, p.not_whole first) in
    let k : j.from - 1 ≡ length w - i.to = omega (arith, length-take-le i.to w p.ends, length-drop (j.from - 1) w, q.ends, q.ordered, q.starts) in
    ends_length w i.to (omega (arith, p.ordered)) below (rw k at s)

-- a word that has a cover, of however many intervals, has a cover length
pub cover_length_lem : (w : List ℕ) → T (of_letters w) → (is : List Interval) → Cover w is → (m : ℕ) × CoverLength w m
cover_length_lem w t is c =
    let a : (i : Interval) × Memᴰ i is × Holds i 1 = c.holding 1 (omega arith) (omega (arith, c.long)) in
    let b : (i : Interval) × Memᴰ i is × Holds i (length w) = c.holding (length w) (omega (arith, c.long)) (omega arith) in
    outer_length w t a.0 b.0 (c.proper a.0 a.1) (c.proper b.0 b.1) a.2 b.2 (c.equal a.0 b.0 a.1 b.1)

-- ---- Lemma 4, and what is answered

module _ (w : List ℕ) where
  -- a cover length that is not 0 is that of a cover: the first and the last letters of that length
  pub cover_length_cover : cover_length w ≢ 0 → Cover w (first_interval (cover_length w) ∷ last_interval (length w) (cover_length w) ∷ [])
  cover_length_cover h = two_intervals w (cover_length w) (cover_length_is w h)

  -- where the cover length is 0 no intervals are a cover
  pub zero_no_cover : T (of_letters w) → cover_length w ≡ 0 → (is : List Interval) → Cover w is → ⊥
  zero_no_cover t e is c = let k : (m : ℕ) × CoverLength w m = cover_length_lem w t is c in cover_length-none w e k.0 k.1

  -- where no intervals are a cover the cover length is 0
  pub no_cover_zero : ((is : List Interval) → Cover w is → ⊥) → cover_length w ≡ 0
  no_cover_zero h =
      ⊎_elim (eqb-true (cover_length w) 0)
      (λ (e : eqb (cover_length w) 0 ≡ false).
      absurd
      (h (first_interval (cover_length w) ∷ last_interval (length w) (cover_length w) ∷ []) (cover_length_cover (eqb-false (cover_length w) 0 e))))
      (decided (eqb (cover_length w) 0))

  -- a word has no cover length exactly where no intervals are a cover of it
  pub lemma_4 : T (of_letters w) → (cover_length w ≡ 0) ↔ ((is : List Interval) → Cover w is → ⊥)
  lemma_4 t = (zero_no_cover t, no_cover_zero)

  module _ (e : word_refusal w false 0 0 ≡ none) where
    -- of a word that is accepted, the answer is none exactly where no intervals are a cover of it
    pub answer_none : (cover_answer w ≡ deciding 0 0 0 0) ↔ ((is : List Interval) → Cover w is → ⊥)
    answer_none = (
      λ q. zero_no_cover (accepted_letters w e) (sym (answer_cover w e) ∙ ap (λ (a : Answer). a.cover) q),
      λ h. sym (answer_nothing w e (no_cover_zero h)),
    )

    -- C-14: and it is yes with the length m exactly where m is the smallest of those that document 01 leaves free
    pub answer_smallest : (m : ℕ) → (cover_answer w ≡ deciding 1 0 0 m) ↔ SmallestCoverLength w m
    answer_smallest m = (
      λ q. subst (SmallestCoverLength w) (sym (answer_cover w e) ∙ ap (λ (a : Answer). a.cover) q)
          (cover_length_smallest w (answer_yes w e (ap (λ (a : Answer). a.yes) q))),
      λ s. sym (answer_length w e (sym (smallest_cover_length w m s)) (λ z. omega (arith, s.is_one.below, s.is_one.half))),
    )
