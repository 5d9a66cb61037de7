-- Laws of ended lengths: an entry is 0 exactly where the pair is still an Abelian period, and the entries after one letter more and
-- after one letter less are known from those before.
use mathlib.Core.Path.{◌≡◌, refl, ap, ◌∙◌}
use mathlib.Core.Logic.{⊎_elim}
use mathlib.Core.Bool.{Bool, true, false, not, ◌&&◌}
use mathlib.Core.List.{List, [], ◌∷◌, ◌++◌, Memᴰ}
use Prim.Native.Nat.{ℕ, suc, ◌+◌, ◌-◌, ◌≤◌, ◌<◌}
use native.Mathlib.Decide.{dec_lt}
use native.Mathlib.Omega.{arith}
use lib.ListN.{length, take, length-append}
use lib.Seq.{take-length, take-append-le}
use lib.Dec.{T, eqb, T_not}
use borrow.Author.Tests.{eq-eqb, ne_eqb, eqb-true, eqb-false}
use Rattle.abelian.specs.Lists.{pick, up_from, first_passing}
use Rattle.abelian.specs.Words.{of_letters}
use Rattle.abelian.specs.Periods.{Pair, in_range, is_period}
use Rattle.abelian.specs.EndedLengths.{ended_length}
use Rattle.abelian.specs.Trackers.{entry_added}
use Rattle.abelian.proofs.Tests.{is_true, is_false, passes, decided, iff_equal}
use Rattle.abelian.proofs.Lists.{mem-up_from, up_from-mem, up_from_last, first_passing-found, first_passing-none, none-first_passing, first_passing-append, first_passing_agree}
use Rattle.abelian.proofs.Pairs.{InRange, in_range_lem, range_in}
use Rattle.periods.proofs.OnceEnded.{once_ended}

-- the pair has ended at the length m
abbrev ended : List ℕ → Pair → ℕ → Bool
ended w x m = not (is_period (take m w) x)

-- the lengths from h + p to n are those of the ended lengths' list, and none is 0
module _ (n : ℕ) (x : Pair) where
  abbrev lengths : List ℕ
  lengths = up_from (x.head + x.period) (suc n - (x.head + x.period))

  lengths_bounds : (k : ℕ) → Memᴰ k lengths → (x.head + x.period ≤ k) × (k ≤ n)
  lengths_bounds k m =
      let b : (x.head + x.period ≤ k) × (k < x.head + x.period + (suc n - (x.head + x.period))) = mem-up_from (x.head + x.period) (suc n - (x.head + x.period)) m in
      omega arith

  bounds_lengths : (k : ℕ) → x.head + x.period ≤ k → k ≤ n → Memᴰ k lengths
  bounds_lengths k l u = up_from-mem (x.head + x.period) (suc n - (x.head + x.period)) k l (omega arith)

-- an ended length is at most the word's length
pub ended_le_length : (w : List ℕ) (x : Pair) → ended_length w x ≤ length w
unfolding ended_length
ended_le_length w x =
    ⊎_elim (λ e. omega (arith, eqb-true (ended_length w x) 0 e))
    (λ e. (lengths_bounds (length w) x (ended_length w x) (first_passing-found (ended w x) (lengths (length w) x) (eqb-false (ended_length w x) 0 e)).0).1)
    (decided (eqb (ended_length w x) 0))

module _ (w : List ℕ) (x : Pair) (r : InRange (length w) x) where
  -- what has not ended is an Abelian period
  open_period : ended_length w x ≡ 0 → T (is_period w x)
  unfolding ended_length
  open_period e =
      ⊎_elim (passes (is_period w x))
      (λ (no-period : is_period w x ≡ false).
      absurd (first_passing-none (ended w x) (lengths (length w) x) (λ k m. let b : (x.head + x.period ≤ k) × (k ≤ length w) = lengths_bounds (length w) x k m in omega (arith, r.positive)) e (length w)
      (bounds_lengths (length w) x (length w) r.fits (omega arith)) (rw (take-length, no-period) tt)))
      (decided (is_period w x))

  -- an Abelian period has not ended
  period_open : T (of_letters w) → T (is_period w x) → ended_length w x ≡ 0
  unfolding ended_length
  period_open t p =
      none-first_passing (ended w x) (lengths (length w) x)
      (λ k m e. let b : (x.head + x.period ≤ k) × (k ≤ length w) = lengths_bounds (length w) x k m in
      T_not (is_period (take k w) x) e (once_ended w x k (length w) t (rw take-length p) b.0 b.1))

  -- an entry is 0 exactly where the pair is still an Abelian period
  pub open_is_period : T (of_letters w) → eqb (ended_length w x) 0 ≡ is_period w x
  open_is_period t =
      iff_equal (eqb (ended_length w x) 0) (is_period w x) (λ e. open_period (eqb-true (ended_length w x) 0 (is_true (eqb (ended_length w x) 0) e)))
      (λ p. passes (eqb (ended_length w x) 0) (eq-eqb (ended_length w x) 0 (period_open t p)))

-- a pair that is not in range for the word has not ended
pub out_of_range_open : (w : List ℕ) (x : Pair) → length w < x.head + x.period → ended_length w x ≡ 0
unfolding ended_length
out_of_range_open w x l = let e : suc (length w) - (x.head + x.period) ≡ 0 = omega arith in rw e

-- ---- one letter more

-- a choice by two tests in turn is a choice by both
chosen : (e n : ℕ) (b : Bool) → pick (eqb e 0) (pick b n 0) e ≡ pick (eqb e 0 && true && b) n e
chosen e n b =
    ⊎_elim (λ (y : eqb e 0 ≡ true). let z : e ≡ 0 = eqb-true e 0 y in rw z) (λ (y : eqb e 0 ≡ false). rw y) (decided (eqb e 0))

-- an entry below the new length is 0 or kept, and one that is set to it is 0 again where it is reopened
reopened : (e n : ℕ) (r b : Bool) → e ≤ n → e ≡ pick (eqb (pick (eqb e 0 && r && b) (suc n) e) (suc n)) 0 (pick (eqb e 0 && r && b) (suc n) e)
reopened e n r b l = go (eqb e 0) (eqb-true e 0) (r && b) refl
  where
    kept : eqb e (suc n) ≡ false
    kept = ne_eqb e (suc n) (omega arith)

    go : (t : Bool) → (t ≡ true → e ≡ 0) → (s : Bool) → (r && b) ≡ s → e ≡ pick (eqb (pick (t && r && b) (suc n) e) (suc n)) 0 (pick (t && r && b) (suc n) e)
    go true z true q = rw (q, eq-eqb (suc n) (suc n) refl) (z refl)
    go true z false q = rw (q, kept)
    go false z s q = rw kept

module _ (w : List ℕ) (b : ℕ) (x : Pair) (p : 1 ≤ x.period) (h : x.head < x.period) where
  abbrev W : List ℕ
  W = w ++ (b ∷ [])

  length-W : length W ≡ suc (length w)
  length-W = omega (arith, length-append w (b ∷ []))

  -- in range for the longer word: the old lengths, and then the new one
  ended_more : x.head + x.period ≤ suc (length w) → ended_length W x ≡ pick (eqb (ended_length w x) 0) (pick (not (is_period W x)) (suc (length w)) 0) (ended_length w x)
  unfolding ended_length
  ended_more l =
      let a : ℕ = x.head + x.period in
      let k : ℕ = suc (length w) - a in
      let e : suc (length W) - a ≡ suc k = omega (arith, length-W) in
      let last : a + k ≡ suc (length w) = omega arith in
      let split : up_from a (suc (length W) - a) ≡ up_from a k ++ (suc (length w) ∷ []) = ap (up_from a) e ∙ up_from_last a k ∙ ap (λ (j : ℕ). up_from a k ++ (j ∷ [])) last in
      let old : first_passing (ended W x) (up_from a k) ≡ first_passing (ended w x) (up_from a k) =
      first_passing_agree (ended W x) (ended w x) (up_from a k)
      (λ j m. let c : (a ≤ j) × (j ≤ length w) = lengths_bounds (length w) x j m in ap (λ (v : List ℕ). not (is_period v x)) (take-append-le j w (b ∷ []) c.1)) in
      let whole : take (suc (length w)) W ≡ W = rw (← length-W) (take-length W) in
      ap (first_passing (ended W x)) split
      ∙ first_passing-append (ended W x) (up_from a k) (suc (length w) ∷ []) (λ j m. let c : (a ≤ j) × (j ≤ length w) = lengths_bounds (length w) x j m in omega arith)
      ∙ rw (old, whole)

  -- the entry after one letter more is that of the tracker's add
  pub ended_added : ended_length W x ≡ entry_added W x (ended_length w x)
  unfolding entry_added
  ended_added = go (dec_lt (suc (length w)) (x.head + x.period))
    where
      go : Dec (suc (length w) < x.head + x.period) → ended_length W x ≡ entry_added W x (ended_length w x)
      go (yes l) =
          let out : in_range (length W) x ≡ false = is_false (in_range (length W) x) (λ t. let r : InRange (length W) x = in_range_lem (length W) x t in omega (arith, r.fits, length-W)) in
          rw (out_of_range_open W x (omega (arith, length-W)), out_of_range_open w x (omega arith), out)
      go (no l) =
          let within : in_range (length W) x ≡ true =
          is_true (in_range (length W) x) (range_in (length W) x (record { positive = p; below = h; fits = omega (arith, length-W) })) in
          rw (ended_more (omega arith), within, length-W) (chosen (ended_length w x) (suc (length w)) (not (is_period W x)))

  -- the entry after one letter less is that of the tracker's take-back
  pub ended_shortened : ended_length w x ≡ pick (eqb (ended_length W x) (length W)) 0 (ended_length W x)
  unfolding entry_added
  ended_shortened = rw (ended_added, length-W) (reopened (ended_length w x) (length w) (in_range (suc (length w)) x) (not (is_period W x)) (ended_le_length w x))
