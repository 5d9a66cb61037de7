-- Of a word's Abelian periods those with h = 0 and p dividing the length and smaller than it are its full periods.
use mathlib.Core.Path.{◌≡◌, refl, ap, ◌∙◌}
use mathlib.Core.Bool.{Bool, true, false, ◌&&◌}
use mathlib.Core.List.{List, [], ◌++◌, map, map-append}
use Prim.Native.Nat.{ℕ, zero, suc, ◌+◌, ◌-◌, ◌≤◌, min}
use native.Mathlib.Omega.{arith}
use lib.ListN.{length}
use lib.Dec.{T, eqb, eqb→eq}
use Rattle.abelian.specs.Lists.{up_from, put, keep, each}
use Rattle.abelian.specs.Periods.{Pair, pair, heads, row, pairs, is_period, periods}
use Rattle.abelian.specs.FullPeriods.{proper_divisor, is_full, full_periods}
use Rattle.abelian.proofs.Tests.{is_false, left}
use Rattle.abelian.proofs.Lists.{keep_append, keep-keep}
use Rattle.history.specs.History.{full_pair}

abbrev period_of : Pair → ℕ
period_of x = x.period

-- ---- a test that passes with head 0 alone keeps at most the first pair of each row

module _ (f : Pair → Bool) (z : (x : Pair) → T (f x) → x.head ≡ 0) where
  later_none : (p a m : ℕ) → 1 ≤ a → keep f (map (λ (h : ℕ). pair h p) (up_from a m)) ≡ []
  later_none p a zero l = refl
  later_none p a (suc m) l =
      let no : f (pair a p) ≡ false = is_false (f (pair a p)) (λ t. let e : a ≡ 0 = z (pair a p) t in omega arith) in
      rw no (later_none p (suc a) m (omega arith))

  row_first : (n p : ℕ) → 1 ≤ p → p ≤ n → map period_of (keep f (row n p)) ≡ put (f (pair 0 p)) p []
  unfolding row heads
  row_first n p l u =
      let e : min p (suc n - p) ≡ suc (min p (suc n - p) - 1) = omega arith in
      rw (e, later_none p 1 (min p (suc n - p) - 1) (omega arith)) (go (f (pair 0 p)))
    where
      go : (b : Bool) → map period_of (put b (pair 0 p) []) ≡ put b p []
      go true = refl
      go false = refl

  rows_first : (n a m : ℕ) → 1 ≤ a → a + m ≤ suc n → map period_of (keep f (each (up_from a m) (row n))) ≡ keep (λ (p : ℕ). f (pair 0 p)) (up_from a m)
  rows_first n a zero l u = refl
  rows_first n a (suc m) l u =
      rw (keep_append f (row n a), map-append, row_first n a l (omega arith), rows_first n (suc a) m (omega arith) (omega arith)) (go (f (pair 0 a)))
    where
      go : (b : Bool) → put b a [] ++ keep (λ (p : ℕ). f (pair 0 p)) (up_from (suc a) m) ≡ put b a (keep (λ (p : ℕ). f (pair 0 p)) (up_from (suc a) m))
      go true = refl
      go false = refl

-- ---- the full pairs

pub full_pairs : (w : List ℕ) → map period_of (keep (full_pair (length w)) (periods w)) ≡ full_periods w
unfolding periods pairs full_periods is_full
full_pairs w =
    ap (map period_of) (keep-keep (full_pair (length w)) (is_period w) (pairs (length w)))
    ∙ rows_first (λ (x : Pair). full_pair (length w) x && is_period w x)
    (λ x t. eqb→eq x.head 0 (left (eqb x.head 0) (proper_divisor x.period (length w)) (left (full_pair (length w) x) (is_period w x) t)))
    (length w) 1 (length w) (omega arith) (omega arith)
