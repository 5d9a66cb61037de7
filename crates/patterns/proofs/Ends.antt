-- Whether a square ends where a beginning ends: by the half lengths one after the other.
use Prim.Native.Nat.{ℕ, ◌+◌, ◌*◌, ◌-◌, ◌/◌, ◌≤◌, ◌<◌}
use mathlib.Core.Path.{◌≡◌, refl, sym, ap}
use mathlib.Core.Bool.{Bool, true, false, not}
use mathlib.Core.List.{List}
use native.Mathlib.Omega.{arith}
use lib.ListN.{length, get_or}
use lib.Dec.{eqb}
use Rattle.abelian.specs.Lists.{up_from, all}
use Rattle.abelian.proofs.Tests.{is_true, is_false, passes, fails}
use Rattle.abelian.proofs.Lists.{mem-up_from, up_from-mem, all-mem, mem-all}
use Rattle.patterns.specs.Search.{halves_agree, ends_square}

module _ (totals : List ℕ) where
  -- the halves of this length do not agree
  abbrev apart : ℕ → Bool
  apart q = not (halves_agree totals q)

  -- the half lengths of a beginning
  abbrev halves : List ℕ
  halves = up_from 1 ((length totals - 1) / 2)

  -- halves that agree are a square
  pub agree_ends : (q : ℕ) → 1 ≤ q → 2 * q < length totals → halves_agree totals q ≡ true → true ≡ ends_square totals
  unfolding ends_square
  agree_ends q l h e =
      sym (ap not (is_false (all apart halves) (λ t. fails (apart q) (ap not e) (all-mem apart halves t (up_from-mem 1 ((length totals - 1) / 2) q l (omega arith))))))

  -- where none agree, there is none
  pub apart_ends : ((q : ℕ) → 1 ≤ q → 2 * q < length totals → halves_agree totals q ≡ false) → false ≡ ends_square totals
  unfolding ends_square
  apart_ends h =
      sym
      (ap not (is_true (all apart halves)
      (mem-all apart halves
      (λ q m.
      let r : (1 ≤ q) × (q < 1 + (length totals - 1) / 2) = mem-up_from 1 ((length totals - 1) / 2) m in
      passes (apart q) (ap not (h q r.0 (omega arith)))))))

-- the totals of a half, compared
pub agree_at : (totals : List ℕ) (q : ℕ) → eqb (get_or totals 0 0 + get_or totals (2 * q) 0) (2 * get_or totals q 0) ≡ halves_agree totals q
unfolding halves_agree
agree_at totals q = refl
