-- Laws of the zeros among the entries of a row.
use mathlib.Core.Path.{◌≡◌, refl, sym, ap, ◌∙◌}
use mathlib.Core.Bool.{Bool, true, false}
use mathlib.Core.List.{List}
use Prim.Native.Nat.{ℕ, ◌+◌, ◌≤◌, ◌<◌}
use native.Mathlib.Numerals.{add-one}
use native.Mathlib.Omega.{arith}
use lib.ListN.{length, take, get_or, length-take}
use lib.Dec.{eqb}
use mir.Val.{bool_byte}
use Rattle.abelian.specs.Lists.{one}
use Rattle.abelian.specs.Words.{count}
use Rattle.abelian.proofs.Counts.{count-take-more, count-le-length}

byte_one : (b : Bool) → bool_byte b ≡ one b
byte_one true = refl
byte_one false = refl

module _ (row : List ℕ) (i : ℕ) where
  -- one entry more
  pub zeros_more : i < length row → count 0 (take i row) + bool_byte (eqb (get_or row i 0) 0) ≡ count 0 (take (i + 1) row)
  zeros_more l = ap (λ (k : ℕ). count 0 (take i row) + k) (byte_one (eqb (get_or row i 0) 0)) ∙ rw add-one (sym (count-take-more 0 i row l))

  -- there are no more than the row has entries
  pub zeros_few : count 0 (take i row) ≤ length row
  zeros_few = omega (arith, count-le-length 0 (take i row), length-take i row)
