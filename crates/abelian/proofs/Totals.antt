-- Laws of a tracker's totals: those of a fresh tracker are 0, and live is the number of words that a list writes.
use mathlib.Core.Path.{◌≡◌, refl, sym}
use mathlib.Core.Bool.{Bool, false}
use mathlib.Core.List.{List, [], ◌∷◌}
use Prim.Native.Nat.{ℕ}
use native.Mathlib.Omega.{arith}
use lib.ListN.{length, replicate, length-map}
use Rattle.abelian.specs.Words.{longest}
use Rattle.abelian.specs.Periods.{Pair, in_range, pairs}
use Rattle.abelian.specs.Output.{period_word}
use Rattle.abelian.specs.Trackers.{board_size, pairs_where, open_pairs, ended_pairs, totals, fresh_tracker, open_words}
use Rattle.abelian.proofs.Tests.{is_false}
use Rattle.abelian.proofs.Pairs.{InRange, in_range_lem}

-- where no pair passes the test there are none
pairs_where-none : (f : Pair → ℕ → Bool) → ((x : Pair) (e : ℕ) → f x e ≡ false) → (xs : List Pair) (es : List ℕ) → pairs_where f xs es ≡ []
unfolding pairs_where
pairs_where-none f h [] es = refl
pairs_where-none f h (x ∷ xs) [] = refl
pairs_where-none f h (x ∷ xs) (e ∷ es) = rw (h x e) (pairs_where-none f h xs es)

-- no pair is in range for 0
none-in_range : (x : Pair) → in_range 0 x ≡ false
none-in_range x = is_false (in_range 0 x) (λ t. let r : InRange 0 x = in_range_lem 0 x t in omega (arith, r.positive, r.fits))

module _ (board : List ℕ) where
  none_open : open_pairs 0 board ≡ []
  unfolding open_pairs
  none_open = pairs_where-none _ (λ x e. rw (none-in_range x)) (pairs longest) board

  none_ended : ended_pairs 0 board ≡ []
  unfolding ended_pairs
  none_ended = pairs_where-none _ (λ x e. rw (none-in_range x)) (pairs longest) board

-- a fresh tracker is zero in every field
pub fresh_zero : fresh_tracker ≡ record { len = 0; bytes = replicate longest 0; board = replicate board_size 0; live = 0; ended = 0 }
unfolding fresh_tracker totals
fresh_zero = rw (none_open (replicate board_size 0), none_ended (replicate board_size 0))

-- "live is the length of the list", on every board: a theorem by itself, which no proof uses
pub live_listed_lem : (n : ℕ) (board : List ℕ) → (totals n board).live ≡ length (open_words n board)
unfolding totals
live_listed_lem n board = sym (length-map (open_pairs n board) period_word)
