-- Laws of lists: of the numbers that are kept, and of an accepted list that is written piece by piece.
use mathlib.Core.Path.{◌≡◌, sym, ap, ◌∙◌}
use mathlib.Core.Bool.{Bool}
use mathlib.Core.List.{List, [], ◌∷◌, ◌++◌, append-nil, append_assoc}
use Prim.Native.Nat.{ℕ, suc, ◌+◌, ◌-◌, ◌≤◌, ◌<◌}
use native.Mathlib.Omega.{arith}
use lib.ListN.{length, take, drop, get_or, set, length-append, length-drop, drop_of_length-le}
use lib.Seq.{take_all, drop-cons, drop-drop, set-append_seam, append_snoc, take-append_seam, drop-append_seam}
use Rattle.abelian.specs.Lists.{up_from, keep}
use Rattle.abelian.specs.Output.{fill}
use Rattle.abelian.proofs.Lists.{up_from-append, keep_append}

-- more numbers leave no fewer
pub keep_rises : (f : ℕ → Bool) (a : ℕ) {k n : ℕ} → k ≤ n → length (keep f (up_from a k)) ≤ length (keep f (up_from a n))
keep_rises f a {k} {n} h =
    let e : k + (n - k) ≡ n = omega arith in
    let s : keep f (up_from a n) ≡ keep f (up_from a k) ++ keep f (up_from (a + k) (n - k)) =
    ap (keep f) (rw e at (up_from-append a k (n - k))) ∙ keep_append f (up_from a k) (up_from (a + k) (n - k)) in
    omega (arith, ap length s, length-append (keep f (up_from a k)) (keep f (up_from (a + k) (n - k))))

-- ---- an accepted list, piece by piece

module _ (ws out : List ℕ) where
  -- the slice keeps its length
  pub length-fill : length ws ≤ length out → length (fill ws out) ≡ length out
  unfolding fill
  length-fill h = omega (arith, length-append ws (drop (length ws) out), length-drop (length ws) out)

  -- one word more in the first places
  pub fill_more : (v : ℕ) → length ws < length out → set (fill ws out) (length ws) v ≡ fill (ws ++ (v ∷ [])) out
  unfolding fill
  fill_more v h =
      let e : suc (length ws) ≡ length (ws ++ (v ∷ [])) = omega (arith, length-append ws (v ∷ [])) in
      ap (λ (l : List ℕ). set (ws ++ l) (length ws) v) (drop-cons out (length ws) 0 h)
      ∙ set-append_seam ws (get_or out (length ws) 0) (drop (suc (length ws)) out) v
      ∙ sym (append_snoc ws v (drop (suc (length ws)) out))
      ∙ ap (λ (k : ℕ). (ws ++ (v ∷ [])) ++ drop k out) e

  -- the words of a list are the first places
  pub take-fill : take (length ws) (fill ws out) ≡ ws
  unfolding fill
  take-fill = take-append_seam ws (drop (length ws) out)

  -- a second list behind the first
  pub fill_behind : (vs : List ℕ) → take (length ws) (fill ws out) ++ fill vs (drop (length ws) (fill ws out)) ≡ fill (ws ++ vs) out
  unfolding fill
  fill_behind vs =
      let e : drop (length ws) (ws ++ drop (length ws) out) ≡ drop (length ws) out = drop-append_seam ws (drop (length ws) out) in
      rw (take-append_seam ws (drop (length ws) out), e, drop-drop, length-append) (sym (append_assoc ws vs (drop (length ws + length vs) out)))

-- a call that was lent the places behind a list has put a second one there
pub fill_lent : (ws vs out xs ys : List ℕ) (at : ℕ) → xs ≡ fill ws out → at ≡ length ws → ys ≡ fill vs (take (length xs - at) (drop at xs))
    → take at xs ++ (ys ++ drop (length xs - at) (drop at xs)) ≡ fill (ws ++ vs) out
fill_lent ws vs out xs ys at e a y =
    let l : length (drop at xs) ≤ length xs - at = omega (arith, length-drop at xs) in
    let part : take (length xs - at) (drop at xs) ≡ drop at xs = take_all (length xs - at) (drop at xs) l in
    let none : drop (length xs - at) (drop at xs) ≡ [] = drop_of_length-le (drop at xs) l in
    let left : ys ≡ fill vs (drop at xs) = y ∙ ap (fill vs) part in
    rw (none, append-nil ys, left, e, a) (fill_behind ws out vs)
