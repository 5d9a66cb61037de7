-- Words stored one behind the other, as far as there are places.
use Prim.Native.Nat.{ℕ, suc, ◌+◌, ◌≤◌}
use mathlib.Core.Path.{◌≡◌, refl, sym, ap, ◌∙◌}
use mathlib.Core.List.{List, [], ◌∷◌, ◌++◌, append-nil, append_assoc}
use native.Mathlib.Omega.{arith}
use lib.ListN.{length, set, length-set, length-append}
use Rattle.abelian.specs.Output.{fill}
use Rattle.words.proofs.Lists.{fill_more}
use Rattle.patterns.specs.Search.{stored}

-- no place is added or taken away
pub length-stored : (at : ℕ) (ws out : List ℕ) → length (stored at ws out) ≡ length out
unfolding stored
length-stored at [] out = refl
length-stored at (w ∷ ws) out = length-stored (suc at) ws (set out at w) ∙ length-set out at w

-- words in two parts
pub stored-append : (at : ℕ) (us vs out : List ℕ) → stored at (us ++ vs) out ≡ stored (at + length us) vs (stored at us out)
unfolding stored
stored-append at [] vs out = let e : at + 0 ≡ at = omega arith in rw e
stored-append at (u ∷ us) vs out = let e : at + suc (length us) ≡ suc at + length us = omega arith in rw e (stored-append (suc at) us vs (set out at u))

-- behind words that fill the first places, as far as all have places
stored_behind : (us vs out : List ℕ) → length us + length vs ≤ length out → stored (length us) vs (fill us out) ≡ fill (us ++ vs) out
unfolding stored
stored_behind us [] out h = ap (λ (l : List ℕ). fill l out) (sym (append-nil us))
stored_behind us (v ∷ vs) out h =
    let longer : length (us ++ (v ∷ [])) ≡ suc (length us) = omega (arith, length-append us (v ∷ [])) in
    ap (λ (l : List ℕ). stored (suc (length us)) vs l) (fill_more us out v (omega arith))
    ∙ ap (λ (k : ℕ). stored k vs (fill (us ++ (v ∷ [])) out)) (sym longer)
    ∙ stored_behind (us ++ (v ∷ [])) vs out (omega arith)
    ∙ ap (λ (l : List ℕ). fill l out) (append_assoc us (v ∷ []) vs)

-- where there is a place for each, they fill the first places
pub stored-all : (ws out : List ℕ) → length ws ≤ length out → stored 0 ws out ≡ fill ws out
unfolding fill
stored-all ws out h = stored_behind [] ws out (omega arith)
