-- The loop of the search over the letters: what holds where c of them have been tried, and how it goes on with the next.
use Prim.Native.Nat.{ℕ, ◌+◌, ◌-◌, ◌*◌, ◌^◌, ◌≤◌, ◌<◌}
use mathlib.Core.Path.{◌≡◌, refl, sym, ap, ap₂, ◌∙◌}
use mathlib.Core.Bool.{Bool, true, false}
use mathlib.Core.List.{List, [], ◌∷◌, ◌++◌, append-nil}
use native.Mathlib.Nat.{pow-zero}
use native.Mathlib.Omega.{arith}
use lib.ListN.{length, take, drop, get_or, set, length-set, length-append}
use lib.Seq.{drop-set-lt}
use Rattle.abelian.specs.Patterns.{largest_alphabet, longest_square_free}
use Rattle.patterns.specs.Search.{weight, with_letter, ends_square, found, stored, Totals, Numbered}
use Rattle.patterns.proofs.Stored.{stored-append}
use Rattle.patterns.proofs.Steps.{rest_taken, weight_small, weight-more, letter_totals, totals-more, kept_behind, totals_kept, tried, tried_all, tried_square, tried_free, numbered_more}

module _ (k left : ℕ) (before : List ℕ) (number at : ℕ) (out₀ : List ℕ) (next : ℕ) where
  -- The words behind the first c letters are found and written, up to the place `to`, and the totals of the beginning are kept.
  pub record Tried (totals out : List ℕ) (to factor c : ℕ) : Type 0 where
    pub one_less : left ≡ next + 1
    pub size : length totals ≡ length before
    pub kept : drop left totals ≡ drop left before
    pub weighs : factor ≡ weight c
    pub reached : to ≡ at + length (tried k next (drop left before) number c)
    pub written : out ≡ stored at (tried k next (drop left before) number c) out₀

  -- no letter has been tried
  pub none_tried : left ≡ next + 1 → Tried before out₀ at 1 0
  unfolding weight stored
  none_tried e = record {
    one_less = e;
    size = refl;
    kept = refl;
    weighs = sym (pow-zero 32);
    reached = omega arith;
    written = refl;
  }

  module _ (few : k ≤ largest_alphabet) (start : Totals before left) (numbered : Numbered left number at)
      {totals out : List ℕ} {to factor c : ℕ} (h : Tried totals out to factor c) (l : c < k) where
    totals_now : Totals totals left
    totals_now = totals_kept totals before left start h.size h.kept

    weight_now : factor ≤ 2 ^ 15
    weight_now = rw h.weighs (weight_small c (omega (arith, few)))

    -- what the code stores for the next letter
    abbrev pub total_stored : List ℕ
    total_stored = set totals next (get_or totals left 0 + factor)

    -- the total fits its type
    pub total_fits : get_or totals left 0 + factor < 2 ^ 32
    unfolding longest_square_free
    total_fits = omega (arith, totals_now.small left (omega arith) totals_now.within, totals_now.short, weight_now)

    -- and from the place before they are the totals of the beginning with that letter
    pub stored-totals : Totals total_stored next
    stored-totals = totals-more totals left next h.one_less totals_now factor weight_now

    with_letter_lem : drop next total_stored ≡ with_letter (drop left before) c
    with_letter_lem =
        letter_totals totals left next h.one_less totals_now factor
        ∙ ap (λ (d : List ℕ). (get_or d 0 0 + factor) ∷ d) h.kept
        ∙ ap (λ (x : ℕ). (get_or (drop left before) 0 0 + x) ∷ drop left before) h.weighs

    -- the words that go on with it can be numbered
    pub numbered_next : Numbered next (number * k + c) to
    numbered_next = numbered_more numbered k c next to (drop left before) few l h.one_less h.reached

    -- the words behind it have been found, none or some
    letter_tried : (ws : List ℕ) → tried k next (drop left before) number (c + 1) ≡ tried k next (drop left before) number c ++ ws
        → {totals' out' : List ℕ} {to' : ℕ} → length totals' ≡ length total_stored → to' ≡ to + length ws → drop next totals' ≡ drop next total_stored
        → out' ≡ stored to ws out → Tried totals' out' to' (factor * 32) (c + 1)
    letter_tried ws more {totals'} s r d w =
        let old : List ℕ = tried k next (drop left before) number c in
        record {
          one_less = h.one_less;
          size = s ∙ length-set totals next (get_or totals left 0 + factor) ∙ h.size;
          kept = kept_behind totals' total_stored left next h.one_less d ∙ drop-set-lt left totals next (get_or totals left 0 + factor) (omega (arith, h.one_less)) ∙ h.kept;
          weighs = ap (λ (x : ℕ). x * 32) h.weighs ∙ weight-more c;
          reached = omega (arith, r, h.reached, ap length more, length-append old ws);
          written = w ∙ rw (more, stored-append at old ws out₀) (ap₂ (λ (i : ℕ) (o : List ℕ). stored i ws o) h.reached h.written);
        }

    -- by whether the letter completes a square
    module _ {square : Bool} (b : square ≡ ends_square (take (length total_stored - next) (drop next total_stored))) where
      completes : ends_square (with_letter (drop left before) c) ≡ square
      completes = ap ends_square (sym with_letter_lem ∙ sym (rest_taken total_stored next)) ∙ sym b

      -- it completes one
      pub square_passed : square ≡ true → {totals' out' : List ℕ} {to' : ℕ} → totals' ≡ total_stored → out' ≡ out → to' ≡ to → Tried totals' out' to' (factor * 32) (c + 1)
      unfolding stored
      square_passed e t o r =
          letter_tried [] (tried_square k next (drop left before) number c (completes ∙ e) ∙ sym (append-nil _)) (ap length t) (omega arith) (ap (drop next) t) o

      -- it completes none, and the words that go on with it have been found
      pub letter_found : square ≡ false → {totals' out' : List ℕ} {to' : ℕ} → length totals' ≡ length total_stored
          → to' ≡ to + length (found k next (drop next total_stored) (number * k + c)) → drop next totals' ≡ drop next total_stored
          → out' ≡ stored to (found k next (drop next total_stored) (number * k + c)) out → Tried totals' out' to' (factor * 32) (c + 1)
      letter_found e =
          letter_tried (found k next (drop next total_stored) (number * k + c))
          (tried_free k next (drop left before) number c (completes ∙ e)
          ∙ ap (λ (l : List ℕ). tried k next (drop left before) number c ++ l) (sym (ap (λ (ts : List ℕ). found k next ts (number * k + c)) with_letter_lem)))

  -- all letters have been tried
  module _ {totals out : List ℕ} {to factor c : ℕ} (h : Tried totals out to factor c) (e : c ≡ k) where
    all_tried : tried k next (drop left before) number c ≡ found k left (drop left before) number
    all_tried = rw e (tried_all k next (drop left before) number left h.one_less)

    pub all_found : (to ≡ at + length (found k left (drop left before) number)) × ((drop left totals ≡ drop left before) × (out ≡ stored at (found k left (drop left before) number) out₀))
    all_found = (rw all_tried at h.reached, (h.kept, rw all_tried at h.written))
