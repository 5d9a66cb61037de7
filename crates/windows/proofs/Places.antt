-- Laws of a slice to which as many words are written as it has places for.
use Rattle.std.proofs.Common.{◌≡◌, ℕ, ◌+◌, ◌<◌, ◌≤◌, Bool, true, false, List, [], ◌∷◌, ◌++◌, length, take, drop, set, sym, refl, ap, ap₂, ◌∙◌, ⊎_elim, append-nil, arith, length-append, length-take, take_all}
use lib.Seq.{take-append-le, set_out}
use Rattle.abelian.specs.Lists.{pick, one}
use Rattle.abelian.specs.Output.{window_word, fill}
use Rattle.abelian.specs.Windows.{is_window}
use Rattle.abelian.proofs.Lists.{below_or_not}
use Rattle.words.proofs.Lists.{length-fill, take-fill, fill_more}
use Rattle.windows.specs.Sliding.{first_words, fill_places, noted}
use Rattle.windows.proofs.Windows.{words_more}

module _ (ws out : List ℕ) where
  -- the slice keeps its length
  pub length-fill_places : length (fill_places ws out) ≡ length out
  unfolding fill_places
  length-fill_places = length-fill (take (length out) ws) out (omega (arith, length-take (length out) ws))

  -- where there are places enough, all words are written
  pub fill_places-all : length ws ≤ length out → fill_places ws out ≡ fill ws out
  unfolding fill_places
  fill_places-all h = ap (λ (l : List ℕ). fill l out) (take_all (length out) ws h)

  -- one word more, where there is a place for it
  one_more_lem : (v : ℕ) → set (fill_places ws out) (length ws) v ≡ fill_places (ws ++ (v ∷ [])) out
  unfolding fill_places
  one_more_lem v =
      ⊎_elim
      (λ (h : length ws < length out).
      let l : length ws ≤ length out = omega arith in
      let m : length (ws ++ (v ∷ [])) ≤ length out = omega (arith, length-append ws (v ∷ [])) in
      rw (take_all (length out) ws l, take_all (length out) (ws ++ (v ∷ [])) m) (fill_more ws out v h))
      (λ (h : length out ≤ length ws).
      set_out (fill (take (length out) ws) out) (length ws) v (omega (arith, length-fill_places))
      ∙ ap (λ (l : List ℕ). fill l out) (sym (take-append-le (length out) ws (v ∷ []) h)))
      (below_or_not (length ws) (length out))

  -- a start that is a window's is noted, and no other
  pub noted_more : (fits : Bool) (start : ℕ) → noted (fill_places ws out) (length ws) fits start ≡ fill_places (ws ++ pick fits (window_word start ∷ []) []) out
  unfolding noted
  noted_more true start = one_more_lem (window_word start)
  noted_more false start = ap (λ (l : List ℕ). fill_places l out) (sym (append-nil ws))

-- the words that were kept are all words, where there are no more of them than places
pub kept_words : (ws first : List ℕ) {after : List ℕ} {needed : ℕ} → needed ≡ length ws → after ≡ fill_places ws first → needed ≤ length first → take needed after ≡ ws
kept_words ws first n e h = ap₂ take n (e ∙ fill_places-all ws first (omega arith)) ∙ take-fill ws first

-- a copy of them in front of the rest of a slice fills its first places
pub copied_words : (ws out : List ℕ) {copy : List ℕ} {needed : ℕ} → needed ≡ length ws → copy ≡ ws → copy ++ drop needed out ≡ fill ws out
unfolding fill
copied_words ws out n e = ap₂ (λ (u : List ℕ) (k : ℕ). u ++ drop k out) e n

-- no word: the slice as it came
pub fill_places-none : (out : List ℕ) → out ≡ fill_places [] out
unfolding fill
fill_places-none out = sym (fill_places-all [] out (omega arith))

-- one window more: the number of words found, and the slice
module _ (pattern events before : List ℕ) (at : ℕ) where
  pub passed_more : {found found' : ℕ} {out out' : List ℕ} {fits : Bool}
      → found ≡ length (first_words pattern events at) → out ≡ fill_places (first_words pattern events at) before
      → fits ≡ is_window pattern events (at + 1) → found' ≡ found + one fits → out' ≡ noted out found fits (at + 1)
      → (found' ≡ length (first_words pattern events (at + 1))) × (out' ≡ fill_places (first_words pattern events (at + 1)) before)
  passed_more {found} {found'} {out} {out'} {fits} n o f n' o' =
      let ws : List ℕ = first_words pattern events at in
      let more : first_words pattern events (at + 1) ≡ ws ++ pick fits (window_word (at + 1) ∷ []) [] = rw f (words_more pattern events at) in (
        omega (arith, n, n', ap length more, length-append ws (pick fits (window_word (at + 1) ∷ []) []), words_put fits),
        o' ∙ rw (o, n) (noted_more ws before fits (at + 1)) ∙ ap (λ (l : List ℕ). fill_places l before) (sym more),
      )
    where
      words_put : (b : Bool) → length (pick b (window_word (at + 1) ∷ []) []) ≡ one b
      words_put true = refl
      words_put false = refl
