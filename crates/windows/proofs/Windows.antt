-- Laws of a window that slides over a record: one letter joins, the window is looked at, one letter leaves.
use Rattle.std.proofs.Common.{◌≡◌, ℕ, suc, ◌+◌, ◌-◌, ◌%◌, ◌^◌, ◌<◌, ◌≤◌, Bool, true, false, T, eqb, ◌≢◌, List, [], ◌∷◌, ◌++◌, map, length, get_or, drop, set, sym, refl, ap, ◌∙◌, ⊎_elim, add-one, arith, length-drop, length-set, length-take, get_or-drop, drop-cons, get_or-set_other, get_or-set_same, eq-eqb, eqb-true}
use mathlib.Core.List.{map-append}
use lib.ListN.{length-map}
use borrow.Author.Tests.{eqb-false}
use Rattle.abelian.specs.Lists.{one, pick, up_from, put, keep}
use Rattle.abelian.specs.Words.{alphabet_size, first_letter, longest, of_letters, count, vector, part}
use Rattle.abelian.specs.Output.{window_word}
use Rattle.abelian.specs.Windows.{is_window, window_starts, window_words}
use Rattle.abelian.proofs.Tests.{decided}
use Rattle.abelian.proofs.Lists.{keep-more, keep_shorter, length-up_from}
use Rattle.abelian.proofs.Counts.{count-le-length, letters-drop}
use Rattle.words.proofs.Vectors.{length-vector, vector_at, counts_are_vector, letter_at, vector-take-more}
use Rattle.windows.specs.Excess.{excess, nonzero}
use Rattle.windows.specs.Sliding.{first_words}
use Rattle.windows.proofs.Excess.{one_more_lem, one_less, excess_at, excess-set, no_excess}

-- a count of a stretch that is no longer than a word is one of 8 bits
pub count_small : (u : List ℕ) → length u ≤ longest → (j : ℕ) → j < alphabet_size → get_or (vector u) j 0 < 2 ^ 8
unfolding longest
count_small u h j b = omega (arith, vector_at u j b, count-le-length (first_letter + j) u)

-- ---- the letter that joins and the letter that leaves

-- a first letter that leaves is one count less, at the letter's place
vector_less : (u : List ℕ) (x : ℕ) → first_letter ≤ x → x < first_letter + alphabet_size
    → set (vector (x ∷ u)) (x - first_letter) (get_or (vector (x ∷ u)) (x - first_letter) 0 - 1) ≡ vector u
unfolding count
vector_less u x low high =
    counts_are_vector u (set (vector (x ∷ u)) (x - first_letter) (get_or (vector (x ∷ u)) (x - first_letter) 0 - 1)) (simp (length-set, length-vector)) (λ j b.
    let v : get_or (vector (x ∷ u)) j 0 ≡ one (eqb x (first_letter + j)) + count (first_letter + j) u = vector_at (x ∷ u) j b in
    ⊎_elim
    (λ (e : eqb x (first_letter + j) ≡ true).
    let q : x ≡ first_letter + j = eqb-true x (first_letter + j) e in
    let o : one (eqb x (first_letter + j)) ≡ 1 = ap one e in
    let p : x - first_letter ≡ j = omega arith in
    let l : j < length (vector (x ∷ u)) = omega (arith, length-vector (x ∷ u)) in
    rw (p, get_or-set_same (vector (x ∷ u)) j (get_or (vector (x ∷ u)) j 0 - 1) 0 l) (omega arith))
    (λ (e : eqb x (first_letter + j) ≡ false).
    let q : x ≢ first_letter + j = eqb-false x (first_letter + j) e in
    let o : one (eqb x (first_letter + j)) ≡ 0 = ap one e in
    let p : j ≢ x - first_letter = λ r. q (omega arith) in
    rw (get_or-set_other (vector (x ∷ u)) (x - first_letter) j (get_or (vector (x ∷ u)) (x - first_letter) 0 - 1) 0 p) (omega arith))
    (decided (eqb x (first_letter + j))))

-- a first letter is counted at its place
place_counted : (u : List ℕ) (x : ℕ) → first_letter ≤ x → x < first_letter + alphabet_size → 1 ≤ get_or (vector (x ∷ u)) (x - first_letter) 0
unfolding count
place_counted u x low high =
    let p : first_letter + (x - first_letter) ≡ x = omega arith in
    let v : get_or (vector (x ∷ u)) (x - first_letter) 0 ≡ count x (x ∷ u) = vector_at (x ∷ u) (x - first_letter) (omega arith) ∙ ap (λ (k : ℕ). count k (x ∷ u)) p in
    omega (arith, v, ap one (eq-eqb x x refl))

module _ (w : List ℕ) (at rest : ℕ) {size : ℕ} (letters : T (of_letters w)) (room : at + rest < length w) (less : rest + 1 ≡ size) where
  -- the letter behind the stretch joins it
  vector_joined : set (vector (part w at rest)) (get_or w (at + rest) 0 - first_letter) (get_or (vector (part w at rest)) (get_or w (at + rest) 0 - first_letter) 0 + 1) ≡ vector (part w at size)
  vector_joined =
      let d : get_or (drop at w) rest 0 ≡ get_or w (at + rest) 0 = get_or-drop at w rest 0 in
      rw (← less) (rw d at (vector-take-more (drop at w) rest (letters-drop at w letters) (omega (arith, length-drop at w))))

  -- a stretch that is one letter longer begins with the letter at its start
  part_first : part w at size ≡ get_or w at 0 ∷ part w (at + 1) rest
  part_first = rw (← less, add-one rest, add-one at, drop-cons w at 0 (omega arith))

  -- the letters that join and leave have places
  joins_place : get_or w (at + rest) 0 - first_letter < alphabet_size
  joins_place = omega (arith, letter_at w (at + rest) letters room)

  first_letter_lem : (first_letter ≤ get_or w at 0) × (get_or w at 0 < first_letter + alphabet_size)
  first_letter_lem = letter_at w at letters (omega arith)

  -- the letter at the start leaves the stretch, in which it has been counted
  vector_left : set (vector (part w at size)) (get_or w at 0 - first_letter) (get_or (vector (part w at size)) (get_or w at 0 - first_letter) 0 - 1) ≡ vector (part w (at + 1) rest)
  vector_left = rw part_first (vector_less (part w (at + 1) rest) (get_or w at 0) first_letter_lem.0 first_letter_lem.1)

  first_counted : 1 ≤ get_or (vector (part w at size)) (get_or w at 0 - first_letter) 0
  first_counted = rw part_first (place_counted (part w (at + 1) rest) (get_or w at 0) first_letter_lem.0 first_letter_lem.1)

  module _ (pattern : List ℕ) (short : length pattern ≤ longest) where
    -- the excess over the pattern's vector, once the letter behind the stretch has joined it
    pub excess_joined : {entries : List ℕ} → entries ≡ excess (vector (part w at rest)) (vector pattern)
        → set entries (get_or w (at + rest) 0 - first_letter) ((get_or entries (get_or w (at + rest) 0 - first_letter) 0 + 1) % 2 ^ 8) ≡ excess (vector (part w at size)) (vector pattern)
    excess_joined e =
        let u : List ℕ = vector (part w at rest) in
        let p : List ℕ = vector pattern in
        let j : ℕ = get_or w (at + rest) 0 - first_letter in
        let l : j < length u = omega (arith, joins_place, length-vector (part w at rest)) in
        let m : j < length p = omega (arith, joins_place, length-vector pattern) in
        rw (e, excess_at u p j l m, one_more_lem (get_or u j 0) (get_or p j 0) (omega (arith, count_small pattern short j joins_place)), excess-set u p j (get_or u j 0 + 1) l m)
        (ap (λ (x : List ℕ). excess x p) vector_joined)

    -- and once the first letter has left it
    pub excess_left : {entries : List ℕ} → entries ≡ excess (vector (part w at size)) (vector pattern)
        → set entries (get_or w at 0 - first_letter) ((get_or entries (get_or w at 0 - first_letter) 0 + 255) % 2 ^ 8) ≡ excess (vector (part w (at + 1) rest)) (vector pattern)
    excess_left e =
        let u : List ℕ = vector (part w at size) in
        let p : List ℕ = vector pattern in
        let j : ℕ = get_or w at 0 - first_letter in
        let b : j < alphabet_size = omega (arith, first_letter_lem) in
        let l : j < length u = omega (arith, length-vector (part w at size)) in
        let m : j < length p = omega (arith, length-vector pattern) in
        rw (e, excess_at u p j l m, one_less (get_or u j 0) (get_or p j 0) (omega (arith, count_small pattern short j b)) first_counted, excess-set u p j (get_or u j 0 - 1) l m)
        (ap (λ (x : List ℕ). excess x p) vector_left)

-- ---- the windows passed

module _ (pattern events : List ℕ) where
  -- the window is one of the pattern's exactly where no count exceeds the pattern's or falls short of it
  pub looked_at : length pattern ≤ longest → (at : ℕ) → eqb (nonzero (excess (vector (part events at (length pattern))) (vector pattern))) 0 ≡ is_window pattern events (at + 1)
  unfolding is_window
  looked_at short at =
      let window : List ℕ = part events at (length pattern) in
      let e : at + 1 - 1 ≡ at = omega arith in
      rw e
      (no_excess (vector window) (vector pattern) (length-vector window ∙ sym (length-vector pattern))
      (λ j l. count_small window (omega (arith, length-take (length pattern) (drop at events))) j (omega (arith, l, length-vector window)))
      (λ j l. count_small pattern short j (omega (arith, l, length-vector pattern))))

  -- one window more: its word stands behind the others where it is one of the pattern's
  pub words_more : (k : ℕ) → first_words pattern events (k + 1) ≡ first_words pattern events k ++ pick (is_window pattern events (k + 1)) (window_word (k + 1) ∷ []) []
  unfolding first_words
  words_more k =
      let f : ℕ → Bool = is_window pattern events in
      let e : 1 + k ≡ k + 1 = omega arith in
      ap (λ (n : ℕ). map window_word (keep f (up_from 1 n))) (add-one k) ∙ ap (map window_word) (rw e at (keep-more f 1 k))
      ∙ map-append window_word (keep f (up_from 1 k)) (put (f (k + 1)) (k + 1) []) ∙ go (f (k + 1))
    where
      go : (b : Bool) → map window_word (keep (is_window pattern events) (up_from 1 k)) ++ map window_word (put b (k + 1) []) ≡ map window_word (keep (is_window pattern events) (up_from 1 k)) ++ pick b (window_word (k + 1) ∷ []) []
      go true = refl
      go false = refl

  -- no more words than windows
  pub few_words : (k : ℕ) → length (first_words pattern events k) ≤ k
  unfolding first_words
  few_words k =
      omega (arith, length-map (keep (is_window pattern events) (up_from 1 k)) window_word, keep_shorter (is_window pattern events) (up_from 1 k), length-up_from 1 k)

  -- all windows
  pub all_words : (k : ℕ) → k ≡ suc (length events) - length pattern → first_words pattern events k ≡ window_words pattern events
  unfolding first_words window_words window_starts
  all_words k e = rw e

  -- a record has no more windows than events
  pub few_windows : 1 ≤ length pattern → length (window_words pattern events) ≤ length events
  few_windows h = omega (arith, few_words (suc (length events) - length pattern), ap length (all_words (suc (length events) - length pattern) refl))

  -- a record that is shorter than the pattern has none
  pub no_words : length events < length pattern → window_words pattern events ≡ []
  unfolding first_words
  no_words h = let z : 0 ≡ suc (length events) - length pattern = omega arith in sym (all_words 0 z)
