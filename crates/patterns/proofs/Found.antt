-- The search finds exactly the square-free words, in alphabetical order.
use mathlib.Core.Path.{◌≡◌, refl, sym, ap, ap₂, ◌∙◌}
use mathlib.Core.Bool.{Bool, true, false, not}
use mathlib.Core.List.Memᴰ
use mathlib.Core.List.{List, [], ◌∷◌, ◌++◌, map, map-map, map-id, append_assoc, append-nil}
use Prim.Native.Nat.{ℕ, zero, suc, ◌+◌, ◌-◌, ◌*◌, ◌^◌, ◌≤◌, ◌<◌}
use native.Mathlib.Nat.{one-le-pow, pow-le-pow_right, pow-zero, pow-suc, add-mul, mul_assoc}
use native.Mathlib.Omega.{arith}
use lib.ListN.{length, take, drop, get_or, replicate, length-append, length-take, get_or-replicate, drop_of_length-le}
use lib.Seq.{drop-cons, get_or-take}
use lib.Dec.{T}
use Rattle.abelian.specs.Lists.{pick, up_from, keep, each}
use Rattle.abelian.specs.Words.{first_letter}
use Rattle.abelian.specs.Output.{pattern_word}
use Rattle.abelian.specs.Patterns.{largest_alphabet, longest_square_free, words_over, square_free, square_free_words, read_in, pattern_words}
use Rattle.abelian.proofs.Tests.{is_true, is_false, passes, fails}
use Rattle.abelian.proofs.Lists.{mem-up_from}
use Rattle.patterns.specs.Search.{with_letter, ends_square, found, Totals, Numbered}
use Rattle.patterns.specs.SquareFree.{Over}
use Rattle.patterns.proofs.Lists.{each_agree, keep-each, map_each, each_shift}
use Rattle.patterns.proofs.Beginnings.{beginning_free, empty_free}
use Rattle.patterns.proofs.Totals.{over_more, over_letter, total}
use Rattle.patterns.proofs.Halves.{totals_of, totals_letter, letter_test}

-- ---- square-free words with a beginning

-- a letter behind a word is its lowest digit
pub read_in_letter : (k : ℕ) (w : List ℕ) (c : ℕ) → read_in k (w ++ (c ∷ [])) ≡ read_in k w * k + (c - first_letter)
unfolding read_in
read_in_letter k [] c = rw (pow-zero k) (omega arith)
read_in_letter k (d ∷ w) c =
    let e : length (w ++ (c ∷ [])) ≡ suc (length w) = omega (arith, length-append w (c ∷ [])) in
    rw (e, pow-suc k (length w), read_in_letter k w c) (omega (arith, mul_assoc (d - first_letter) (k ^ length w) k, add-mul ((d - first_letter) * k ^ length w) (read_in k w) k))

-- the word with the letter in place c behind it
abbrev pub longer : List ℕ → ℕ → List ℕ
longer w c = w ++ ((first_letter + c) ∷ [])

-- the square-free words that have this beginning and so many letters behind it
abbrev pub free_from : ℕ → ℕ → List ℕ → List (List ℕ)
free_from k left w = keep square_free (map (λ (v : List ℕ). w ++ v) (words_over k left))

-- they are those of the beginnings that have one letter more
pub free_longer : (k left : ℕ) (w : List ℕ) → free_from k (suc left) w ≡ each (up_from 0 k) (λ (c : ℕ). free_from k left (longer w c))
unfolding words_over
free_longer k left w =
    let begun : ℕ → List (List ℕ) = λ c. map (λ (v : List ℕ). w ++ v) (map (λ (v : List ℕ). c ∷ v) (words_over k left)) in
    let z : first_letter + 0 ≡ first_letter = omega arith in
    ap (keep square_free) (map_each (λ (v : List ℕ). w ++ v) (λ (c : ℕ). map (λ (v : List ℕ). c ∷ v) (words_over k left)) (up_from first_letter k))
    ∙ keep-each square_free begun (up_from first_letter k)
    ∙ rw z at (each_shift (λ (c : ℕ). keep square_free (begun c)) first_letter 0 k)
    ∙ simp (map-map, append_assoc)

-- where the beginning has a square, there are none
none_free : (x : List ℕ) (l : List (List ℕ)) → square_free x ≡ false → keep square_free (map (λ (v : List ℕ). x ++ v) l) ≡ []
none_free x [] e = refl
none_free x (v ∷ l) e = rw (is_false (square_free (x ++ v)) (λ t. fails (square_free x) e (beginning_free x v t))) (none_free x l e)

-- ---- what is found

-- the output words of these
abbrev pub words_from : ℕ → ℕ → List ℕ → List ℕ
words_from k left w = map (λ (v : List ℕ). pattern_word (read_in k v)) (free_from k left w)

module _ (k : ℕ) (few : k ≤ largest_alphabet) where
  -- what the search finds behind one letter more, if it finds the right words where that completes no square
  found_longer : (left : ℕ) (w : List ℕ) (c : ℕ) → Over k (longer w c) → T (square_free w) → length (longer w c) ≤ longest_square_free
      → (T (square_free (longer w c)) → found k left (totals_of (longer w c)) (read_in k (longer w c)) ≡ words_from k left (longer w c))
      → pick (ends_square (with_letter (totals_of w) c)) [] (found k left (with_letter (totals_of w) c) (read_in k w * k + c)) ≡ words_from k left (longer w c)
  found_longer left w c over free short right =
      let e : first_letter + c - first_letter ≡ c = omega arith in
      let t : totals_of (longer w c) ≡ with_letter (totals_of w) c = rw e at (totals_letter w (first_letter + c)) in
      let r : read_in k (longer w c) ≡ read_in k w * k + c = rw e at (read_in_letter k w (first_letter + c)) in
      rw (← t, ← r) (go (ends_square (totals_of (longer w c))) (letter_test w (first_letter + c) (over_more (longer w c) few over) short free))
    where
      go : (b : Bool) → square_free (longer w c) ≡ not b → pick b [] (found k left (totals_of (longer w c)) (read_in k (longer w c))) ≡ words_from k left (longer w c)
      go true e = rw (none_free (longer w c) (words_over k left) e)
      go false e = right (passes (square_free (longer w c)) e)

  -- from a beginning's totals and number the words are found that have this beginning
  pub found_from : (left : ℕ) (w : List ℕ) → Over k w → T (square_free w) → length w + left ≤ longest_square_free → found k left (totals_of w) (read_in k w) ≡ words_from k left w
  unfolding found words_over
  found_from zero w over free short = rw (append-nil w, is_true (square_free w) free)
  found_from (suc left) w over free short =
      each_agree (λ (c : ℕ). pick (ends_square (with_letter (totals_of w) c)) [] (found k left (with_letter (totals_of w) c) (read_in k w * k + c)))
      (λ (c : ℕ). words_from k left (longer w c)) (up_from 0 k)
      (λ c m.
      let b : (0 ≤ c) × (c < 0 + k) = mem-up_from 0 k m in
      let o : Over k (longer w c) = over_letter k w (first_letter + c) over (omega arith) (omega arith) in
      let n : length (longer w c) ≡ suc (length w) = omega (arith, length-append w ((first_letter + c) ∷ [])) in
      found_longer left w c o free (omega arith) (λ t. found_from left (longer w c) o t (omega arith)))
      ∙ sym (map_each (λ (v : List ℕ). pattern_word (read_in k v)) (λ (c : ℕ). free_from k left (longer w c)) (up_from 0 k))
      ∙ ap (map (λ (v : List ℕ). pattern_word (read_in k v))) (sym (free_longer k left w))

-- from the empty beginning all are found
found_all : (k n : ℕ) → k ≤ largest_alphabet → n ≤ longest_square_free → found k n (0 ∷ []) 0 ≡ pattern_words k n
unfolding pattern_words square_free_words totals_of total read_in
found_all k n h l = rw (map-id (words_over k n)) at (found_from k h n [] (λ c m. absurd (Memᴰ.not-nil m)) empty_free (omega arith))

-- ---- the empty beginning

module _ (n : ℕ) (h : n ≤ longest_square_free) where
  -- as many zeros as the code lends, one for each length of a beginning
  abbrev pub zeros : List ℕ
  zeros = take (n + 1 - 0) (replicate 13 0)

  length_zeros : length zeros ≡ n + 1
  unfolding longest_square_free
  length_zeros = omega (arith, length-take {A = ℕ} (n + 1 - 0) (replicate 13 0))

  zeros_at : (i : ℕ) → i < n + 1 → ◌≡◌ {A = ℕ} (get_or zeros i 0) 0
  unfolding longest_square_free
  zeros_at i l = get_or-take (n + 1 - 0) (replicate 13 0) i 0 (omega arith) ∙ get_or-replicate 13 i 0 0 (omega arith)

  -- from place n on they are the totals of no letters
  pub no_letters : drop n zeros ≡ 0 ∷ []
  no_letters =
      drop-cons zeros n 0 (omega (arith, length_zeros))
      ∙ ap₂ (λ (a : ℕ) (l : List ℕ). a ∷ l) (zeros_at n (omega arith)) (drop_of_length-le zeros {i = suc n} (omega (arith, length_zeros)))

  pub no_letters_totals : Totals zeros n
  no_letters_totals = record {
    within = omega (arith, length_zeros);
    short = omega (arith, length_zeros);
    small = λ i from to. omega (arith, length_zeros, zeros_at i (omega (arith, length_zeros)));
  }

  -- and its words can be numbered
  pub no_letters_numbered : Numbered n 0 0
  unfolding largest_alphabet
  no_letters_numbered = record {
    within = h;
    digits = one-le-pow (longest_square_free - n) 4 (omega arith);
    places = omega (arith, pow-le-pow_right {n = 4} (omega arith) h);
  }

  -- from it all words are found
  pub found_begun : (k : ℕ) → k ≤ largest_alphabet → found k n (drop n zeros) 0 ≡ pattern_words k n
  found_begun k few = ap (λ (d : List ℕ). found k n d 0) no_letters ∙ found_all k n few h
