-- The list of anagram windows is right: a start is in it exactly where C-13 says, and for letters that is where the window is the pattern with its letters in some order. It
-- rises, so that it has each start once.
use mathlib.Core.Path.{◌≡◌, refl, ap, subst, ◌∙◌}
use mathlib.Core.Logic.{◌↔◌, ⊎_elim}
use mathlib.Core.Bool.{true, false}
use mathlib.Core.List.{List, [], ◌∷◌, ◌++◌, Memᴰ}
use Prim.Native.Nat.{ℕ, suc, ◌+◌, ◌-◌, ◌*◌, ◌^◌, ◌≤◌, ◌<◌}
use native.Mathlib.Omega.{arith}
use lib.ListN.{length}
use lib.Dec.{T, eqb, eqb_refl}
use borrow.Author.Tests.{eqb-true}
use Rattle.abelian.specs.Lists.{one, up_from, Ordered}
use Rattle.abelian.specs.Words.{letters, of_letters, count, vector, part}
use Rattle.abelian.specs.Output.{window_word}
use Rattle.abelian.specs.Windows.{is_window, window_starts, window_words, Window, Permutation, Anagram}
use Rattle.abelian.proofs.Tests.{is_true, decided}
use Rattle.abelian.proofs.Lists.{same_equal, equal_same, mem-keep, keep-mem, mem-up_from, up_from-mem, ordered_keep, ordered_up_from, ordered_map}
use Rattle.abelian.proofs.Counts.{count-append, vector_counts, counts_vector, is_letter-mem, letters_inside, inside_letters, letters-part, vector-length}

-- ---- the list and the record

module _ (pattern events : List ℕ) where
  -- C-13: "every start in the record at which a window as long as the pattern has the pattern's vector"
  pub windows_definition : (i : ℕ) → Memᴰ i (window_starts pattern events) ↔ Window pattern events i
  unfolding window_starts is_window
  windows_definition i = (
    λ m.
        let k : Memᴰ i (up_from 1 (suc (length events) - length pattern)) × T (is_window pattern events i) = mem-keep (is_window pattern events) (up_from 1 (suc (length events) - length pattern)) m in
        let r : (1 ≤ i) × (i < 1 + (suc (length events) - length pattern)) = mem-up_from 1 (suc (length events) - length pattern) k.0 in
        record { start = r.0; within = omega arith; alike = same_equal (vector (part events (i - 1) (length pattern))) (vector pattern) k.1 },
    λ r.
        keep-mem (is_window pattern events) (up_from 1 (suc (length events) - length pattern))
        (up_from-mem 1 (suc (length events) - length pattern) i r.start (omega (arith, r.start, r.within)))
        (equal_same (vector (part events (i - 1) (length pattern))) (vector pattern) r.alike),
  )

  -- "ascending, each once"
  pub windows_rise : Ordered ◌<◌ (window_starts pattern events)
  unfolding window_starts
  windows_rise = ordered_keep ◌<◌ (is_window pattern events) (up_from 1 (suc (length events) - length pattern)) (ordered_up_from 1 (suc (length events) - length pattern))

  -- and so are the words
  pub window_words_rise : Ordered ◌<◌ (window_words pattern events)
  unfolding window_words window_word
  window_words_rise = ordered_map ◌<◌ ◌<◌ window_word (λ x y l. omega arith) (window_starts pattern events) windows_rise

-- a word less 7 × 2^28 is its start
pub window_start : (i : ℕ) → window_word i - 7 * 2 ^ 28 ≡ i
unfolding window_word
window_start i = omega arith

-- ---- permutations

-- a letter that stands in a stretch has a place there
count_split : (x : ℕ) (u : List ℕ) → 1 ≤ count x u → (before : List ℕ) × (behind : List ℕ) × (u ≡ before ++ (x ∷ behind))
unfolding count
count_split x [] h = absurd (omega arith)
count_split x (y ∷ u) h =
    ⊎_elim
    (λ (e : eqb y x ≡ true). ([], u, ap (λ (z : ℕ). z ∷ u) (eqb-true y x e)))
    (λ (e : eqb y x ≡ false).
    let z : one (eqb y x) ≡ 0 = ap one e in
    let r : (before : List ℕ) × (behind : List ℕ) × (u ≡ before ++ (x ∷ behind)) = count_split x u (omega arith) in
    (y ∷ r.0, r.1, ap (λ (l : List ℕ). y ∷ l) r.2))
    (decided (eqb y x))

-- a letter put in between is one more of that letter
count_between : (c x : ℕ) (u v : List ℕ) → count c (u ++ (x ∷ v)) ≡ one (eqb x c) + count c (u ++ v)
unfolding count
count_between c x u v = omega (arith, count-append c u (x ∷ v), count-append c u v)

-- a permutation has every letter as often
pub permutation_counts : (u v : List ℕ) → Permutation u v → (c : ℕ) → count c u ≡ count c v
unfolding count
permutation_counts u [] e c = ap (count c) e
permutation_counts u (x ∷ v) (before, behind, e, p) c =
    let h : count c (before ++ behind) ≡ count c v = permutation_counts (before ++ behind) v p c in
    let s : count c u ≡ one (eqb x c) + count c (before ++ behind) = ap (count c) e ∙ count_between c x before behind in
    omega arith

-- what is left of letters when one is taken out are letters
letters_between : (x : ℕ) (u v : List ℕ) → T (of_letters (u ++ (x ∷ v))) → T (of_letters (u ++ v))
letters_between x u v t =
    inside_letters (u ++ v)
    (λ y m. letters_inside (u ++ (x ∷ v)) t y (⊎_elim (mathlib.Core.List.Memᴰ.append_left (x ∷ v)) (λ i. mathlib.Core.List.Memᴰ.append_right u (mathlib.Core.List.Memᴰ.tail i)) (mathlib.Core.List.Memᴰ.append_cases u m)))

-- stretches of letters with equal vectors are permutations of each other
pub vectors_permutation : (u v : List ℕ) → T (of_letters u) → T (of_letters v) → vector u ≡ vector v → Permutation u v
vectors_permutation u [] tu tv e = no_letters u (vector-length u [] tu tv e)
  where
    no_letters : (w : List ℕ) → length w ≡ 0 → w ≡ []
    no_letters [] z = refl
    no_letters (y ∷ w) z = absurd (omega arith)
vectors_permutation u (x ∷ v) tu tv e =
    let letter : Memᴰ x letters = is_letter-mem x (letters_inside (x ∷ v) tv x (mathlib.Core.List.Memᴰ.head refl)) in
    let s : (before : List ℕ) × (behind : List ℕ) × (u ≡ before ++ (x ∷ behind)) = count_split x u (omega (arith, vector_counts u (x ∷ v) e x letter, first)) in
    let rest : List ℕ = s.0 ++ s.1 in (
      s.0,
      s.1,
      s.2,
      vectors_permutation rest v (letters_between x s.0 s.1 (subst (λ (l : List ℕ). T (of_letters l)) s.2 tu))
          (inside_letters v (λ y m. letters_inside (x ∷ v) tv y (mathlib.Core.List.Memᴰ.tail m)))
          (counts_vector rest v (λ c m. omega (arith, vector_counts u (x ∷ v) e c m, ap (count c) s.2, count_between c x s.0 s.1, count_between c x [] v))),
    )
  where
    first : 1 ≤ count x (x ∷ v)
    first = omega (arith, count_between x x [] v, ap one (is_true (eqb x x) (eqb_refl x)))

-- C-13 by permutation: of a pattern and a record of letters a start is in the list exactly where the window is the pattern with its letters in some order
pub windows_permutation : (pattern events : List ℕ) → T (of_letters pattern) → T (of_letters events) → (i : ℕ) → Memᴰ i (window_starts pattern events) ↔ Anagram pattern events i
windows_permutation pattern events tp te i =
    let window : List ℕ = part events (i - 1) (length pattern) in (
      λ m.
          let r : Window pattern events i = (windows_definition pattern events i).0 m in
          record { start = r.start; within = r.within; rearranged = vectors_permutation window pattern (letters-part events (i - 1) (length pattern) te) tp r.alike },
      λ r.
          (windows_definition pattern events i).1
          (record { start = r.start; within = r.within; alike = counts_vector window pattern (λ c m. permutation_counts window pattern r.rearranged c) }),
    )
