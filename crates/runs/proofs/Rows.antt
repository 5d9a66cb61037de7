-- Laws of the words of runs: those of one block length, start by start, and those of all block lengths, one behind the other.
use mathlib.Core.Path.{◌≡◌, refl, sym, ap, ◌∙◌}
use mathlib.Core.Bool.{true, false, not}
use mathlib.Core.List.{List, [], ◌++◌, map, map-append, append-nil}
use Prim.Native.Nat.{ℕ, suc, ◌+◌, ◌-◌, ◌*◌, ◌≤◌, ◌<◌}
use native.Mathlib.Omega.{arith}
use lib.ListN.{length, length-map}
use Rattle.abelian.specs.Lists.{up_from, put, keep, each}
use Rattle.abelian.specs.Squares.{is_square, square_starts}
use Rattle.abelian.specs.Runs.{goes_back, run_starts, run_at, runs, words_of_run, run_words}
use Rattle.abelian.proofs.Lists.{keep-keep, each_append, each-each, length-each, keep-more}
use Rattle.words.proofs.Lists.{keep_rises}
use Rattle.squares.proofs.Lists.{each_more, each_fits, each_rest}
use Rattle.runs.specs.Rows.{starts_run, row_words}

module _ (w : List ℕ) (d : ℕ) where
  -- ---- one block length, start by start

  -- the words of the runs at the first s starts
  abbrev pub words_up_to : ℕ → List ℕ
  words_up_to s = each (map (run_at w d) (keep (starts_run w d) (up_from 1 s))) words_of_run

  -- they are those of the block length where all candidates are looked at
  pub all_starts : (s : ℕ) → s ≡ suc (length w) - 2 * d → words_up_to s ≡ row_words w d
  unfolding row_words run_starts square_starts starts_run
  all_starts s e =
      rw e
      (ap (λ (is : List ℕ). each (map (run_at w d) is) words_of_run)
      (sym (keep-keep (λ (i : ℕ). not (goes_back w d i)) (is_square w d) (up_from 1 (suc (length w) - 2 * d)))))

  -- how many they are
  pub length_up_to : (s : ℕ) → length (words_up_to s) ≡ 2 * length (keep (starts_run w d) (up_from 1 s))
  unfolding words_of_run
  length_up_to s =
      let is : List ℕ = keep (starts_run w d) (up_from 1 s) in
      length-each words_of_run 2 (λ r. refl) (map (run_at w d) is) ∙ ap (λ (k : ℕ). 2 * k) (length-map is (run_at w d))

  -- they are no more than those of all candidates
  pub words_rise : (s : ℕ) → s ≤ suc (length w) - 2 * d → length (words_up_to s) ≤ length (row_words w d)
  words_rise s h =
      omega (arith, ap length (all_starts (suc (length w) - 2 * d) refl), length_up_to s, length_up_to (suc (length w) - 2 * d), keep_rises (starts_run w d) 1 h)

  module _ (s : ℕ) (positive : 1 ≤ s) where
    -- start s behind the smaller ones, and whether a run starts there
    words_next : words_up_to (s + 1 - 1) ≡ words_up_to (s - 1) ++ each (map (run_at w d) (put (starts_run w d s) s [])) words_of_run
    words_next =
        let e : s + 1 - 1 ≡ suc (s - 1) = omega arith in
        let f : 1 + (s - 1) ≡ s = omega arith in
        ap words_up_to e
        ∙ ap (λ (is : List ℕ). each (map (run_at w d) is) words_of_run) (rw f at (keep-more (starts_run w d) 1 (s - 1)))
        ∙ ap (λ l. each l words_of_run) (map-append (run_at w d) (keep (starts_run w d) (up_from 1 (s - 1))) (put (starts_run w d s) s []))
        ∙ each_append words_of_run (map (run_at w d) (keep (starts_run w d) (up_from 1 (s - 1)))) (map (run_at w d) (put (starts_run w d s) s []))

    -- the words of a run stand behind the others
    pub words_one_more : starts_run w d s ≡ true → words_up_to (s + 1 - 1) ≡ words_up_to (s - 1) ++ words_of_run (run_at w d s)
    words_one_more t = (rw t at words_next) ∙ ap (λ l. words_up_to (s - 1) ++ l) (append-nil (words_of_run (run_at w d s)))

    -- a start of no run is passed over
    pub words_no_more : starts_run w d s ≡ false → words_up_to (s + 1 - 1) ≡ words_up_to (s - 1)
    words_no_more t = (rw t at words_next) ∙ append-nil (words_up_to (s - 1))

module _ (w : List ℕ) where
  -- ---- all block lengths

  -- the words of the block lengths below q
  abbrev pub rows_below : ℕ → List ℕ
  rows_below q = each (up_from 1 (q - 1)) (row_words w)

  -- the words of all runs are those of the block lengths, one behind the other
  pub words_of_rows : run_words w ≡ each (up_from 1 (length w)) (row_words w)
  unfolding run_words runs row_words
  words_of_rows = each-each (λ (d : ℕ). map (run_at w d) (run_starts w d)) words_of_run (up_from 1 (length w))

  -- blocks that are longer than half the word have no run
  pub long_no_words : (d : ℕ) → length w < 2 * d → row_words w d ≡ []
  unfolding row_words run_starts square_starts
  long_no_words d h = let e : suc (length w) - 2 * d ≡ 0 = omega arith in rw e

  -- past half the word there are no more words
  pub all_rows : (q : ℕ) → 2 * (q - 1) ≤ length w → length w < 2 * q → rows_below q ≡ run_words w
  all_rows q within past =
      let l : q - 1 ≤ length w = omega arith in
      sym (words_of_rows ∙ each_rest (row_words w) l (λ k (l : q - 1 < k). long_no_words k (omega arith)))

  -- the words of one block length stand behind those of the smaller ones
  pub rows_more : (q : ℕ) → 1 ≤ q → rows_below (q + 1) ≡ rows_below q ++ row_words w q
  rows_more q positive = each_more (row_words w) q positive

  -- they are no more than those of all block lengths
  pub rows_fit : (q : ℕ) → 1 ≤ q → 2 * q ≤ length w → length (rows_below q) + length (row_words w q) ≤ length (run_words w)
  rows_fit q positive fits = omega (arith, each_fits (row_words w) q (length w) positive (omega arith), ap length words_of_rows)
