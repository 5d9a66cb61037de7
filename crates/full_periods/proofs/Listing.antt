-- The words of a table in which the full periods are marked, and the steps by which they are found there.
use mathlib.Core.Path.{◌≡◌, sym, ap, ap₂, subst, ◌∙◌}
use mathlib.Core.Bool.{false}
use mathlib.Core.Option.{none}
use mathlib.Core.List.{List, map}
use Prim.Native.Nat.{ℕ}
use native.Mathlib.Nat.{one-dvd}
use native.Mathlib.Omega.{arith}
use lib.ListN.{length, length-map}
use lib.Dec.{T}
use Rattle.std.specs.Prelude.{Result, Ok, Err}
use Rattle.abelian.specs.FullPeriods.{is_full, full_periods}
use Rattle.abelian.specs.Output.{full_word}
use Rattle.abelian.specs.Calls.{full_words, listing}
use Rattle.abelian.specs.Refusals.{word_refusal}
use Rattle.abelian.specs.Answers.{refusing, writing, answered_wrote}
use Rattle.abelian.specs.declared.Refusal.{Refusal}
use Rattle.words.specs.Prefixes.{IsWord}
use Rattle.words.proofs.Listings.{listing_short, counted_written}
use Rattle.full_periods.specs.declared.scaled.ScaledPath.{ScaledPath}
use Rattle.full_periods.specs.Paths.{scaled_path}
use Rattle.full_periods.specs.Marks.{Steps, Listed, full_marks, marked}
use Rattle.full_periods.proofs.Tables.{marks-is_marked, marks-marked}
use Rattle.full_periods.proofs.Blocks.{full_positive}
use Rattle.full_periods.proofs.Lemma3.{scale-divides, observation_1}

-- any table marks multiples of 1
pub steps_of_one : (n : ℕ) (table : List ℕ) → Steps 1 n table
steps_of_one n table = record { end = one-dvd n; multiples = λ k l m. one-dvd k }

-- the path's table marks multiples of s only
pub path_steps : {w : List ℕ} {path : ScaledPath} {n : ℕ} → IsWord w → n ≡ length w → path ≡ scaled_path w → Steps path.s n path.marks
unfolding full_marks
path_steps {w} {path} {n} word long e = rw long (subst (λ (x : ScaledPath). Steps x.s (length w) x.marks) (sym e) record {
  end = scale-divides w word.all;
  multiples = λ k l m.
      let f : T (is_full w k) = subst T (marks-is_marked (is_full w) k (omega (arith, word.short))) m in
      observation_1 w word.all (omega (arith, full_positive w k f)) k f;
})

-- a table of the full periods marks them, up to the word's length, so their words are those of the definition
module _ {w table : List ℕ} {n : ℕ} (word : IsWord w) (long : n ≡ length w) (e : table ≡ full_marks w) where
  marked_full : marked n table ≡ full_periods w
  unfolding full_marks full_periods
  marked_full = ap₂ marked long e ∙ marks-marked (is_full w) (length w) word.short

  pub marked_words : map (full_word n) (marked n table) ≡ full_words w
  unfolding full_words
  marked_words = ap₂ (λ (k : ℕ) (ps : List ℕ). map (full_word k) ps) long marked_full

  pub marked-count : length (marked n table) ≡ length (full_words w)
  marked-count = sym (length-map (marked n table) (full_word n)) ∙ ap length marked_words

-- ---- how a list ends

module _ (w out ws : List ℕ) (accepted : word_refusal w false 0 0 ≡ none) where
  -- of a word that is accepted the list is written, or refused as too long
  pub listed_written : (s t : ℕ) {k : ℕ} {new : List ℕ} → Listed ws out (Ok k) new → writing k 0 s t new ≡ listing w out ws 0 s t
  listed_written s t {k} l = rw l.2 (counted_written w out ws 0 s t accepted k l.0 (omega (arith, l.0, l.1)))

  pub listed_short : (s t : ℕ) {r : Refusal} {new : List ℕ} → Listed ws out (Err r) new → refusing r new ≡ listing w out ws 0 s t
  listed_short s t l = rw (l.0, l.2) (sym (listing_short w out ws 0 s t accepted l.1))

  pub listed_answer : (result : Result ℕ Refusal) (new : List ℕ) → Listed ws out result new → answered_wrote result new ≡ listing w out ws 0 0 0
  listed_answer (Ok k) new l = listed_written 0 0 l
  listed_answer (Err r) new l = listed_short 0 0 l
