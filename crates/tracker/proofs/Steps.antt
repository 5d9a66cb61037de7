-- Laws of the steps: what each call leaves, for each of its refusals and where it is accepted.
use mathlib.Core.Path.{◌≡◌}
use mathlib.Core.Bool.{true, false}
use mathlib.Core.List.{List, [], map}
use Prim.Native.Nat.{ℕ, ◌+◌, ◌-◌, ◌≤◌, ◌<◌}
use native.Mathlib.Numerals.{add-one}
use native.Mathlib.Omega.{arith}
use lib.ListN.{length, take, set, length-map}
use borrow.Author.Tests.{lt-ltb, le-ltb, eq-eqb, ne_eqb}
use Rattle.abelian.specs.Words.{alphabet_size, longest, is_letter}
use Rattle.abelian.specs.Periods.{pairs}
use Rattle.abelian.specs.Output.{period_word, fill}
use Rattle.abelian.specs.Refusals.{first_holding, tracker_refusal}
use Rattle.abelian.specs.Answers.{refusing, accepting, writing, counting}
use Rattle.abelian.specs.Trackers.{Step, board_size, step_unless, damaged, totals, with_totals, added, adding, shortened, taking_back, open_pairs, ended_pairs, tracker_listing, tracker_count}
use Rattle.abelian.specs.declared.Refusal.{Refusal}
use Rattle.abelian.specs.declared.Refusal.TheVariants.{NotALetter, SliceTooShort, TrackerFull, TrackerEmpty, TrackerDamaged}
use Rattle.abelian.specs.declared.Tracker.{Tracker}
use Rattle.board.specs.Ending.{all_ended}
use Rattle.board.proofs.Places.{open_and_ended}
use Rattle.tracker.specs.Fields.{of_fields}
use Rattle.tracker.specs.Steps.{entry_reopened}

-- a refused call leaves the tracker and the slice as they came
abbrev pub refused : Tracker → Refusal → List ℕ → Step
refused t r out = record { tracker = t; answer = refusing r out }

-- an accepted one that has nothing more to say
abbrev pub accepted : Tracker → Step
accepted t = record { tracker = t; answer = accepting }

-- an accepted list, that wrote so many words and left the slice so
abbrev pub listed : Tracker → ℕ → List ℕ → Step
listed t words out = record { tracker = t; answer = writing words 0 0 0 out }

-- ---- totals

-- no more pairs are live than are in range
pub live_within : (n : ℕ) (board : List ℕ) {live all : ℕ} → n ≤ longest → length board ≡ board_size → live ≡ length (open_pairs n board) → all ≡ length (pairs n) → live ≤ all
live_within n board short long e f = omega (arith, open_and_ended n board short long)

-- fields with live counted, and ended as the other pairs in range, are the tracker with the totals of its board
pub fields_with_totals : (n : ℕ) (bytes board : List ℕ) {live all : ℕ} → n ≤ longest → length board ≡ board_size → live ≡ length (open_pairs n board) → all ≡ length (pairs n)
    → of_fields n bytes board live (all - live) ≡ with_totals n bytes board
unfolding totals
fields_with_totals n bytes board {live} {all} short long e f =
    let g : all - live ≡ length (ended_pairs n board) = omega (arith, open_and_ended n board short long) in
    rw (g, e)

-- ---- add

module _ (t : Tracker) (b : ℕ) where
  pub adding-damaged : damaged t ≡ true → adding t b ≡ refused t TrackerDamaged []
  unfolding adding tracker_refusal first_holding step_unless
  adding-damaged d = rw d

  module _ (d : damaged t ≡ false) where
    pub adding_outside : is_letter alphabet_size b ≡ false → adding t b ≡ refused t (NotALetter 1) []
    unfolding adding tracker_refusal first_holding step_unless
    adding_outside l = rw (d, l)

    module _ (l : is_letter alphabet_size b ≡ true) where
      pub adding_full : t.len ≡ longest → adding t b ≡ refused t TrackerFull []
      unfolding adding tracker_refusal first_holding step_unless
      adding_full n = rw (d, l, eq-eqb t.len longest n)

      pub adding_accepted : (t.len ≡ longest → ⊥) → adding t b ≡ accepted (added t b)
      unfolding adding tracker_refusal first_holding step_unless
      adding_accepted n = rw (d, l, ne_eqb t.len longest n)

  -- the tracker with one letter more, from its parts
  pub letter_added : {bytes board : List ℕ} → bytes ≡ set t.bytes t.len b → board ≡ all_ended (take (t.len + 1) (set t.bytes t.len b)) t.board → with_totals (t.len + 1) bytes board ≡ added t b
  unfolding added all_ended
  letter_added e f = rw (e, f, add-one)

-- ---- take-back

module _ (t : Tracker) where
  pub taking_back-damaged : damaged t ≡ true → taking_back t ≡ refused t TrackerDamaged []
  unfolding taking_back tracker_refusal first_holding step_unless
  taking_back-damaged d = rw d

  module _ (d : damaged t ≡ false) where
    pub taking_back_empty : t.len ≡ 0 → taking_back t ≡ refused t TrackerEmpty []
    unfolding taking_back tracker_refusal first_holding step_unless
    taking_back_empty n = rw (d, eq-eqb t.len 0 n)

    pub taking_back_accepted : (t.len ≡ 0 → ⊥) → taking_back t ≡ accepted (shortened t)
    unfolding taking_back tracker_refusal first_holding step_unless
    taking_back_accepted n = rw (d, ne_eqb t.len 0 n)

  -- the tracker with its last letter gone, from its parts
  pub letter_gone : {bytes board : List ℕ} → bytes ≡ set t.bytes (t.len - 1) 0 → board ≡ map (entry_reopened t.len) t.board → with_totals (t.len - 1) bytes board ≡ shortened t
  unfolding shortened
  letter_gone e f = rw (e, f)

-- ---- list

module _ (t : Tracker) (out : List ℕ) where
  pub listing-damaged : damaged t ≡ true → tracker_listing t out ≡ refused t TrackerDamaged out
  unfolding tracker_listing tracker_refusal first_holding step_unless
  listing-damaged d = rw d

  module _ (d : damaged t ≡ false) {words : ℕ} (n : words ≡ length (open_pairs t.len t.board)) where
    pub listing_short : length out < words → tracker_listing t out ≡ refused t (SliceTooShort words) out
    unfolding tracker_listing tracker_refusal first_holding step_unless
    listing_short h = rw (n, d, length-map, lt-ltb (length out) (length (open_pairs t.len t.board)) (omega arith))

    pub listing_written : words ≤ length out → tracker_listing t out ≡ listed t words (fill (map period_word (open_pairs t.len t.board)) out)
    unfolding tracker_listing tracker_refusal first_holding step_unless
    listing_written h = rw (n, d, length-map, le-ltb (length out) (length (open_pairs t.len t.board)) (omega arith))

-- ---- count

module _ (t : Tracker) where
  pub count-damaged : damaged t ≡ true → tracker_count t ≡ refused t TrackerDamaged []
  unfolding tracker_count tracker_refusal first_holding step_unless
  count-damaged d = rw d

  pub count_accepted : damaged t ≡ false → {words : ℕ} → words ≡ length (open_pairs t.len t.board) → tracker_count t ≡ record { tracker = t; answer = counting words }
  unfolding tracker_count tracker_refusal first_holding step_unless
  count_accepted d n = rw (n, d, length-map)
