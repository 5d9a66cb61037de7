-- Laws of damage: what `check_held` finds is what document 01 says of a tracker, and a tracker that is not damaged holds a word of letters.
use mathlib.Core.Path.{◌≡◌, refl}
use mathlib.Core.Bool.{Bool, true, false, not, ◌||◌}
use mathlib.Core.Option.{none, some}
use mathlib.Core.List.{List}
use Prim.Native.Nat.{ℕ, ◌+◌, ◌≤◌, ◌<◌}
use native.Mathlib.Omega.{arith}
use native.Mathlib.Numerals.{add-one}
use lib.ListN.{length, take, set, length-take, length-set}
use lib.Seq.{take-suc-set}
use lib.Dec.{T, ltb}
use borrow.Author.Tests.{lt-ltb, le-ltb, ltb-false}
use Rattle.std.specs.Prelude.{Result, Ok, Err}
use Rattle.std.specs.Result.{IsErrAnd}
use Rattle.std.proofs.lemmas.Result.{err_from_is_err_and}
use Rattle.abelian.specs.Lists.{pick}
use Rattle.abelian.specs.Words.{alphabet_size, longest, is_letter, of_letters}
use Rattle.abelian.specs.Refusals.{word_refusal}
use Rattle.abelian.specs.Trackers.{damaged_bytes, damaged}
use Rattle.abelian.specs.declared.Refusal.{Refusal}
use Rattle.abelian.specs.declared.Refusal.TheVariants.{TrackerDamaged}
use Rattle.abelian.specs.declared.Tracker.{Tracker}
use Rattle.abelian.proofs.Tests.{is_true, is_false, passes}
use Rattle.abelian.proofs.Counts.{letters_last}
use Rattle.words.specs.Prefixes.{IsWord}
use Rattle.words.proofs.Refusals.{accepted_letters, letters-none}

module _ (len : ℕ) (bytes : List ℕ) where
  -- a length above the longest
  pub long-damaged : longest < len → damaged_bytes len bytes ≡ true
  unfolding damaged_bytes
  long-damaged h = rw (lt-ltb longest len h)

  module _ (h : len ≤ longest) where
    -- the bytes within the length are accepted as a word
    pub accepted_undamaged : word_refusal (take len bytes) false 0 0 ≡ none → damaged_bytes len bytes ≡ false
    unfolding damaged_bytes
    accepted_undamaged e = rw (le-ltb longest len h, is_true (of_letters (take len bytes)) (accepted_letters (take len bytes) e))

    -- they are refused
    pub refused_damaged : {r : Refusal} → word_refusal (take len bytes) false 0 0 ≡ some r → damaged_bytes len bytes ≡ true
    unfolding damaged_bytes
    refused_damaged e = rw (le-ltb longest len h, is_false (of_letters (take len bytes)) no)
      where
        no : T (of_letters (take len bytes)) → ⊥
        no t =
            let n : word_refusal (take len bytes) false 0 0 ≡ none = letters-none (take len bytes) (omega (arith, length-take len bytes)) t in
            let z : ◌≡◌ {A = ℕ} 0 1 = cc in
            omega arith

module _ (t : Tracker) where
  -- what `check_held` answers of the tracker's length and bytes
  abbrev pub checked : Result Unit Refusal
  checked = pick (damaged_bytes t.len t.bytes) (Err TrackerDamaged) (Ok tt)

  -- a tracker that it accepts is not damaged
  pub sound_held : Ok tt ≡ checked → damaged t ≡ false
  unfolding damaged
  sound_held e = go (damaged_bytes t.len t.bytes) e
    where
      go : (is : Bool) → ◌≡◌ {A = Result Unit Refusal} (Ok tt) (pick is (Err TrackerDamaged) (Ok tt)) → is ≡ false
      go false f = refl
      go true f = let z : ◌≡◌ {A = ℕ} 0 1 = cc in absurd (omega arith)

  -- and one that it refuses is
  pub damaged_held : {r : Refusal} → Err r ≡ checked → (damaged t ≡ true) × (r ≡ TrackerDamaged)
  unfolding damaged
  damaged_held {r} e = go (damaged_bytes t.len t.bytes) e
    where
      go : (is : Bool) → ◌≡◌ {A = Result Unit Refusal} (Err r) (pick is (Err TrackerDamaged) (Ok tt)) → (is ≡ true) × (r ≡ TrackerDamaged)
      go false f = let z : ◌≡◌ {A = ℕ} 0 1 = cc in absurd (omega arith)
      go true f = (refl, cc)

  -- which is what `?` hands on
  pub refused_held : {A : Type 0} (handed : Result A Refusal) {r : Refusal} → IsErrAnd handed (λ e. e ≡ r) → Err r ≡ checked → handed ≡ Err TrackerDamaged
  refused_held handed h e = let p = err_from_is_err_and handed h in rw (p.1, p.2, (damaged_held e).1)

  -- the length of a tracker that is not damaged, and its letters
  pub undamaged : damaged t ≡ false → (t.len ≤ longest) × T (of_letters (take t.len t.bytes))
  unfolding damaged damaged_bytes
  undamaged e = go (ltb longest t.len) (of_letters (take t.len t.bytes)) refl refl e
    where
      go : (long letters : Bool) → ltb longest t.len ≡ long → of_letters (take t.len t.bytes) ≡ letters → (long || not letters) ≡ false → (t.len ≤ longest) × T (of_letters (take t.len t.bytes))
      go false true l o f = (ltb-false longest t.len l, passes (of_letters (take t.len t.bytes)) o)
      go false false l o f = let z : ◌≡◌ {A = ℕ} 0 1 = cc in absurd (omega arith)
      go true letters l o f = let z : ◌≡◌ {A = ℕ} 0 1 = cc in absurd (omega arith)

  -- so of a tracker that `check_held` accepts
  pub short_held : Ok tt ≡ checked → t.len ≤ longest
  short_held e = (undamaged (sound_held e)).0

-- the bytes within the length are a word after a letter has been stored behind them
module _ (len : ℕ) (bytes : List ℕ) (b : ℕ) (long : length bytes ≡ longest) (room : len < longest) where
  pub length-stored : length (take (len + 1) (set bytes len b)) ≡ len + 1
  length-stored = omega (arith, long, room, length-take (len + 1) (set bytes len b), length-set bytes len b)

  pub word_stored : T (of_letters (take len bytes)) → T (is_letter alphabet_size b) → IsWord (take (len + 1) (set bytes len b))
  word_stored t l = record {
    all = rw (add-one, take-suc-set bytes len b (omega (arith, long, room))) (letters_last (take len bytes) b t l);
    short = omega (arith, room, length-stored);
  }
