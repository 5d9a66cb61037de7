-- One call: from the tracker of the machine's letters the tracker goes to that of the machine's new letters, with the machine's answer; and
-- the machine's letters stay a word.
use mathlib.Core.Path.{◌≡◌, refl, sym, ap, ◌∙◌}
use mathlib.Core.Logic.{◌≢◌}
use mathlib.Core.Bool.{Bool, true, false, not}
use mathlib.Core.Option.{Option, none, some}
use mathlib.Core.List.Memᴰ
use mathlib.Core.List.{List, [], ◌∷◌, ◌++◌}
use Prim.Native.Nat.{ℕ, suc, ◌-◌, ◌≤◌, ◌<◌}
use native.Mathlib.Omega.{arith}
use lib.ListN.{length, take, get_or, length-append, length-map}
use lib.Seq.{take-suc, take-length, length-take-le}
use lib.Dec.{T, eqb}
use borrow.Author.Tests.{eqb-false}
use Rattle.abelian.specs.Words.{alphabet_size, longest, is_letter}
use Rattle.abelian.specs.Refusals.{condition, first_holding, tracker_refusal}
use Rattle.abelian.specs.Answers.{accepting}
use Rattle.abelian.specs.Calls.{period_words}
use Rattle.abelian.specs.Trackers.{Step, damaged, step_unless, shortened, adding, taking_back, clearing, tracker_listing, tracker_count}
use Rattle.abelian.specs.declared.Refusal.{Refusal}
use Rattle.abelian.specs.declared.Refusal.TheVariants.{NotALetter, TrackerFull, TrackerEmpty}
use Rattle.abelian.specs.declared.Tracker.{Tracker}
use Rattle.abelian.proofs.Counts.{inside_letters, letters_last, letters-take}
use Rattle.abelian.proofs.Refusals.{some-none}
use Rattle.history.specs.Machine.{Call, Letters, letters_unless, machine}
use Rattle.history.specs.Calls.{step}
use Rattle.history.specs.History.{IsWord}
use Rattle.history.specs.TrackerHolding.{tracker_holding}
use Rattle.history.proofs.TrackerHolding.{fresh_empty, undamaged, added_word, shortened_word, open_periods}

pub empty_word : IsWord []
empty_word = record { letters = inside_letters [] (λ x m. absurd (Memᴰ.not-nil m)); fits = omega arith }

-- what the machine does, as a step of the tracker of its letters
abbrev pub moved : Letters → Step
moved m = record { tracker = tracker_holding m.letters; answer = m.answer }

-- ---- refused or accepted

-- the two sides are refused alike, and it is enough to know them where they are accepted
unless_moved : (o : Option Refusal) (out w : List ℕ) (new : Step) (m : Letters) → (o ≡ none → new ≡ moved m)
    → step_unless o out (tracker_holding w) new ≡ moved (letters_unless o out w m)
unfolding step_unless letters_unless
unless_moved none out w new m h = h refl
unless_moved (some r) out w new m h = refl

unless_word : (o : Option Refusal) (out w : List ℕ) (m : Letters) → IsWord w → (o ≡ none → IsWord m.letters) → IsWord (letters_unless o out w m).letters
unfolding letters_unless
unless_word none out w m i h = h refl
unless_word (some r) out w m i h = i

-- an accepted add has a letter, and room for it; an accepted take-back has a letter to take
accepted_add : (letter full : Bool) → first_holding (condition (not letter) (NotALetter 1) ∷ condition full TrackerFull ∷ []) ≡ none → T letter × (full ≡ false)
unfolding first_holding
accepted_add false full e = absurd (some-none e)
accepted_add true true e = absurd (some-none e)
accepted_add true false e = (tt, refl)

accepted_take_back : (empty : Bool) → first_holding (condition empty TrackerEmpty ∷ []) ≡ none → empty ≡ false
unfolding first_holding
accepted_take_back true e = absurd (some-none e)
accepted_take_back false e = refl

-- ---- each call

-- a word with one letter more, or its last one gone, is a word
longer_word : (w : List ℕ) (b : ℕ) → IsWord w → T (is_letter alphabet_size b) → length w < longest → IsWord (w ++ (b ∷ []))
longer_word w b i t l = record { letters = letters_last w b i.letters t; fits = omega (arith, length-append w (b ∷ [])) }

shorter_word : (w : List ℕ) → IsWord w → IsWord (take (length w - 1) w)
shorter_word w i = record { letters = letters-take (length w - 1) w i.letters; fits = omega (arith, i.fits, length-take-le (length w - 1) w (omega arith)) }

-- its last letter stands behind the others
last_letter : (w : List ℕ) → 1 ≤ length w → w ≡ take (length w - 1) w ++ (get_or w (length w - 1) 0 ∷ [])
last_letter w l =
    let e : suc (length w - 1) ≡ length w = omega arith in
    sym (take-length w) ∙ ap (λ (k : ℕ). take k w) (sym e) ∙ take-suc w (length w - 1) 0 (omega arith)

module _ (w : List ℕ) (i : IsWord w) where
  whole : damaged (tracker_holding w) ≡ false
  whole = undamaged w i.letters i.fits

  module _ (b : ℕ) where
    abbrev add_refusal : Option Refusal
    add_refusal = first_holding (condition (not (is_letter alphabet_size b)) (NotALetter 1) ∷ condition (eqb (length w) longest) TrackerFull ∷ [])

    room : add_refusal ≡ none → length w < longest
    room e =
        let n : length w ≢ longest = eqb-false (length w) longest (accepted_add (is_letter alphabet_size b) (eqb (length w) longest) e).1 in
        omega (arith, i.fits)

    add_step : step (tracker_holding w) (Call.add b) ≡ moved (machine w (Call.add b))
    unfolding step machine adding tracker_refusal first_holding tracker_holding
    add_step =
        rw whole
        (unless_moved add_refusal [] w _ _ (λ e. ap (λ (t : Tracker). record { tracker = t; answer = accepting }) (added_word w b (room e))))

    add_word : IsWord (machine w (Call.add b)).letters
    unfolding machine
    add_word =
        unless_word add_refusal [] w _ i
        (λ e. longer_word w b i (accepted_add (is_letter alphabet_size b) (eqb (length w) longest) e).0 (room e))

  take-back-step : step (tracker_holding w) Call.take_back ≡ moved (machine w Call.take_back)
  unfolding step machine taking_back tracker_refusal first_holding tracker_holding
  take-back-step =
      rw whole
      (unless_moved _ [] w _ _
      (λ e.
      let n : length w ≢ 0 = eqb-false (length w) 0 (accepted_take_back (eqb (length w) 0) e) in
      let last : w ≡ take (length w - 1) w ++ (get_or w (length w - 1) 0 ∷ []) = last_letter w (omega arith) in
      ap (λ (t : Tracker). record { tracker = t; answer = accepting })
      (ap (λ (v : List ℕ). shortened (tracker_holding v)) last
      ∙ shortened_word (take (length w - 1) w) (get_or w (length w - 1) 0) (omega (arith, i.fits, length-take-le (length w - 1) w (omega arith))))))

  list_step : (out : List ℕ) → step (tracker_holding w) (Call.list out) ≡ moved (machine w (Call.list out))
  unfolding step machine tracker_listing tracker_refusal first_holding tracker_holding period_words
  list_step out =
      rw (whole, open_periods w i.letters i.fits)
      (unless_moved _ out w _ _ (λ e. refl))

  count-step : step (tracker_holding w) Call.count ≡ moved (machine w Call.count)
  unfolding step machine tracker_count tracker_refusal first_holding step_unless tracker_holding
  count-step = rw (whole, open_periods w i.letters i.fits, length-map)

pub step-machine : (w : List ℕ) (c : Call) → IsWord w → step (tracker_holding w) c ≡ moved (machine w c)
unfolding step machine clearing
step-machine w (Call.add b) i = add_step w i b
step-machine w Call.take_back i = take-back-step w i
step-machine w Call.clear i = ap (λ (t : Tracker). record { tracker = t; answer = accepting }) fresh_empty
step-machine w (Call.list out) i = list_step w i out
step-machine w Call.count i = count-step w i

pub machine_word : (w : List ℕ) (c : Call) → IsWord w → IsWord (machine w c).letters
unfolding machine
machine_word w (Call.add b) i = add_word w i b
machine_word w Call.take_back i = unless_word _ [] w _ i (λ e. shorter_word w i)
machine_word w Call.clear i = empty_word
machine_word w (Call.list out) i = unless_word _ out w _ i (λ e. i)
machine_word w Call.count i = i
