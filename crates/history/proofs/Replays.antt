-- Laws of the replay: what the call of a byte is, and what one more byte does to the machine's word and to the number of refusals.
use mathlib.Core.Path.{◌≡◌, refl, sym, ap, ap₂, ◌∙◌}
use mathlib.Core.Logic.{⊎_elim, ◌≢◌}
use mathlib.Core.Bool.{Bool, true, false}
use mathlib.Core.List.{List, [], ◌∷◌, ◌++◌, map, map-append}
use Prim.Native.Nat.{ℕ, suc, ◌+◌, ◌≤◌, ◌<◌}
use native.Mathlib.Omega.{arith}
use mir.Val.{bool_byte}
use lib.ListN.{length, take, get_or, length-map, length-take}
use lib.Seq.{take-suc, take-length}
use lib.Dec.{ltb}
use borrow.Author.Tests.{lt-ltb, eq-eqb, ne_eqb}
use Rattle.std.specs.Prelude.{Result, Ok, Err}
use Rattle.std.specs.Result.{is_err}
use Rattle.abelian.specs.Lists.{one}
use Rattle.abelian.specs.Refusals.{first_holding, number_of}
use Rattle.abelian.specs.Answers.{Answer, answered_outcome}
use Rattle.abelian.specs.Calls.{period_words}
use Rattle.abelian.specs.Trackers.{Step, tracker_listing}
use Rattle.abelian.specs.declared.Refusal.{Refusal}
use Rattle.abelian.specs.declared.Tracker.{Tracker}
use Rattle.abelian.proofs.Tests.{decided}
use Rattle.abelian.proofs.Refusals.{refusal_number}
use Rattle.history.specs.Machine.{Call, letters_unless, machine}
use Rattle.history.specs.Calls.{letters_after, machine_answers, step, word_of}
use Rattle.history.specs.TrackerHolding.{tracker_holding}
use Rattle.history.specs.Replay.{call_of, refusals, Replay, replaying}
use Rattle.history.proofs.Steps.{moved, step-machine}
use Rattle.history.proofs.History.{word_of_lem}

-- ---- the call of a byte

module _ (b : ℕ) where
  pub clears : b ≡ 33 → Call.clear ≡ call_of b
  unfolding call_of
  clears e = rw (ne_eqb b 45 (λ f. omega arith), eq-eqb b 33 e)

  pub adds : b ≢ 45 → b ≢ 33 → Call.add b ≡ call_of b
  unfolding call_of
  adds n m = rw (ne_eqb b 45 n, ne_eqb b 33 m)

-- ---- refusals

-- an outcome counts where it is a refusal, whose number is not 0
pub refused_counts : (o : Result Unit Refusal) (b : Bool) → b ≡ is_err o → bool_byte b ≡ one (ltb 0 (answered_outcome o).number)
refused_counts (Ok _) b e = ap bool_byte e
refused_counts (Err r) b e = ap bool_byte e ∙ ap one (sym (lt-ltb 0 (number_of r) (refusal_number r)))

pub counted-le : (b : Bool) → bool_byte b ≤ 1
counted-le true = omega arith
counted-le false = omega arith

one-le : (b : Bool) → one b ≤ 1
one-le true = omega arith
one-le false = omega arith

-- no more calls are refused than are made
refusals-le : (w : List ℕ) (cs : List Call) → refusals (machine_answers w cs) ≤ length cs
unfolding refusals machine_answers
refusals-le w [] = omega arith
refusals-le w (c ∷ cs) = omega (arith, refusals-le (machine w c).letters cs, one-le (ltb 0 (machine w c).answer.number))

-- ---- one call more

letters-more : (w : List ℕ) (cs : List Call) (c : Call) → letters_after w (cs ++ (c ∷ [])) ≡ (machine (letters_after w cs) c).letters
unfolding letters_after
letters-more w [] c = refl
letters-more w (d ∷ cs) c = letters-more (machine w d).letters cs c

refusals-more : (w : List ℕ) (cs : List Call) (c : Call)
    → refusals (machine_answers w (cs ++ (c ∷ []))) ≡ refusals (machine_answers w cs) + one (ltb 0 (machine (letters_after w cs) c).answer.number)
unfolding letters_after machine_answers refusals
refusals-more w [] c = omega arith
refusals-more w (d ∷ cs) c = rw (refusals-more (machine w d).letters cs c) (omega arith)

-- a list keeps the letters
list_keeps : (w out : List ℕ) → (machine w (Call.list out)).letters ≡ w
unfolding machine letters_unless first_holding
list_keeps w out =
    ⊎_elim (λ (e : ltb (length out) (length (period_words w)) ≡ true). rw e) (λ (e : ltb (length out) (length (period_words w)) ≡ false). rw e)
    (decided (ltb (length out) (length (period_words w))))

-- ---- the replay of the first i bytes

-- a replay is known by its fields
replay_fields : {t u : Tracker} {k m : ℕ} {a b : Answer} → t ≡ u → k ≡ m → a ≡ b
    → ◌≡◌ {A = Replay} (record { tracker = t; refused = k; answer = a }) (record { tracker = u; refused = m; answer = b })
replay_fields e f g = cc

abbrev calls_of : List ℕ → ℕ → List Call
calls_of bytes i = map call_of (take i bytes)

-- the tracker and the number of refusals are the machine's
pub record FirstReplayed (bytes : List ℕ) (i : ℕ) (t : Tracker) (refused : ℕ) : Type 0 where
  pub tracker : t ≡ tracker_holding (word_of (calls_of bytes i))
  pub counted : refused ≡ refusals (machine_answers [] (calls_of bytes i))

module _ (bytes : List ℕ) where
  pub none_replayed : {t : Tracker} → t ≡ tracker_holding [] → FirstReplayed bytes 0 t 0
  unfolding word_of letters_after machine_answers refusals
  none_replayed e = record { tracker = e; counted = refl }

  pub refused_le : (i : ℕ) {t : Tracker} {k : ℕ} → FirstReplayed bytes i t k → k ≤ i
  refused_le i {k = k} r =
      omega (arith, r.counted, refusals-le [] (calls_of bytes i), length-map (take i bytes) call_of, length-take i bytes)

  module _ (i : ℕ) (l : i < length bytes) {t : Tracker} {k : ℕ} (r : FirstReplayed bytes i t k) where
    abbrev c : Call
    c = call_of (get_or bytes i 0)

    calls_more : calls_of bytes (suc i) ≡ calls_of bytes i ++ (c ∷ [])
    calls_more = ap (map call_of) (take-suc bytes i 0 l) ∙ map-append call_of (take i bytes) (get_or bytes i 0 ∷ [])

    -- the step of the next byte's call is the machine's
    next_step : step t c ≡ moved (machine (word_of (calls_of bytes i)) c)
    next_step = ap (λ (u : Tracker). step u c) r.tracker ∙ step-machine (word_of (calls_of bytes i)) c (word_of_lem (calls_of bytes i))

    pub next_replayed : (s : Step) (n : ℕ) → s ≡ step t c → n ≡ one (ltb 0 s.answer.number) → FirstReplayed bytes (i + 1) s.tracker (k + n)
    unfolding word_of
    next_replayed s n e d =
        let j : i + 1 ≡ suc i = omega arith in
        let f : s ≡ moved (machine (word_of (calls_of bytes i)) c) = e ∙ next_step in
        rw j (record {
          tracker = ap (λ (u : Step). u.tracker) f ∙ ap tracker_holding (sym (letters-more [] (calls_of bytes i) c) ∙ ap word_of (sym calls_more));
          counted =
              ap (λ (m : ℕ). k + m) d
              ∙ ap₂ (λ m u. m + one (ltb 0 u.answer.number)) r.counted f
              ∙ sym (refusals-more [] (calls_of bytes i) c)
              ∙ ap (λ (cs : List Call). refusals (machine_answers [] cs)) (sym calls_more);
        })

  -- after the last byte, with the list's step
  pub all_replayed : (i : ℕ) {t : Tracker} {k : ℕ} (out : List ℕ) → FirstReplayed bytes i t k → i ≡ length bytes → (s : Step) → s ≡ tracker_listing t out
      → ◌≡◌ {A = Replay} (record { tracker = s.tracker; refused = k; answer = s.answer }) (replaying bytes out)
  unfolding replaying step
  all_replayed i out r l s e =
      let cs : List Call = calls_of bytes i in
      let f : s ≡ moved (machine (word_of cs) (Call.list out)) =
      e ∙ ap (λ (u : Tracker). step u (Call.list out)) r.tracker ∙ step-machine (word_of cs) (Call.list out) (word_of_lem cs) in
      replay_fields (ap (λ (u : Step). u.tracker) f ∙ ap tracker_holding (list_keeps (word_of cs) out)) r.counted (ap (λ (u : Step). u.answer) f)
      ∙ ap (λ (bs : List ℕ). replaying bs out) (ap (λ (m : ℕ). take m bytes) l ∙ take-length bytes)
