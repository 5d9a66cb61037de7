-- The claim of demand 3: it holds of every list of calls from a fresh tracker.
use mathlib.Core.Path.{◌≡◌, refl, sym, ap, ◌∙◌}
use mathlib.Core.Bool.{false}
use mathlib.Core.Option.{none}
use mathlib.Core.List.{List, [], ◌∷◌}
use Prim.Native.Nat.{ℕ, ◌+◌, ◌≤◌, ◌<◌}
use native.Mathlib.Decide.{dec_lt}
use native.Mathlib.Omega.{arith}
use lib.ListN.{length}
use lib.Dec.{T}
use borrow.Author.Tests.{le-ltb}
use Rattle.abelian.specs.Words.{longest}
use Rattle.abelian.specs.Periods.{Pair, in_range}
use Rattle.abelian.specs.Trials.{plain_trials, skipping_trials}
use Rattle.abelian.specs.FullPeriods.{scale, scaled_gap}
use Rattle.abelian.specs.EndedLengths.{ended_length}
use Rattle.abelian.specs.Refusals.{first_holding, word_refusal}
use Rattle.abelian.specs.Answers.{Answer}
use Rattle.abelian.specs.Calls.{writing_words, period_words, full_words, plain_listing, skipping_listing, scaled_listing}
use Rattle.abelian.specs.Trackers.{Step, fresh_tracker}
use Rattle.abelian.specs.declared.Tracker.{Tracker}
use Rattle.abelian.proofs.Tests.{fails}
use Rattle.abelian.proofs.Pairs.{InRange, in_range_lem, range_in}
use Rattle.abelian.proofs.Definition1.{periods_definition, periods_rising}
use Rattle.words.proofs.Refusals.{letters-none}
use Rattle.words.proofs.Listings.{listing_written}
use Rattle.periods.proofs.EndedLengths.{out_of_range_open}
use Rattle.history.specs.Machine.{Call, machine, letters_unless}
use Rattle.history.specs.Calls.{letters_after, machine_answers, tracker_after, tracker_answers, word_of, tracker_from}
use Rattle.history.specs.History.{IsWord, History}
use Rattle.history.specs.TrackerHolding.{tracker_holding}
use Rattle.history.proofs.TrackerHolding.{fresh_empty, live_and_ended_lem, live_periods}
use Rattle.history.proofs.Steps.{empty_word, moved, step-machine, machine_word}
use Rattle.history.proofs.FullPairs.{full_pairs}

-- ---- from one call to a list of calls

-- the machine's letters stay a word
letters_word : (w : List ℕ) (calls : List Call) → IsWord w → IsWord (letters_after w calls)
unfolding letters_after
letters_word w [] i = i
letters_word w (c ∷ cs) i = letters_word (machine w c).letters cs (machine_word w c i)

-- the tracker of its letters goes where it goes
after_letters : (w : List ℕ) (calls : List Call) → IsWord w → tracker_after (tracker_holding w) calls ≡ tracker_holding (letters_after w calls)
unfolding tracker_after letters_after
after_letters w [] i = refl
after_letters w (c ∷ cs) i =
    ap (λ (s : Step). tracker_after s.tracker cs) (step-machine w c i) ∙ after_letters (machine w c).letters cs (machine_word w c i)

-- and answers as it answers
answers_letters : (w : List ℕ) (calls : List Call) → IsWord w → tracker_answers (tracker_holding w) calls ≡ machine_answers w calls
unfolding tracker_answers machine_answers
answers_letters w [] i = refl
answers_letters w (c ∷ cs) i =
    ap (λ (s : Step). s.answer ∷ tracker_answers s.tracker cs) (step-machine w c i)
    ∙ ap (λ (l : List Answer). (machine w c).answer ∷ l) (answers_letters (machine w c).letters cs (machine_word w c i))

pub word_of_lem : (calls : List Call) → IsWord (word_of calls)
unfolding word_of
word_of_lem calls = letters_word [] calls empty_word

-- the tracker after the calls is that of the machine's word
pub tracker_of_word : (calls : List Call) → tracker_from calls ≡ tracker_holding (word_of calls)
unfolding tracker_from word_of
tracker_of_word calls = ap (λ (t : Tracker). tracker_after t calls) fresh_empty ∙ after_letters [] calls empty_word

pub machine_answers_lem : (calls : List Call) → tracker_answers fresh_tracker calls ≡ machine_answers [] calls
machine_answers_lem calls = ap (λ (t : Tracker). tracker_answers t calls) fresh_empty ∙ answers_letters [] calls empty_word

-- ---- the claim

-- a pair that is not in range for the word has not ended
unreached : (w : List ℕ) (x : Pair) → T (in_range longest x) → in_range (length w) x ≡ false → ended_length w x ≡ 0
unreached w x t e = out_of_range_open w x (go (dec_lt (length w) (x.head + x.period)))
  where
    go : Dec (length w < x.head + x.period) → length w < x.head + x.period
    go (yes l) = l
    go (no n) =
        let r : InRange longest x = in_range_lem longest x t in
        absurd (fails (in_range (length w) x) e (range_in (length w) x (record { positive = r.positive; below = r.below; fits = omega arith })))

-- the machine's list, where there are places enough
listed_machine : (w out : List ℕ) → length (period_words w) ≤ length out → moved (machine w (Call.list out)) ≡ record { tracker = tracker_holding w; answer = writing_words (period_words w) 0 0 0 out }
unfolding machine letters_unless first_holding
listed_machine w out l = rw (le-ltb (length out) (length (period_words w)) l)

pub history : (calls : List Call) → History calls
unfolding machine tracker_holding plain_listing skipping_listing scaled_listing
history calls =
    let w : List ℕ = word_of calls in
    let i : IsWord w = word_of_lem calls in
    let t : tracker_from calls ≡ tracker_holding w = tracker_of_word calls in
    let a : word_refusal w false 0 0 ≡ none = letters-none w i.fits i.letters in
    record {
      word = i;
      answers = machine_answers_lem calls;
      holds = record { len = ap (λ (s : Tracker). s.len) t; bytes = ap (λ (s : Tracker). s.bytes) t };
      ended = ap (λ (s : Tracker). s.board) t;
      unreached = unreached w;
      live_and_ended = rw t (live_and_ended_lem w i.fits);
      live_listed = rw t (live_periods w i.letters i.fits);
      same = λ others e. tracker_of_word others ∙ ap tracker_holding e ∙ sym t;
      listed = λ out l. rw t (step-machine w (Call.list out) i ∙ listed_machine w out l);
      counted = rw t (step-machine w Call.count i);
      definition = λ x. periods_definition w x i.letters;
      rising = periods_rising w;
      plain = λ out l. listing_written w out (period_words w) (plain_trials w) 0 0 a l;
      skipping = λ out l. listing_written w out (period_words w) (skipping_trials w) 0 0 a l;
      full = full_pairs w;
      scaled = λ out l. listing_written w out (full_words w) 0 (scale w) (scaled_gap w) a l;
    }
