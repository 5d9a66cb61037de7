-- Lists of calls: what the machine and the tracker answer to each, and what they are afterwards. Each call gets what the call before left, accepted or refused.
use Rattle.std.specs.Prelude.{List, [], ◌∷◌, ℕ}
use Rattle.abelian.specs.Answers.{Answer}
use Rattle.abelian.specs.Trackers.{Step, fresh_tracker, adding, taking_back, clearing, tracker_listing, tracker_count}
use Rattle.abelian.specs.declared.Tracker.{Tracker}
use Rattle.history.specs.Machine.{Call, machine}

-- the machine's letters after the calls, and its answers to them, from the letters w on
unfoldable pub letters_after : List ℕ → List Call → List ℕ
letters_after w [] = w
letters_after w (c ∷ cs) = letters_after (machine w c).letters cs

unfoldable pub machine_answers : List ℕ → List Call → List Answer
machine_answers w [] = []
machine_answers w (c ∷ cs) = (machine w c).answer ∷ machine_answers (machine w c).letters cs

-- What a call does to a tracker, by the definitions that the contracts of `add`, `take_back`, `clear`, `list` and `count` name.
unfoldable pub step : Tracker → Call → Step
step t (Call.add b) = adding t b
step t Call.take_back = taking_back t
step t Call.clear = clearing t
step t (Call.list out) = tracker_listing t out
step t Call.count = tracker_count t

-- the tracker after the calls, and its answers to them, from the tracker t on
unfoldable pub tracker_after : Tracker → List Call → Tracker
tracker_after t [] = t
tracker_after t (c ∷ cs) = tracker_after (step t c).tracker cs

unfoldable pub tracker_answers : Tracker → List Call → List Answer
tracker_answers t [] = []
tracker_answers t (c ∷ cs) = (step t c).answer ∷ tracker_answers (step t c).tracker cs

-- "Fresh: empty": the machine's word, and the tracker, after the calls from the start
unfoldable pub word_of : List Call → List ℕ
word_of calls = letters_after [] calls

unfoldable pub tracker_from : List Call → Tracker
tracker_from calls = tracker_after fresh_tracker calls
