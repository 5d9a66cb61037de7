-- The replay of a log of calls: bytes as calls from a fresh tracker, and then one list.
use Rattle.std.specs.Prelude.{ℕ, ◌+◌, List, [], ◌∷◌, map, eqb, ltb}
use Rattle.abelian.specs.Lists.{pick, one}
use Rattle.abelian.specs.Answers.{Answer}
use Rattle.abelian.specs.declared.Tracker.{Tracker}
use Rattle.history.specs.Machine.{Call, machine}
use Rattle.history.specs.Calls.{machine_answers, word_of}
use Rattle.history.specs.TrackerHolding.{tracker_holding}

-- byte 45 (`-`) takes back, byte 33 (`!`) clears, any other byte is added
unfoldable pub call_of : ℕ → Call
call_of b = pick (eqb b 45) Call.take_back (pick (eqb b 33) Call.clear (Call.add b))

-- how many of the answers are refusals
unfoldable pub refusals : List Answer → ℕ
refusals [] = 0
refusals (a ∷ rest) = one (ltb 0 a.number) + refusals rest

-- what a replay gives: the tracker after the calls, how many of these were refused, and the answer of the list with the slice afterwards
pub record Replay : Type 0 where
  pub tracker : Tracker
  pub refused : ℕ
  pub answer : Answer

-- the replay that leaves the tracker, with so many calls refused and the answer of its list
abbrev pub as_replay : Tracker → ℕ → Answer → Replay
as_replay t k a = record { tracker = t; refused = k; answer = a }

-- all of it by the machine: the tracker of its word, its refusals, and its answer to the list
unfoldable pub replaying : List ℕ → List ℕ → Replay
replaying bytes out =
    let calls : List Call = map call_of bytes in
    as_replay (tracker_holding (word_of calls)) (refusals (machine_answers [] calls)) (machine (word_of calls) (Call.list out)).answer
