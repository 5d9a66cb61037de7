-- A tracker as its five fields, which a caller lends to the calls in place, and what a call leaves there.
use Rattle.std.specs.Prelude.{ℕ, List}
use Rattle.abelian.specs.Answers.{Answer}
use Rattle.abelian.specs.Trackers.{Step}
use Rattle.abelian.specs.declared.Tracker.{Tracker}

-- the tracker of a length, its bytes, its board and the two totals
abbrev pub of_fields : ℕ → List ℕ → List ℕ → ℕ → ℕ → Tracker
of_fields len bytes board live ended = record { len = len; bytes = bytes; board = board; live = live; ended = ended }

-- the step of a call that leaves the tracker and gives the answer
abbrev pub as_step : Tracker → Answer → Step
as_step t a = record { tracker = t; answer = a }
