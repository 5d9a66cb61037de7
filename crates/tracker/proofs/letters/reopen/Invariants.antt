-- The entries passed have been made anew, and the rest is as it was.
use Rattle.std.proofs.Common.{◌≡◌, ◌++◌, map, take, drop}
use Rattle.tracker.specs.Steps.{entry_reopened}
use Rattle.tracker.proofs.letters.reopen.Given as goal

abbrev pub invariant-loop-entry : goal.invariant-loop-entry
invariant-loop-entry l = l.board ≡ map (entry_reopened l.len) (take l.entry-index l.initial.board) ++ drop l.entry-index l.initial.board
