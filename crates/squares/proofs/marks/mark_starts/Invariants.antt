-- `squares::marks::mark_starts`: the first i starts are marked, and the squares among them counted.
use Rattle.std.proofs.Common.{◌≡◌, ◌≤◌, length}
use Rattle.abelian.specs.Output.{fill}
use Rattle.squares.proofs.Candidates.{first_marks, first_starts}
use Rattle.squares.proofs.marks.mark_starts.Given as goal

abbrev pub invariant-loop-i : goal.invariant-loop-i
invariant-loop-i l = record {
  marked : l.place-items ≡ fill (first_marks l.word l.half l.i) l.initial.place-items;
  counted : l.found ≡ length (first_starts l.word l.half l.i);
  few : l.found ≤ l.i;
}
