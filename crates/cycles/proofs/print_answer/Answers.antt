-- The array has places for every text, and what is handed on was written.
use Rattle.std.proofs.Common.{ℕ, sym, arith}
use Rattle.std.proofs.lemmas.List.{length-replicate}
use native.Mathlib.Nat.{le_of_eq}
use lib.Seq.{length-take-le}
use Rattle.abelian.specs.Words.{longest}
use Rattle.abelian.specs.Trackers.{board_size}
use Rattle.report.specs.Places.{report_places}
use Rattle.cycles.specs.Reports.{longest_line, longest_text}
use Rattle.cycles.proofs.Writing.{written_within, written_front}
use Rattle.cycles.proofs.print_answer.Goals as goal

pub slice_bounds-answer-end : goal.slice_bounds-answer-end
slice_bounds-answer-end g c = sym (length-replicate {0} {A = ℕ} 549879 0)

pub answer-n-requires : goal.answer-n-requires
unfolding longest_text report_places longest_line longest board_size
answer-n-requires g c = le_of_eq (slice_bounds-answer-end g c)

pub slice_bounds-text-end : goal.slice_bounds-text-end
slice_bounds-text-end g c = omega (arith, written_within c.answer-n.ensures)

pub slice_bounds-write_all-end : goal.slice_bounds-write_all-end
slice_bounds-write_all-end g c = sym (length-take-le _ _ (omega (arith, written_within c.answer-n.ensures)))

pub returns : goal.returns
returns g c = rw (written_front c.answer-n.ensures) at c.write_all.ensures.bytes
