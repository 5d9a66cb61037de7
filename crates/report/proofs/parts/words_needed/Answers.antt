-- `report::parts::words_needed` meets its contract: the sum is the number of the report's words, which are few.
use Rattle.std.proofs.Common.{arith}
use Rattle.abelian.specs.Words.{longest}
use Rattle.abelian.specs.Trackers.{board_size}
use Rattle.report.specs.Places.{report_places}
use Rattle.report.proofs.Lengths.{parts_length, report_places_lem}
use Rattle.report.proofs.parts.words_needed.Goals as goal

pub overflow_add-result : goal.overflow_add-result
unfolding report_places longest board_size
overflow_add-result c = omega (arith, parts_length c.args.word.now, report_places_lem c.args.word.now c.len.ensures.word.short)

pub overflow_add-result-2 : goal.overflow_add-result-2
unfolding report_places longest board_size
overflow_add-result-2 c = omega (arith, parts_length c.args.word.now, report_places_lem c.args.word.now c.len.ensures.word.short)

pub overflow_add-result-3 : goal.overflow_add-result-3
unfolding report_places longest board_size
overflow_add-result-3 c = omega (arith, parts_length c.args.word.now, report_places_lem c.args.word.now c.len.ensures.word.short)

pub returns : goal.returns
returns c = omega (arith, parts_length c.args.word.now)
