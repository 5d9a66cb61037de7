-- The report is never refused for want of places, so its words are printed line by line, and its refusal as one line.
use Rattle.std.proofs.Common.{◌≡◌, ◌≤◌, ℕ, List, length, take, sym, arith, rules}
use lib.Seq.{length-take-le}
use Rattle.abelian.specs.Words.{longest}
use Rattle.abelian.specs.Trackers.{board_size}
use Rattle.report.specs.Places.{report_places}
use Rattle.cycles.specs.Reports.{longest_text, text_of}
use Rattle.cycles.proofs.Lengths.{text_short, refusal_short}
use Rattle.cycles.proofs.Printing.{Reported, words_reported, refusal_reported}
use Rattle.cycles.proofs.answer.write_answer.Goals as goal

pub slice_bounds-words-end : goal.slice_bounds-words-end
unfolding report_places longest board_size
slice_bounds-words-end c =
    let told : Reported c.args.word.now c.report.new.out c.in-Ok.n = words_reported _ _ _ (search rules) _ c.in-Ok.ensures in
    told.within

pub slice_bounds-write_report-end : goal.slice_bounds-write_report-end
unfolding report_places longest board_size
slice_bounds-write_report-end c =
    let told : Reported c.args.word.now c.report.new.out c.in-Ok.n = words_reported _ _ _ (search rules) _ c.in-Ok.ensures in
    sym (length-take-le c.in-Ok.n c.report.new.out told.within)

pub write_report-requires-clause-in_bounds : goal.write_report-requires-clause-in_bounds
unfolding report_places longest board_size
write_report-requires-clause-in_bounds c =
    let told : Reported c.args.word.now c.report.new.out c.in-Ok.n = words_reported _ _ _ (search rules) _ c.in-Ok.ensures in
    omega (arith, length-take-le c.in-Ok.n c.report.new.out told.within, told.some)

-- no text of so few words is too long
short : (words : List ℕ) (n places : ℕ) → length words ≡ n → n ≤ report_places → longest_text ≤ places → length (text_of words) ≤ places
short words n places e few h = omega (arith, text_short words (omega (arith, e, few)), h)

pub write_report-requires-clause-words_in_bounds : goal.write_report-requires-clause-words_in_bounds
unfolding report_places longest board_size
write_report-requires-clause-words_in_bounds c =
    let told : Reported c.args.word.now c.report.new.out c.in-Ok.n = words_reported _ _ _ (search rules) _ c.in-Ok.ensures in
    short (take c.in-Ok.n c.report.new.out) c.in-Ok.n _ (length-take-le c.in-Ok.n c.report.new.out told.within) told.few c.requires

pub write_refusal-requires : goal.write_refusal-requires
write_refusal-requires c = omega (arith, refusal_short c.in-Err.refusal, c.requires)

pub returns-in-Ok : goal.returns-in-Ok
unfolding report_places longest board_size
returns-in-Ok c =
    let told : Reported c.args.word.now c.report.new.out c.in-Ok.n = words_reported _ _ _ (search rules) _ c.in-Ok.ensures in
    rw told.text at c.write_report.ensures

pub returns-in-Err : goal.returns-in-Err
unfolding report_places longest board_size
returns-in-Err c =
    let told = refusal_reported _ _ _ (search rules) c.in-Err.refusal c.in-Err.ensures in
    rw told at c.write_refusal.ensures
