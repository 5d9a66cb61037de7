-- `report::report` meets its contract: each of its three answers is the definition's, since the count is that of the report's words, and a slice for
-- which it is not counted has places enough.
use Rattle.std.proofs.Common.{◌≤◌, ◌∙◌, ℕ, List, length, ap, arith}
use Rattle.std.proofs.lemmas.Result.{err_from_is_err_and}
use Rattle.abelian.specs.Words.{longest}
use Rattle.abelian.specs.Trackers.{board_size}
use Rattle.abelian.specs.Answers.{writing}
use Rattle.abelian.specs.Output.{fill}
use Rattle.abelian.specs.Calls.{report_words}
use Rattle.report.specs.Places.{report_places}
use Rattle.report.proofs.Refusals.{refused_report, given_word, reported, reported_length, report_short, report_written}
use Rattle.report.proofs.Lengths.{report_places_lem}
use Rattle.report.proofs.report.Goals.{Joined-out-lt-PLACES, then-out-lt-PLACES+else-out-needed, else-out-lt-PLACES}
use Rattle.report.proofs.report.Goals as goal

-- past both tests the slice has places enough
fits : (c : Joined-out-lt-PLACES) → length (report_words c.in_ok-reported.reported) ≤ length c.args.out.now
unfolding report_places longest board_size
fits c =
    let w = c.args.word.now in
    let short = reported_length w (reported w c.check_reported.ensures c.in_ok-reported.was) in
    let same = given_word w c.check_reported.ensures c.in_ok-reported.was in
    elim c.if-out-lt-PLACES.branch [
      | then-out-lt-PLACES+else-out-needed v ↦ omega (arith, v.words_needed-needed.ensures, v.if-out-needed.false)
      | else-out-lt-PLACES v ↦ omega (arith, v.if-out-lt-PLACES.false, report_places_lem w short, ap (λ (x : List ℕ). length (report_words x)) same)
    ]

pub returns-in_err-reported : goal.returns-in_err-reported
returns-in_err-reported c =
    let p = err_from_is_err_and c.from_residual.result c.from_residual.ensures.1 in
    rw (p.1, p.2) (refused_report c.args.word.now c.check_reported.ensures c.in_err-reported.was c.args.out.now)

pub returns-then-out-needed : goal.returns-then-out-needed
returns-then-out-needed c =
    let w = c.args.word.now in
    let same = given_word w c.check_reported.ensures c.in_ok-reported.was in
    let needed = c.words_needed-needed.ensures ∙ ap (λ (v : List ℕ). length (report_words v)) same in
    report_short w (reported w c.check_reported.ensures c.in_ok-reported.was) c.args.out.now c.words_needed-needed.result needed (omega (arith, c.if-out-needed.true))

pub write_parts-written-requires : goal.write_parts-written-requires
write_parts-written-requires c = fits (goal.at.write_parts-written-requires c).Joined-out-lt-PLACES

pub returns : goal.returns
returns c =
    let w = c.args.word.now in
    let out = c.args.out.now in
    let call = c.write_parts-written in
    let same = given_word w c.check_reported.ensures c.in_ok-reported.was in
    let number = call.ensures.value ∙ ap (λ (v : List ℕ). length (report_words v)) same in
    let room = fits (goal.at.returns c).Joined-out-lt-PLACES in
    ap (writing call.result 0 0 0) (call.ensures.out_after ∙ ap (λ (v : List ℕ). fill (report_words v) out) same)
    ∙ report_written w (reported w c.check_reported.ensures c.in_ok-reported.was) out call.result number (omega (arith, room, call.ensures.value))
