-- `report::count_report` meets its contract: it is refused for its word, or gives the number of the report's words.
use Rattle.std.proofs.Common.{◌∙◌, List, ℕ, ap, length}
use Rattle.std.proofs.lemmas.Result.{err_from_is_err_and}
use Rattle.abelian.specs.Calls.{report_words}
use Rattle.report.proofs.Refusals.{refused_count, given_word, reported, report_counted}
use Rattle.report.proofs.count_report.Goals as goal

pub returns-in_err-counted : goal.returns-in_err-counted
returns-in_err-counted c =
    let p = err_from_is_err_and c.from_residual.result c.from_residual.ensures.1 in
    rw (p.1, p.2) (refused_count c.args.word.now c.check_reported.ensures c.in_err-counted.was)

pub returns : goal.returns
returns c =
    let w = c.args.word.now in
    report_counted w (reported w c.check_reported.ensures c.in_ok-counted.was) c.words_needed.result
    (c.words_needed.ensures ∙ ap (λ (v : List ℕ). length (report_words v)) (given_word w c.check_reported.ensures c.in_ok-counted.was))
