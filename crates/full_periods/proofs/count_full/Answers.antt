-- `full_periods::count_full` meets its contract: it is refused for its word, or counts the table of the full periods.
use Rattle.std.proofs.Common.{ℕ, List, ap, ◌∙◌, length}
use Rattle.std.proofs.lemmas.Result.{err_from_is_err_and}
use Rattle.abelian.specs.Calls.{full_words, full_count}
use Rattle.words.proofs.Listings.{refused_count, given_word, accepted_count}
use Rattle.full_periods.proofs.Listing.{steps_of_one, marked-count}
use Rattle.full_periods.proofs.count_full.Goals as goal

pub returns-in_err-word : goal.returns-in_err-word
unfolding full_count
returns-in_err-word c =
    let p = err_from_is_err_and c.from_residual.result c.from_residual.ensures.1 in
    rw (p.1, p.2) (refused_count c.args.word.now c.check_word.ensures (full_words c.args.word.now) c.in_err-word.was)

pub invariant_of-marked-clause-steps : goal.invariant_of-marked-clause-steps
invariant_of-marked-clause-steps c = steps_of_one _ _

pub returns : goal.returns
unfolding full_count
returns c =
    let w : List ℕ = c.args.word.now in
    accepted_count w c.check_word.ensures c.in_ok-word.was (full_words w)
    (c.count.ensures ∙ marked-count c.len.ensures.word c.len.ensures.value c.mark_full-marks.ensures ∙ ap (λ (u : List ℕ). length (full_words u)) (given_word w c.check_word.ensures c.in_ok-word.was))
