-- `full_periods::list_full` meets its contract: it is refused for its word, or lists the table of the full periods.
use Rattle.std.proofs.Common.{◌≡◌, ℕ, List, map, ap, ◌∙◌}
use Rattle.std.proofs.lemmas.Result.{err_from_is_err_and}
use Rattle.abelian.specs.Output.{full_word}
use Rattle.abelian.specs.Calls.{full_words, full_listing}
use Rattle.words.proofs.Listings.{refused_listing, given_word, accepted}
use Rattle.full_periods.specs.Marks.{marked}
use Rattle.full_periods.proofs.Listing.{steps_of_one, marked_words, listed_answer}
use Rattle.full_periods.proofs.list_full.Goals as goal

pub returns-in_err-word : goal.returns-in_err-word
unfolding full_listing
returns-in_err-word c =
    let p = err_from_is_err_and c.from_residual.result c.from_residual.ensures.1 in
    rw (p.1, p.2) (refused_listing c.args.word.now c.check_word.ensures c.args.out.now (full_words c.args.word.now) 0 0 0 c.in_err-word.was)

pub invariant_of-marked-clause-steps : goal.invariant_of-marked-clause-steps
invariant_of-marked-clause-steps c = steps_of_one _ _

pub returns : goal.returns
unfolding full_listing
returns c =
    let w : List ℕ = c.args.word.now in
    let e : map (full_word c.len.result) (marked c.len.result c.mark_full-marks.result) ≡ full_words w =
    marked_words c.len.ensures.word c.len.ensures.value c.mark_full-marks.ensures ∙ ap full_words (given_word w c.check_word.ensures c.in_ok-word.was) in
    listed_answer w c.args.out.now (full_words w) (accepted w c.check_word.ensures c.in_ok-word.was) c.list.result c.list.new.out (rw e at c.list.ensures)
