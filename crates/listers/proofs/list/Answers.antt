-- `listers::list` meets its contract: the Abelian periods stay open, and are listed.
use Rattle.std.proofs.Common.{◌∙◌}
use Rattle.std.proofs.lemmas.Result.{err_from_is_err_and}
use Rattle.abelian.specs.Calls.{period_words}
use Rattle.words.proofs.Listings.{refused_listing, accepted, given_word}
use Rattle.listers.proofs.Listings.{periods_listed}
use Rattle.listers.proofs.list.Goals as goal

pub returns-in_err-word : goal.returns-in_err-word
returns-in_err-word g c =
    let p = err_from_is_err_and c.from_residual.result c.from_residual.ensures.1 in
    rw (p.1, p.2) (refused_listing c.args.word.now c.check_word.ensures c.args.out.now (period_words c.args.word.now) (g.L.Tries.trials c.args.word.now) 0 0 c.in_err-word.was)

pub returns : goal.returns
returns g c =
    let w = c.args.word.now in
    c.list_open.ensures
    ∙ periods_listed w c.args.out.now g.L.Tries.trials (accepted w c.check_word.ensures c.in_ok-word.was) (given_word w c.check_word.ensures c.in_ok-word.was) c.len.ensures.value
    c.end_others-found.ensures
