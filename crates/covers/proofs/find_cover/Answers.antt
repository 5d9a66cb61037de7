-- `covers::find_cover` meets its contract: what `check_word` answers decides between a refusal and the cover length.
use Rattle.std.proofs.lemmas.Result.{err_from_is_err_and}
use Rattle.covers.proofs.Answers.{refused_cover, found_cover}
use Rattle.covers.proofs.find_cover.Goals as goal

pub returns-in_err-word : goal.returns-in_err-word
returns-in_err-word c =
    let p = err_from_is_err_and c.from_residual.result c.from_residual.ensures.1 in
    rw (p.1, p.2) (refused_cover _ c.check_word.ensures c.in_err-word.was)

pub returns : goal.returns
returns c = found_cover _ c.check_word.ensures c.in_ok-word.was c.cover_length.ensures
