-- `patterns::count_square_free` meets its contract: it is refused as the alphabet and the length are, or the number found is that of the list's words.
use Rattle.std.proofs.lemmas.Result.{err_from_is_err_and}
use Rattle.patterns.proofs.Answers.{count_refused, counted}
use Rattle.patterns.proofs.count_square_free.Goals as goal

pub returns-in_err-sizes : goal.returns-in_err-sizes
returns-in_err-sizes c =
    let p = err_from_is_err_and c.from_residual.result c.from_residual.ensures.1 in
    rw (p.1, p.2) (count_refused _ _ c.check_sizes.ensures c.in_err-sizes.was)

pub returns : goal.returns
returns c = counted _ _ c.check_sizes.ensures c.in_ok-sizes.was c.number_of_words.ensures
