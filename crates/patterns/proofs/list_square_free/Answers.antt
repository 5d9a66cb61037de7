-- `patterns::list_square_free` meets its contract: it is refused as the alphabet and the length are, or for more words than places, or the words found fill the first
-- places.
use Rattle.std.proofs.Common.{arith}
use Rattle.std.proofs.lemmas.Result.{err_from_is_err_and}
use Rattle.patterns.proofs.Answers.{list_refused, list_short, list_written}
use Rattle.patterns.proofs.list_square_free.Goals as goal

pub returns-in_err-sizes : goal.returns-in_err-sizes
returns-in_err-sizes c =
    let p = err_from_is_err_and c.from_residual.result c.from_residual.ensures.1 in
    rw (p.1, p.2) (list_refused _ _ c.check_sizes.ensures c.in_err-sizes.was c.args.out.now)

pub returns-then-needed-out : goal.returns-then-needed-out
returns-then-needed-out c = list_short _ _ c.check_sizes.ensures c.in_ok-sizes.was c.number_of_words-needed.ensures _ (omega arith)

pub returns : goal.returns
returns c =
    let found = c.find_all.ensures in
    list_written _ _ c.check_sizes.ensures c.in_ok-sizes.was c.number_of_words-needed.ensures _ (omega arith) found.value found.out_after
