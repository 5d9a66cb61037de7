-- `windows::count_windows` meets its contract: it is refused as the pattern and the record are, or the number found is that of the list's words.
use Rattle.std.proofs.lemmas.Result.{err_from_is_err_and}
use Rattle.windows.proofs.Answers.{count_refused, counted}
use Rattle.windows.proofs.count_windows.Goals as goal

pub returns-in_err-search : goal.returns-in_err-search
returns-in_err-search c =
    let p = err_from_is_err_and c.from_residual.result c.from_residual.ensures.1 in
    rw (p.1, p.2) (count_refused _ _ c.check_both.ensures c.in_err-search.was)

pub returns : goal.returns
returns c = counted _ _ c.check_both.ensures c.in_ok-search.was _ c.number_of_windows.ensures
