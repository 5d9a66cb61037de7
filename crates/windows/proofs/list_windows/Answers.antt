-- `windows::list_windows` meets its contract: a slice for which the windows are not counted has a place for each event.
use Rattle.std.proofs.lemmas.Result.{err_from_is_err_and}
use Rattle.std.proofs.Common.{length, ap, ◌∙◌, arith}
use Rattle.abelian.specs.Calls.{window_listing}
use Rattle.windows.specs.Sliding.{Sought}
use Rattle.windows.proofs.Windows.{few_windows}
use Rattle.windows.proofs.Answers.{list_refused, sought, list_slid}
use Rattle.windows.proofs.list_windows.Goals as goal

pub returns-in_err-search : goal.returns-in_err-search
returns-in_err-search c =
    let p = err_from_is_err_and c.from_residual.result c.from_residual.ensures.1 in
    rw (p.1, p.2) (list_refused _ _ c.check_both.ensures c.in_err-search.was c.args.out.now)

pub returns : goal.returns
returns c =
    let found = c.slide.ensures in
    let both = sought _ _ c.check_both.ensures c.in_ok-search.was in
    list_slid _ _ found.readable c.args.out.now _ found.value _ found.out_after
    (omega (arith, found.value, few_windows c.in_ok-search.search.pattern c.in_ok-search.search.events found.readable.some, ap (λ (s : Sought). length s.events) both))
    ∙ ap (λ (s : Sought). window_listing s.pattern s.events c.args.out.now) both
