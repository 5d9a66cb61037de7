-- `judge::judge` meets its contract: what `check_word` and `in_range` answer decides between a refusal and the walk.
use Rattle.std.proofs.lemmas.Result.{err_from_is_err_and}
use Rattle.abelian.specs.Periods.{pair}
use Rattle.judge.proofs.Answers.{refused_judging, outside_judging, inside_judging}
use Rattle.judge.proofs.judge.Goals as goal

pub returns-in_err-word : goal.returns-in_err-word
returns-in_err-word c =
    let p = err_from_is_err_and c.from_residual.result c.from_residual.ensures.1 in
    rw (p.1, p.2) (refused_judging c.args.word.now (pair c.args.head.0 c.args.period.0) c.check_word.ensures c.in_err-word.was)

pub returns-then-not-in_range : goal.returns-then-not-in_range
returns-then-not-in_range c =
    outside_judging c.args.word.now (pair c.args.head.0 c.args.period.0) c.check_word.ensures c.in_ok-word.was c.len.ensures.value c.in_range.ensures c.if-not-in_range.true

pub returns : goal.returns
returns c =
    inside_judging c.args.word.now (pair c.args.head.0 c.args.period.0) c.check_word.ensures c.in_ok-word.was c.len.ensures.value c.in_range.ensures c.if-not-in_range.false
    c.first_failure.ensures
