-- `judge::breaks_rule` meets its contract: each way of the branch is that of `pick`.

use Rattle.judge.proofs.breaks_rule.Goals as goal

pub returns-then-end : goal.returns-then-end
returns-then-end c = rw c.if-end.true

pub returns-else-end : goal.returns-else-end
returns-else-end c = rw c.if-end.false
