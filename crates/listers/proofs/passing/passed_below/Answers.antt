-- `listers::passing::passed_below` meets its contract.
use borrow.Author.Tests.{lt-ltb, le-ltb}
use Rattle.listers.proofs.passing.passed_below.Goals as goal

pub returns-then-period-lowest : goal.returns-then-period-lowest
returns-then-period-lowest c = rw (lt-ltb _ _ c.if-period-lowest.true)

pub returns-else-period-lowest : goal.returns-else-period-lowest
returns-else-period-lowest c = rw (le-ltb _ _ c.if-period-lowest.false)
