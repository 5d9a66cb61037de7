-- `runs::starts::starts_run` meets its contract, by the laws of marks.
use Rattle.runs.proofs.Marks.{first_starts_lem, later_starts}
use Rattle.runs.proofs.starts.starts_run.Goals as goal

pub returns-then-start-row : goal.returns-then-start-row
returns-then-start-row c =
    let row = c.args.row.now in
    first_starts_lem row.word.now row.marks.now row.period c.args.start row.marked c.requires.0 c.requires.1 c.if-start-row.true

pub returns-else-start-row : goal.returns-else-start-row
returns-else-start-row c =
    let row = c.args.row.now in
    later_starts row.word.now row.marks.now row.period c.args.start row.marked c.requires.0 c.requires.1 c.if-start-row.false
