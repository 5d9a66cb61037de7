-- The line is the one that `found` picks.
use Rattle.cycles.specs.Lines.{cover_line}
use Rattle.cycles.proofs.lines.write_cover.Goals as goal

pub write_bytes-requires : goal.write_bytes-requires
unfolding cover_line
write_bytes-requires c = rw c.if-found.true at c.requires

pub write_bytes-requires-else-found : goal.write_bytes-requires-else-found
unfolding cover_line
write_bytes-requires-else-found c = rw c.if-found.false at c.requires

pub returns-then-found : goal.returns-then-found
unfolding cover_line
returns-then-found c = rw c.if-found.true c.write_bytes.ensures

pub returns-else-found : goal.returns-else-found
unfolding cover_line
returns-else-found c = rw c.if-found.false c.write_bytes-else-found.ensures
