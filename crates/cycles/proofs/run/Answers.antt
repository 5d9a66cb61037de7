-- The bytes that are read decide what is printed.
use Rattle.std.proofs.Common.{arith}
use Rattle.std.proofs.lemmas.Grind.{common_steps}
use Rattle.abelian.specs.Words.{longest}
use Rattle.cycles.proofs.Inputs.{first_bytes_decide}
use Rattle.cycles.proofs.run.Goals as goal

pub returns-clause-written : goal.returns-clause-written
unfolding longest
returns-clause-written g c = grind (arith, common_steps, first_bytes_decide)

pub returns-clause-consumed : goal.returns-clause-consumed
unfolding longest
returns-clause-consumed g c = grind (arith, common_steps)
