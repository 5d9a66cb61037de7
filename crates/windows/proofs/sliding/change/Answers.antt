-- `windows::sliding::change` meets its contract: the entry that is changed is the only one that may have become 0 or ceased to be.
use Rattle.std.proofs.Common.{◌+◌, ◌%◌, eqb, get_or, arith}
use Rattle.abelian.specs.Words.{alphabet_size}
use Rattle.words.proofs.OneMore.{flag_or_not}
use Rattle.windows.proofs.Excess.{nonzero-le, nonzero_at, nonzero-set}
use Rattle.windows.proofs.sliding.change.Goals as goal

pub overflow_add-result : goal.overflow_add-result
unfolding alphabet_size
overflow_add-result c =
    omega (arith, c.requires, nonzero-le c.args.entries.now, flag_or_not (eqb (get_or c.args.entries.now c.args.place 0) 0))

pub overflow_sub-result : goal.overflow_sub-result
overflow_sub-result c =
    let u = c.args.entries.now in
    let j = c.args.place in
    omega (arith, c.requires, flag_or_not (eqb (get_or u j 0) 0), flag_or_not (eqb ((get_or u j 0 + c.args.by) % 256) 0), nonzero_at u j (omega (arith, c.requires)))

pub returns-clause-value : goal.returns-clause-value
returns-clause-value c =
    let u = c.args.entries.now in
    let j = c.args.place in
    let x = (get_or u j 0 + c.args.by) % 256 in
    omega (arith, c.requires, flag_or_not (eqb (get_or u j 0) 0), flag_or_not (eqb x 0), nonzero-set u j x (omega (arith, c.requires)))
