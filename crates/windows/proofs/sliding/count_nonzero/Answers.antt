-- `windows::sliding::count_nonzero` meets its contract: one entry more is 0 or not.
use Rattle.std.proofs.Common.{not, eqb, get_or, take, length-take, refl, add-one, arith}
use Rattle.abelian.specs.Words.{alphabet_size}
use Rattle.words.proofs.OneMore.{byte_le_1, flag_or_not}
use Rattle.windows.specs.Excess.{nonzero}
use Rattle.windows.proofs.Excess.{zero_or_not, nonzero-more, nonzero-le}
use Rattle.windows.proofs.sliding.count_nonzero.Goals as goal

pub loop-entry-init : goal.loop-entry-init
unfolding nonzero
loop-entry-init c = refl

pub overflow_add-found : goal.overflow_add-found
unfolding alphabet_size
overflow_add-found c =
    let u = c.args.entries in
    let j = c.loop-entry.entry-index in
    omega (arith, c.loop-entry.invariant, nonzero-le (take j u), length-take j u, byte_le_1 (not (eqb (get_or u j 0) 0)))

pub loop-entry-preserved : goal.loop-entry-preserved
loop-entry-preserved c =
    let u = c.args.entries in
    let j = c.loop-entry.entry-index in
    let zero = eqb (get_or u j 0) 0 in
    rw (add-one j) (omega (arith, c.loop-entry.invariant, flag_or_not (not zero), zero_or_not (not zero), nonzero-more u j (omega arith)))
