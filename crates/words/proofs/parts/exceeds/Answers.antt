-- `words::parts::exceeds` meets its contract: one place more shows it, or not.
use Rattle.std.proofs.Common.{refl, arith}
use lib.Dec.{leb}
use Rattle.abelian.specs.Words.{none_above}
use Rattle.words.proofs.Pairwise.{fails_more, fails_all, above_not_le}
use Rattle.words.proofs.parts.exceeds.Goals as goal

pub loop-j-init : goal.loop-j-init
unfolding none_above
loop-j-init c = refl

pub loop-j-preserved : goal.loop-j-preserved
unfolding none_above
loop-j-preserved c =
    fails_more leb none_above refl (λ a b u v. refl) c.args.u c.args.v c.loop-j.found c.loop-j.j c.loop-j.invariant _ (omega arith) (omega arith) (above_not_le _ _)

pub returns : goal.returns
unfolding none_above
returns c = fails_all leb none_above refl (λ a b u v. refl) c.args.u c.args.v c.loop-j.found c.loop-j.j c.loop-j.invariant (omega arith) (omega arith)
