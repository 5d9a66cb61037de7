-- `full_periods::counts::is_multiple` meets its contract: a product of a count fits, and all places are tried.
use Rattle.std.proofs.Common.{◌≡◌, ℕ, ◌*◌, ◌≤◌, ◌∙◌, ap, arith, Bool, not}
use Rattle.std.proofs.Math.Nat.{mul-le-mul}
use mathlib.Core.Bool.{not-not}
use Rattle.abelian.specs.Lists.{up_from, all}
use Rattle.abelian.specs.Words.{alphabet_size, longest}
use Rattle.full_periods.specs.Divisors.{is_multiple}
use Rattle.full_periods.proofs.Multiples.{fits, tried-more}
use Rattle.full_periods.proofs.counts.is_multiple.Goals as goal

pub overflow_mul-differing : goal.overflow_mul-differing
unfolding longest
overflow_mul-differing c =
    let b : c.from-in-loop-j.result ≤ 255 = omega arith in
    let m : c.args.times * c.from-in-loop-j.result ≤ longest * 255 = mul-le-mul c.requires b in
    omega arith

pub loop-j-preserved : goal.loop-j-preserved
loop-j-preserved c = rw (c.from.ensures, c.from-in-loop-j.ensures) (tried-more (fits c.args.counts c.args.times c.args.unit) c.loop-j.j c.loop-j.invariant)

pub returns : goal.returns
unfolding is_multiple alphabet_size
returns c =
    let f : ℕ → Bool = fits c.args.counts c.args.times c.args.unit in
    let e : c.loop-j.j ≡ alphabet_size = omega arith in
    ap not c.loop-j.invariant ∙ not-not (all f (up_from 0 c.loop-j.j)) ∙ ap (λ (k : ℕ). all f (up_from 0 k)) e
