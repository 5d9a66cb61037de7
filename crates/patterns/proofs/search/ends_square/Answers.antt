-- `patterns::search::ends_square` meets its contract: totals are small, and a half length more has been passed.
use Rattle.std.proofs.Common.{◌≡◌, ℕ, ◌*◌, ◌≤◌, false, sym, ◌∙◌, arith, below_more, eq-eqb, ne_eqb}
use Rattle.abelian.specs.Patterns.{longest_square_free}
use Rattle.patterns.specs.Search.{halves_agree}
use Rattle.patterns.proofs.Ends.{agree_ends, apart_ends, agree_at}
use Rattle.patterns.proofs.search.ends_square.Goals as goal

pub overflow_add-whole : goal.overflow_add-whole
unfolding longest_square_free
overflow_add-whole c =
    let small = c.requires.small in
    record { fits = omega (arith, c.requires.short, small 0 (omega arith) (omega arith), small (2 * c.loop-half.half) (omega arith) (omega arith)) }

pub overflow_mul-middle : goal.overflow_mul-middle
unfolding longest_square_free
overflow_mul-middle c = record { fits = omega (arith, c.requires.short, c.requires.small c.loop-half.half (omega arith) (omega arith)) }

pub returns-then-whole-front : goal.returns-then-whole-front
returns-then-whole-front c =
    agree_ends c.args.totals.now c.loop-half.half (omega arith) (omega arith) (sym (agree_at c.args.totals.now c.loop-half.half) ∙ eq-eqb _ _ c.if-whole-front.true)

pub loop-half-preserved : goal.loop-half-preserved
loop-half-preserved c = λ q f l.
    below_more (λ (k : ℕ). 1 ≤ k → halves_agree c.args.totals.now k ≡ false) c.loop-half.half (λ k m g. c.loop-half.invariant k g m)
    (λ g. sym (agree_at c.args.totals.now c.loop-half.half) ∙ ne_eqb _ _ c.if-whole-front.false) q l f

pub returns : goal.returns
returns c = apart_ends c.args.totals.now (λ q f l. c.loop-half.invariant q f (omega arith))
