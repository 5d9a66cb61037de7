-- `words::first_outside` meets its contract: the loop stops at the first byte that is no letter.
use Rattle.std.proofs.Common.{rules, ap, sym, ◌∙◌, arith}
use native.Mathlib.Numerals.{add-one}
use Rattle.abelian.specs.Lists.{nonzero}
use Rattle.words.proofs.Outside.{outside_here, outside_later, outside_none}
use Rattle.words.proofs.first_outside.Goals as goal

pub returns-then-not-is_letter : goal.returns-then-not-is_letter
returns-then-not-is_letter c =
    rw (add-one c.loop-i.i, c.loop-i.invariant, outside_here c.args.bytes.now c.loop-i.i c.loop-i-test.true (sym c.is_letter.ensures ∙ c.if-not-is_letter.true)) search rules

pub loop-i-preserved : goal.loop-i-preserved
loop-i-preserved c =
    c.loop-i.invariant ∙ outside_later c.args.bytes.now c.loop-i.i c.loop-i-test.true (sym c.is_letter.ensures ∙ c.if-not-is_letter.false)

pub returns : goal.returns
returns c = ap nonzero (sym (c.loop-i.invariant ∙ outside_none c.args.bytes.now c.loop-i.i (omega arith)))
