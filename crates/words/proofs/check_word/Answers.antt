-- `words::check_word` meets its contract: each of its three answers is the definition's.
use Rattle.std.proofs.Common.{false, refl, sym, ◌∙◌}
use Rattle.abelian.specs.Words.{longest}
use Rattle.abelian.proofs.Lists.{nonzero_none, nonzero_some}
use Rattle.words.proofs.Refusals.{long_refused, outside_refused, letters_accepted, accepted_letters, accepted_length}
use Rattle.words.proofs.check_word.Goals as goal

pub returns-then-word-gt-LONGEST : goal.returns-then-word-gt-LONGEST
unfolding longest
returns-then-word-gt-LONGEST c = rw (long_refused c.args.word.now false 0 0 c.if-word-gt-LONGEST.true) refl

pub invariant_of-result : goal.invariant_of-result
unfolding longest
invariant_of-result c =
    let accepted = letters_accepted c.args.word.now c.if-word-gt-LONGEST.false (nonzero_none _ (sym c.first_outside.ensures ∙ c.in-None.is)) in
    record { all = accepted_letters c.args.word.now accepted; short = accepted_length c.args.word.now accepted }

pub returns-in-Some : goal.returns-in-Some
unfolding longest
returns-in-Some c =
    let found = nonzero_some _ c.in-Some.position (sym c.first_outside.ensures ∙ c.in-Some.is) in
    rw (outside_refused c.args.word.now false 0 0 c.in-Some.position c.if-word-gt-LONGEST.false found.0 found.1) refl

pub returns-in-None : goal.returns-in-None
unfolding longest
returns-in-None c = rw (letters_accepted c.args.word.now c.if-word-gt-LONGEST.false (nonzero_none _ (sym c.first_outside.ensures ∙ c.in-None.is))) refl
