-- `windows::check_both` meets its contract: each of its five answers is the definition's.
use Rattle.std.proofs.lemmas.Result.{err_from_is_err_and}
use Rattle.std.proofs.Common.{Ok, sym, ap, ◌∙◌, arith, eqb-true}
use Rattle.abelian.specs.Words.{alphabet_size, first_outside, of_letters}
use Rattle.abelian.specs.Windows.{longest_record}
use Rattle.abelian.proofs.Lists.{nonzero_none}
use Rattle.windows.specs.Sliding.{Sought}
use Rattle.windows.proofs.Answers.{both_word, both_empty, both_long, both_outside, both_given, given_readable}
use Rattle.windows.proofs.check_both.Goals as goal
use Rattle.windows.proofs.check_both.Goals.{then-not-all_letters+in_default, else-not-all_letters}

pub returns-in_err-pattern : goal.returns-in_err-pattern
returns-in_err-pattern c =
    let p = err_from_is_err_and c.from_residual.result c.from_residual.ensures.1 in
    rw (p.1, p.2) (both_word _ _ c.check_word.ensures c.in_err-pattern.was)

pub returns-then-len-eq0 : goal.returns-then-len-eq0
returns-then-len-eq0 c = both_empty _ _ c.check_word.ensures c.in_ok-pattern.was (omega arith)

pub returns-then-record-gt-LONGEST_RECORD : goal.returns-then-record-gt-LONGEST_RECORD
unfolding longest_record
returns-then-record-gt-LONGEST_RECORD c = both_long _ _ c.check_word.ensures c.in_ok-pattern.was (omega arith) (omega arith)

pub returns-in-Some : goal.returns-in-Some
unfolding longest_record
returns-in-Some c = both_outside _ _ c.check_word.ensures c.in_ok-pattern.was (omega arith) (omega arith) (sym c.first_outside.ensures ∙ c.in-Some.is)

pub new-requires : goal.new-requires
unfolding longest_record of_letters
new-requires c =
    given_readable _ _ c.check_word.ensures c.in_ok-pattern.was (omega arith) (omega arith) c.len.ensures.word
    (elim c.if-not-all_letters.branch [
      | then-not-all_letters+in_default w ↦ nonzero_none _ (sym w.first_outside.ensures ∙ w.in_default.is)
      | else-not-all_letters w ↦ eqb-true (first_outside alphabet_size c.args.«record».now) 0 (sym c.all_letters.ensures ∙ w.if-not-all_letters.false)
    ])

pub returns : goal.returns
unfolding longest_record of_letters
returns c =
    ap (λ (s : Sought). Ok s) c.new.ensures
    ∙ both_given _ _ c.check_word.ensures c.in_ok-pattern.was (omega arith) (omega arith)
    (elim c.if-not-all_letters.branch [
      | then-not-all_letters+in_default w ↦ nonzero_none _ (sym w.first_outside.ensures ∙ w.in_default.is)
      | else-not-all_letters w ↦ eqb-true (first_outside alphabet_size c.args.«record».now) 0 (sym c.all_letters.ensures ∙ w.if-not-all_letters.false)
    ])
