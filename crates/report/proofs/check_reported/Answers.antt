-- `report::check_reported` meets its contract: each of its three answers is the definition's.
use Rattle.std.proofs.Common.{◌≡◌, ◌≤◌, ◌∙◌, ℕ, List, Result, Ok, Err, true, false, length, sym, arith}
use Rattle.std.proofs.Math.Option.{none}
use Rattle.std.proofs.lemmas.Result.{err_from_is_err_and}
use Rattle.abelian.specs.Words.{all_equal}
use Rattle.abelian.specs.Refusals.{word_refusal, report_refusal}
use Rattle.abelian.specs.Answers.{accepted_unless}
use Rattle.abelian.specs.declared.Refusal.{Refusal}
use Rattle.abelian.specs.declared.Refusal.TheVariants.{OneLetter}
use Rattle.words.proofs.Refusals.{accepted_given, refused_some}
use Rattle.words.proofs.Listings.{accepted}
use Rattle.report.proofs.Refusals.{word_refused, equal_refused, unequal_accepted, fewer_accepted}
use Rattle.report.proofs.check_reported.Goals.{else-n-ge2-via-then-n-ge2+else-all_equal, else-n-ge2-via-else-n-ge2}
use Rattle.report.proofs.check_reported.Goals as goal

module _ (w : List ℕ) {o : Result (List ℕ) Refusal} (checked : o ≡ accepted_unless (word_refusal w false 0 0) w) where
  -- a word that `check_word` refuses is refused for the same reason
  refused : {r : Refusal} → o ≡ Err r → Err r ≡ accepted_unless (report_refusal w 0 0) w
  refused {r} e = rw (word_refused w (refused_some (word_refusal w false 0 0) r w (sym checked ∙ e)))

  module _ {given : List ℕ} (e : o ≡ Ok given) where
    -- one that it accepts is refused where it has two or more letters that are all equal
    equal : 2 ≤ length w → all_equal w ≡ true → Err OneLetter ≡ accepted_unless (report_refusal w 0 0) w
    equal h same = rw (equal_refused w (accepted w checked e) h same)

    -- and is handed back where it has not
    handed : report_refusal w 0 0 ≡ none → Ok given ≡ accepted_unless (report_refusal w 0 0) w
    handed none_found = rw (none_found, accepted_given (word_refusal w false 0 0) w (sym checked ∙ e))

pub returns-in_err-checked : goal.returns-in_err-checked
returns-in_err-checked c =
    let p = err_from_is_err_and c.from_residual.result c.from_residual.ensures.1 in
    rw (p.1, p.2) (refused c.args.word.now c.check_word.ensures c.in_err-checked.was)

pub returns-then-all_equal : goal.returns-then-all_equal
returns-then-all_equal c =
    let same : all_equal c.args.word.now ≡ true = sym c.all_equal.ensures ∙ c.if-all_equal.true in
    equal c.args.word.now c.check_word.ensures c.in_ok-checked.was (omega (arith, c.if-n-ge2.true)) same

pub returns : goal.returns
returns c =
    let w = c.args.word.now in
    let word = accepted w c.check_word.ensures c.in_ok-checked.was in
    handed w c.check_word.ensures c.in_ok-checked.was
    (elim c.else-n-ge2.branch [
      | else-n-ge2-via-then-n-ge2+else-all_equal v ↦ unequal_accepted w word (sym v.all_equal.ensures ∙ v.if-all_equal.false)
      | else-n-ge2-via-else-n-ge2 v ↦ fewer_accepted w word (omega (arith, v.if-n-ge2.false))
    ])
