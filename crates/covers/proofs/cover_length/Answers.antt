-- `covers::cover_length` meets its contract: the laws of `Search`, turn by turn. The loop's test goes to `omega`, so that another test is refused at what it makes false.
use Rattle.std.proofs.Common.{ℕ, List, refl, sym, ap, subst, ◌∙◌, arith}
use Rattle.abelian.specs.Lists.{nonzero}
use Rattle.abelian.specs.Words.{letters, count, vector}
use Rattle.abelian.specs.Covers.{cover_length}
use Rattle.words.specs.Prefixes.{IsWord}
use Rattle.covers.proofs.Search.{none_passed, can_count_first, can_count_last, passed_found, passed_on, all_passed}
use Rattle.covers.proofs.cover_length.Goals as goal
use Rattle.covers.proofs.cover_length.Goals.{then-differ-eq0, else-differ-eq0}

pub loop-left-init : goal.loop-left-init
unfolding vector letters count
loop-left-init c = none_passed (subst IsWord (sym c.letters-letters.ensures.value) c.letters-letters.ensures.word) refl

pub count_letter-differ-requires : goal.count_letter-differ-requires
count_letter-differ-requires c = can_count_first _ c.loop-left.invariant (omega arith) _ refl

pub count_letter-differ-requires-in-loop-left : goal.count_letter-differ-requires-in-loop-left
count_letter-differ-requires-in-loop-left c =
    let counted = c.count_letter-differ.ensures in
    can_count_last _ c.loop-left.invariant (omega arith) _ refl counted.counts_after counted.value

pub loop-left-preserved : goal.loop-left-preserved
loop-left-preserved c =
    let counted = c.count_letter-differ.ensures in
    let both = c.count_letter-differ-in-loop-left.ensures in
    let h = c.loop-left.invariant in
    elim c.if-differ-eq0.branch [
      | then-differ-eq0 w ↦ passed_found _ h (omega arith) _ refl counted.counts_after counted.value both.counts_after both.value w.if-differ-eq0.true w.found-is
      | else-differ-eq0 w ↦ passed_on _ h (omega arith) _ refl counted.counts_after counted.value both.counts_after both.value w.if-differ-eq0.false w.found-is
    ]

pub returns : goal.returns
returns c = all_passed _ c.loop-left.invariant (omega arith) ∙ ap (λ (w : List ℕ). nonzero (cover_length w)) c.letters-letters.ensures.value
