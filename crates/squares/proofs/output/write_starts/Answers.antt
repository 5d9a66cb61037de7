-- `squares::output::write_starts` meets its contract: a marked start's word stands behind the others.
use Rattle.std.proofs.Common.{◌≡◌, ◌∙◌, ◌+◌, ◌≤◌, ◌<◌, ℕ, List, [], ◌∷◌, refl, sym, ap, ap₂, arith, length, map, get_or, set, length-append}
use Rattle.abelian.specs.Output.{square_word, fill}
use Rattle.squares.specs.Marks.{marked_starts}
use Rattle.squares.proofs.Candidates.{marked_up_to, marked_rises, marked_more, marked_no_more, write_more}
use Rattle.squares.proofs.output.write_starts.Invariants.{Writing}
use Rattle.squares.proofs.output.write_starts.Goals as goal
use Rattle.squares.proofs.output.write_starts.Goals.{then-mark-eq1, else-mark-eq1}

pub loop-i-init : goal.loop-i-init
unfolding fill
loop-i-init c = record { reached = refl; few = omega arith; written = refl }

-- a marked start's word has a place
room : {half : ℕ} {marks before out : List ℕ} {at i : ℕ} → Writing half marks before out at i → i < length marks → get_or marks i 0 ≡ 1 → length (marked_starts marks) ≤ length out → at < length out
room {half} {marks} {before} {out} {at} {i} h within mark all =
    omega (arith, h.reached, marked_rises marks (i + 1) (omega arith), ap length (marked_more marks i mark), length-append (marked_up_to marks i) ((i + 1) ∷ []))

pub bounds-out-at : goal.bounds-out-at
bounds-out-at c = room c.loop-i.invariant c.loop-i-test.true c.if-mark-eq1.true (omega arith)

pub loop-i-preserved : goal.loop-i-preserved
unfolding square_word
loop-i-preserved c =
    let marks = c.args.marks.now in
    let i = c.loop-i.i in
    let h : Writing c.args.half marks c.args.out.now c.loop-i.out c.loop-i.at i = c.loop-i.invariant in
    elim c.if-mark-eq1.branch [
      | then-mark-eq1 w ↦ record {
        reached = omega (arith, w.at-is, h.reached, ap length (marked_more marks i w.if-mark-eq1.true), length-append (marked_up_to marks i) ((i + 1) ∷ []));
        few = omega (arith, w.at-is, h.few);
        written =
            w.out-is ∙ ap₂ (λ (l : List ℕ) (k : ℕ). set l c.loop-i.at k) h.written w.output_word.ensures
            ∙ write_more marks i c.args.half c.loop-i.at c.args.out.now h.reached w.if-mark-eq1.true (omega (arith, room h c.loop-i-test.true w.if-mark-eq1.true (omega arith)));
      }
      | else-mark-eq1 w ↦ record {
        reached = w.at-is ∙ h.reached ∙ ap length (sym (marked_no_more marks i w.if-mark-eq1.false));
        few = omega (arith, w.at-is, h.few);
        written = w.out-is ∙ h.written ∙ ap (λ (l : List ℕ). fill (map (square_word c.args.half) l) c.args.out.now) (sym (marked_no_more marks i w.if-mark-eq1.false));
      }
    ]

pub returns : goal.returns
unfolding marked_starts
returns c =
    let e : c.loop-i.i ≡ length c.args.marks.now = omega arith in
    record { value = rw e at c.loop-i.invariant.reached; out_after = rw e at c.loop-i.invariant.written }
