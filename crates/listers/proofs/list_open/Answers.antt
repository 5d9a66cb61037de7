-- `listers::list_open` meets its contract: the open pairs are written where they fit.
use Rattle.std.proofs.Common.{◌≡◌, ◌∙◌, sym, ap, ℕ, arith, length, map}
use Rattle.std.proofs.Math.ListN.{length-map}
use mathlib.Core.Path.{ap₂}
use borrow.Author.Tests.{lt-ltb, le-ltb}
use Rattle.abelian.specs.Output.{period_word}
use Rattle.abelian.specs.Trackers.{open_pairs}
use Rattle.abelian.specs.Answers.{refusing, writing}
use Rattle.abelian.specs.declared.Refusal.TheVariants.{SliceTooShort}
use Rattle.listers.specs.OpenListing.{words_listed, open_listing}
use Rattle.listers.proofs.list_open.Goals as goal

pub returns-then-out-words : goal.returns-then-out-words
unfolding open_listing words_listed
returns-then-out-words c =
    let opened = open_pairs c.args.n c.args.board.now in
    let out = c.args.out.now in
    let counted : c.args.found.live ≡ length (map period_word opened) = c.requires.live_value ∙ sym (length-map opened period_word) in
    rw (lt-ltb (length out) (length (map period_word opened)) (omega (arith, counted, c.if-out-words.true))) (ap (λ (k : ℕ). refusing (SliceTooShort k) out) counted)

pub returns : goal.returns
unfolding open_listing words_listed
returns c =
    let opened = open_pairs c.args.n c.args.board.now in
    let out = c.args.out.now in
    let counted : c.args.found.live ≡ length (map period_word opened) = c.requires.live_value ∙ sym (length-map opened period_word) in
    rw (le-ltb (length out) (length (map period_word opened)) (omega (arith, counted, c.if-out-words.false)))
    (ap₂ (λ k l. writing k c.args.found.tried 0 0 l) counted c.write_open.ensures)
