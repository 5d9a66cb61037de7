-- `runs::hands::hand` meets its contract: the stretch in the middle is compared with the block by their counts.
use Rattle.std.proofs.Common.{◌≡◌, ◌∙◌, ◌+◌, ◌-◌, ◌/◌, ℕ, Bool, not, sym, ap, arith}
use lib.Dec.{T}
use borrow.Author.Tests.{not-true, not-false}
use Rattle.abelian.specs.Words.{vector, none_above, part}
use Rattle.abelian.proofs.Tests.{passes, fails}
use Rattle.words.proofs.Prefixes.{none_above_rows}
use Rattle.runs.specs.Hands.{beside}
use Rattle.runs.proofs.Halving.{Placed, halving_first, halving_down, halving_up, halving_done}
use Rattle.runs.proofs.hands.hand.Goals as goal
use Rattle.runs.proofs.hands.hand.Goals.{After-min-past, After-exceeds}

-- the block and the place lie in the word
placed : (c : After-min-past) → Placed c.args.row.now.word.now c.args.row.now.period c.args.start c.args.at
placed c =
    record { letters = c.count_part-block.ensures.counted.all; start = c.requires.le_start.0; whole = c.requires.le_start.1; inside = c.requires.at_in_bounds }

pub loop-hand-init : goal.loop-hand-init
loop-hand-init c =
    halving_first c.args.row.now.word.now c.args.row.now.period c.args.start c.args.side c.args.at (placed (goal.at.loop-hand-init c).After-min-past)
    c.min-past.result c.args.row.now.positive (omega arith)

-- what is known once the stretch in the middle is compared with the block
module _ (c : After-exceeds) where
  abbrev p : Placed c.args.row.now.word.now c.args.row.now.period c.args.start c.args.at
  p = record { letters = c.count_part-block.ensures.counted.all; start = c.requires.le_start.0; whole = c.requires.le_start.1; inside = c.requires.at_in_bounds }

  abbrev middle : ℕ
  middle = (c.loop-hand.hand + c.loop-hand.past) / 2

  -- no count of the stretch is above that of the block
  abbrev fits : Bool
  fits = none_above (vector (beside c.args.row.now.word.now c.args.side c.args.at middle)) (vector (part c.args.row.now.word.now (c.args.start - 1) c.args.row.now.period))

  compared : c.exceeds.result ≡ not fits
  compared =
      c.exceeds.ensures
      ∙ ap not (none_above_rows (beside c.args.row.now.word.now c.args.side c.args.at middle) (part c.args.row.now.word.now (c.args.start - 1) c.args.row.now.period) c.count_beside.ensures c.count_part-block.ensures.value)

pub loop-hand-preserved-then-exceeds : goal.loop-hand-preserved-then-exceeds
loop-hand-preserved-then-exceeds c =
    let k = (goal.at.loop-hand-preserved-then-exceeds c).After-exceeds in
    let above : T (fits k) → ⊥ = fails (fits k) (not-true (fits k) (sym (compared k) ∙ c.if-exceeds.true)) in
    halving_down c.args.row.now.word.now c.args.row.now.period c.args.start c.args.side c.args.at (p k) c.loop-hand.hand c.loop-hand.past c.loop-hand.invariant (middle k) (omega arith) (omega arith) above

pub loop-hand-preserved : goal.loop-hand-preserved
loop-hand-preserved c =
    let k = (goal.at.loop-hand-preserved c).After-exceeds in
    let none : T (fits k) = passes (fits k) (not-false (fits k) (sym (compared k) ∙ c.if-exceeds.false)) in
    halving_up c.args.row.now.word.now c.args.row.now.period c.args.start c.args.side c.args.at (p k) c.loop-hand.hand c.loop-hand.past c.loop-hand.invariant (middle k) (omega arith) (omega arith) none

pub returns : goal.returns
returns c =
    halving_done c.args.row.now.word.now c.args.row.now.period c.args.start c.args.side c.args.at (placed (goal.at.returns c).After-min-past)
    c.loop-hand.hand c.loop-hand.past c.loop-hand.invariant (omega arith)
