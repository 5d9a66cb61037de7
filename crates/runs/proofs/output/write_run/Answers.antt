-- `runs::output::write_run` meets its contract: its numbers are the run's, and small.
use Rattle.std.proofs.Common.{◌≡◌, ◌∙◌, ◌+◌, ◌-◌, ◌*◌, ◌≤◌, ℕ, List, [], ◌∷◌, refl, ap, ap₂, arith, length, set}
use Rattle.abelian.specs.Words.{longest}
use Rattle.abelian.specs.Output.{run_word, hands_word, fill}
use Rattle.abelian.specs.Runs.{left_fits, right_fits, left_hand, right_hand, run_end, run_at, words_of_run}
use Rattle.abelian.proofs.Largest.{most-le}
use Rattle.abelian.proofs.Blocks.{end_within}
use Rattle.runs.proofs.Marks.{row_length}
use Rattle.runs.specs.declared.hands.Side.{Side}
use Rattle.runs.specs.declared.hands.Side.TheVariants.{Before, Behind}
use Rattle.runs.specs.Hands.{room, beside_fits, hand_of}
use Rattle.runs.proofs.output.write_run.Goals as goal
use Rattle.runs.proofs.output.write_run.Goals.{After-run_end-end, After-hand-right}

-- a hand is no longer than the letters on its side
hand-le : (w : List ℕ) (d i : ℕ) (side : Side) (at : ℕ) → hand_of w d i side at ≤ room w side at
unfolding hand_of
hand-le w d i side at = most-le (beside_fits w d i side at) (room w side at)

-- the numbers that are found are the run's
numbers-of-run : (w : List ℕ) (d i : ℕ) {end left right : ℕ} → end ≡ run_end w d i → left ≡ hand_of w d i Before (i - 1) → right ≡ hand_of w d i Behind end
    → (run_word d i ∷ hands_word end left right ∷ []) ≡ words_of_run (run_at w d i)
unfolding words_of_run run_at left_hand right_hand left_fits right_fits hand_of beside_fits
numbers-of-run w d i e l r = rw (r, l, e)

-- two words in the first two places
two-places : (out : List ℕ) (a b : ℕ) → 2 ≤ length out → set (set out 0 a) 1 b ≡ fill (a ∷ b ∷ []) out
unfolding fill
two-places [] a b h = absurd (omega arith)
two-places (x ∷ []) a b h = absurd (omega arith)
two-places (x ∷ y ∷ out) a b h = refl

module _ (c : After-run_end-end) where
  -- the square lies in the word
  inside : c.args.start + 2 * c.args.row.now.period ≤ length c.args.row.now.word.now + 1
  inside = omega (arith, c.requires.start_in_bounds, row_length c.args.row.now.word.now c.args.row.now.period c.args.row.now.marked)

  -- and so do the blocks
  ends-inside : c.run_end-end.result ≤ length c.args.row.now.word.now
  ends-inside = omega (arith, c.run_end-end.ensures, end_within c.args.row.now.word.now c.args.row.now.period c.args.start (omega (arith, inside)))

pub hand-left-requires : goal.hand-left-requires
hand-left-requires c =
    let k = (goal.at.hand-left-requires c).After-run_end-end in
    record { le_start = (c.requires.start_in_bounds.0, omega (arith, inside k)); at_in_bounds = omega (arith, inside k, c.args.row.now.positive) }

pub hand-right-requires : goal.hand-right-requires
hand-right-requires c =
    let k = (goal.at.hand-right-requires c).After-run_end-end in
    record { le_start = (c.requires.start_in_bounds.0, omega (arith, inside k)); at_in_bounds = ends-inside k }

pub output_word-requires : goal.output_word-requires
output_word-requires c =
    let k = (goal.at.output_word-requires c).After-run_end-end in
    record { upper_le_longest = omega (arith, inside k, c.args.row.now.short, c.requires.start_in_bounds); lower_le_longest = omega (arith, inside k, c.args.row.now.short, c.args.row.now.positive) }

pub hands_word-requires : goal.hands_word-requires
hands_word-requires c =
    let k = (goal.at.hands_word-requires c).After-run_end-end in
    let w = c.args.row.now.word.now in
    let d = c.args.row.now.period in
    let i = c.args.start in
    let left : c.hand-left.result ≤ longest = omega (arith, c.hand-left.ensures, hand-le w d i Before (i - 1), inside k, c.args.row.now.short) in
    let right : c.hand-right.result ≤ longest = omega (arith, c.hand-right.ensures, hand-le w d i Behind c.run_end-end.result, c.args.row.now.short) in
    record { end_le_longest = omega (arith, ends-inside k, c.args.row.now.short); left_le_longest = omega arith; right_le_longest = omega arith }

pub returns : goal.returns
unfolding run_word
returns c =
    let out = c.args.out.now in
    let d = c.args.row.now.period in
    let i = c.args.start in
    ap₂ (λ (a b : ℕ). set (set out 0 a) 1 b) c.output_word.ensures c.hands_word.ensures
    ∙ two-places out (run_word d i) (hands_word c.run_end-end.result c.hand-left.result c.hand-right.result) c.requires.in_bounds
    ∙ ap (λ (ws : List ℕ). fill ws out) (numbers-of-run c.args.row.now.word.now d i c.run_end-end.ensures c.hand-left.ensures c.hand-right.ensures)
