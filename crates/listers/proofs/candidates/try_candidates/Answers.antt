-- `listers::candidates::try_candidates` meets its contract: the pairs that are no candidates are passed over, and the open pairs that are left are ended.
use Rattle.std.proofs.Common.{◌∙◌, length}
use mathlib.Core.Path.{ap₂}
use Rattle.abelian.specs.Trackers.{open_pairs}
use Rattle.board.specs.Ending.{all_ended}
use Rattle.listers.proofs.Passed.{others_are_passed}
use Rattle.listers.proofs.candidates.try_candidates.Goals as goal

pub returns-clause-tried_value : goal.returns-clause-tried_value
returns-clause-tried_value c =
    let passed = others_are_passed c.args.board.now c.new-counted.ensures c.lowest_periods-lowest.ensures c.len.ensures.value c.pass_over.ensures in
    c.end_pairs.ensures.tried_value ∙ ap₂ (λ w board. length (open_pairs (length w) board)) c.new-counted.ensures passed

pub returns-clause-board_after : goal.returns-clause-board_after
returns-clause-board_after c =
    let passed = others_are_passed c.args.board.now c.new-counted.ensures c.lowest_periods-lowest.ensures c.len.ensures.value c.pass_over.ensures in
    c.end_pairs.ensures.board_after ∙ ap₂ all_ended c.new-counted.ensures passed
