-- `EachPair::end_others` meets its contract: all pairs in range are open on a board of zeros, and the Abelian periods stay open.
use Rattle.std.proofs.Common.{◌∙◌, ap, length}
use Rattle.abelian.specs.Trackers.{open_pairs}
use Rattle.board.specs.Ending.{all_ended}
use Rattle.listers.proofs.Listings.{zeros, plain_left}
use Rattle.listers.proofs.EachPairTries.end_others.Goals as goal

pub returns : goal.returns
unfolding zeros
returns c =
    let t = c.end_pairs.ensures in
    plain_left c.args.word.now c.end_pairs.result c.requires.word c.requires.zeros
    (t.tried_value ∙ ap (λ w. length (open_pairs (length w) c.args.board.now)) c.new.ensures)
    (t.live_value ∙ ap (λ w. length (open_pairs (length w) c.end_pairs.new.board)) c.new.ensures)
    (t.board_after ∙ ap (λ w. all_ended w c.args.board.now) c.new.ensures)
