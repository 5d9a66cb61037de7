-- `EachCandidate::end_others` meets its contract: the candidates are open after the others are passed over, and the Abelian periods stay open.
use Rattle.listers.proofs.Listings.{zeros, skipping_left}
use Rattle.listers.proofs.EachCandidateTries.end_others.Goals as goal

pub returns : goal.returns
unfolding zeros
returns c =
    let t = c.try_candidates.ensures in
    skipping_left c.args.word.now c.try_candidates.result c.requires.word c.requires.zeros t.tried_value t.live_value t.board_after
