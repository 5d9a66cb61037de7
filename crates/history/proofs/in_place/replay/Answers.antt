-- `in_place::replay` meets its contract: the tracker and the number of refusals are the machine's for the bytes read.
use Rattle.std.proofs.Common.{rules, ◌∙◌, arith, ap}
use Rattle.abelian.specs.Trackers.{Step, clearing}
use Rattle.tracker.specs.Lent.{lent}
use Rattle.history.specs.Calls.{step}
use Rattle.history.proofs.TrackerHolding.{fresh_empty}
use Rattle.history.proofs.Replays.{refused_counts, counted-le, none_replayed, refused_le, next_replayed, all_replayed}
use Rattle.history.proofs.in_place.replay.Goals as goal

pub loop-byte-init : goal.loop-byte-init
unfolding clearing
loop-byte-init c = search (rules, none_replayed, ap (λ (s : Step). s.tracker) c.clear.ensures.step ∙ fresh_empty)

pub overflow_add-refused : goal.overflow_add-refused
overflow_add-refused c = omega (arith, refused_le _ _ c.loop-byte.invariant.replayed, counted-le c.is_err.result)

pub loop-byte-preserved : goal.loop-byte-preserved
loop-byte-preserved c =
    search (
      rules,
      next_replayed _ _ c.loop-byte-test.true c.loop-byte.invariant.replayed _ _ (c.make-outcome.ensures.step ∙ ap (step (lent c.loop-byte.fields)) c.from.ensures)
          (refused_counts _ _ c.is_err.ensures.value),
    )

pub returns-clause-replayed : goal.returns-clause-replayed
returns-clause-replayed c = all_replayed _ _ _ c.loop-byte.invariant.replayed (omega arith) _ (c.list-wrote.ensures _ _)
