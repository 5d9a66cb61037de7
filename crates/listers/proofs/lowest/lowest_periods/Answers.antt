-- `listers::lowest::lowest_periods` meets its contract: a head more has its entry, and its letter's occurrence says whether the next head is ruled out.
use Rattle.std.proofs.Common.{◌*◌, ◌<◌, ap, arith, length}
use Rattle.abelian.specs.Words.{first_letter, longest}
use Rattle.listers.specs.Lowest.{untried}
use Rattle.listers.proofs.LowestPeriods.{first_head, long_whole, ruled_whole, next_head}
use Rattle.listers.proofs.LettersRead.{asked_position, entry_found}
use Rattle.listers.proofs.lowest.lowest_periods.Goals as goal

pub loop-h-init : goal.loop-h-init
unfolding longest untried
loop-h-init c = first_head _

pub returns-then-at-eq0 : goal.returns-then-at-eq0
unfolding first_letter
returns-then-at-eq0 c =
    let t = c.letters-letters.ensures.counted in
    let inside : c.loop-h.h < length c.letters-letters.result.now = omega (arith, c.loop-h-test.true) in
    let half : 2 * c.loop-h.h < length c.args.word.now = omega (arith, ap length c.letters-letters.ensures.value, c.loop-h-test.true) in
    ruled_whole c.loop-h.invariant t.all t.short half (entry_found c.args.word.now c.loop-h.h c.loop-h.reach c.greatest_gaps-gaps.ensures (omega (arith, t.short)) c.lowest_period.ensures)
    (asked_position c.letters-letters.ensures.value t c.loop-h.h inside c.find_positions.ensures c.row.ensures half) c.if-at-eq0.true

pub loop-h-preserved : goal.loop-h-preserved
unfolding first_letter
loop-h-preserved c =
    let t = c.letters-letters.ensures.counted in
    let inside : c.loop-h.h < length c.letters-letters.result.now = omega (arith, c.loop-h-test.true) in
    let half : 2 * c.loop-h.h < length c.args.word.now = omega (arith, ap length c.letters-letters.ensures.value, c.loop-h-test.true) in
    next_head c.loop-h.invariant t.all t.short half (entry_found c.args.word.now c.loop-h.h c.loop-h.reach c.greatest_gaps-gaps.ensures (omega (arith, t.short)) c.lowest_period.ensures)
    (asked_position c.letters-letters.ensures.value t c.loop-h.h inside c.find_positions.ensures c.row.ensures half) c.if-at-eq0.false (omega arith)

pub returns : goal.returns
returns c = long_whole (omega (arith, ap length c.letters-letters.ensures.value, c.loop-h-test.false)) c.loop-h.invariant
