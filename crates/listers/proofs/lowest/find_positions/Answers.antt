-- `listers::lowest::find_positions` meets its contract: each letter's position is entered at the number of its occurrences before it.
use Rattle.std.proofs.Common.{List, ℕ, sym, ap, subst, arith, length}
use Rattle.abelian.specs.Words.{first_letter}
use Rattle.listers.proofs.Positions.{Found, nothing_found, all_found}
use Rattle.listers.proofs.LettersRead.{next_position}
use Rattle.listers.proofs.lowest.find_positions.Goals as goal

pub loop-i-init : goal.loop-i-init
loop-i-init c = subst (λ (table : List (List ℕ)). Found c.args.word.now table 0) (sym c.requires) (nothing_found c.args.word.now)

pub loop-i-preserved : goal.loop-i-preserved
unfolding first_letter
loop-i-preserved c = next_position c.letters-letters.ensures.value c.letters-letters.ensures.counted c.loop-i.i c.loop-i-test.true c.row.ensures c.loop-i.found c.loop-i.invariant

pub returns : goal.returns
returns c = all_found c.args.word.now c.loop-i.found c.loop-i.i (omega (arith, ap length c.letters-letters.ensures.value, c.loop-i-test.false)) c.loop-i.invariant
