-- `squares::marks::Marked::of_half` meets its contract: the place behind the marks of the smaller half lengths is told by their number.
use Rattle.std.proofs.Common.{◌≡◌, ◌+◌, ◌-◌, ◌*◌, arith, length}
use Rattle.squares.proofs.Candidates.{marks_below, marks_place, marks_lent, marks-within}
use Rattle.squares.proofs.marks.Marked.of_half.Goals as goal
use Rattle.squares.proofs.marks.Marked.of_half.Goals.{After-len-letters}

-- where the marks begin
place : (c : After-len-letters) → (c.args.half - 1) * (c.len-letters.result + 1 - c.args.half) ≡ length (marks_below c.args.self.now.word.now c.args.half)
place c = rw c.len-letters.ensures.value (marks_place c.args.self.now.word.now c.args.half c.requires.positive c.requires.half_in_bounds)

pub slice_bounds-result-end : goal.slice_bounds-result-end
slice_bounds-result-end c =
    omega (arith, marks-within c.args.self.now.word.now c.args.half c.requires.positive c.requires.half_in_bounds c.args.self.now.marks.now c.args.self.now.marked _ (place (goal.at.slice_bounds-result-end c).After-len-letters))

pub returns-clause-value : goal.returns-clause-value
returns-clause-value c =
    let w = c.args.self.now.word.now in
    rw c.len-letters.ensures.value
    (marks_lent w c.args.half c.requires.positive c.requires.half_in_bounds c.args.self.now.marks.now c.args.self.now.marked _ (marks_place w c.args.half c.requires.positive c.requires.half_in_bounds))
