-- The space, and behind it the number.
use Rattle.std.proofs.Common.{ℕ, ◌+◌, ◌≤◌, List, length, arith, length-take, length-drop}
use lib.ListN.{length-set}
use Rattle.cycles.specs.Text.{decimal, spaced}
use Rattle.cycles.proofs.Writing.{written_none, written_byte, written_more}
use Rattle.cycles.proofs.lines.write_spaced.Goals as goal

-- the number has places behind the space
room : (n : ℕ) (text : List ℕ) → length (spaced n) ≤ length text → 1 + length (decimal n) ≤ length text
unfolding spaced
room n text h = omega (arith, h)

pub bounds-text-0 : goal.bounds-text-0
bounds-text-0 c = omega (arith, room c.args.n c.args.text.now c.requires)

pub slice_bounds-write_decimal-count : goal.slice_bounds-write_decimal-count
slice_bounds-write_decimal-count c = omega (arith, room c.args.n c.args.text.now c.requires, length-set c.args.text.now 0 32)

pub slice_bounds-write_decimal-start : goal.slice_bounds-write_decimal-start
slice_bounds-write_decimal-start c = omega (arith, room c.args.n c.args.text.now c.requires, length-set c.args.text.now 0 32)

pub write_decimal-requires : goal.write_decimal-requires
write_decimal-requires c = simp (length-take, length-drop, length-set) (omega (arith, room c.args.n c.args.text.now c.requires))

pub overflow_add-result : goal.overflow_add-result
overflow_add-result c = omega (arith, c.write_decimal.ensures.number, room c.args.n c.args.text.now c.requires, c.well_formed)

pub returns : goal.returns
unfolding spaced
returns c =
    let fits = room c.args.n c.args.text.now c.requires in
    written_more (written_byte (written_none c.args.text.now) 32 (omega (arith, fits))) _ _ _ c.write_decimal.ensures
