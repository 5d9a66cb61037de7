-- The name, behind it the numbers, and behind them the line's end.
use Rattle.std.proofs.Common.{ℕ, ◌+◌, ◌-◌, ◌≤◌, List, ◌++◌, length, take, drop, append_assoc, arith, length-append, length-take, length-drop}
use borrow.Rule.Slice.PartMut.{put_mid}
use Rattle.abelian.specs.Lists.{each}
use Rattle.cycles.specs.Text.{ascii, spaced, line, Written}
use Rattle.cycles.proofs.Writing.{written_byte, written_more, written_length}
use Rattle.cycles.proofs.lines.write_line.Goals as goal

module _ (name numbers text : List ℕ) (fits : length (line name numbers) ≤ length text) where
  -- the line has places: the name, the numbers, and the line's end
  room : length name + length (each numbers spaced) + 1 ≤ length text
  unfolding line
  room = omega (arith, fits, length-append name (each numbers spaced ++ ascii "\n"), length-append (each numbers spaced) (ascii "\n"))

  module _ {after : List ℕ} {from : ℕ} (named : Written name text after from) where
    -- the numbers have places behind the name
    behind : from + length (each numbers spaced) + 1 ≤ length after
    behind = omega (arith, room, named.number, written_length named (omega (arith, room)))

    module _ {part : List ℕ} {count : ℕ} (numbers-written : Written (each numbers spaced) (take (length after - from) (drop from after)) part count) where
      -- the name and the numbers are written
      numbered : Written (name ++ each numbers spaced) text (put_mid from (length after - from) after part) (from + count)
      numbered = written_more named (each numbers spaced) part count numbers-written

      -- the line's end has a place behind them
      last-place : from + count + 1 ≤ length text
      last-place = omega (arith, room, numbered.number, length-append name (each numbers spaced))

pub write_bytes-from-requires : goal.write_bytes-from-requires
write_bytes-from-requires c = omega (arith, room c.args.name.now c.args.numbers.now c.args.text.now c.requires)

pub slice_bounds-write_numbers-count : goal.slice_bounds-write_numbers-count
slice_bounds-write_numbers-count c = omega (arith, behind c.args.name.now c.args.numbers.now c.args.text.now c.requires c.write_bytes-from.ensures)

pub slice_bounds-write_numbers-start : goal.slice_bounds-write_numbers-start
slice_bounds-write_numbers-start c = omega (arith, behind c.args.name.now c.args.numbers.now c.args.text.now c.requires c.write_bytes-from.ensures)

pub write_numbers-requires : goal.write_numbers-requires
write_numbers-requires c =
    simp (length-take, length-drop) (omega (arith, behind c.args.name.now c.args.numbers.now c.args.text.now c.requires c.write_bytes-from.ensures))

pub overflow_add-end : goal.overflow_add-end
overflow_add-end c =
    let place = last-place c.args.name.now c.args.numbers.now c.args.text.now c.requires c.write_bytes-from.ensures c.write_numbers.ensures in
    omega (arith, place, c.well_formed)

pub bounds-text-end : goal.bounds-text-end
bounds-text-end c =
    let place = last-place c.args.name.now c.args.numbers.now c.args.text.now c.requires c.write_bytes-from.ensures c.write_numbers.ensures in
    let all = numbered c.args.name.now c.args.numbers.now c.args.text.now c.requires c.write_bytes-from.ensures c.write_numbers.ensures in
    omega (arith, place, written_length all (omega (arith, place, all.number)))

pub overflow_add-result : goal.overflow_add-result
overflow_add-result c =
    let place = last-place c.args.name.now c.args.numbers.now c.args.text.now c.requires c.write_bytes-from.ensures c.write_numbers.ensures in
    omega (arith, place, c.well_formed)

pub returns : goal.returns
unfolding line
returns c =
    let name = c.args.name.now in
    let numbers = c.args.numbers.now in
    let place = last-place name numbers c.args.text.now c.requires c.write_bytes-from.ensures c.write_numbers.ensures in
    let all = numbered name numbers c.args.text.now c.requires c.write_bytes-from.ensures c.write_numbers.ensures in
    rw (append_assoc name (each numbers spaced) (ascii "\n")) at (written_byte all 10 (omega (arith, place, all.number)))
