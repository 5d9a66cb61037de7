-- `covers::count_letter` meets its contract: one more of a letter parts equal counts, meets unequal ones, or leaves them unequal.
use mathlib.Core.Path.{refl}
use mathlib.Core.List.{List}
use Prim.Native.Nat.{ℕ, ◌+◌, ◌-◌, ◌≤◌, ◌<◌}
use native.Mathlib.Omega.{arith}
use lib.ListN.{length}
use lib.Dec.{eqb}
use Rattle.abelian.specs.Words.{alphabet_size, first_letter, longest}
use Rattle.abelian.proofs.Counts.{letter_bounds}
use Rattle.words.proofs.OneMore.{byte_le_1}
use Rattle.covers.specs.Differing.{count_of, one_more, CanCount}
use Rattle.covers.proofs.Differing.{differing-le-length, differing-one_more}
use Rattle.covers.proofs.count_letter.Goals as goal

-- the letter is one, and both vectors have a place for it
record Placed (counts other : List ℕ) (letter : ℕ) : Type 0 where
  low : first_letter ≤ letter
  high : letter < first_letter + alphabet_size
  here : letter - first_letter < length counts
  there : letter - first_letter < length other

placed : {counts other : List ℕ} {letter differ : ℕ} → CanCount counts other letter differ → Placed counts other letter
placed {counts} {other} {letter} can =
    let b : (first_letter ≤ letter) × (letter < first_letter + alphabet_size) = letter_bounds alphabet_size letter can.is_one in
    record { low = b.0; high = b.1; here = omega (arith, b, can.places); there = omega (arith, b, can.other_places) }

pub overflow_sub-place : goal.overflow_sub-place
unfolding first_letter
overflow_sub-place c = omega (arith, placed c.requires)

pub bounds-counts-place : goal.bounds-counts-place
unfolding first_letter alphabet_size
bounds-counts-place c = omega (arith, placed c.requires)

pub overflow_add-after : goal.overflow_add-after
unfolding first_letter longest
overflow_add-after c = omega (arith, c.requires)

pub bounds-counts-place-2 : goal.bounds-counts-place-2
unfolding first_letter alphabet_size
bounds-counts-place-2 c = omega (arith, placed c.requires)

pub bounds-other-place : goal.bounds-other-place
unfolding first_letter alphabet_size
bounds-other-place c = omega (arith, placed c.requires)

pub overflow_add-result : goal.overflow_add-result
unfolding first_letter alphabet_size
overflow_add-result c =
    let u = c.args.counts.now in
    let v = c.args.other.now in
    let x = c.args.letter in
    omega (arith, c.requires, differing-le-length u v, byte_le_1 (eqb (count_of u x) (count_of v x)))

pub overflow_sub-result : goal.overflow_sub-result
unfolding first_letter
overflow_sub-result c =
    let p = placed c.requires in
    omega (arith, c.requires.number, differing-one_more c.args.counts.now c.args.other.now c.args.letter p.here p.there)

pub returns-clause-counts_after : goal.returns-clause-counts_after
unfolding one_more first_letter
returns-clause-counts_after c = refl

pub returns-clause-value : goal.returns-clause-value
unfolding one_more first_letter
returns-clause-value c =
    let p = placed c.requires in
    omega (arith, c.requires.number, differing-one_more c.args.counts.now c.args.other.now c.args.letter p.here p.there)
