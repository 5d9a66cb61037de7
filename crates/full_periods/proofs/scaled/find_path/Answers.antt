-- `full_periods::scaled::find_path` meets its contract: each function on the way gives what the next one asks.
use Rattle.std.proofs.Common.{arith}
use Rattle.abelian.specs.Words.{longest}
use Rattle.full_periods.proofs.Scaling.{step_positive, path_is, empty_path, path_given, path_unit, path_gap, path_steps}
use Rattle.full_periods.proofs.scaled.find_path.Goals as goal

pub returns-then-g-eq0 : goal.returns-then-g-eq0
unfolding longest
returns-then-g-eq0 c = empty_path c.len-n.ensures.word c.count_letters-counts.ensures c.count_divisor-g.ensures c.if-g-eq0.true

pub mark_scaled-positions-requires : goal.mark_scaled-positions-requires
mark_scaled-positions-requires c =
    let g = path_given c.len-n.ensures.word c.count_letters-counts.ensures c.count_divisor-g.ensures c.len-n.ensures.value c.if-g-eq0.false in
    record {
      le_s = step_positive g;
      s_value = g.scale_is;
      unit_value = path_unit c.len-n.ensures.word c.count_letters-counts.ensures c.count_divisor-g.ensures c.len-n.ensures.value c.if-g-eq0.false c.divide-unit.ensures;
    }

pub invariant_of-marked-clause-steps : goal.invariant_of-marked-clause-steps
invariant_of-marked-clause-steps c =
    path_steps c.len-n.ensures.word c.count_letters-counts.ensures c.count_divisor-g.ensures c.len-n.ensures.value c.if-g-eq0.false c.mark_scaled-positions.ensures

pub greatest_distance-requires : goal.greatest_distance-requires
greatest_distance-requires c =
    let g = path_given c.len-n.ensures.word c.count_letters-counts.ensures c.count_divisor-g.ensures c.len-n.ensures.value c.if-g-eq0.false in
    omega (arith, step_positive g, g.some, c.len-n.ensures.value)

pub nonzero_div-t : goal.nonzero_div-t
nonzero_div-t c = step_positive (path_given c.len-n.ensures.word c.count_letters-counts.ensures c.count_divisor-g.ensures c.len-n.ensures.value c.if-g-eq0.false)

pub mark_full-marks-requires : goal.mark_full-marks-requires
mark_full-marks-requires c =
    let g = path_given c.len-n.ensures.word c.count_letters-counts.ensures c.count_divisor-g.ensures c.len-n.ensures.value c.if-g-eq0.false in
    record {
      n_value = c.len-n.ensures.value;
      le_s = step_positive g;
      s_value = g.scale_is;
      t_value = path_gap c.len-n.ensures.word c.count_letters-counts.ensures c.count_divisor-g.ensures c.len-n.ensures.value c.if-g-eq0.false c.mark_scaled-positions.ensures c.greatest_distance.ensures;
      positions_value = c.mark_scaled-positions.ensures;
    }

pub returns : goal.returns
returns c =
    let g = path_given c.len-n.ensures.word c.count_letters-counts.ensures c.count_divisor-g.ensures c.len-n.ensures.value c.if-g-eq0.false in
    path_is g.scale_is
    (path_gap c.len-n.ensures.word c.count_letters-counts.ensures c.count_divisor-g.ensures c.len-n.ensures.value c.if-g-eq0.false c.mark_scaled-positions.ensures c.greatest_distance.ensures)
    c.mark_full-marks.ensures
