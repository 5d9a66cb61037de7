-- What the scaled path finds.
use Rattle.std.specs.Prelude.{List, ℕ}
use Rattle.abelian.specs.FullPeriods.{scale, scaled_gap}
use Rattle.full_periods.specs.Marks.{full_marks}
use Rattle.full_periods.specs.declared.scaled.ScaledPath.{ScaledPath}

-- s, T, and the table of the full periods
abbrev pub scaled_path : List ℕ → ScaledPath
scaled_path w = record { s = scale w; t = scaled_gap w; marks = full_marks w }
