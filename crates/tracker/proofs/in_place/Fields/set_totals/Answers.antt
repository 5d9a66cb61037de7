-- `Fields::set_totals` meets its contract: the pairs in range that are not live have ended.
use Rattle.tracker.proofs.Steps.{live_within, fields_with_totals}
use Rattle.tracker.proofs.in_place.Fields.set_totals.Goals as goal

pub overflow_sub-self : goal.overflow_sub-self
overflow_sub-self c = live_within _ _ c.requires.short c.requires.long c.requires.open_value c.pairs_in_range.ensures

pub returns-clause-value : goal.returns-clause-value
returns-clause-value c = fields_with_totals _ _ _ c.requires.short c.requires.long c.requires.open_value c.pairs_in_range.ensures
