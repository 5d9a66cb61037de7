-- The tracker whose fields are lent to the calls in place.
use Rattle.std.specs.Prelude.{◌≡◌}
use Rattle.abelian.specs.declared.Tracker.{Tracker}
use Rattle.tracker.specs.Fields.{of_fields}
use Rattle.tracker.specs.declared.in_place.Fields.{Fields}

-- the tracker that lies behind the five references
abbrev pub lent : Fields → Tracker
lent f = of_fields f.len.now f.bytes.now f.board.now f.live.now f.ended.now

-- The references are the same five, so that what a call leaves behind them is left in the caller's tracker.
pub record SameFields (f g : Fields) : Type 0 where
  pub len : g.len.ghost_name ≡ f.len.ghost_name
  pub bytes : g.bytes.ghost_name ≡ f.bytes.ghost_name
  pub board : g.board.ghost_name ≡ f.board.ghost_name
  pub live : g.live.ghost_name ≡ f.live.ghost_name
  pub ended : g.ended.ghost_name ≡ f.ended.ghost_name
