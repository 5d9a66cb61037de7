-- What `replay` returns, as a replay: the tracker, the number of refusals, and the numbers of the list's answer.
use Rattle.std.specs.Prelude.{ℕ, List}
use Rattle.abelian.specs.Answers.{answered_wrote}
use Rattle.history.specs.Replay.{Replay, as_replay}
use Rattle.history.specs.declared.Replayed.{Replayed}

-- with the slice as it is afterwards
abbrev pub replay_of : Replayed → List ℕ → Replay
replay_of r out = as_replay r.tracker r.refused (answered_wrote r.wrote out)
