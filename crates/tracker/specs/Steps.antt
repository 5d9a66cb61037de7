-- The entry of a pair after a take-back.
use Rattle.std.specs.Prelude.{ℕ, eqb}
use Rattle.abelian.specs.Lists.{pick}

-- the entry of a pair after the letter that made the length has gone: 0 where the pair ended at that length, and else as it was
abbrev pub entry_reopened : ℕ → ℕ → ℕ
entry_reopened len e = pick (eqb e len) 0 e
