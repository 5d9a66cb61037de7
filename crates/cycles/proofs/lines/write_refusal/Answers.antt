-- The line has the refusal's number and value.
use Rattle.std.proofs.Common.{◌≡◌, ℕ, [], ◌∷◌, length, ap, arith}
use Rattle.abelian.specs.Refusals.{number_of, value_of}
use Rattle.abelian.specs.declared.Refusal.{Refusal}
use Rattle.cycles.specs.Text.{ascii, line}
use Rattle.cycles.specs.Lines.{refusal_line}
use Rattle.cycles.proofs.lines.write_refusal.Goals as goal

-- the line of the two numbers is the refusal's
told : (r : Refusal) (number value : ℕ) → number ≡ number_of r → value ≡ value_of r → line (ascii "refused") (number ∷ value ∷ []) ≡ refusal_line r
unfolding refusal_line
told r number value e f = rw (e, f)

pub write_line-requires : goal.write_line-requires
write_line-requires c = omega (arith, ap length (told c.args.refusal _ _ c.number-number.ensures c.value-value.ensures), c.requires)

pub returns : goal.returns
returns c = rw (told c.args.refusal _ _ c.number-number.ensures c.value-value.ensures) at c.write_line.ensures
