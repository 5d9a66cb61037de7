-- The digits that the kit makes are the number in decimal, and all of them are copied.
use Rattle.std.proofs.Common.{◌≡◌, ℕ, ◌^◌, ◌<◌, List, length, take, ap, ◌∙◌, arith}
use Rattle.io.specs.Digits.{last_digits, IsDigitCount}
use Rattle.cycles.specs.Text.{decimal}
use Rattle.cycles.proofs.Decimals.{digits_decimal}
use Rattle.cycles.proofs.lines.write_decimal.Goals as goal

-- what is copied is the number in decimal
spelled : (n k : ℕ) (digits : List ℕ) → n < 2 ^ 64 → IsDigitCount 10 1 n k → take k digits ≡ last_digits 10 k n → take k digits ≡ decimal n
spelled n k digits h count made = made ∙ digits_decimal n k (omega (arith, h)) count

pub write_bytes-requires : goal.write_bytes-requires
write_bytes-requires c =
    let made = c.decimal-count.ensures in
    omega (arith, ap length (spelled c.args.n c.decimal-count.result c.decimal-count.new.out c.ranges.n.fits made.len made.digits), c.requires)

pub returns : goal.returns
returns c =
    let made = c.decimal-count.ensures in
    rw (spelled c.args.n c.decimal-count.result c.decimal-count.new.out c.ranges.n.fits made.len made.digits) at c.write_bytes.ensures
