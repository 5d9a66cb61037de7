-- By the word's kind, the line of its parts.
use Rattle.std.proofs.Common.{◌≡◌, ◌≢◌, ℕ, ◌/◌, ◌%◌, ◌^◌, [], length, refl, sym, ap, arith}
use borrow.Author.Tests.{ne_eqb}
use Rattle.abelian.specs.Output.{kind_number}
use Rattle.abelian.specs.declared.Kind.{Kind}
use Rattle.abelian.specs.declared.Kind.TheVariants.{Period, Square, Full, Run, Hands, Window, Report, Pattern}
use Rattle.cycles.specs.Lines.{length_line, full_line, square_line}
use Rattle.cycles.specs.Reports.{kind_line, line_of}
use Rattle.cycles.proofs.Writing.{written_none}
use Rattle.cycles.proofs.lines.write_word.Goals as goal

module _ (word : ℕ) where
  -- the line of a word's kind is the word's line
  kind-line : {kind : Kind} (given : Kind) → kind ≡ given → kind_number kind ≡ word / 2 ^ 28
      → kind_line (kind_number given) (word / 2 ^ 14 % 2 ^ 14) (word % 2 ^ 14) ≡ line_of word
  unfolding line_of
  kind-line given e numbered = rw (← e, numbered)

  -- a word of a kind that no report has has none
  other_kind : (kind : Kind) → kind_number kind ≡ word / 2 ^ 28 → kind ≢ Period → kind ≢ Square → kind ≢ Full → kind ≢ Report → line_of word ≡ []
  unfolding line_of kind_line
  other_kind Period e a b c d = absurd (a refl)
  other_kind Square e a b c d = absurd (b refl)
  other_kind Full e a b c d = absurd (c refl)
  other_kind Report e a b c d = absurd (d refl)
  other_kind Run e a b c d = rw (← e)
  other_kind Hands e a b c d = rw (← e)
  other_kind Window e a b c d = rw (← e)
  other_kind Pattern e a b c d = rw (← e)

  -- and neither has one of no kind
  no_kind : ((kind : Kind) → kind_number kind ≢ word / 2 ^ 28) → line_of word ≡ []
  unfolding line_of kind_line
  no_kind h =
      rw (ne_eqb (word / 2 ^ 28) 1 (λ e. h Period (sym e)), ne_eqb (word / 2 ^ 28) 2 (λ e. h Square (sym e)), ne_eqb (word / 2 ^ 28) 3 (λ e. h Full (sym e)), ne_eqb (word / 2 ^ 28) 8 (λ e. h Report (sym e)))

pub write_period-requires : goal.write_period-requires
unfolding kind_line
write_period-requires c = omega (arith, c.requires, ap length (kind-line c.args.word Period c.in-Period.is c.in-Ok.ensures))

pub write_line-requires : goal.write_line-requires
unfolding kind_line square_line
write_line-requires c = omega (arith, c.requires, ap length (kind-line c.args.word Square c.in-Square.is c.in-Ok.ensures))

pub write_line-requires-in-Full : goal.write_line-requires-in-Full
unfolding kind_line full_line
write_line-requires-in-Full c = omega (arith, c.requires, ap length (kind-line c.args.word Full c.in-Full.is c.in-Ok.ensures))

pub write_line-requires-in-Report : goal.write_line-requires-in-Report
unfolding kind_line length_line
write_line-requires-in-Report c = omega (arith, c.requires, ap length (kind-line c.args.word Report c.in-Report.is c.in-Ok.ensures))

pub returns-in-Period : goal.returns-in-Period
unfolding kind_line
returns-in-Period c = rw (kind-line c.args.word Period c.in-Period.is c.in-Ok.ensures) at c.write_period.ensures

pub returns-in-Square : goal.returns-in-Square
unfolding kind_line square_line
returns-in-Square c = rw (kind-line c.args.word Square c.in-Square.is c.in-Ok.ensures) at c.write_line.ensures

pub returns-in-Full : goal.returns-in-Full
unfolding kind_line full_line
returns-in-Full c = rw (kind-line c.args.word Full c.in-Full.is c.in-Ok.ensures) at c.write_line-in-Full.ensures

pub returns-in-Report : goal.returns-in-Report
unfolding kind_line length_line
returns-in-Report c = rw (kind-line c.args.word Report c.in-Report.is c.in-Ok.ensures) at c.write_line-in-Report.ensures

pub returns-in_default : goal.returns-in_default
returns-in_default c = rw (no_kind c.args.word c.in_default.ensures) (written_none c.args.text.now)

pub returns-in_default-kind : goal.returns-in_default-kind
returns-in_default-kind c =
    let other = c.in_default-kind in
    rw (other_kind c.args.word c.in-Ok.kind c.in-Ok.ensures other.not-Period other.not-Square other.not-Full other.not-Report) (written_none c.args.text.now)
