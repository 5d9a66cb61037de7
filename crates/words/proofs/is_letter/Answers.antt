-- `words::is_letter` meets its contract: its two tests are those of the definition.
use borrow.Author.Tests.{le-leb, lt-leb}
use Rattle.abelian.specs.Words.{alphabet_size, first_letter, is_letter}
use Rattle.words.proofs.is_letter.Goals as goal

pub returns-then-byte-ge-FIRST_LETTER : goal.returns-then-byte-ge-FIRST_LETTER
unfolding is_letter first_letter alphabet_size
returns-then-byte-ge-FIRST_LETTER c = rw (le-leb first_letter c.args.byte c.if-byte-ge-FIRST_LETTER.true)

pub returns-else-byte-ge-FIRST_LETTER : goal.returns-else-byte-ge-FIRST_LETTER
unfolding is_letter first_letter alphabet_size
returns-else-byte-ge-FIRST_LETTER c = rw (lt-leb first_letter c.args.byte c.if-byte-ge-FIRST_LETTER.false)
