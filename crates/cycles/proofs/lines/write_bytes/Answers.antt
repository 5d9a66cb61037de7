-- All bytes are copied.
use Rattle.std.proofs.Common.{length, drop, ◌++◌, refl, sym, ap, ◌∙◌}
use lib.Seq.{take-length}
use Rattle.cycles.proofs.Writing.{written_copy}
use Rattle.cycles.proofs.lines.write_bytes.Goals as goal

pub returns : goal.returns
returns c =
    let bytes = c.args.bytes.now in
    written_copy bytes refl refl (ap (λ l. l ++ drop (length bytes) c.args.text.now) (c.copy_from_slice.ensures.after ∙ sym (take-length bytes)))
