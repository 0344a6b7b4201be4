-- `writer::record_bytes` meets its contract: by the bytes of both sets. Assumes nothing.
use mathlib.Core.Path.{◌∙◌, refl}
use Rattle.encoding.proofs.StdLaws.{to_le_8}
use Rattle.encoding.specs.LittleEndian.{bytes_of}
use Rattle.records.specs.Writing.{write_record}
use Rattle.writer.proofs.record_bytes.Goals as goal

pub returns : goal.returns
unfolding write_record bytes_of
returns c =
    let positive = c.copy_from_slice.ensures.after ∙ c.to_le_bytes.ensures ∙ to_le_8 c.args.written.positive.bits in
    let negated = c.copy_from_slice-2.ensures.after ∙ c.to_le_bytes-2.ensures ∙ to_le_8 c.args.written.negated.bits in
    rw (positive, negated) refl
