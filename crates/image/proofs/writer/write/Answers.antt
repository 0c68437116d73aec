use Rattle.std.proofs.Common.{length, ap, ◌∙◌}
use Rattle.image.specs.Written.{with_entries}
use Rattle.image.proofs.Splices.{image_written, room_known}
use Rattle.image.proofs.writer.write.Goals as goal

pub returns-clause-bytes : goal.returns-clause-bytes
returns-clause-bytes g c =
    c.write_entries.ensures
    ∙ ap (with_entries g.K.ByteForm.WIDTH g.K.ByteForm.form (length c.args.entries.now) 0 c.args.entries.now) c.in_ok-needed.ensures.bytes
    ∙ image_written g.K.ByteForm.WIDTH g.K.ByteForm.form g.met.K.ByteForm.wide c.args.entries.now c.args.buffer.now
    (room_known g.K.ByteForm.WIDTH (length c.args.entries.now) c.in_ok-needed.needed c.args.buffer.now c.in_ok-needed.ensures.answer)
