use Rattle.std.proofs.Common.{◌≡◌, length, drop}
use Rattle.image.specs.Written.{with_entries}
use Rattle.image.proofs.writer.write_entries.Given as goal

abbrev pub invariant-loop-place : goal.invariant-loop-place
invariant-loop-place g l =
    with_entries g.K.ByteForm.WIDTH g.K.ByteForm.form (length l.entries) l.place (drop l.place l.entries) l.buffer
    ≡ with_entries g.K.ByteForm.WIDTH g.K.ByteForm.form (length l.entries) 0 l.entries l.initial.buffer
