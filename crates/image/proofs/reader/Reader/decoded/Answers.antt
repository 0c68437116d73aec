use Rattle.std.proofs.Common.{◌∙◌}
use Rattle.image.proofs.Places.{decoded_some, decoded_none}
use Rattle.image.proofs.reader.Reader.decoded.Goals as goal

pub returns-in_err-key : goal.returns-in_err-key
returns-in_err-key g c = c.from_residual.ensures ∙ decoded_none g.K.ByteForm.key_of g.K.ByteForm.WIDTH c.args.self.now c.args.place c.in_err-key.ensures

pub returns : goal.returns
returns g c =
    c.decode.ensures
    ∙ decoded_some g.K.ByteForm.key_of g.K.ByteForm.WIDTH c.args.self.now c.args.place c.in_ok-key.key.now c.in_ok-key.value.now c.in_ok-key.ensures
