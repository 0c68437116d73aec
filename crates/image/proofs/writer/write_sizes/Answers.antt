use Rattle.std.proofs.Common.{◌≡◌}
use Rattle.keys.specs.Bytes.{big_endian}
use Rattle.keys.specs.BytesLemmas.{length-big_endian}
use Rattle.image.proofs.Splices.{sizes_spliced}
use Rattle.image.proofs.writer.write_sizes.Goals as goal

pub returns-clause-bytes : goal.returns-clause-bytes
returns-clause-bytes g c =
    let width : c.to_bytes.result ≡ big_endian 2 g.K.ByteForm.WIDTH = cc in
    let spliced =
    sizes_spliced (big_endian 2 g.K.ByteForm.WIDTH) (big_endian 2 c.args.count) c.args.buffer.now (length-big_endian 2 g.K.ByteForm.WIDTH)
    (length-big_endian 2 c.args.count) in
    cc
