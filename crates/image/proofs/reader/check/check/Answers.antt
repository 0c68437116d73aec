use Rattle.std.proofs.Common.{◌≡◌, Some, None, Err, ◌∙◌, rules}
use Rattle.keys.specs.Bytes.{Bytes}
use Rattle.keys.specs.Order.{Lawful}
use Rattle.keys.specs.BytesLemmas.{bytes_all}
use Rattle.image.proofs.Accepted.{Formed, accepted, exactly, verdict_ordered, verdict_sizes}
use Rattle.image.proofs.reader.check.check.Given.{Over}
use Rattle.image.proofs.reader.check.check.Goals as goal

lawful : (g : Over) → Lawful g.row.K.Denot g.K.Ordered.before
lawful g =
    record { irreflexive = g.met.K.Ordered.irreflexive; transitive = g.met.K.Ordered.transitive; connected = g.met.K.Ordered.connected }

formed : (g : Over) → Formed g.row.K.Denot g.K.ByteForm.WIDTH g.K.ByteForm.form g.K.ByteForm.key_of
formed g =
    record { widths = g.met.K.ByteForm.widths; wide = g.met.K.ByteForm.wide; apart = g.met.K.ByteForm.apart; every = g.met.K.ByteForm.every }

pub returns-in_err-counted-clause-exactly : goal.returns-in_err-counted-clause-exactly
returns-in_err-counted-clause-exactly g c =
    let typed : Bytes c.args.image.now = bytes_all c.args.image.now (λ i. (c.type_inv.image i).fits) in
    let is : c.from_residual.result ≡ Err c.in_err-counted.field-0.0 = search rules in
    let answer = verdict_sizes (formed g) c.args.image.now typed (lawful g) c.in_err-counted.field-0.0 c.in_err-counted.ensures in
    exactly (formed g) c.args.image.now typed (lawful g) c.from_residual.result (is ∙ answer)

pub returns-in-Some-clause-exactly : goal.returns-in-Some-clause-exactly
returns-in-Some-clause-exactly g c =
    let typed : Bytes c.args.image.now = bytes_all c.args.image.now (λ i. (c.type_inv.image i).fits) in
    exactly (formed g) c.args.image.now typed (lawful g) _
    (verdict_ordered (formed g) c.args.image.now typed (lawful g) _ _ (Some c.in-Some.place) c.WIDTH.ensures c.in_ok-counted.ensures c.in-Some.ensures)

pub returns-clause-accepted : goal.returns-clause-accepted
returns-clause-accepted g c =
    let typed : Bytes c.args.image.now = bytes_all c.args.image.now (λ i. (c.type_inv.image i).fits) in
    accepted (formed g) c.args.image.now typed (lawful g) _
    (verdict_ordered (formed g) c.args.image.now typed (lawful g) _ _ None c.WIDTH.ensures c.in_ok-counted.ensures c.in_default.ensures)

pub returns-clause-exactly : goal.returns-clause-exactly
returns-clause-exactly g c =
    let typed : Bytes c.args.image.now = bytes_all c.args.image.now (λ i. (c.type_inv.image i).fits) in
    exactly (formed g) c.args.image.now typed (lawful g) _
    (verdict_ordered (formed g) c.args.image.now typed (lawful g) _ _ None c.WIDTH.ensures c.in_ok-counted.ensures c.in_default.ensures)
