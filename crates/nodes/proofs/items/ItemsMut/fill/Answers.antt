use Rattle.std.proofs.Common.{◌≡◌, None, sym, refl, ◌∙◌, rules}
use Rattle.nodes.specs.Chains.{deltas_of}
use Rattle.nodes.proofs.Filling.{begun, finished, turn_inv, turn_less, turn_stops}
use Rattle.nodes.proofs.items.ItemsMut.fill.Invariants.{lawful}
use Rattle.nodes.proofs.items.ItemsMut.fill.Goals as goal

pub loop-cursor-init : goal.loop-cursor-init
loop-cursor-init g c = record {
  same = record { keys = refl; values = refl; key_count = refl; value_count = refl };
  going = begun g.K.Ordered.before (deltas_of c.args.merge.chain) c.args.self.now.keys.now c.args.self.now.values.now c.args.merge.start c.args.merge.stop c.args.merge.floor c.args.merge.top (lawful g)
      c.scan.result c.scan.ensures;
}

pub loop-cursor-preserved : goal.loop-cursor-preserved
loop-cursor-preserved g c = record {
  same = record {
    keys = c.loop-cursor.invariant.same.keys ∙ c.in-Some.ensures.same.keys;
    values = c.loop-cursor.invariant.same.values ∙ c.in-Some.ensures.same.values;
    key_count = c.in-Some.ensures.same.key_count ∙ c.loop-cursor.invariant.same.key_count;
    value_count = c.in-Some.ensures.same.value_count ∙ c.loop-cursor.invariant.same.value_count;
  };
  going = turn_inv g.K.Ordered.before (deltas_of c.args.merge.chain) c.args.self.now.keys.now c.args.self.now.values.now c.args.merge.start c.args.merge.stop c.args.merge.floor c.args.merge.top (lawful g)
      c.loop-cursor.self.keys.now c.loop-cursor.self.values.now c.loop-cursor.cursor c.loop-cursor.invariant.going c.loop-cursor-test.true _ refl _ _ _
      c.in-Some.ensures.turned.cursor c.in-Some.ensures.turned.keys c.in-Some.ensures.turned.values;
}

pub loop-cursor-smaller : goal.loop-cursor-smaller
loop-cursor-smaller g c =
    turn_less g.K.Ordered.before (deltas_of c.args.merge.chain) c.args.self.now.keys.now c.args.self.now.values.now c.args.merge.start c.args.merge.stop c.args.merge.floor c.args.merge.top (lawful g)
    c.loop-cursor.self.keys.now c.loop-cursor.self.values.now c.loop-cursor.cursor c.loop-cursor.invariant.going _ refl _ c.in-Some.ensures.turned.cursor

pub returns-after-loop-cursor-clause-filled : goal.returns-after-loop-cursor-clause-filled
returns-after-loop-cursor-clause-filled g c =
    finished g.K.Ordered.before (deltas_of c.args.merge.chain) c.args.self.now.keys.now c.args.self.now.values.now c.args.merge.start c.args.merge.stop c.args.merge.floor c.args.merge.top (lawful g)
    c.loop-cursor.self.keys.now c.loop-cursor.self.values.now c.loop-cursor.cursor c.loop-cursor.invariant.going c.loop-cursor-test.false

pub returns-in-loop-cursor-clause-filled : goal.returns-in-loop-cursor-clause-filled
returns-in-loop-cursor-clause-filled g c =
    let stops : c.turn.result ≡ None = search rules in
    turn_stops g.K.Ordered.before (deltas_of c.args.merge.chain) c.args.self.now.keys.now c.args.self.now.values.now c.args.merge.start c.args.merge.stop c.args.merge.floor c.args.merge.top (lawful g)
    c.loop-cursor.self.keys.now c.loop-cursor.self.values.now c.loop-cursor.cursor c.loop-cursor.invariant.going c.loop-cursor-test.true _ refl _ _ (sym stops ∙ c.turn.ensures.turned.cursor)
