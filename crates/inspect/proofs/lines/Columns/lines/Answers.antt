use Rattle.std.proofs.Common.{◌++◌, string_bytes, sym, ap, ◌∙◌, append-nil, arith}
use Rattle.std.proofs.lemmas.List.{drop_all}
use Rattle.inspect.specs.Table.{lines_from}
use Rattle.inspect.proofs.Entries.{drop_item, text_more}
use Rattle.inspect.proofs.lines.Columns.lines.Goals as goal

pub loop-place-preserved : goal.loop-place-preserved
loop-place-preserved g c =
    let item = drop_item c.args.entries.now c.loop-place.place c.index-entries-place.result (omega arith) c.index-entries-place.is in
    text_more _ _ _ _ _ _ c.loop-place.invariant
    (ap (lines_from g.K.Shown.shown_as c.args.self.now.place c.args.self.now.key c.loop-place.place) item)
    (c.in_ok-push_str.ensures.bytes ∙ ap (λ s. string_bytes c.loop-place.text ++ s) (c.as_str.ensures.value ∙ c.in_ok-line.ensures))

pub returns : goal.returns
returns g c =
    sym (append-nil (string_bytes c.loop-place.text))
    ∙ ap (λ s. string_bytes c.loop-place.text ++ lines_from g.K.Shown.shown_as c.args.self.now.place c.args.self.now.key c.loop-place.place s)
    (sym (drop_all c.loop-place.place c.args.entries.now c.loop-place-test.false))
    ∙ c.loop-place.invariant
