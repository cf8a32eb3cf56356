use Rattle.std.proofs.Common.{◌<◌, ◌≤◌, ◌∙◌, length, ap, arith}
use Rattle.std.specs.Ordering.{is_eq}
use Rattle.au_catalog.proofs.Placed.{ends, gone, stays}
use Rattle.au_catalog.proofs.placing.drop_equal.Goals as goal
use Rattle.au_catalog.proofs.placing.drop_equal.Goals.{else-place-len-via-then-place-len+else-is_eq, else-place-len-via-else-place-len}

pub returns-then-is_eq-clause-rest : goal.returns-then-is_eq-clause-rest
returns-then-is_eq-clause-rest g c =
    let less = c.if-place-len.true in
    let count = c.len.ensures in
    let full = c.args.entries.now.ok.0 in
    let within : c.args.place < length c.args.entries.now.items = omega (arith, less, count, full) in
    gone g.T.Keyed.by g.T.Keyed.total g.T.Keyed.key c.args.entry.now c.args.entries.now.items c.requires.order _ c.args.place c.index.result.now _ c.requires.place within c.index.ensures (c.is_eq.ensures ∙ ap is_eq c.compare.ensures) c.if-is_eq.true c.remove.ensures.items

pub returns-else-place-len-clause-rest : goal.returns-else-place-len-clause-rest
returns-else-place-len-clause-rest g c =
    let count = c.len.ensures in
    let full = c.args.entries.now.ok.0 in
    elim c.else-place-len.branch [
      | else-place-len-via-then-place-len+else-is_eq w ↦
          (let less = w.if-place-len.true in
          let within : c.args.place < length c.args.entries.now.items = omega (arith, less, count, full) in
          stays g.T.Keyed.by g.T.Keyed.total g.T.Keyed.key c.args.entry.now c.args.entries.now.items c.requires.order c.args.place w.index.result.now _ c.requires.place within w.index.ensures (w.is_eq.ensures ∙ ap is_eq w.compare.ensures) w.if-is_eq.false)
      | else-place-len-via-else-place-len w ↦
          (let over = w.if-place-len.false in
          let end : length c.args.entries.now.items ≤ c.args.place = omega (arith, over, count, full) in
          ends g.T.Keyed.by g.T.Keyed.total g.T.Keyed.key c.args.entry.now c.args.entries.now.items c.requires.order c.args.place c.requires.place end)
    ]
