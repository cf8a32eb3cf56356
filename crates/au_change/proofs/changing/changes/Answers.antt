use Rattle.std.proofs.Common.{◌≡◌, ◌∙◌, ap, subst}
use Rattle.std.specs.Prelude.{None}
use Rattle.au_query.specs.Combos.{lent}
use Rattle.au_change.specs.Inside.{change_of, line_code}
use Rattle.au_change.proofs.SetLemmas.{next_change, next_line}
use Rattle.au_change.proofs.changing.changes.Goals as goal

pub loop-row-preserved : goal.loop-row-preserved
loop-row-preserved c =
    let told = rw c.in-Ok.is at c.in_ok-change.ensures in
    let i = c.loop-row.row-index in
    let x = c.loop-row-item.result in
    let f = line_code c.args.sets.now.session.now c.args.sets.now.settings.now in
    let g = change_of c.args.sets.now.table.now c.args.sets.now.session.now c.args.sets.now.sources.now c.args.sets.now.settings.now in
    record {
      code = next_line f c.args.rows.now i x _ c.loop-row-test.true (subst (λ r. f (lent r) ≡ None) c.loop-row-item.is told.0) c.loop-row.invariant.code;
      changes = next_change g c.args.rows.now i x c.loop-row.changes c.push.new.self c.in-Ok.change c.loop-row-test.true c.loop-row.invariant.changes
          (told.1 ∙ ap (λ r. g (lent r)) c.loop-row-item.is) c.in_ok-push-in-Ok.ensures.ok;
    }
