use Rattle.std.proofs.Common.{◌≡◌, List, map, subst}
use Rattle.std.specs.Prelude.{IfOk}
use Rattle.au_base.specs.declared.table.Column.{Column}
use Rattle.au_base.specs.Codes.{DONE}
use Rattle.au_modify.specs.declared.modification.Modification.{Modification}
use Rattle.au_modify.specs.Columns.{names_of}
use Rattle.au_query.specs.Combos.{lines}
use Rattle.au_world.specs.Sights.{sight_of}
use Rattle.au_change.specs.Deleting.{deletion}
use Rattle.au_change.proofs.Deletions.{done_rows, refused_rows, refused_text}
use Rattle.au_change.proofs.deleting.delete.Goals as goal

pub returns-in-Some : goal.returns-in-Some
returns-in-Some c =
    refused_text (sight_of c.args.world.now c.args.client) c.args.client c.args.session.now c.args.table.now c.args.delete.now c.in_ok-range.range (c.in_ok-range.ensures c.args.client)
    c.in-Some.code c.refused.result c.in-Some.ensures c.refused.ensures

pub returns-in-Err : goal.returns-in-Err
returns-in-Err c =
    refused_rows (sight_of c.args.world.now c.args.client) c.args.client c.args.session.now c.args.table.now c.args.delete.now c.in_ok-range.range (c.in_ok-range.ensures c.args.client)
    c.in-Err.code c.refused-in-Err.result c.in-None.ensures (rw c.in-Err.is at c.in_ok-code-in-None.ensures.chosen) c.refused-in-Err.ensures

pub returns : goal.returns
returns c =
    done_rows (sight_of c.args.world.now c.args.client) c.args.client c.args.session.now c.args.table.now c.args.delete.now c.in_ok-range.range (c.in_ok-range.ensures c.args.client)
    (lines c.in-Ok.rows.items) c.deleted.result c.in-None.ensures (rw c.in-Ok.is at c.in_ok-code-in-None.ensures.chosen)
    (subst (λ (columns : List Column). IfOk c.deleted.result (λ (m : Modification). m ≡ record { code = DONE; changes = map (deletion c.args.table.now) (lines c.in-Ok.rows.items); named = names_of columns }))
    c.as_slice.ensures
    (rw c.as_slice-in-Ok.ensures.value at c.deleted.ensures))
