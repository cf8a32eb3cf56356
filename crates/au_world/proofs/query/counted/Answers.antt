use Rattle.std.proofs.Common.{◌∙◌, ap, sym, subst}
use Rattle.au_base.specs.BuiltIn.{resolved_table}
use Rattle.au_world.specs.Selecting.{IsCountedFrom, range_of, seen_of}
use Rattle.au_world.specs.Sights.{rows_by, sight_of}
use Rattle.au_world.proofs.query.counted.Goals as goal

pub returns-then-is_trail_alone : goal.returns-then-is_trail_alone
returns-then-is_trail_alone c =
    let session = c.args.session.now in
    let count = c.args.count.now in
    let sight = sight_of c.args.world.now c.args.client in
    let table = c.in_ok-table.table in
    let range = range_of sight.catalog.tables session.user count.table in
    let seen = ap (λ kind. (table, rows_by sight table kind)) (sym (c.is_trail_alone.ensures.trail c.if-is_trail_alone.true))
    ∙ ap (seen_of sight) (c.in_ok-table.ensures ∙ ap (λ u. resolved_table u count.table.table) c.user.ensures) in
    subst (λ one. IsCountedFrom session range one count c.in_ok-selected.selected) seen c.in_ok-selected.ensures
