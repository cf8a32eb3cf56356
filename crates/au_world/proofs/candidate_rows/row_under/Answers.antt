use Rattle.std.proofs.Common.{◌∷◌, [], ap, refl, sym, subst}
use Rattle.std.specs.List.{AllByRecursion}
use Rattle.au_base.specs.declared.table.TableName.{TableName}
use Rattle.au_query.specs.declared.source.Source.{Source}
use Rattle.au_query.specs.Combos.{IsSoundLine, lines}
use Rattle.au_txn.specs.Desks.{open_of}
use Rattle.au_txn.specs.Rows.{Row}
use Rattle.au_world.specs.Cutting.{Suffices}
use Rattle.au_world.specs.Inside.{AreUnder, told_by, where_asked}
use Rattle.au_world.specs.Selecting.{seen_of}
use Rattle.au_world.specs.Sights.{rows_by, rows_seen, sight_of}
use Rattle.au_world.proofs.KeyedCut.{keyed_cut}
use Rattle.au_world.proofs.LookUps.{if_ok, soundly}
use Rattle.au_world.proofs.Sufficing.{part_suffices}
use Rattle.au_world.proofs.candidate_rows.row_under.Goals as goal

pub returns : goal.returns
returns c =
    let world = c.args.world.now in
    let desk = world.desk.now in
    let asked = c.args.asked.now in
    let own = open_of desk asked.client in
    let name = asked.table.now in
    let session = asked.session.now in
    let sight = sight_of world asked.client in
    let same = λ (a b : TableName). (c.same_is_equal.ensures.table a b).0 in
    let seen = soundly desk asked.client world.catalog.now.tables name same c.requires.sound.seen c.requires.there in
    let whole : AllByRecursion IsSoundLine (rows_seen sight name) = subst (AllByRecursion IsSoundLine) (sym (ap (rows_by sight name) c.requires.key.fixed.created)) seen.cells in
    if_ok (λ rows. AreUnder desk asked.client name c.args.key.now (lines rows.items)) (λ rows. Suffices session (where_asked asked) (rows_seen sight name) (lines rows.items))
    (λ rows under.
    let source : Source = record { table = name; rows = rows } in
    part_suffices session (where_asked asked) (name ∷ []) (seen_of sight name) (told_by source)
    (keyed_cut same world asked.client session (where_asked asked) (name ∷ []) 0 name c.args.key.now
    (c.rows_are_what_they_answer.ensures.ordered desk.rows own c.holds_together.ensures.rows)
    (λ (row : Row). c.rows_stand_by_tables.ensures.viewed desk.rows own name row c.holds_together.ensures.rows)
    seen.keys c.requires.key.fixed source refl under)
    c.requires.key.never whole)
    c.rows_under.result c.rows_under.ensures
