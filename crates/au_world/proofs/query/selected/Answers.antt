use Rattle.std.proofs.Common.{◌∙◌, ap, ap₂, arith, length, map, sym, subst}
use Rattle.std.specs.Prelude.{IsTrue}
use Rattle.std.specs.List.{AllByRecursion}
use Rattle.std.proofs.lemmas.List.{length-map}
use Rattle.au_world.specs.Inside.{IsFoundTable, names_in, whole_of, wholes}
use Rattle.au_world.specs.Selecting.{IsSelectedFrom, joined_tables, meant, range_of, ranges_of, seen_in, seen_of, tables_in}
use Rattle.au_world.specs.Sights.{is_there, sight_of}
use Rattle.au_world.proofs.Found.{all_found, names_meant, seen_meant}
use Rattle.au_world.proofs.ManyTables.{many_refused}
use Rattle.au_world.proofs.Told.{mapped_twice}
use Rattle.au_world.proofs.query.selected.Goals as goal
use Rattle.sql_ast.specs.declared.query.Join.{Join}

pub returns-then-len-ge-FROM_TABLES : goal.returns-then-len-ge-FROM_TABLES
returns-then-len-ge-FROM_TABLES c =
    let session = c.args.session.now in
    let from = tables_in c.args.select.now.from in
    let sight = sight_of c.args.world.now c.args.client in
    let joins = c.args.select.now.from.joins in
    let long = length-map from (range_of sight.catalog.tables session.user) in
    let joined = length-map joins (λ (join : Join). join.table) in
    many_refused session (ranges_of sight session.user from) (seen_in sight session.user from) c.args.select.now c.refused.result (omega (arith, long, joined, c.len.ensures, c.if-len-ge-FROM_TABLES.true)) c.refused.ensures

pub answered-requires-clause-found : goal.answered-requires-clause-found
answered-requires-clause-found c =
    let user = c.args.session.now.user in
    let from = c.args.select.now.from in
    let world = c.args.world.now in
    let names = c.in_ok-tables.ensures.names ∙ ap (λ u. map (meant u) (tables_in from)) c.user-user.ensures in
    subst (AllByRecursion (IsFoundTable world)) (sym c.as_slice-2.ensures.value)
    (all_found world c.in_ok-tables.tables.items (map (meant user) (tables_in from)) names
    (subst (AllByRecursion (λ name. IsTrue (is_there world.catalog.now.tables name))) (names_meant user from) c.requires.there)
    c.in_ok-tables.ensures.made)

pub answered-requires-clause-ranges : goal.answered-requires-clause-ranges
answered-requires-clause-ranges c =
    let from = tables_in c.args.select.now.from in
    let user = c.user-user.result.now in
    let tables = c.in_ok-tables.tables.items in
    ap length (c.as_slice-3.ensures.value ∙ c.in_ok-ranges.ensures) ∙ length-map from (range_of c.as_slice.result.now user)
    ∙ sym (ap length c.as_slice-2.ensures.value ∙ sym (length-map tables (λ table. table.name)) ∙ ap length c.in_ok-tables.ensures.names ∙ length-map from (meant user))

pub returns : goal.returns
returns c =
    let session = c.args.session.now in
    let select = c.args.select.now in
    let from = tables_in select.from in
    let sight = sight_of c.args.world.now c.args.client in
    let ranges = c.as_slice-3.ensures.value ∙ c.in_ok-ranges.ensures ∙ ap₂ (λ tables user. map (range_of tables user) from) c.as_slice.ensures c.user-user.ensures in
    let names = c.in_ok-tables.ensures.names ∙ ap (λ u. map (meant u) from) c.user-user.ensures in
    let seen = ap (wholes sight) c.as_slice-2.ensures.value
    ∙ sym (mapped_twice (λ table. table.name) (seen_of sight) c.in_ok-tables.tables.items)
    ∙ ap (map (seen_of sight)) names ∙ seen_meant sight session.user from in
    subst (λ ranges. IsSelectedFrom session ranges (seen_in sight session.user from) select c.in_ok-selected.selected) ranges
    (subst (λ seen. IsSelectedFrom session c.as_slice-3.result.now seen select c.in_ok-selected.selected) seen c.in_ok-selected.ensures)
