-- The tables of FROM that are found.
use Rattle.std.proofs.Common.{◌≡◌, ◌∙◌, ℕ, List, [], ◌∷◌, map, length, subst, sym, ap}
use Rattle.std.specs.Prelude.{IsTrue}
use Rattle.std.specs.List.{AllByRecursion}
use Rattle.std.proofs.lemmas.List.{length-map}
use Rattle.au_audit.specs.Statements.{from_tables}
use Rattle.au_base.specs.declared.table.TableName.{TableName}
use Rattle.au_base.specs.BuiltIn.{resolved_table}
use Rattle.au_query.specs.declared.source.Source.{Source}
use Rattle.au_world.specs.declared.from_table.FromTable.{FromTable}
use Rattle.au_world.specs.declared.world.World.{World}
use Rattle.au_world.specs.Inside.{IsFoundTable, IsMade, told_by}
use Rattle.au_world.specs.Selecting.{Seen, meant, seen_in, seen_of, tables_in}
use Rattle.au_world.specs.Sights.{Sight, is_there}
use Rattle.au_world.proofs.Told.{mapped_twice}
use Rattle.sql_ast.specs.declared.query.AliasedTable.{AliasedTable}
use Rattle.sql_ast.specs.declared.query.FromClause.{FromClause}
use Rattle.sql_ast.specs.declared.query.Join.{Join}

abbrev pub names_of : List FromTable → List TableName
names_of tables = map (λ (table : FromTable). table.name) tables

both : (world : World) (tables : List FromTable)
    → AllByRecursion (λ name. IsTrue (is_there world.catalog.now.tables name)) (names_of tables)
    → AllByRecursion (IsMade world.records.now) tables → AllByRecursion (IsFoundTable world) tables
both world [] there made = tt
both world (table ∷ tables) there made = (record { there = there.0; made = made.0 }, both world tables there.1 made.1)

-- tables that are there, and whose rows are made where they are built in
pub all_found : (world : World) (tables : List FromTable) (names : List TableName) → names_of tables ≡ names
    → AllByRecursion (λ name. IsTrue (is_there world.catalog.now.tables name)) names
    → AllByRecursion (IsMade world.records.now) tables → AllByRecursion (IsFoundTable world) tables
all_found world tables names are there made =
    both world tables (subst (AllByRecursion (λ name. IsTrue (is_there world.catalog.now.tables name))) (sym are) there) made

-- the tables that a SELECT names are those that its FROM means
pub names_meant : (user : List ℕ) (from : FromClause) → map (resolved_table user) (from_tables from) ≡ map (meant user) (tables_in from)
names_meant user from =
    ap (λ names. meant user from.first ∷ names)
    (mapped_twice (λ (join : Join). join.table.table) (resolved_table user) from.joins
    ∙ sym (mapped_twice (λ (join : Join). join.table) (meant user) from.joins))

pub seen_meant : (sight : Sight) (user : List ℕ) (tables : List AliasedTable) → map (seen_of sight) (map (meant user) tables) ≡ seen_in sight user tables
seen_meant sight user tables = mapped_twice (meant user) (seen_of sight) tables

-- as many ranges as sources
pub same_length : {X : Type 0} (ranges : List X) (sources : List Source) (from : List AliasedTable) (f : AliasedTable → X) (g : AliasedTable → Seen)
    → ranges ≡ map f from → map told_by sources ≡ map g from → length ranges ≡ length sources
same_length ranges sources from f g are seen =
    ap length are ∙ length-map from f ∙ sym (sym (length-map sources told_by) ∙ (ap length seen ∙ length-map from g))
