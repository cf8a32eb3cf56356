-- The table that a statement changes, and what is seen of it.
use Rattle.std.proofs.Common.{◌≡◌, ◌∙◌, Bool, true, false, cond, ◌||◌, List, [], ◌∷◌, map, refl, sym, ap, subst}
use Rattle.std.specs.Prelude.{Option, None, Some}
use Rattle.std.specs.List.{AllByRecursion, Contains, find, flat_map, list_any}
use Rattle.au_base.specs.declared.cell.Cell.{Cell}
use Rattle.au_base.specs.declared.numbers.ClientNo.{ClientNo}
use Rattle.au_base.specs.declared.table.Column.{Column}
use Rattle.au_base.specs.declared.table.TableName.{TableName}
use Rattle.au_base.specs.Sameness.{same_table}
use Rattle.au_entries.specs.declared.table.Table.{Table}
use Rattle.au_entries.specs.Replaying.{NamesDiffer}
use Rattle.au_expr.specs.Rows.{FitsColumns}
use Rattle.au_fga.specs.Testing.{FitTable, RowsFit, table_of}
use Rattle.au_query.specs.Combos.{Line}
use Rattle.au_txn.specs.declared.change.RowChange.{RowChange}
use Rattle.au_txn.specs.Desks.{contents_of, open_of}
use Rattle.au_txn.specs.Rows.{Row}
use Rattle.au_txn.specs.Transactions.{laid_over, view}
use Rattle.au_world.specs.declared.built_in.TableKind.{TableKind}
use Rattle.au_world.specs.declared.built_in.TableKind.TheVariants.{Created}
use Rattle.au_world.specs.declared.world.World.{World}
use Rattle.au_world.specs.BuiltInTables.{kind_of}
use Rattle.au_world.specs.Sights.{columns_by, columns_in, columns_of, has_table, rows_by, rows_seen, sight_of, table_named}
use Rattle.au_world.specs.Sound.{IsSoundWorld}
use Rattle.au_plan.specs.Inside.{IsOfCatalog}
use Rattle.au_plan.specs.Planning.{CanBePlanned, HasColumnsApart}
use Rattle.au_plan.specs.Plans.{contents_in}
use Rattle.au_plan.proofs.Elements.{each_at}
use Rattle.au_plan.proofs.Fitting.{Fits, OneName, content_fits}
use Rattle.au_plan.proofs.Laid.{Answered, Laid}
use Rattle.au_plan.proofs.Members.{all_of, here, mapped, there}
use Rattle.au_plan.proofs.NewRows.{AreFitting}
use Rattle.au_plan.proofs.Rows.{Viewed}

-- the table of the name
pub record IsFound (tables : List Table) (name : TableName) : Type 0 where
  pub table : Table
  pub named : table_named tables name ≡ Some table
  pub within : Contains tables table
  pub called : table.name ≡ name

module _ (one : OneName) (name : TableName) where
  found_at : (table : Table) (tables : List Table) (b : Bool) → same_table table.name name ≡ b → (list_any (λ (table : Table). same_table table.name name) tables ≡ true → IsFound tables name)
      → (b || list_any (λ (table : Table). same_table table.name name) tables) ≡ true → IsFound (table ∷ tables) name
  found_at table tables true is more has = record {
    table = table;
    named = ap (λ (b : Bool). cond b (Some table) (find (λ (table : Table). same_table table.name name) tables)) is;
    within = here table tables;
    called = one table.name name is;
  }
  found_at table tables false is more has =
      let later = more has in record {
        table = later.table;
        named = ap (λ (b : Bool). cond b (Some table) (find (λ (table : Table). same_table table.name name) tables)) is ∙ later.named;
        within = there table tables later.table later.within;
        called = later.called;
      }

  -- a table that is there is found
  pub is_found : (tables : List Table) → has_table tables name ≡ true → IsFound tables name
  is_found [] has = absurd (let e : false ≡ true = has in cc)
  is_found (table ∷ tables) has = found_at table tables (same_table table.name name) refl (is_found tables) has

module _ (world : World) (one : OneName) (table : TableName) (of_catalog : IsOfCatalog world.catalog.now.tables table) where
  abbrev found : IsFound world.catalog.now.tables table
  found = is_found one table world.catalog.now.tables of_catalog.there

  columns_are : columns_of world.catalog.now.tables table ≡ found.table.columns
  columns_are =
      ap (columns_by world.catalog.now.tables table) of_catalog.created ∙ ap columns_in found.named

  -- its columns have names that differ
  pub columns_apart : CanBePlanned world → NamesDiffer (map (λ (c : Column). c.name) (columns_of world.catalog.now.tables table))
  columns_apart planned =
      subst (λ (columns : List Column). NamesDiffer (map (λ (c : Column). c.name) columns)) (sym columns_are)
      (each_at HasColumnsApart world.catalog.now.tables found.table planned.columns found.within)

  -- rows that fit its columns fit the table
  pub fitting_rows : (changes : List RowChange) → AreFitting (columns_of world.catalog.now.tables table) changes → RowsFit world.catalog.now.tables ((table, flat_map contents_in changes) ∷ [])
  fitting_rows changes fits = (
    subst (λ (t : Option Table). FitTable t (flat_map contents_in changes)) (sym found.named)
        (subst (λ (columns : List Column). AreFitting columns changes) columns_are fits),
    tt,
  )

  module _ (client : ClientNo) (sound : IsSoundWorld world) (laid : Laid world.desk.now.rows (open_of world.desk.now client)) (answered : Answered (laid_over world.desk.now.rows (open_of world.desk.now client))) (viewed : Viewed world.desk.now.rows (open_of world.desk.now client)) where
    abbrev FitsHere : Line → Type 0
    FitsHere row = FitsColumns (columns_of world.catalog.now.tables table) row.1

    fits : Fits world.catalog.now.tables world.desk.now client
    fits = record { committed = sound.committed; changed = sound.changed client }

    line_fits : (line : Line) → Contains (map contents_of (view world.desk.now.rows (open_of world.desk.now client) table)) line → FitsHere line
    line_fits line has =
        let row = mapped contents_of (view world.desk.now.rows (open_of world.desk.now client) table) line has in
        let is = ((viewed table row.0).0 row.1).1 in
        let whole = content_fits world.catalog.now.tables world.desk.now client one fits laid answered table row.0.number row.0.cells is found.table found.within found.called in
        subst FitsHere row.2 (subst (λ (columns : List Column). FitsColumns columns row.0.cells) (sym columns_are) whole.0)

    -- the rows that the client sees of it fit its columns
    pub seen_rows_fit : AllByRecursion FitsHere (rows_seen (sight_of world client) table)
    seen_rows_fit =
        subst (λ (k : TableKind). AllByRecursion FitsHere (rows_by (sight_of world client) table k)) (sym of_catalog.created)
        (all_of FitsHere (map contents_of (view world.desk.now.rows (open_of world.desk.now client) table)) line_fits)
