-- The rows that are seen have sound cells.
use Rattle.std.proofs.Common.{◌≡◌, ◌≢◌, ◌∙◌, true, ◌⊎◌, inl, inr, List, map, refl, sym, subst}
use Rattle.std.specs.Prelude.{Some}
use Rattle.std.specs.List.{AllByRecursion, Contains, list_any}
use Rattle.au_base.specs.declared.table.TableName.{TableName}
use Rattle.au_base.specs.Sameness.{same_table}
use Rattle.au_entries.specs.declared.table.Table.{Table}
use Rattle.au_query.specs.Combos.{IsSoundLine}
use Rattle.au_txn.specs.declared.change.RowChange.{RowChange}
use Rattle.au_txn.specs.Desks.{contents_of}
use Rattle.au_txn.specs.Rows.{Row, is_in}
use Rattle.au_txn.specs.Transactions.{laid_over, view}
use Rattle.au_world.specs.declared.built_in.TableKind.{TableKind}
use Rattle.au_world.specs.declared.built_in.TableKind.TheVariants.{Dual, Trail, Created}
use Rattle.au_world.specs.BuiltInTables.{made_rows, numbered}
use Rattle.au_world.specs.Sights.{Sight, rows_by}
use Rattle.au_world.specs.Sound.{FitsIfThere, FitsTable}
use Rattle.au_world.proofs.Members.{all_of, any_from, kept, mapped, passed}

-- where a laid row comes from
abbrev pub Laid : List Row → List RowChange → Type 0
Laid rows own = (row : Row) → Contains (laid_over rows own) row
    → Contains rows row ⊎ ((change : RowChange) × Contains own change × (change.table ≡ row.table) × (change.row ≡ row.number) × (change.new ≡ Some row.cells))

-- a row that is laid fits its table
laid_fits : (tables : List Table) (rows : List Row) (own : List RowChange)
    → ((row : Row) → Contains rows row → FitsTable tables row.table row.cells)
    → ((change : RowChange) → Contains own change → FitsIfThere tables change.table change.new)
    → Laid rows own → (row : Row) → Contains (laid_over rows own) row → FitsTable tables row.table row.cells
laid_fits tables rows own committed changed laid row has = elim (laid row has) [
  | inl old ↦ committed row old
  | inr made ↦
      let fits = subst (FitsIfThere tables made.0.table) made.4 (changed made.0 made.1) in
      subst (λ name. FitsTable tables name row.cells) made.2 fits
]

-- the cells of each row that is seen of a table that is there are sound
pub seen_sound : (tables : List Table) (rows : List Row) (own : List RowChange) (name : TableName)
    → ((row : Row) → Contains rows row → FitsTable tables row.table row.cells)
    → ((change : RowChange) → Contains own change → FitsIfThere tables change.table change.new)
    → Laid rows own
    → ((a b : TableName) → same_table a b ≡ true → a ≡ b)
    → list_any (λ (table : Table). same_table table.name name) tables ≡ true
    → AllByRecursion IsSoundLine (map contents_of (view rows own name))
seen_sound tables rows own name committed changed laid same there =
    let found = any_from (λ (table : Table). same_table table.name name) tables there in
    all_of IsSoundLine (map contents_of (view rows own name)) (λ line has.
    let from = mapped contents_of (view rows own name) line has in
    let in_laid = kept (is_in name) (laid_over rows own) from.0 from.1 in
    let of_table = same from.0.table name (passed (is_in name) (laid_over rows own) from.0 from.1) in
    let fits = laid_fits tables rows own committed changed laid from.0 in_laid in
    subst IsSoundLine from.2 (fits found.0 found.1 (same found.0.name name found.2 ∙ sym of_table)).1)

-- what is seen of a built-in table
pub made_seen : (sight : Sight) (name : TableName) (kind : TableKind) → kind ≢ Created → numbered (made_rows sight.trail kind) ≡ rows_by sight name kind
made_seen sight name Dual not_created = refl
made_seen sight name Trail not_created = refl
made_seen sight name Created not_created = absurd (not_created refl)
