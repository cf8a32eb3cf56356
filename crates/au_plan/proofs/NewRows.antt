-- The contents of rows before and after the changes of INSERT, UPDATE and DELETE fit their table.
use Rattle.std.proofs.Common.{◌≡◌, ◌∙◌, ◌⊎◌, inl, inr, Bool, true, false, ℕ, List, [], ◌∷◌, ◌++◌, length, map, refl, sym, ap, subst}
use Rattle.std.specs.Prelude.{Option, None, Some, nat_lt}
use Rattle.std.specs.List.{AllByRecursion, Contains, flat_map, list_any, zip}
use Rattle.au_base.specs.declared.cell.Cell.{Cell}
use Rattle.au_base.specs.declared.cell.Cell.TheVariants as cell
use Rattle.au_base.specs.declared.code.Code.{Code}
use Rattle.au_base.specs.declared.numbers.ClientNo.{ClientNo}
use Rattle.au_base.specs.declared.numbers.RowNo.{RowNo}
use Rattle.au_base.specs.declared.table.Column.{Column}
use Rattle.au_base.specs.declared.table.ColumnKind.{ColumnKind}
use Rattle.au_base.specs.declared.table.ColumnKind.TheVariants as kind
use Rattle.au_base.specs.declared.table.TableName.{TableName}
use Rattle.au_change.specs.Deleting.{IsDeletion, delete_refusal, deleted, deletion}
use Rattle.au_change.specs.Updating as updating
use Rattle.au_base.specs.Codes.{KEY_PRESENT, LOCKED, OVERFLOW, TOO_FEW_VALUES, TOO_MANY_VALUES}
use Rattle.au_change.specs.Updating.{IsUpdate, row_update, rows_refusal, set_row, text_refusal, updated, updates}
use Rattle.au_choose.specs.Choosing.{IsSomeLocked, choice_refusal, chosen_in, conditions_over, range_in, where_kind, where_name}
use Rattle.au_entries.specs.Replaying.{NamesDiffer}
use Rattle.au_expr.specs.Names.{first, or_code}
use Rattle.au_expr.specs.Placing.{value_at}
use Rattle.au_expr.specs.Resolving.{placed}
use Rattle.au_expr.specs.Rows.{FitsColumns, IsOfKind, Range}
use Rattle.au_expr.specs.Sessions.{Session}
use Rattle.au_expr.specs.Values.{cell_in}
use Rattle.au_insert.specs.Inserting as inserting
use Rattle.au_insert.specs.Inserting.{IsInsertion, IsPlacing, cell_of, inserted, listed_refusal, new_row, room_refusal, row_refusal, value_refusal}
use Rattle.au_modify.specs.Keys.{AreTwoUnderOne, IsLockedKey, IsPresentKey, IsSomeKeyLocked}
use Rattle.au_modify.specs.declared.modification.Modification.{Modification}
use Rattle.au_modify.specs.Modifying.{Comes, Unless}
use Rattle.au_modify.specs.Targets.{given_or, kinds_refusal, names_refusal, target_refusal}
use Rattle.au_query.specs.Combos.{Line, passes}
use Rattle.au_query.specs.Refusals.{where_broken}
use Rattle.au_txn.specs.declared.change.RowChange.{RowChange}
use Rattle.au_world.specs.Sights.{Sight, columns_of, rows_seen}
use Rattle.sql_ast.specs.declared.expression.Expr.{Expr}
use Rattle.sql_ast.specs.declared.rows.Assignment.{Assignment}
use Rattle.sql_ast.specs.declared.rows.Delete.{Delete}
use Rattle.sql_ast.specs.declared.rows.Insert.{Insert}
use Rattle.sql_ast.specs.declared.rows.Update.{Update}
use Rattle.au_plan.specs.Plans.{contents_in}
use Rattle.au_plan.proofs.Given.{given_in_kind, given_of_kind, made_fits, remade_fits}
use Rattle.au_plan.proofs.Elements.{each_at}
use Rattle.au_plan.proofs.Members.{all_of, kept}
use Rattle.au_plan.proofs.ValueKinds.{value_of_kind}

null_of : (k : ColumnKind) → IsOfKind k cell.Null
null_of kind.Number = tt
null_of kind.Text = tt
null_of kind.Moment = tt

-- ---- rules

none_first : (found later : Option Code) → or_code found later ≡ None → (found ≡ None) × (later ≡ None)
none_first None later is = (refl, is)
none_first (Some code) later is = absurd (let e : Some code ≡ None = is in cc)

-- what is refused changes nothing
comes_or : (found : Option Code) (Behind : Modification → Type 0) (m : Modification) → Comes found Behind m → (m.changes ≡ []) ⊎ ((found ≡ None) × Behind m)
comes_or None Behind m is = inr (refl, is)
comes_or (Some code) Behind m is = inl (ap (λ (m : Modification). m.changes) is)

unless_or : (Broken : Type 0) (code : Code) (Behind : Modification → Type 0) (m : Modification) → Unless Broken code Behind m → (m.changes ≡ []) ⊎ Behind m
unless_or Broken code Behind m is = elim is [
  | inl refused ↦ inl (ap (λ (m : Modification). m.changes) refused.1)
  | inr rest ↦ inr rest.1
]

-- ---- changes

-- the contents before and after each change fit the columns
abbrev pub AreFitting : List Column → List RowChange → Type 0
AreFitting columns changes = AllByRecursion (FitsColumns columns) (flat_map contents_in changes)

none_fits : (columns : List Column) (m : Modification) → m.changes ≡ [] → AreFitting columns m.changes
none_fits columns m is = subst (AreFitting columns) (sym is) tt

both_all : {X : Type 0} (P : X → Type 0) (xs ys : List X) → AllByRecursion P xs → AllByRecursion P ys → AllByRecursion P (xs ++ ys)
both_all P [] ys one other = other
both_all P (x ∷ xs) ys one other = (one.0, both_all P xs ys one.1 other)

-- those of each row fit where the row does
each_fits : (columns : List Column) (change : Line → RowChange) → ((row : Line) → FitsColumns columns row.1 → AllByRecursion (FitsColumns columns) (contents_in (change row)))
    → (rows : List Line) → AllByRecursion (λ (row : Line). FitsColumns columns row.1) rows → AreFitting columns (map change rows)
each_fits columns change fits [] all = tt
each_fits columns change fits (row ∷ rows) all =
    both_all (FitsColumns columns) (contents_in (change row)) (flat_map contents_in (map change rows)) (fits row all.0) (each_fits columns change fits rows all.1)

-- ---- cells by the columns that they are given for

abbrev assignment_given : (Expr → Cell) → Assignment → List ℕ × Cell
assignment_given f a = (a.column, f a.value)

abbrev pair_given : (Expr → Cell) → List ℕ × Expr → List ℕ × Cell
pair_given f p = (p.0, f p.1)

zipped : (f : Expr → Cell) (names : List (List ℕ)) (values : List Expr) → zip names (map f values) ≡ map (pair_given f) (zip names values)
zipped f [] values = refl
zipped f (name ∷ names) [] = refl
zipped f (name ∷ names) (value ∷ values) = ap (λ rest. (name, f value) ∷ rest) (zipped f names values)

assigned : (f : Expr → Cell) (assignments : List Assignment)
    → map (assignment_given f) assignments ≡ map (pair_given f) (zip (map (λ (a : Assignment). a.column) assignments) (map (λ (a : Assignment). a.value) assignments))
assigned f [] = refl
assigned f (a ∷ assignments) = ap (λ rest. assignment_given f a ∷ rest) (assigned f assignments)

-- ---- the statements

module _ (sight : Sight) (client : ClientNo) (session : Session) (table : TableName) (differ : NamesDiffer (map (λ (c : Column). c.name) (columns_of sight.catalog.tables table))) where
  abbrev columns : List Column
  columns = columns_of sight.catalog.tables table

  -- the new row of an INSERT
  new_fits : (insert : Insert) → listed_refusal columns insert ≡ None → value_refusal session columns insert ≡ None → FitsColumns columns (new_row session columns insert)
  new_fits insert listed valued =
      let names = inserting.targets columns insert in
      let known = (none_first (target_refusal columns names) (first (where_broken (nat_lt (length names) (length insert.values)) TOO_MANY_VALUES ∷ where_broken (nat_lt (length insert.values) (length names)) TOO_FEW_VALUES ∷ [])) listed).0 in
      let later = first (where_broken (list_any (inserting.value_overflows session) insert.values) OVERFLOW ∷ row_refusal session columns insert ∷ []) in
      let kinds = (none_first (kinds_refusal [] columns names insert.values) later (none_first (names_refusal [] insert.values) (or_code (kinds_refusal [] columns names insert.values) later) valued).1).0 in
      let pairs = given_in_kind columns (cell_of session) [] (λ column x unrefused. value_of_kind [] [] session tt column.kind x unrefused) names insert.values known kinds in
      made_fits (given_or cell.Null (inserting.given session columns insert)) columns (λ column has.
      subst (λ given. IsOfKind column.kind (given_or cell.Null given column)) (sym (zipped (cell_of session) names insert.values))
      (given_of_kind columns (cell_of session) differ column has cell.Null (null_of column.kind) (zip names insert.values) pairs))

  -- what comes behind the room for the row, and behind its locks
  abbrev Unlocked : Insert → ℕ → Modification → Type 0
  Unlocked insert last m = Unless (IsPresentKey sight table (new_row session columns insert)) KEY_PRESENT (λ done. done ≡ inserted session columns table last insert) m

  abbrev Roomy : Insert → ℕ → Modification → Type 0
  Roomy insert last m = Unless (IsLockedKey sight client table (new_row session columns insert)) LOCKED (Unlocked insert last) m

  placing_fits : (insert : Insert) (m : Modification) → FitsColumns columns (new_row session columns insert) → IsPlacing sight client session table insert m → AreFitting columns m.changes
  placing_fits insert m fits placing = elim (comes_or (room_refusal sight.own placing.count placing.last) (Roomy insert placing.last) m placing.comes) [
    | inl none ↦ none_fits columns m none
    | inr behind ↦ (elim (unless_or (IsLockedKey sight client table (new_row session columns insert)) LOCKED (Unlocked insert placing.last) m behind.1) [
      | inl none ↦ none_fits columns m none
      | inr last ↦ (elim (unless_or (IsPresentKey sight table (new_row session columns insert)) KEY_PRESENT (λ done. done ≡ inserted session columns table placing.last insert) m last) [
        | inl none ↦ none_fits columns m none
        | inr done ↦ subst (AreFitting columns) (sym (ap (λ (m : Modification). m.changes) done)) (fits, tt)
      ])
    ])
  ]

  pub insertion_fits : (insert : Insert) (m : Modification) → IsInsertion sight client session table insert m → AreFitting columns m.changes
  insertion_fits insert m is = elim (comes_or (or_code (listed_refusal columns insert) (value_refusal session columns insert)) (IsPlacing sight client session table insert) m is) [
    | inl none ↦ none_fits columns m none
    | inr rest ↦
        let parts = none_first (listed_refusal columns insert) (value_refusal session columns insert) rest.0 in
        placing_fits insert m (new_fits insert parts.0 parts.1) rest.1
  ]

  -- ---- rows that are seen

  module _ (seen : AllByRecursion (λ (row : Line). FitsColumns columns row.1) (rows_seen sight table)) where
    each_seen : (rows : List Line) → AllByRecursion (λ (row : Line). FitsColumns columns row.1) rows → (row : Line) → Contains rows row → FitsColumns columns row.1
    each_seen rows all row has = each_at (λ (row : Line). FitsColumns columns row.1) rows row all has

    chosen_fit : (condition : Option Expr) → AllByRecursion (λ (row : Line). FitsColumns columns row.1) (chosen_in sight session table condition)
    chosen_fit condition =
        all_of (λ (row : Line). FitsColumns columns row.1) (chosen_in sight session table condition) (λ row has.
        each_seen (rows_seen sight table) seen row (kept (λ (line : Line). passes session (conditions_over (range_in sight table) condition) (line ∷ [])) (rows_seen sight table) row has))

    pub deletion_fits : (delete : Delete) (m : Modification) → IsDeletion sight client session table delete m → AreFitting columns m.changes
    deletion_fits delete m is = elim (comes_or (delete_refusal sight session table delete) (Unless (IsSomeLocked sight client table (chosen_in sight session table delete.condition)) LOCKED (λ done. done ≡ deleted sight session table delete)) m is) [
      | inl none ↦ none_fits columns m none
      | inr rest ↦ (elim (unless_or (IsSomeLocked sight client table (chosen_in sight session table delete.condition)) LOCKED (λ done. done ≡ deleted sight session table delete) m rest.1) [
        | inl none ↦ none_fits columns m none
        | inr done ↦ subst (AreFitting columns) (sym (ap (λ (m : Modification). m.changes) done))
            (each_fits columns (deletion table) (λ row fits. (fits, tt)) (chosen_in sight session table delete.condition) (chosen_fit delete.condition))
      ])
    ]

    -- a row that is set
    set_fits : (update : Update) → text_refusal (range_in sight table) update ≡ None → (row : Line) → FitsColumns columns row.1 → FitsColumns columns (set_row session (range_in sight table) update.assignments row)
    set_fits update text row fits =
        let range = range_in sight table in
        let given_by = λ (x : Expr). cell_in (value_at (row.1 ∷ []) session (placed (range ∷ []) x)) in
        let names = updating.targets update in
        let values = updating.values update in
        let kinds = kinds_refusal (range ∷ []) columns names values in
        let last = or_code kinds (first (where_kind range update.condition ∷ [])) in
        let behind = or_code (where_name range update.condition) last in
        let known = none_first (target_refusal columns names) (or_code (names_refusal (range ∷ []) values) behind) text in
        let wheres = none_first (where_name range update.condition) last (none_first (names_refusal (range ∷ []) values) behind known.1).1 in
        let one_kind = (none_first kinds (first (where_kind range update.condition ∷ [])) wheres.1).0 in
        let pairs = given_in_kind columns given_by (range ∷ []) (λ column x unrefused. value_of_kind (range ∷ []) (row.1 ∷ []) session (fits, tt) column.kind x unrefused) names values known.0 one_kind in
        remade_fits (λ (p : Column × Cell). given_or p.1 (updating.given session range update.assignments row) p.0) columns row.1 fits (λ column c has is.
        subst (λ given. IsOfKind column.kind (given_or c given column)) (sym (assigned given_by update.assignments))
        (given_of_kind columns given_by differ column has c is (zip names values) pairs))

    abbrev Keyed : Update → Modification → Type 0
    Keyed update m = Unless (AreTwoUnderOne sight table (updates sight session table update)) KEY_PRESENT (λ done. done ≡ updated sight session table update) m

    abbrev Fitted : Update → Modification → Type 0
    Fitted update m = Unless (IsSomeKeyLocked sight client table (updates sight session table update)) LOCKED (Keyed update) m

    abbrev Free : Update → Modification → Type 0
    Free update m = Comes (rows_refusal sight session table update) (Fitted update) m

    abbrev Chosen : Update → Modification → Type 0
    Chosen update m = Unless (IsSomeLocked sight client table (chosen_in sight session table update.condition)) LOCKED (Free update) m

    updated_fits : (update : Update) (m : Modification) → AreFitting columns (updates sight session table update) → Chosen update m → AreFitting columns m.changes
    updated_fits update m fits is = elim (unless_or (IsSomeLocked sight client table (chosen_in sight session table update.condition)) LOCKED (Free update) m is) [
      | inl none ↦ none_fits columns m none
      | inr unlocked ↦ (elim (comes_or (rows_refusal sight session table update) (Fitted update) m unlocked) [
        | inl none ↦ none_fits columns m none
        | inr behind ↦ (elim (unless_or (IsSomeKeyLocked sight client table (updates sight session table update)) LOCKED (Keyed update) m behind.1) [
          | inl none ↦ none_fits columns m none
          | inr last ↦ (elim (unless_or (AreTwoUnderOne sight table (updates sight session table update)) KEY_PRESENT (λ done. done ≡ updated sight session table update) m last) [
            | inl none ↦ none_fits columns m none
            | inr done ↦ subst (AreFitting columns) (sym (ap (λ (m : Modification). m.changes) done)) fits
          ])
        ])
      ])
    ]

    pub update_fits : (update : Update) (m : Modification) → IsUpdate sight client session table update m → AreFitting columns m.changes
    update_fits update m is = elim (comes_or (or_code (text_refusal (range_in sight table) update) (choice_refusal sight session table update.condition)) (Chosen update) m is) [
      | inl none ↦ none_fits columns m none
      | inr rest ↦
          let text = (none_first (text_refusal (range_in sight table) update) (choice_refusal sight session table update.condition) rest.0).0 in
          updated_fits update m
          (each_fits columns (row_update table session (range_in sight table) update.assignments) (λ row fits. (fits, (set_fits update text row fits, tt))) (chosen_in sight session table update.condition) (chosen_fit update.condition))
          rest.1
    ]
