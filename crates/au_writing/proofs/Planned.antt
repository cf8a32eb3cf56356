-- What a statement on rows comes to can be written.
use Rattle.std.proofs.Common.{◌≡◌, ◌∙◌, ◌⊎◌, inl, inr, ℕ, Bool, true, false, List, [], ◌∷◌, map, refl, sym, ap, subst}
use Rattle.std.specs.Prelude.{◌==◌, Option, Some, None}
use Rattle.std.specs.List.{AllByRecursion, filter}
use Rattle.au_base.specs.Codes.{KEY_PRESENT, LOCKED, OVERFLOW, TOO_MANY_CHANGES}
use Rattle.au_base.specs.Naming.{IsName}
use Rattle.au_base.specs.declared.action.Action.{Action}
use Rattle.au_base.specs.declared.action.Action.TheVariants as action
use Rattle.au_base.specs.declared.code.Code.{Code}
use Rattle.au_base.specs.declared.numbers.ClientNo.{ClientNo}
use Rattle.au_base.specs.declared.table.Column.{Column}
use Rattle.au_base.specs.declared.table.TableName.{TableName}
use Rattle.au_change.specs.Deleting.{IsDeletion, deleted, delete_refusal}
use Rattle.au_change.specs.Updating.{IsUpdate, rows_refusal, text_refusal, updated, updates}
use Rattle.au_choose.specs.Choosing.{IsSomeLocked, are_too_many, choice_refusal, chosen_in, conditions_over, overflows_in, range_in, where_kind, where_name}
use Rattle.au_entries.specs.declared.kept.Kept.{Kept}
use Rattle.au_entries.specs.declared.table.Table.{Table}
use Rattle.au_entries.specs.Replaying.{NamesDiffer}
use Rattle.au_expr.specs.Names.{or_code}
use Rattle.au_expr.specs.Sessions.{IsSoundSession, Session}
use Rattle.au_insert.specs.Inserting.{IsInsertion, IsPlacing, inserted, listed_refusal, new_row, room_refusal, value_refusal}
use Rattle.au_kept.specs.Keeping.{HoldsTogether}
use Rattle.au_literals.specs.Literals.{AreLiteralsSound, IsSoundValue}
use Rattle.au_modify.specs.declared.modification.Modification.{Modification}
use Rattle.au_modify.specs.Keys.{AreTwoUnderOne, IsLockedKey, IsPresentKey, IsSomeKeyLocked}
use Rattle.au_modify.specs.Modifying.{Comes, Unless}
use Rattle.au_plan.specs.Plans.{FollowsRight, IsChangePlan, IsPlanOf, meant}
use Rattle.au_query.specs.Combos.{Line, passes}
use Rattle.au_query.specs.Refusals.{where_broken}
use Rattle.au_txn.specs.Desks.{Contents as Desk, is_open, open_of}
use Rattle.au_world.specs.declared.built_in.TableKind.{TableKind}
use Rattle.au_world.specs.declared.row_plan.RowPlan.{RowPlan}
use Rattle.au_world.specs.Plans.{Truths}
use Rattle.au_world.specs.Sights.{Sight, columns_of, rows_by}
use Rattle.au_writing.specs.Written.{CanBeWritten, Shows}
use Rattle.au_writing.proofs.Changing.{Changes, none_written}
use Rattle.au_writing.proofs.Contents.{IsContent, table_told}
use Rattle.au_writing.proofs.Deleting.{StaysDifferent, rows_go}
use Rattle.au_writing.proofs.Fitting.{unbroken, unrefused}
use Rattle.au_writing.proofs.Inserting.{OneMore, new_content, room_of, row_comes}
use Rattle.au_writing.proofs.Seen.{AreSeen, RowLaws, Stand, some_seen}
use Rattle.au_writing.proofs.Shown.{IsChange, IsCreated, columns_are, created, is_shown, open_there, shown}
use Rattle.au_writing.proofs.Updating.{rows_set}
use Rattle.au_writing.proofs.Values.{GivesSound}
use Rattle.sql_ast.specs.declared.expression.Expr.{Expr}
use Rattle.sql_ast.specs.declared.rows.Assignment.{Assignment}
use Rattle.sql_ast.specs.declared.rows.Delete.{Delete}
use Rattle.sql_ast.specs.declared.rows.Insert.{Insert}
use Rattle.sql_ast.specs.declared.rows.Update.{Update}
use Rattle.sql_ast.specs.declared.statement.Statement.{Statement}
use Rattle.sql_ast.specs.declared.statement.Statement.TheVariants as statements

-- the laws that all of it stands on
pub record PlanLaws : Type 0 where
  pub rows : RowLaws
  pub stays : StaysDifferent
  pub more : OneMore
  pub gives : GivesSound

-- ---- by the first rule that is broken

-- what the rules behind say, or nothing is changed
comes : (refusal : Option Code) (Behind : Modification → Type 0) (made : Modification) → Comes refusal Behind made → ((refusal ≡ None) × Behind made) ⊎ (made.changes ≡ [])
comes None Behind made h = inl (refl, h)
comes (Some code) Behind made h = inr (ap (λ (m : Modification). m.changes) h)

unless : (Broken : Type 0) (code : Code) (Behind : Modification → Type 0) (made : Modification) → Unless Broken code Behind made → ((¬ Broken) × Behind made) ⊎ (made.changes ≡ [])
unless Broken code Behind made h = elim h [
  | inl broken ↦ inr (ap (λ (m : Modification). m.changes) broken.1)
  | inr kept ↦ inl kept
]

-- ---- rows that are chosen

module _ (laws : PlanLaws) (kept : Kept) (desk : Desk) (client : ClientNo) (sight : Sight) (session : Session) (s : Stand kept desk) where
  abbrev now_shown : Sight
  now_shown = shown kept desk client sight

  chosen_seen : (name : TableName) (told : Table) (condition : Option Expr) → IsCreated kept.tables name told → AreSeen desk client name (chosen_in now_shown session name condition)
  chosen_seen name told condition c =
      let test : Line → Bool = λ line. passes session (conditions_over (range_in now_shown name) condition) (line ∷ []) in
      subst (AreSeen desk client name) (sym (ap (λ (k : TableKind). filter test (rows_by now_shown name k)) c.kind)) (some_seen laws.rows kept desk client name test s)

  chosen_changes : (name : TableName) (told : Table) (condition : Option Expr) → IsCreated kept.tables name told → choice_refusal now_shown session name condition ≡ None
      → ¬ IsSomeLocked now_shown client name (chosen_in now_shown session name condition) → Changes desk client name (chosen_in now_shown session name condition)
  chosen_changes name told condition c none free = record {
    seen = chosen_seen name told condition c;
    opened = ap (is_open name) s.together.desk_is.tables_are ∙ open_there name kept.tables ∙ c.there;
    free = λ line has locked. free (line, has, locked);
    few = unbroken (are_too_many (open_of desk client) (chosen_in now_shown session name condition)) TOO_MANY_CHANGES
        (unrefused (where_broken (overflows_in now_shown session name condition) OVERFLOW) _ none).1;
  }

  -- ---- DELETE

  abbrev Deletes : TableName → Delete → Modification → Type 0
  Deletes name delete done = done ≡ deleted now_shown session name delete

  delete_written : (name : TableName) (told : Table) (delete : Delete) (made : Modification) → IsCreated kept.tables name told → IsDeletion now_shown client session name delete made → CanBeWritten kept desk client made.changes
  delete_written name told delete made c is = elim (comes (delete_refusal now_shown session name delete) _ made is) [
    | inr nothing ↦ none_written kept desk client made.changes s nothing
    | inl (none, more) ↦ elim (unless (IsSomeLocked now_shown client name (chosen_in now_shown session name delete.condition)) LOCKED (Deletes name delete) made more) [
      | inr nothing ↦ none_written kept desk client made.changes s nothing
      | inl (free, done) ↦ (
          let choice = unrefused (where_kind (range_in now_shown name) delete.condition) _ (unrefused (where_name (range_in now_shown name) delete.condition) _ none).1 in
          subst (λ (m : Modification). CanBeWritten kept desk client m.changes) (sym done)
          (rows_go laws.rows laws.stays kept desk client name (chosen_in now_shown session name delete.condition) s (chosen_changes name told delete.condition c choice.1 free)))
    ]
  ]

  -- ---- UPDATE

  abbrev Updates : TableName → Update → Modification → Type 0
  Updates name update done = done ≡ updated now_shown session name update

  abbrev HasSingleKeys : TableName → Update → Modification → Type 0
  HasSingleKeys name update made = Unless (AreTwoUnderOne now_shown name (updates now_shown session name update)) KEY_PRESENT (Updates name update) made

  abbrev HasFreeKeys : TableName → Update → Modification → Type 0
  HasFreeKeys name update made = Unless (IsSomeKeyLocked now_shown client name (updates now_shown session name update)) LOCKED (HasSingleKeys name update) made

  abbrev HasFitRows : TableName → Update → Modification → Type 0
  HasFitRows name update made = Comes (rows_refusal now_shown session name update) (HasFreeKeys name update) made

  update_written : (name : TableName) (told : Table) (update : Update) (made : Modification) → IsCreated kept.tables name told → IsSoundSession session → IsName session.user
      → AllByRecursion (λ (assignment : Assignment). IsSoundValue assignment.value) update.assignments → IsUpdate now_shown client session name update made → CanBeWritten kept desk client made.changes
  update_written name told update made c sound named literals is = elim (comes (or_code (text_refusal (range_in now_shown name) update) (choice_refusal now_shown session name update.condition)) _ made is) [
    | inr nothing ↦ none_written kept desk client made.changes s nothing
    | inl (none, one) ↦ elim (unless (IsSomeLocked now_shown client name (chosen_in now_shown session name update.condition)) LOCKED (HasFitRows name update) made one) [
      | inr nothing ↦ none_written kept desk client made.changes s nothing
      | inl (free, two) ↦ elim (comes (rows_refusal now_shown session name update) (HasFreeKeys name update) made two) [
        | inr nothing ↦ none_written kept desk client made.changes s nothing
        | inl (codes, three) ↦ elim (unless (IsSomeKeyLocked now_shown client name (updates now_shown session name update)) LOCKED (HasSingleKeys name update) made three) [
          | inr nothing ↦ none_written kept desk client made.changes s nothing
          | inl (unlocked, four) ↦ elim (unless (AreTwoUnderOne now_shown name (updates now_shown session name update)) KEY_PRESENT (Updates name update) made four) [
            | inr nothing ↦ none_written kept desk client made.changes s nothing
            | inl (single, done) ↦ (
                let parts = unrefused (text_refusal (range_in now_shown name) update) (choice_refusal now_shown session name update.condition) none in
                subst (λ (m : Modification). CanBeWritten kept desk client m.changes) (sym done)
                (rows_set laws.rows laws.stays laws.gives kept desk client sight session name told update s c sound named literals
                (record { text = parts.0; rows = codes; free = unlocked; single = single })
                (chosen_changes name told update.condition c parts.1 free)))
          ]
        ]
      ]
    ]
  ]

  -- ---- INSERT

  abbrev Inserts : TableName → Insert → ℕ → Modification → Type 0
  Inserts name insert last done = done ≡ inserted session (columns_of kept.tables name) name last insert

  abbrev HasNewKey : TableName → Insert → ℕ → Modification → Type 0
  HasNewKey name insert last made = Unless (IsPresentKey now_shown name (new_row session (columns_of kept.tables name) insert)) KEY_PRESENT (Inserts name insert last) made

  place_written : (name : TableName) (told : Table) (insert : Insert) (made : Modification) → IsCreated kept.tables name told → IsSoundSession session → IsName session.user → AllByRecursion IsSoundValue insert.values
      → listed_refusal (columns_of kept.tables name) insert ≡ None → value_refusal session (columns_of kept.tables name) insert ≡ None → IsPlacing now_shown client session name insert made → CanBeWritten kept desk client made.changes
  place_written name told insert made c sound named literals listed values is =
      let content = new_row session (columns_of kept.tables name) insert in
      elim (comes (room_refusal (open_of desk client) is.count is.last) _ made is.comes) [
        | inr nothing ↦ none_written kept desk client made.changes s nothing
        | inl (room, one) ↦ elim (unless (IsLockedKey now_shown client name content) LOCKED (HasNewKey name insert is.last) made one) [
          | inr nothing ↦ none_written kept desk client made.changes s nothing
          | inl (free, two) ↦ elim (unless (IsPresentKey now_shown name content) KEY_PRESENT (Inserts name insert is.last) made two) [
            | inr nothing ↦ none_written kept desk client made.changes s nothing
            | inl (absent, done) ↦ (
                let its = columns_are kept.tables name told c in
                let differ = subst (λ (columns : List Column). NamesDiffer (map (λ (x : Column). x.name) columns)) (sym its) (table_told kept desk name told s c).is_table.named in
                let fits = subst (λ (columns : List Column). IsContent columns content) its (new_content laws.gives session (columns_of kept.tables name) insert sound named differ literals listed values) in
                subst (λ (m : Modification). CanBeWritten kept desk client m.changes) (sym done)
                (row_comes laws.rows laws.stays laws.more kept desk client sight name told s c is.count is.last content is.numbers (room_of (open_of desk client) is.count is.last room) fits free absent))
          ]
        ]
      ]

  insert_written : (name : TableName) (told : Table) (insert : Insert) (made : Modification) → IsCreated kept.tables name told → IsSoundSession session → IsName session.user → AllByRecursion IsSoundValue insert.values
      → IsInsertion now_shown client session name insert made → CanBeWritten kept desk client made.changes
  insert_written name told insert made c sound named literals is =
      elim (comes (or_code (listed_refusal (columns_of kept.tables name) insert) (value_refusal session (columns_of kept.tables name) insert)) _ made is) [
        | inr nothing ↦ none_written kept desk client made.changes s nothing
        | inl (none, placing) ↦ (
            let parts = unrefused (listed_refusal (columns_of kept.tables name) insert) (value_refusal session (columns_of kept.tables name) insert) none in
            place_written name told insert made c sound named literals parts.0 parts.1 placing)
      ]

  -- ---- each statement

  made_written : (truth : Truths) (what : Action) (name : TableName) (Is : Modification → Type 0) (plan : RowPlan) → IsChange what → IsChangePlan truth now_shown session what name Is plan
      → ((told : Table) (made : Modification) → IsCreated kept.tables name told → Is made → CanBeWritten kept desk client made.changes) → CanBeWritten kept desk client plan.changes
  made_written truth what name Is plan changes is more = by_right (is.rights.code.0 == 0) refl is.comes
    where
      by_right : (b : Bool) → (is.rights.code.0 == 0) ≡ b → FollowsRight b truth now_shown what name Is is.rights.code plan → CanBeWritten kept desk client plan.changes
      by_right true may done =
          let (told, c) = created kept.tables sight.grants session.user what name is.rights changes is.are may in
          subst (CanBeWritten kept desk client) (sym done.changes) (more told done.modification c done.is_so)
      by_right false may barred = none_written kept desk client plan.changes s barred.changes

  pub plan_written : (truth : Truths) (statement : Statement) (plan : RowPlan) → IsSoundSession session → IsName session.user → AreLiteralsSound statement → IsPlanOf truth now_shown client session statement plan
      → CanBeWritten kept desk client plan.changes
  plan_written truth (statements.Select select) plan sound named literals is = none_written kept desk client plan.changes s is.changes
  plan_written truth (statements.Count count) plan sound named literals is = none_written kept desk client plan.changes s is.changes
  plan_written truth (statements.Insert insert) plan sound named literals is =
      let name = meant session insert.table in
      made_written truth action.Insert name (IsInsertion now_shown client session name insert) plan tt is (λ told made c done. insert_written name told insert made c sound named literals done)
  plan_written truth (statements.Update update) plan sound named literals is =
      let name = meant session update.table in
      made_written truth action.Update name (IsUpdate now_shown client session name update) plan tt is (λ told made c done. update_written name told update made c sound named literals done)
  plan_written truth (statements.Delete delete) plan sound named literals is =
      let name = meant session delete.table in
      made_written truth action.Delete name (IsDeletion now_shown client session name delete) plan tt is (λ told made c done. delete_written name told delete made c done)
  plan_written truth _ plan sound named literals is = absurd is

pub plans_written : PlanLaws → (kept : Kept) (desk : Desk) (sight : Sight) (client : ClientNo) (truth : Truths) (session : Session) (statement : Statement) (plan : RowPlan) → HoldsTogether kept desk → Shows kept desk client sight
    → IsSoundSession session → IsName session.user → AreLiteralsSound statement → IsPlanOf truth sight client session statement plan → CanBeWritten kept desk client plan.changes
plans_written laws kept desk sight client truth session statement plan together shows sound named literals is =
    plan_written laws kept desk client sight session (record { together = together; rows_are = shows.committed }) truth statement plan sound named literals
    (subst (λ (seen : Sight). IsPlanOf truth seen client session statement plan) (is_shown kept desk client sight shows) is)
