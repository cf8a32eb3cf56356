-- What is kept is whole behind a statement, and somebody is a user, where it was so before.
use Rattle.std.proofs.Common.{◌≡◌, ◌∙◌, ◌≤◌, ◌+◌, Bool, true, false, not, ◌&&◌, ◌||◌, List, [], ◌∷◌, ◌++◌, ℕ, length, map, refl, sym, ap, subst, arith}
use Rattle.std.specs.Prelude.{◌↔◌, if◌then◌else◌, nat_le, nat_lt}
use Rattle.std.specs.List.{AllByRecursion, list_any}
use Rattle.std.specs.Str.{bytes_eq}
use Rattle.std.proofs.lemmas.Bool.{not-false, or_parts}
use Rattle.std.proofs.lemmas.Bool.Decides.{nat_tests}
use Rattle.std.proofs.lemmas.Slice.Eq.{bytes_eq-Decides}
use Rattle.au_base.specs.BuiltIn.{dual_name, resolved_table, sys, trail_name}
use Rattle.au_base.specs.Limits.{CATALOG_OBJECTS, GRANTS, TABLE_COLUMNS}
use Rattle.au_base.specs.Sameness.{same_action, same_table}
use Rattle.au_base.specs.declared.action.Action.{Action}
use Rattle.au_base.specs.declared.grant.GrantStatement.{GrantStatement}
use Rattle.au_base.specs.declared.numbers.ClientNo.{ClientNo}
use Rattle.au_base.specs.declared.privilege.Privilege.{Privilege}
use Rattle.au_base.specs.declared.table.TableName.{TableName}
use Rattle.au_define.specs.Columns.{has_column_twice, has_second_key, has_unknown_key, made_columns, made_key, names_of}
use Rattle.au_define.specs.Deciding.{Decides}
use Rattle.au_define.specs.Granting.{DecidesGrant, change_of, known_of}
use Rattle.au_define.specs.Roles.{has_no_room}
use Rattle.au_define.specs.Rules.{Rules, decided, is_broken}
use Rattle.au_define.specs.Settings.{has_user as is_user, is_connected, is_taken, setting_of}
use Rattle.au_define.specs.Tables.{creating_rules, has_too_many, is_used}
use Rattle.au_define.specs.Users.{has_verifier, verifier}
use Rattle.au_define.proofs.GrantsGo.{decided_made}
use Rattle.au_define.proofs.NewTable.{made_length}
use Rattle.au_define.proofs.Ruled.{for_new_role, for_new_user, for_table_gone, for_user, for_user_gone, needs, to_alter, to_create, to_drop_role, to_drop_table}
use Rattle.au_define.proofs.StaysWhole.{granted_whole, new_role, new_user, role_gone, same_user, there_put, there_stays, table_gone, table_made, user_gone}
use Rattle.au_entries.specs.declared.change.Change.{Change}
use Rattle.au_entries.specs.declared.change.Change.TheVariants as change
use Rattle.au_entries.specs.declared.decision.Busy.{Busy}
use Rattle.au_entries.specs.declared.decision.Decision.{Decision}
use Rattle.au_entries.specs.declared.kept.Kept.{Kept}
use Rattle.au_entries.specs.Changing.{changed_all}
use Rattle.au_entries.specs.Lawful.{IsLawful, IsRowFounded, IsWhole}
use Rattle.au_entries.specs.Replaying.{Conditions, has_table, has_user}
use Rattle.au_grants.specs.declared.change.GrantChange.{GrantChange}
use Rattle.au_grants.specs.declared.change.GrantChange.TheVariants.{UserGone, RoleGone, RoleGrant, TableGone}
use Rattle.au_grants.specs.Changing.{IsGrant, applied, applied_all}
use Rattle.au_grants.specs.Rights.{Grants, Name, grant_count}
use Rattle.au_priv.specs.declared.decided.Decided.{Decided}
use Rattle.au_priv.specs.declared.decided.Known.{Known}
use Rattle.au_priv.specs.Deciding.{Decides as DecidesRights}
use Rattle.sql_ast.specs.declared.expression.Expr.{Expr}
use Rattle.sql_ast.specs.declared.statement.Statement.{Statement}
use Rattle.sql_ast.specs.declared.statement.Statement.TheVariants.{Select, Count, Insert, Update, Delete, Commit, Rollback, CreateTable, DropTable, CreateUser, AlterUser, DropUser, CreateRole, DropRole, Grant, CreatePolicy, DropPolicy, Audit, Noaudit, Call}
use Rattle.sql_ast.specs.declared.table.Element.{Element}

-- somebody is a user behind the changes, and all is whole
abbrev pub Stays : List ℕ → (List ℕ → Expr) → Kept → List Change → Type 0
Stays who tree kept changes = (has_user (changed_all tree changes kept) who ≡ true) × IsWhole (changed_all tree changes kept)

at_test : (P : List Change → Type 0) (broken : Bool) (changes : List Change) → P [] → (broken ≡ false → P changes) → P (if broken then [] else changes)
at_test P true changes none goes = none
at_test P false changes none goes = goes refl

by_rules : (P : List Change → Type 0) (rights others : Rules) (needed : List Privilege) (changes : List Change) (decision : Decision) → decision ≡ decided rights others needed changes → P []
    → (is_broken (rights ++ others) ≡ false → P changes) → P decision.changes
by_rules P rights others needed changes decision is none goes =
    subst (λ (d : Decision). P d.changes) (sym is) (at_test P (is_broken (rights ++ others)) changes none goes)

first : (a b : Bool) → (a || b) ≡ false → a ≡ false
first a b is = (or_parts a b is).0

second : (a b : Bool) → (a || b) ≡ false → b ≡ false
second a b is = (or_parts a b is).1

-- a limit that isn't reached has room for one more grant
more_grants : (n : ℕ) → nat_le GRANTS n ≡ false → n + 1 ≤ GRANTS
more_grants n is = grind (arith, nat_tests)

not_over : (n : ℕ) → nat_lt TABLE_COLUMNS n ≡ false → n ≤ TABLE_COLUMNS
not_over n is = grind (arith, nat_tests)

module _ (table_is : (a b : TableName) → (same_table a b ≡ true) ↔ (a ≡ b)) (action_is : (a b : Action) → (same_action a b ≡ true) ↔ (a ≡ b))
    (adds : (grants : Grants) (one : GrantChange) → IsGrant one → grant_count (applied one grants) ≤ grant_count grants + 1)
    (takes : (grants : Grants) (one : GrantChange) → ¬ IsGrant one → grant_count (applied one grants) ≤ grant_count grants)
    (keeps : (grants : Grants) (known : Known) (user : Name) (statement : GrantStatement) (made : Decided) → DecidesRights grants known user statement made → grant_count grants ≤ GRANTS → grant_count (applied_all made.grants grants) ≤ GRANTS)
    (who : List ℕ) (tree : List ℕ → Expr) (kept : Kept) (user : List ℕ) (client : ClientNo) (busy : Busy)
    (safe : (name : List ℕ) → is_broken (for_user_gone (setting_of kept user client busy) name) ≡ false → bytes_eq name who ≡ false) where
  granted : (statement : GrantStatement) (decision : Decision) → has_user kept who ≡ true → IsWhole kept → DecidesGrant (setting_of kept user client busy) statement decision → Stays who tree kept decision.changes
  granted statement decision there whole (made, decides, is) =
      let changes = decided_made action_is kept.users kept.roles kept.tables table_is kept.grants user statement made decides in
      subst (λ (d : Decision). Stays who tree kept d.changes) (sym is)
      (granted_whole (λ users. list_any (λ (other : List ℕ × List ℕ). bytes_eq other.0 who) users ≡ true) tree kept made.grants changes.0 (keeps kept.grants (known_of (setting_of kept user client busy)) user statement made decides whole.few.grants) there whole)

  altered : (same : Bool) (name password : List ℕ) → has_user kept name ≡ true → has_user kept who ≡ true → IsWhole kept → Stays who tree kept (if same then [] else change.User name password ∷ [])
  altered true name password is there whole = (there, whole)
  altered false name password is there whole = (there_put who kept.users name password there, same_user tree kept name password is whole)

  table : (name : TableName) (elements : List Element) → AllByRecursion (IsRowFounded kept) kept.rows → has_user kept who ≡ true → IsWhole kept → is_broken (creating_rules (setting_of kept user client busy) name elements) ≡ false
      → Stays who tree kept (change.Table name (made_columns elements) (made_key elements) ∷ [])
  table name elements founded there whole clear =
      let used = second _ _ clear in
      let free = first (is_used (setting_of kept user client busy) name) _ used in
      let new = first (has_table kept name || bytes_eq name.name dual_name) (bytes_eq name.name trail_name) free in
      let keys = second (has_column_twice elements) _ (second (is_used (setting_of kept user client busy) name) _ used) in
      let many = second (has_unknown_key elements) _ (second (has_second_key elements) _ keys) in
      let room = first (has_too_many (setting_of kept user client busy) elements) false many in
      let parts = or_parts (nat_le CATALOG_OBJECTS (length kept.tables)) (nat_lt TABLE_COLUMNS (length (names_of elements))) room in (
        there,
        table_made table_is tree kept name (made_columns elements) (made_key elements) founded (first (has_table kept name) (bytes_eq name.name dual_name) new) parts.0
            (subst (λ (n : ℕ). n ≤ TABLE_COLUMNS) (sym (made_length elements)) (not_over (length (names_of elements)) parts.1)) whole,
      )

  pub stays : (conditions : Conditions) (statement : Statement) (decision : Decision) → IsLawful conditions kept → IsWhole kept → has_user kept who ≡ true → Decides (setting_of kept user client busy) statement decision
      → Stays who tree kept decision.changes
  stays conditions (CreateTable create) decision lawful whole there (held, own, any, is) =
      let name = resolved_table user create.table in
      by_rules (Stays who tree kept) (to_create held (setting_of kept user client busy) name) (creating_rules (setting_of kept user client busy) name create.elements) _ _ decision is (there, whole)
      (λ clear. table name create.elements lawful.founded.rows there whole (second _ _ clear))
  stays conditions (Grant grant) decision lawful whole there decides = granted grant decision there whole decides
  stays conditions (DropTable table) decision lawful whole there (held, code, tells, refuses, is) =
      let name = resolved_table user table in
      by_rules (Stays who tree kept) (to_drop_table held code (setting_of kept user client busy) name) (for_table_gone (setting_of kept user client busy) name) _ _ decision is (there, whole)
      (λ clear. (there, table_gone tree kept name (takes kept.grants (TableGone name) (λ never. never)) whole))
  stays conditions (CreateUser name password) decision lawful whole there (held, tells, is) =
      by_rules (Stays who tree kept) (needs held) (for_new_user (setting_of kept user client busy) name) _ _ decision is (there, whole)
      (λ clear. (there_put who kept.users name (verifier name password.text) there, new_user tree kept name (verifier name password.text) (first _ false (second _ _ (second _ _ clear))) whole))
  stays conditions (AlterUser name password) decision lawful whole there (held, tells, is) =
      by_rules (Stays who tree kept) (to_alter held (setting_of kept user client busy) name) (for_user (setting_of kept user client busy) name) _ _ decision is (there, whole)
      (λ clear. altered (has_verifier (setting_of kept user client busy) name (verifier name password.text)) name (verifier name password.text) (not-false (has_user kept name) (first _ false (second _ _ clear))) there whole)
  stays conditions (DropUser name) decision lawful whole there (held, tells, is) =
      by_rules (Stays who tree kept) (needs held) (for_user_gone (setting_of kept user client busy) name) _ _ decision is (there, whole)
      (λ clear. (there_stays who kept.users name (safe name (second (not held) _ clear)) there, user_gone tree kept name (takes kept.grants (UserGone name) (λ never. never)) whole))
  stays conditions (CreateRole role) decision lawful whole there (held, tells, is) =
      by_rules (Stays who tree kept) (needs held) (for_new_role (setting_of kept user client busy) role) _ _ decision is (there, whole)
      (λ clear. (let full = first (has_no_room (setting_of kept user client busy)) false (second (is_taken (setting_of kept user client busy) role) _ (second (not held) _ clear)) in
      let parts = or_parts (nat_le CATALOG_OBJECTS (length kept.roles)) (nat_le GRANTS (grant_count kept.grants)) full in
      (there, new_role tree kept role user parts.0 (let one = adds kept.grants (RoleGrant user role true) tt in let room = more_grants (grant_count kept.grants) parts.1 in omega (arith, one, room)) whole)))
  stays conditions (DropRole role) decision lawful whole there (admin, held, tells, told, is) =
      by_rules (Stays who tree kept) (to_drop_role admin held (setting_of kept user client busy) role) [] _ _ decision is (there, whole)
      (λ clear. (there, role_gone tree kept role (takes kept.grants (RoleGone role) (λ never. never)) whole))
  stays conditions (Select x) decision lawful whole there never = absurd never
  stays conditions (Count x) decision lawful whole there never = absurd never
  stays conditions (Insert x) decision lawful whole there never = absurd never
  stays conditions (Update x) decision lawful whole there never = absurd never
  stays conditions (Delete x) decision lawful whole there never = absurd never
  stays conditions Commit decision lawful whole there never = absurd never
  stays conditions Rollback decision lawful whole there never = absurd never
  stays conditions (CreatePolicy x) decision lawful whole there never = absurd never
  stays conditions (DropPolicy x) decision lawful whole there never = absurd never
  stays conditions (Audit x) decision lawful whole there never = absurd never
  stays conditions (Noaudit x y) decision lawful whole there never = absurd never
  stays conditions (Call x) decision lawful whole there never = absurd never

differs : (who name : List ℕ) (b : Bool) → bytes_eq name who ≡ b → (name ≡ who → ⊥) → b ≡ false
differs who name false is apart = refl
differs who name true is apart = absurd (apart ((bytes_eq-Decides name who).0 is))

-- SYS doesn't go
pub sys_safe : (kept : Kept) (user : List ℕ) (client : ClientNo) (busy : Busy) (name : List ℕ) → is_broken (for_user_gone (setting_of kept user client busy) name) ≡ false → bytes_eq name sys ≡ false
sys_safe kept user client busy name clear = first (bytes_eq name sys) _ clear

-- nor does a user who is connected
pub connected_safe : (kept : Kept) (user : List ℕ) (client : ClientNo) (busy : Busy) (who : List ℕ) → is_connected (setting_of kept user client busy) who ≡ true → (name : List ℕ)
    → is_broken (for_user_gone (setting_of kept user client busy) name) ≡ false → bytes_eq name who ≡ false
connected_safe kept user client busy who there name clear =
    let setting = setting_of kept user client busy in
    let apart = first (is_connected setting name) _ (second (not (is_user setting name)) _ (second (bytes_eq name sys) _ clear)) in
    differs who name (bytes_eq name who) refl (λ same. (let e : true ≡ false = sym there ∙ ap (is_connected setting) (sym same) ∙ apart in absurd cc))
