-- The changes of statements on users and roles, and of DROP TABLE, go on.
use Rattle.std.proofs.Common.{◌≡◌, ◌∙◌, Bool, true, false, not, ◌&&◌, ◌||◌, ◌≢◌, ◌≤◌, length, List, [], ◌∷◌, ◌++◌, ℕ, inl, inr, filter, refl, sym, ap, subst}
use Rattle.std.specs.Prelude.{◌↔◌, if◌then◌else◌, IsTrue}
use Rattle.std.specs.List.{AllByRecursion, Contains, list_any}
use Rattle.std.specs.Ordering.{is_gt, is_lt}
use Rattle.std.specs.Str.{bytes_eq}
use Rattle.std.proofs.lemmas.Bool.{not-false, or_left, or_parts, or_right}
use Rattle.std.proofs.lemmas.Slice.Eq.{bytes_eq-Decides}
use Rattle.au_base.specs.BuiltIn.{audsys, dual, dual_name, public_name, resolved_table, trail, trail_name}
use Rattle.au_base.specs.Sameness.{same_action, same_table}
use Rattle.au_base.specs.declared.action.Action.{Action}
use Rattle.au_base.specs.declared.grant.GrantStatement.{GrantStatement}
use Rattle.au_base.specs.declared.numbers.ClientNo.{ClientNo}
use Rattle.au_base.specs.declared.privilege.Privilege.{Privilege}
use Rattle.au_base.specs.declared.table.TableName.{TableName}
use Rattle.au_define.specs.Columns.{made_columns, made_key}
use Rattle.au_define.specs.Deciding.{Decides, IsSized, IsWellFormed}
use Rattle.au_define.specs.Granting.{DecidesGrant, change_of}
use Rattle.au_define.specs.Rules.{Rules, decided, is_broken}
use Rattle.au_define.specs.Settings.{is_taken, setting_of}
use Rattle.au_define.specs.Tables.{creating_rules, is_used}
use Rattle.au_define.specs.Users.{has_verifier, verifier}
use Rattle.au_define.proofs.GrantsGo.{decided_made, go_all}
use Rattle.au_define.proofs.Members.{all_at}
use Rattle.au_define.proofs.NewTable.{is_table}
use Rattle.au_define.proofs.Ruled.{for_new_role, for_new_user, for_table_gone, for_user, for_user_gone, needs, to_alter, to_create, to_drop_role, to_drop_table}
use Rattle.au_entries.specs.declared.change.Change.{Change}
use Rattle.au_entries.specs.declared.change.Change.TheVariants as change
use Rattle.au_entries.specs.declared.decision.Busy.{Busy}
use Rattle.au_entries.specs.declared.decision.Decision.{Decision}
use Rattle.au_entries.specs.declared.kept.Kept.{Kept}
use Rattle.au_entries.specs.Changing.{by_name, changed}
use Rattle.au_entries.specs.Lawful.{IsLawful}
use Rattle.au_entries.specs.Replaying.{AllGoOn, Conditions, IsTable, has_grantee, has_role, has_table, has_user, owns_table}
use Rattle.au_grants.specs.Rights.{IsChain, IsHolder, RoleEntry}
use Rattle.sql_ast.specs.declared.statement.Statement.{Statement}
use Rattle.sql_ast.specs.declared.table.Element.{Element}
use Rattle.sql_ast.specs.declared.statement.Statement.TheVariants.{Select, Count, Insert, Update, Delete, Commit, Rollback, CreateTable, DropTable, CreateUser, AlterUser, DropUser, CreateRole, DropRole, Grant, CreatePolicy, DropPolicy, Audit, Noaudit, Call}

-- ---- a decision's changes go on where they do once no rule is broken

at_test : (conditions : Conditions) (kept : Kept) (broken : Bool) (changes : List Change) → (broken ≡ false → AllGoOn conditions false kept changes)
    → AllGoOn conditions false kept (if broken then [] else changes)
at_test conditions kept true changes goes = tt
at_test conditions kept false changes goes = goes refl

by_rules : (conditions : Conditions) (kept : Kept) (rights others : Rules) (needed : List Privilege) (changes : List Change) (decision : Decision)
    → decision ≡ decided rights others needed changes → (is_broken (rights ++ others) ≡ false → AllGoOn conditions false kept changes) → AllGoOn conditions false kept decision.changes
by_rules conditions kept rights others needed changes decision is goes =
    subst (λ (d : Decision). AllGoOn conditions false kept d.changes) (sym is) (at_test conditions kept (is_broken (rights ++ others)) changes goes)

-- the second rule isn't broken, and so on
second : (a b : Bool) → (a || b) ≡ false → b ≡ false
second a b is = (or_parts a b is).1

first : (a b : Bool) → (a || b) ≡ false → a ≡ false
first a b is = (or_parts a b is).0

not_of : (b : Bool) → b ≡ false → not b ≡ true
not_of false is = refl
not_of true is = absurd (let e : true ≡ false = is in cc)

same_verifier : (conditions : Conditions) (kept : Kept) (same : Bool) (name verifier : List ℕ) → AllGoOn conditions false kept (if same then [] else change.User name verifier ∷ [])
same_verifier conditions kept true name verifier = tt
same_verifier conditions kept false name verifier = (tt, tt)

-- ---- CREATE ROLE

any_behind : {X : Type 0} (test : X → Bool) (xs : List X) (x : X) (ys : List X) → test x ≡ true → list_any test (xs ++ x ∷ ys) ≡ true
any_behind test [] x ys is = or_left (test x) (list_any test ys) is
any_behind test (y ∷ xs) x ys is = or_right (test y) (list_any test (xs ++ x ∷ ys)) (any_behind test xs x ys is)

-- the new role is there after it is made
is_made : (kept : Kept) (tree : List ℕ → _) (role : List ℕ) → has_role (changed tree (change.Role role) kept) role ≡ true
is_made kept tree role =
    any_behind (λ other. bytes_eq other role) (filter (λ other. is_lt (by_name other role)) kept.roles) role (filter (λ other. is_gt (by_name other role)) kept.roles)
    ((bytes_eq-Decides role role).1 refl)

-- a role that holds something is a grantee
first_grant : (roles : List RoleEntry) (from : List ℕ) (path : List (List ℕ)) (to : List ℕ) → IsChain roles from (path ++ to ∷ []) → (role : List ℕ) × (admin : Bool) × Contains roles (from, role, admin)
first_grant roles from [] to chain = (to, chain.0.0, chain.0.1)
first_grant roles from (role ∷ path) to chain = (role, chain.0.0, chain.0.1)

-- a name that is taken by nobody is no grantee, and holds nothing
holds_nothing : (conditions : Conditions) (kept : Kept) (role user : List ℕ) → IsLawful conditions kept → has_user kept user ≡ true → has_user kept role ≡ false → has_role kept role ≡ false
    → IsHolder kept.grants.role role user → ⊥
holds_nothing conditions kept role user lawful there no_user no_role (inl same) =
    let e : true ≡ false = sym there ∙ ap (has_user kept) same ∙ no_user in absurd cc
holds_nothing conditions kept role user lawful there no_user no_role (inr held) =
    let granted = first_grant kept.grants.role role held.0 user held.1 in
    let is = all_at (λ (entry : RoleEntry). IsTrue (has_grantee kept entry.0) × IsTrue (has_role kept entry.1)) kept.grants.role lawful.founded.role (role, granted.0, granted.1) granted.2 in
    let isnt : has_grantee kept role ≡ false = ap (λ (b : Bool). b || has_role kept role) no_user ∙ no_role in
    let e : true ≡ false = sym is.0 ∙ isnt in absurd cc

new_role : (conditions : Conditions) (kept : Kept) (role user : List ℕ) → IsLawful conditions kept → has_user kept user ≡ true → has_user kept role ≡ false → has_role kept role ≡ false
    → AllGoOn conditions false kept (change.Role role ∷ change.RoleGrant user role true ∷ [])
new_role conditions kept role user lawful there no_user no_role = (
  not_of (has_role kept role) no_role,
  ((or_left (has_user kept user) _ there, is_made kept conditions.tree role, holds_nothing conditions kept role user lawful there no_user no_role), tt),
)

-- ---- GRANT and REVOKE

granted : (table_is : (a b : TableName) → (same_table a b ≡ true) ↔ (a ≡ b)) (action_is : (a b : Action) → (same_action a b ≡ true) ↔ (a ≡ b))
    (conditions : Conditions) (kept : Kept) (user : List ℕ) (client : ClientNo) (busy : Busy) (statement : GrantStatement) (decision : Decision)
    → DecidesGrant (setting_of kept user client busy) statement decision → AllGoOn conditions false kept decision.changes
granted table_is action_is conditions kept user client busy statement decision (made, decides, is) =
    let changes = decided_made action_is kept.users kept.roles kept.tables table_is kept.grants user statement made decides in
    subst (λ (d : Decision). AllGoOn conditions false kept d.changes) (sym is) (go_all conditions kept made.grants changes.0 changes.1)

-- ---- CREATE TABLE

owner_there : (kept : Kept) (user owner : List ℕ) (own : Bool) → bytes_eq owner user ≡ own → has_user kept user ≡ true → (not own && not (has_user kept owner)) ≡ false → has_user kept owner ≡ true
owner_there kept user owner true same there clear = ap (has_user kept) ((bytes_eq-Decides owner user).0 same) ∙ there
owner_there kept user owner false same there clear = not-false (has_user kept owner) clear

other_table : (table built : TableName) → bytes_eq table.name built.name ≡ false → table ≢ built
other_table table built isnt same = let e : true ≡ false = sym ((bytes_eq-Decides table.name built.name).1 (ap (λ (t : TableName). t.name) same)) ∙ isnt in absurd cc

new_table : (kept : Kept) (user : List ℕ) (client : ClientNo) (busy : Busy) (table : TableName) (elements : List Element) → (1 ≤ length elements) × AllByRecursion IsSized elements → has_user kept user ≡ true
    → is_broken (creating_rules (setting_of kept user client busy) table elements) ≡ false
    → (not (has_table kept table) ≡ true) × (table ≢ dual) × (table ≢ trail) × (has_user kept table.owner ≡ true) × IsTable (made_columns elements) (made_key elements)
new_table kept user client busy table elements formed there clear =
    let used = second _ _ clear in
    let twice = second _ _ used in
    let keys = second _ _ twice in
    let unknown = second _ _ keys in
    let free = first (is_used (setting_of kept user client busy) table) _ used in
    let new = first (has_table kept table || bytes_eq table.name dual_name) (bytes_eq table.name trail_name) free in (
      not_of (has_table kept table) (first (has_table kept table) (bytes_eq table.name dual_name) new),
      other_table table dual (second (has_table kept table) (bytes_eq table.name dual_name) new),
      other_table table trail (second (has_table kept table || bytes_eq table.name dual_name) (bytes_eq table.name trail_name) free),
      owner_there kept user table.owner (bytes_eq table.owner user) refl there (first _ _ clear),
      is_table elements formed.0 formed.1 (first _ _ twice) (first _ _ keys) (first _ _ unknown),
    )

-- ---- all of them

pub goes : (table_is : (a b : TableName) → (same_table a b ≡ true) ↔ (a ≡ b)) (action_is : (a b : Action) → (same_action a b ≡ true) ↔ (a ≡ b))
    (conditions : Conditions) (kept : Kept) (user : List ℕ) (client : ClientNo) (busy : Busy) (statement : Statement) (decision : Decision)
    → IsWellFormed statement → IsLawful conditions kept → has_user kept user ≡ true
    → Decides (setting_of kept user client busy) statement decision → AllGoOn conditions false kept decision.changes
goes table_is action_is conditions kept user client busy (CreateTable create) decision formed lawful there (held, own, any, is) =
    let name = resolved_table user create.table in
    by_rules conditions kept (to_create held (setting_of kept user client busy) name) (creating_rules (setting_of kept user client busy) name create.elements) _ _ decision is
    (λ clear. (new_table kept user client busy name create.elements formed there (second _ _ clear), tt))
goes table_is action_is conditions kept user client busy (Grant grant) decision other lawful there decides = granted table_is action_is conditions kept user client busy grant decision decides
goes table_is action_is conditions kept user client busy (DropTable table) decision other lawful there (held, code, tells, refuses, is) =
    let name = resolved_table user table in
    by_rules conditions kept (to_drop_table held code (setting_of kept user client busy) name) (for_table_gone (setting_of kept user client busy) name) _ (change.TableGone name ∷ []) decision is (λ clear. (not-false (has_table kept name) (first _ _ (second _ _ (second _ _ clear))), tt))
goes table_is action_is conditions kept user client busy (CreateUser name password) decision other lawful there (held, tells, is) =
    by_rules conditions kept (needs held) (for_new_user (setting_of kept user client busy) name) _ (change.User name (verifier name password.text) ∷ []) decision is (λ clear. (tt, tt))
goes table_is action_is conditions kept user client busy (AlterUser name password) decision other lawful there (held, tells, is) =
    let setting = setting_of kept user client busy in
    by_rules conditions kept (to_alter held (setting_of kept user client busy) name) (for_user (setting_of kept user client busy) name) _ _ decision is (λ clear. same_verifier conditions kept (has_verifier setting name (verifier name password.text)) name (verifier name password.text))
goes table_is action_is conditions kept user client busy (DropUser name) decision other lawful there (held, tells, is) =
    by_rules conditions kept (needs held) (for_user_gone (setting_of kept user client busy) name) _ (change.UserGone name ∷ []) decision is
    (λ clear. (let behind = second _ _ (second _ _ clear) in
    ((not-false (has_user kept name) (first _ _ behind), not_of (owns_table kept name) (first _ _ (second _ _ (second _ _ behind)))), tt)))
goes table_is action_is conditions kept user client busy (CreateRole role) decision other lawful there (held, tells, is) =
    by_rules conditions kept (needs held) (for_new_role (setting_of kept user client busy) role) _ (change.Role role ∷ change.RoleGrant user role true ∷ []) decision is
    (λ clear. (let free : is_taken (setting_of kept user client busy) role ≡ false = first _ _ (second _ _ clear) in
    let granted : (has_user kept role || has_role kept role) ≡ false = first _ (bytes_eq role audsys) (first _ (bytes_eq role public_name) free) in
    new_role conditions kept role user lawful there (first (has_user kept role) _ granted) (second (has_user kept role) _ granted)))
goes table_is action_is conditions kept user client busy (DropRole role) decision other lawful there (admin, held, tells, told, is) =
    by_rules conditions kept (to_drop_role admin held (setting_of kept user client busy) role) [] _ (change.RoleGone role ∷ []) decision is (λ clear. (not-false (has_role kept role) (first _ _ clear), tt))
goes table_is action_is conditions kept user client busy (Select x) decision other lawful there never = absurd never
goes table_is action_is conditions kept user client busy (Count x) decision other lawful there never = absurd never
goes table_is action_is conditions kept user client busy (Insert x) decision other lawful there never = absurd never
goes table_is action_is conditions kept user client busy (Update x) decision other lawful there never = absurd never
goes table_is action_is conditions kept user client busy (Delete x) decision other lawful there never = absurd never
goes table_is action_is conditions kept user client busy Commit decision other lawful there never = absurd never
goes table_is action_is conditions kept user client busy Rollback decision other lawful there never = absurd never
goes table_is action_is conditions kept user client busy (CreatePolicy x) decision other lawful there never = absurd never
goes table_is action_is conditions kept user client busy (DropPolicy x) decision other lawful there never = absurd never
goes table_is action_is conditions kept user client busy (Audit x) decision other lawful there never = absurd never
goes table_is action_is conditions kept user client busy (Noaudit x y) decision other lawful there never = absurd never
goes table_is action_is conditions kept user client busy (Call x) decision other lawful there never = absurd never
