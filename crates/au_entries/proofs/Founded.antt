-- What stands on something finds it after each change that goes on.
use Rattle.std.proofs.Common.{◌≡◌, ◌≢◌, ◌≤◌, ◌∙◌, ℕ, Bool, true, false, not, ◌||◌, cond, if◌then◌else◌, ◌⊎◌, inl, inr, List, [], ◌∷◌, map, length, refl, sym, ap, subst}
use Rattle.std.specs.Prelude.{IsTrue, ⊤}
use Rattle.std.specs.List.{AllByRecursion, Contains, filter, list_all, list_any}
use Rattle.std.specs.Str.{bytes_eq}
use Rattle.std.proofs.lemmas.Bool.{and_from, and_parts, or_cases, or_left, or_right}
use Rattle.au_base.specs.declared.action.Action.{Action}
use Rattle.au_base.specs.declared.privilege.Privilege.{Privilege}
use Rattle.au_base.specs.declared.table.TableName.{TableName}
use Rattle.au_base.specs.Sameness.{same_table}
use Rattle.au_entries.specs.declared.change.Change.{Change}
use Rattle.au_entries.specs.declared.change.Change.TheVariants.{User, UserGone, Role, RoleGone, SysGrant, SysRevoke, RoleGrant, RoleRevoke, ObjGrant, ObjRevoke, Table, TableGone, Put, Gone, Policy, PolicyGone, Enable, Fga, FgaGone, Archive, Start}
use Rattle.au_entries.specs.declared.fine_grained.FgaPolicy.{FgaPolicy}
use Rattle.au_entries.specs.declared.kept.Kept.{Kept}
use Rattle.au_entries.specs.declared.policy.AuditPolicy.{AuditPolicy}
use Rattle.au_entries.specs.declared.policy.Enabled.{Enabled}
use Rattle.au_entries.specs.declared.policy.Enabled.TheVariants.{Off, By, Except}
use Rattle.au_entries.specs.declared.policy.Outcomes.{Outcomes}
use Rattle.au_entries.specs.declared.table.Table.{Table as AnyTable}
use Rattle.au_entries.specs.Changing.{KeptRow, by_fields, by_name, changed, enabled_after, fga_after, fga_fields, for_users, grants_after, is_fga, is_on, is_row, put_in_order, row_fields, rows_after, table_fields, tables_after, without_user}
use Rattle.au_entries.specs.Lawful.{IsFounded, IsRowFounded, IsTableFounded}
use Rattle.au_entries.specs.Replaying.{Conditions, GoesOn, IsKeptTable, has_grantee, has_policy, has_role, has_table, has_user, is_enabled, named_users, owns_table}
use Rattle.au_entries.proofs.Members.{all_at, all_of, any_to, granted, kept, mapped, none_pass, passed, placed_cases, put_cases, stays}
use Rattle.au_entries.proofs.Stays.{Spares, SparesTable, apart_names, apart_tables, grantee_stays, is_name, is_table_name, other_name, other_table, policies_stay, roles_stay, same_name, table_stays, tables_stay, users_stay}
use Rattle.au_grants.specs.declared.change.GrantChange.{GrantChange}
use Rattle.au_grants.specs.declared.change.GrantChange.TheVariants as grant
use Rattle.au_grants.specs.declared.grants.Grants.{Grants}
use Rattle.au_grants.specs.Changing.{applied, names_role, object_to, role_to, system_to, with_object}
use Rattle.au_grants.specs.Holding.{grants_object, grants_privilege, grants_role}
use Rattle.au_grants.specs.Order.{object_before, placed, role_before, system_before}
use Rattle.au_grants.specs.Rights.{HasNoCircle, ObjectEntry, RoleEntry, SystemEntry}
use Rattle.au_grants.specs.Changing.{Closes}
use Rattle.sql_ast.specs.declared.expression.Expr.{Expr}

-- ---- grants

abbrev NamesGrantee : Kept → SystemEntry → Type 0
NamesGrantee kept entry = IsTrue (has_grantee kept entry.0)

system_at : (conditions : Conditions) (image : Bool) (kept : Kept) (change : Change) → GoesOn conditions image kept change
    → ((x : SystemEntry) → Contains kept.grants.system x → NamesGrantee kept x) → (x : SystemEntry) → Contains (grants_after change kept.grants).system x → NamesGrantee (changed conditions.tree change kept) x
system_at conditions image before (UserGone gone) goes old x has =
    grantee_stays conditions.tree (UserGone gone) before x.0 (λ same. apart_names x.0 gone (passed (λ (y : SystemEntry). not (system_to gone y)) before.grants.system x has) (sym same))
    (old x (kept (λ (y : SystemEntry). not (system_to gone y)) before.grants.system x has))
system_at conditions image before (RoleGone gone) goes old x has =
    grantee_stays conditions.tree (RoleGone gone) before x.0 (λ same. apart_names x.0 gone (passed (λ (y : SystemEntry). not (system_to gone y)) before.grants.system x has) (sym same))
    (old x (kept (λ (y : SystemEntry). not (system_to gone y)) before.grants.system x has))
system_at conditions image before (SysGrant grantee privilege admin) goes old x has =
    granted (λ (name : List ℕ) (other : Privilege). IsTrue (has_grantee before name)) system_before (grants_privilege grantee privilege) (grantee, privilege, admin) before.grants.system goes old x has
system_at conditions image before (SysRevoke grantee privilege) goes old x has = old x (kept (λ (y : SystemEntry). not (grants_privilege grantee privilege y)) before.grants.system x has)
system_at conditions image before (User name verifier) goes old x has = grantee_stays conditions.tree (User name verifier) before x.0 tt (old x has)
system_at conditions image before (Role name) goes old x has = grantee_stays conditions.tree (Role name) before x.0 tt (old x has)
system_at conditions image before _ goes old x has = old x has

abbrev NamesRole : Kept → RoleEntry → Type 0
NamesRole kept entry = IsTrue (has_grantee kept entry.0) × IsTrue (has_role kept entry.1)

role_stays : (tree : List ℕ → Expr) (change : Change) (before : Kept) (x : RoleEntry) → Spares change x.0 → Spares change x.1 → NamesRole before x → NamesRole (changed tree change before) x
role_stays tree change before x grantee role is = (grantee_stays tree change before x.0 grantee is.0, roles_stay change before.roles x.1 role is.1)

neither : (a b : Bool) → not (a || b) ≡ true → (not a ≡ true) × (not b ≡ true)
neither true b is = absurd (let e : false ≡ true = is in cc)
neither false b is = (refl, is)

role_at : (conditions : Conditions) (image : Bool) (kept : Kept) (change : Change) → GoesOn conditions image kept change
    → ((x : RoleEntry) → Contains kept.grants.role x → NamesRole kept x) → (x : RoleEntry) → Contains (grants_after change kept.grants).role x → NamesRole (changed conditions.tree change kept) x
role_at conditions image before (UserGone gone) goes old x has =
    let found = old x (kept (λ (y : RoleEntry). not (role_to gone y)) before.grants.role x has) in
    (grantee_stays conditions.tree (UserGone gone) before x.0 (λ same. apart_names x.0 gone (passed (λ (y : RoleEntry). not (role_to gone y)) before.grants.role x has) (sym same)) found.0, found.1)
role_at conditions image before (RoleGone gone) goes old x has =
    let parts = neither (bytes_eq x.0 gone) (bytes_eq x.1 gone) (passed (λ (y : RoleEntry). not (names_role gone y)) before.grants.role x has) in
    role_stays conditions.tree (RoleGone gone) before x (λ same. apart_names x.0 gone parts.0 (sym same)) (λ same. apart_names x.1 gone parts.1 (sym same))
    (old x (kept (λ (y : RoleEntry). not (names_role gone y)) before.grants.role x has))
role_at conditions image before (RoleGrant grantee role admin) goes old x has =
    granted (λ (name : List ℕ) (other : List ℕ). IsTrue (has_grantee before name) × IsTrue (has_role before other)) role_before (grants_role grantee role) (grantee, role, admin) before.grants.role (goes.0, goes.1) old x has
role_at conditions image before (RoleRevoke grantee role) goes old x has = old x (kept (λ (y : RoleEntry). not (grants_role grantee role y)) before.grants.role x has)
role_at conditions image before (User name verifier) goes old x has = role_stays conditions.tree (User name verifier) before x tt tt (old x has)
role_at conditions image before (Role name) goes old x has = role_stays conditions.tree (Role name) before x tt tt (old x has)
role_at conditions image before _ goes old x has = old x has

-- no change that goes on closes a circle
abbrev pub NoneCloses : Type 0
NoneCloses = (grants : Grants) (change : GrantChange) → ¬ Closes grants.role change → HasNoCircle grants.role → HasNoCircle (applied change grants).role

circle_at : NoneCloses → (conditions : Conditions) (image : Bool) (kept : Kept) (change : Change) → GoesOn conditions image kept change → HasNoCircle kept.grants.role → HasNoCircle (grants_after change kept.grants).role
circle_at law conditions image before (UserGone gone) goes none = law before.grants (grant.UserGone gone) (λ closes. closes) none
circle_at law conditions image before (RoleGone gone) goes none = law before.grants (grant.RoleGone gone) (λ closes. closes) none
circle_at law conditions image before (RoleGrant grantee role admin) goes none = law before.grants (grant.RoleGrant grantee role admin) goes.2 none
circle_at law conditions image before (RoleRevoke grantee role) goes none = law before.grants (grant.RoleRevoke grantee role) (λ closes. closes) none
circle_at law conditions image before _ goes none = none

abbrev NamesTable : Kept → ObjectEntry → Type 0
NamesTable kept entry = IsTrue (has_grantee kept entry.0) × IsTrue (has_table kept entry.1)

object_stays : (tree : List ℕ → Expr) (change : Change) (before : Kept) (x : ObjectEntry) → Spares change x.0 → SparesTable change x.1 → NamesTable before x → NamesTable (changed tree change before) x
object_stays tree change before x grantee table is = (grantee_stays tree change before x.0 grantee is.0, tables_stay change before.tables x.1 table is.1)

with_object_at : (P : ObjectEntry → Type 0) (entry : ObjectEntry) (entries : List ObjectEntry) (b : Bool) → P entry → ((x : ObjectEntry) → Contains entries x → P x) → (x : ObjectEntry)
    → Contains (if b then entries else placed object_before entry entries) x → P x
with_object_at P entry entries true new old x has = old x has
with_object_at P entry entries false new old x has = elim (placed_cases object_before entry entries x has) [
  | inl same ↦ subst P same new
  | inr there ↦ old x there
]

object_at : (conditions : Conditions) (image : Bool) (kept : Kept) (change : Change) → GoesOn conditions image kept change
    → ((x : ObjectEntry) → Contains kept.grants.object x → NamesTable kept x) → (x : ObjectEntry) → Contains (grants_after change kept.grants).object x → NamesTable (changed conditions.tree change kept) x
object_at conditions image before (UserGone gone) goes old x has =
    let found = old x (kept (λ (y : ObjectEntry). not (object_to gone y)) before.grants.object x has) in
    (grantee_stays conditions.tree (UserGone gone) before x.0 (λ same. apart_names x.0 gone (passed (λ (y : ObjectEntry). not (object_to gone y)) before.grants.object x has) (sym same)) found.0, found.1)
object_at conditions image before (RoleGone gone) goes old x has =
    let found = old x (kept (λ (y : ObjectEntry). not (object_to gone y)) before.grants.object x has) in
    (grantee_stays conditions.tree (RoleGone gone) before x.0 (λ same. apart_names x.0 gone (passed (λ (y : ObjectEntry). not (object_to gone y)) before.grants.object x has) (sym same)) found.0, found.1)
object_at conditions image before (ObjGrant grantee table action) goes old x has =
    with_object_at (NamesTable before) (grantee, table, action) before.grants.object (list_any (grants_object grantee table action) before.grants.object) goes old x has
object_at conditions image before (ObjRevoke grantee table action) goes old x has = old x (kept (λ (y : ObjectEntry). not (grants_object grantee table action y)) before.grants.object x has)
object_at conditions image before (TableGone gone) goes old x has =
    object_stays conditions.tree (TableGone gone) before x tt (λ same. apart_tables x.1 gone (passed (λ (y : ObjectEntry). not (same_table y.1 gone)) before.grants.object x has) (sym same))
    (old x (kept (λ (y : ObjectEntry). not (same_table y.1 gone)) before.grants.object x has))
object_at conditions image before (Table name columns key) goes old x has = object_stays conditions.tree (Table name columns key) before x tt tt (old x has)
object_at conditions image before (User name verifier) goes old x has = object_stays conditions.tree (User name verifier) before x tt tt (old x has)
object_at conditions image before (Role name) goes old x has = object_stays conditions.tree (Role name) before x tt tt (old x has)
object_at conditions image before _ goes old x has = old x has

-- ---- tables and rows

table_at : (conditions : Conditions) (image : Bool) (kept : Kept) (change : Change) → GoesOn conditions image kept change
    → ((x : AnyTable) → Contains kept.tables x → IsTableFounded kept x) → (x : AnyTable) → Contains (tables_after change kept.tables) x → IsTableFounded (changed conditions.tree change kept) x
table_at conditions image before (User name verifier) goes old x has =
    let is = old x has in
    (is.0, is.1, users_stay (User name verifier) before.users x.name.owner tt is.2, is.3)
table_at conditions image before (UserGone gone) goes old x has =
    let is = old x has in (
      is.0,
      is.1,
      users_stay (UserGone gone) before.users x.name.owner
          (λ same. none_pass (λ (table : AnyTable). bytes_eq table.name.owner gone) before.tables x goes.1 has (is_name x.name.owner gone (sym same))) is.2,
      is.3,
    )
table_at conditions image before (Table name columns key) goes old x has =
    elim (put_cases (λ (table : AnyTable). by_fields (table_fields table.name) (table_fields name)) (record { name = name; columns = columns; key = key }) before.tables x has) [
      | inl same ↦ subst (IsTableFounded before) same (goes.1, goes.2, goes.3, goes.4)
      | inr there ↦ old x there
    ]
table_at conditions image before (TableGone gone) goes old x has = old x (kept (λ (table : AnyTable). not (same_table table.name gone)) before.tables x has)
table_at conditions image before _ goes old x has = old x has

row_at : (conditions : Conditions) (image : Bool) (kept : Kept) (change : Change) → GoesOn conditions image kept change
    → ((x : KeptRow) → Contains kept.rows x → IsRowFounded kept x) → (x : KeptRow) → Contains (rows_after change kept.rows) x → IsRowFounded (changed conditions.tree change kept) x
row_at conditions image before (Put table number cells) goes old x has =
    elim (put_cases (λ (row : KeptRow). by_fields (row_fields row.0 row.1) (row_fields table number)) (table, number, cells) before.rows x has) [
      | inl same ↦ subst (IsRowFounded before) same goes
      | inr there ↦ old x there
    ]
row_at conditions image before (Gone table number) goes old x has = old x (kept (λ row. not (is_row table number row)) before.rows x has)
row_at conditions image before (Table name columns key) goes old x has =
    let is = old x has in
    (is.0, (is.1.0, (table_stays name (record { name = name; columns = columns; key = key }) before.tables is.1.0 refl goes.0 is.1.1.0, is.1.1.1), is.1.2))
row_at conditions image before (TableGone gone) goes old x has =
    let is = old x (kept (λ (row : KeptRow). not (same_table row.0 gone)) before.rows x has) in
    let apart : x.0 ≢ gone = apart_tables x.0 gone (passed (λ (row : KeptRow). not (same_table row.0 gone)) before.rows x has) in
    (is.0, (is.1.0, (stays (λ (table : AnyTable). not (same_table table.name gone)) before.tables is.1.0 is.1.1.0 (other_table is.1.0.name gone (λ same. apart (sym is.1.1.1 ∙ same))), is.1.1.1), is.1.2))
row_at conditions image before _ goes old x has = old x has

-- ---- enablements

abbrev Entry : Type 0
Entry = List ℕ × Enabled

abbrev IsEntry : Kept → Entry → Type 0
IsEntry kept entry = IsTrue (has_policy kept entry.0) × IsTrue (list_all (has_user kept) (named_users entry.1))

all_weaker : (test other : List ℕ → Bool) → ((name : List ℕ) → test name ≡ true → other name ≡ true) → (names : List (List ℕ)) → list_all test names ≡ true → list_all other names ≡ true
all_weaker test other weaker [] all = refl
all_weaker test other weaker (name ∷ names) all =
    let parts = and_parts (test name) (list_all test names) all in
    and_from (other name) (list_all other names) (weaker name parts.0) (all_weaker test other weaker names parts.1)

-- the users but one are users still, where that one goes
abbrev But : List ℕ → (List ℕ → Bool) → (List ℕ → Bool) → Type 0
But gone test other = (name : List ℕ) → gone ≢ name → test name ≡ true → other name ≡ true

names_but_at : (gone : List ℕ) (test other : List ℕ → Bool) → But gone test other → (name : List ℕ) (rest : List (List ℕ)) (b : Bool) → bytes_eq name gone ≡ b → test name ≡ true → list_all other rest ≡ true
    → list_all other (cond (not b) (name ∷ rest) rest) ≡ true
names_but_at gone test other but name rest true is passes more = more
names_but_at gone test other but name rest false is passes more =
    and_from (other name) (list_all other rest) (but name (λ same. (let e : false ≡ true = sym is ∙ is_name name gone (sym same) in cc)) passes) more

names_but : (gone : List ℕ) (test other : List ℕ → Bool) → But gone test other → (names : List (List ℕ)) → list_all test names ≡ true → list_all other (filter (λ name. not (bytes_eq name gone)) names) ≡ true
names_but gone test other but [] all = refl
names_but gone test other but (name ∷ names) all =
    let parts = and_parts (test name) (list_all test names) all in
    names_but_at gone test other but name (filter (λ n. not (bytes_eq n gone)) names) (bytes_eq name gone) refl parts.0 (names_but gone test other but names parts.1)

abbrev Listed : Type 0
Listed = List ℕ × Outcomes

listed_but_at : (gone : List ℕ) (test other : List ℕ → Bool) → But gone test other → (user : Listed) (rest : List Listed) (b : Bool) → bytes_eq user.0 gone ≡ b → test user.0 ≡ true
    → list_all other (map (λ (u : Listed). u.0) rest) ≡ true → list_all other (map (λ (u : Listed). u.0) (cond (not b) (user ∷ rest) rest)) ≡ true
listed_but_at gone test other but user rest true is passes more = more
listed_but_at gone test other but user rest false is passes more =
    and_from (other user.0) (list_all other (map (λ (u : Listed). u.0) rest)) (but user.0 (λ same. (let e : false ≡ true = sym is ∙ is_name user.0 gone (sym same) in cc)) passes) more

listed_but : (gone : List ℕ) (test other : List ℕ → Bool) → But gone test other → (users : List Listed) → list_all test (map (λ (u : Listed). u.0) users) ≡ true
    → list_all other (map (λ (u : Listed). u.0) (filter (λ (u : Listed). not (bytes_eq u.0 gone)) users)) ≡ true
listed_but gone test other but [] all = refl
listed_but gone test other but (user ∷ users) all =
    let parts = and_parts (test user.0) (list_all test (map (λ (u : Listed). u.0) users)) all in
    listed_but_at gone test other but user (filter (λ (u : Listed). not (bytes_eq u.0 gone)) users) (bytes_eq user.0 gone) refl parts.0 (listed_but gone test other but users parts.1)

named_for : (users : List Listed) → named_users (for_users users) ≡ map (λ (u : Listed). u.0) users
named_for [] = refl
named_for (user ∷ users) = refl

named_but : (gone : List ℕ) (test other : List ℕ → Bool) → But gone test other → (enabled : Enabled) → list_all test (named_users enabled) ≡ true → list_all other (named_users (without_user gone enabled)) ≡ true
named_but gone test other but Off all = refl
named_but gone test other but (By users) all =
    ap (list_all other) (named_for (filter (λ (u : Listed). not (bytes_eq u.0 gone)) users)) ∙ listed_but gone test other but users all
named_but gone test other but (Except users outcomes) all = names_but gone test other but users all

set_at : (P : Entry → Type 0) (policy : List ℕ) (enabled : Enabled) (entries : List Entry) (on : Bool) → P (policy, enabled) → ((x : Entry) → Contains entries x → P x) → (x : Entry)
    → Contains (if on then put_in_order (λ (entry : Entry). by_name entry.0 policy) (policy, enabled) entries else filter (λ (entry : Entry). not (bytes_eq entry.0 policy)) entries) x → P x
set_at P policy enabled entries true new old x has = elim (put_cases (λ (entry : Entry). by_name entry.0 policy) (policy, enabled) entries x has) [
  | inl same ↦ subst P same new
  | inr there ↦ old x there
]
set_at P policy enabled entries false new old x has = old x (kept (λ (entry : Entry). not (bytes_eq entry.0 policy)) entries x has)

abbrev is_gone : Change → Bool
is_gone (PolicyGone name) = true
is_gone _ = false

abbrev gone_name : Change → List ℕ
gone_name (PolicyGone name) = name
gone_name _ = []

user_gone : (conditions : Conditions) (before : Kept) (gone : List ℕ) → ((x : Entry) → Contains before.enabled x → IsEntry before x) → (x : Entry)
    → Contains (enabled_after (UserGone gone) before.enabled) x → IsEntry (changed conditions.tree (UserGone gone) before) x
user_gone conditions before gone old x has =
    let from = mapped (λ (entry : Entry). (entry.0, without_user gone entry.1)) before.enabled x (kept (λ (entry : Entry). is_on entry.1) (map (λ (entry : Entry). (entry.0, without_user gone entry.1)) before.enabled) x has) in
    let is = old from.0 from.1 in
    subst (IsEntry (changed conditions.tree (UserGone gone) before)) from.2
    (is.0, named_but gone (has_user before) (has_user (changed conditions.tree (UserGone gone) before)) (λ name apart passes. users_stay (UserGone gone) before.users name apart passes) from.0.1 is.1)

enabled_at : (conditions : Conditions) (image : Bool) (kept : Kept) (change : Change) → GoesOn conditions image kept change
    → ((x : Entry) → Contains kept.enabled x → IsEntry kept x) → (x : Entry) → Contains (enabled_after change kept.enabled) x → IsEntry (changed conditions.tree change kept) x
enabled_at conditions image before (User name verifier) goes old x has =
    let is = old x has in
    (is.0, all_weaker (has_user before) (has_user (changed conditions.tree (User name verifier) before)) (λ other passes. users_stay (User name verifier) before.users other tt passes) (named_users x.1) is.1)
enabled_at conditions image before (UserGone gone) goes old x has = user_gone conditions before gone old x has
enabled_at conditions image before (Enable policy enabled) goes old x has = set_at (IsEntry before) policy enabled before.enabled (is_on enabled) goes old x has
enabled_at conditions image before (Policy name privileges actions roles when) goes old x has =
    let is = old x has in
    (policies_stay conditions.tree (Policy name privileges actions roles when) before.policies x.0 (λ same. (let e : true ≡ false = ap is_gone same in cc)) is.0, is.1)
enabled_at conditions image before (PolicyGone gone) goes old x has =
    let is = old x has in (
      policies_stay conditions.tree (PolicyGone gone) before.policies x.0
          (λ same. none_pass (λ (entry : Entry). bytes_eq entry.0 gone) before.enabled x goes.1 has (is_name x.0 gone (ap gone_name same))) is.0,
      is.1,
    )
enabled_at conditions image before _ goes old x has = old x has

-- ---- fine-grained policies

fga_at : (conditions : Conditions) (image : Bool) (kept : Kept) (change : Change) → GoesOn conditions image kept change
    → ((x : FgaPolicy) → Contains kept.fga x → IsTrue (has_table kept x.name.table)) → (x : FgaPolicy) → Contains (fga_after conditions.tree change kept.fga) x
    → IsTrue (has_table (changed conditions.tree change kept) x.name.table)
fga_at conditions image before (Table name columns key) goes old x has = tables_stay (Table name columns key) before.tables x.name.table tt (old x has)
fga_at conditions image before (TableGone gone) goes old x has =
    tables_stay (TableGone gone) before.tables x.name.table (λ same. apart_tables x.name.table gone (passed (λ (y : FgaPolicy). not (same_table y.name.table gone)) before.fga x has) (sym same))
    (old x (kept (λ (y : FgaPolicy). not (same_table y.name.table gone)) before.fga x has))
fga_at conditions image before (Fga table policy condition columns all types enabled) goes old x has =
    elim (put_cases (λ (y : FgaPolicy). by_fields (fga_fields y.name.table y.name.policy) (fga_fields table policy)) _ before.fga x has) [
      | inl same ↦ subst (λ (y : FgaPolicy). IsTrue (has_table before y.name.table)) same
          (any_to (λ (other : AnyTable). same_table other.name table) before.tables goes.0 goes.1.0 (is_table_name goes.0.name table goes.1.1))
      | inr there ↦ old x there
    ]
fga_at conditions image before (FgaGone table policy) goes old x has = old x (kept (λ (y : FgaPolicy). not (is_fga table policy y)) before.fga x has)
fga_at conditions image before _ goes old x has = old x has

-- ---- all of it

pub one_founded : NoneCloses → (conditions : Conditions) (image : Bool) (kept : Kept) (change : Change) → IsFounded kept → GoesOn conditions image kept change → IsFounded (changed conditions.tree change kept)
one_founded law conditions image before change h goes = record {
  system = all_of (NamesGrantee (changed conditions.tree change before)) _ (system_at conditions image before change goes (all_at (NamesGrantee before) before.grants.system h.system));
  role = all_of (NamesRole (changed conditions.tree change before)) _ (role_at conditions image before change goes (all_at (NamesRole before) before.grants.role h.role));
  no_circle = circle_at law conditions image before change goes h.no_circle;
  object = all_of (NamesTable (changed conditions.tree change before)) _ (object_at conditions image before change goes (all_at (NamesTable before) before.grants.object h.object));
  tables = all_of (IsTableFounded (changed conditions.tree change before)) _ (table_at conditions image before change goes (all_at (IsTableFounded before) before.tables h.tables));
  rows = all_of (IsRowFounded (changed conditions.tree change before)) _ (row_at conditions image before change goes (all_at (IsRowFounded before) before.rows h.rows));
  enabled = all_of (IsEntry (changed conditions.tree change before)) _ (enabled_at conditions image before change goes (all_at (IsEntry before) before.enabled h.enabled));
  fga = all_of (λ (policy : FgaPolicy). IsTrue (has_table (changed conditions.tree change before) policy.name.table)) _ (fga_at conditions image before change goes (all_at (λ (policy : FgaPolicy). IsTrue (has_table before policy.name.table)) before.fga h.fga));
}
