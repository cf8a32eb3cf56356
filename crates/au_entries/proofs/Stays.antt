-- What is there stays there, but for what a change takes away.
use Rattle.std.proofs.Common.{◌≡◌, ◌≢◌, ◌∙◌, ℕ, Bool, true, false, not, ◌&&◌, ◌||◌, ◌⊎◌, inl, inr, List, [], ◌∷◌, map, get_or, refl, sym, ap, subst}
use Rattle.std.specs.Prelude.{IsTrue, ⊤}
use Rattle.std.specs.List.{Contains, filter, list_all, list_any}
use Rattle.std.specs.declared.cmp.Ordering.TheVariants.{Equal}
use Rattle.std.specs.Ordering.{is_eq, nat_cmp}
use Rattle.std.specs.Str.{bytes_eq}
use Rattle.std.specs.Cmp.Lexicographic.{bytes_decides, lists_ties, pointwise_decides, slice_cmp, texts_ties}
use Rattle.std.proofs.lemmas.Bool.{and_from, and_parts, or_cases, or_left, or_right}
use Rattle.std.proofs.lemmas.Slice.Eq.{bytes_eq-Decides}
use Rattle.au_base.specs.declared.table.TableName.{TableName}
use Rattle.au_base.specs.Sameness.{same_table}
use Rattle.au_entries.specs.declared.change.Change.{Change}
use Rattle.au_entries.specs.declared.change.Change.TheVariants.{User, UserGone, Role, RoleGone, Table, TableGone, Policy, PolicyGone}
use Rattle.au_entries.specs.declared.kept.Kept.{Kept}
use Rattle.au_entries.specs.declared.policy.AuditPolicy.{AuditPolicy}
use Rattle.au_entries.specs.declared.table.Table.{Table as AnyTable}
use Rattle.au_entries.specs.Changing.{by_fields, by_name, changed, policies_after, roles_after, table_fields, tables_after, users_after}
use Rattle.au_entries.specs.Replaying.{has_grantee, has_role, has_user}
use Rattle.au_entries.proofs.Members.{any_to, kept_any, none_pass, put_any, put_old, stays}
use Rattle.sql_ast.specs.declared.expression.Expr.{Expr}

-- ---- names and tables that are the same

pub same_name : (a b : List ℕ) → bytes_eq a b ≡ true → a ≡ b
same_name a b is = (bytes_eq-Decides a b).0 is

pub is_name : (a b : List ℕ) → a ≡ b → bytes_eq a b ≡ true
is_name a b same = (bytes_eq-Decides a b).1 same

apart_at : (b : Bool) → (b ≡ true → ⊥) → not b ≡ true
apart_at true apart = absurd (apart refl)
apart_at false apart = refl

pub other_name : (a b : List ℕ) → a ≢ b → not (bytes_eq a b) ≡ true
other_name a b apart = apart_at (bytes_eq a b) (λ is. apart (same_name a b is))

not_true : (b : Bool) → not b ≡ true → b ≡ true → ⊥
not_true true isnt is = let e : false ≡ true = isnt in cc
not_true false isnt is = let e : false ≡ true = is in cc

pub apart_names : (a b : List ℕ) → not (bytes_eq a b) ≡ true → a ≢ b
apart_names a b isnt same = not_true (bytes_eq a b) isnt (is_name a b same)

pub tied_names : (a b : List ℕ) → by_name a b ≡ Equal → a ≡ b
tied_names a b is = (bytes_decides a b).0 (texts_ties a b ∙ ap is_eq is)

tied_fields : (a b : List (List ℕ)) → by_fields a b ≡ Equal → a ≡ b
tied_fields a b is = (pointwise_decides bytes_decides a b).0 (lists_ties (slice_cmp nat_cmp) texts_ties a b ∙ ap is_eq is)

table_from : (a b : TableName) → a.owner ≡ b.owner → a.name ≡ b.name → a ≡ b
table_from a b owner name = λ i. record { owner = owner i; name = name i }

pub tied_tables : (a b : TableName) → by_fields (table_fields a) (table_fields b) ≡ Equal → a ≡ b
tied_tables a b is =
    let same = tied_fields (table_fields a) (table_fields b) is in
    table_from a b (ap (λ (fields : List (List ℕ)). get_or fields 0 []) same) (ap (λ (fields : List (List ℕ)). get_or fields 1 []) same)

pub same_tables : (a b : TableName) → same_table a b ≡ true → a ≡ b
same_tables a b is =
    let parts = and_parts (bytes_eq a.owner b.owner) (bytes_eq a.name b.name) is in
    table_from a b (same_name a.owner b.owner parts.0) (same_name a.name b.name parts.1)

pub is_table_name : (a b : TableName) → a ≡ b → same_table a b ≡ true
is_table_name a b same =
    and_from (bytes_eq a.owner b.owner) (bytes_eq a.name b.name) (is_name a.owner b.owner (ap (λ (t : TableName). t.owner) same)) (is_name a.name b.name (ap (λ (t : TableName). t.name) same))

pub other_table : (a b : TableName) → a ≢ b → not (same_table a b) ≡ true
other_table a b apart = apart_at (same_table a b) (λ is. apart (same_tables a b is))

pub apart_tables : (a b : TableName) → not (same_table a b) ≡ true → a ≢ b
apart_tables a b isnt same = not_true (same_table a b) isnt (is_table_name a b same)

-- ---- what a change leaves

-- the change doesn't drop a user or a role of this name
abbrev pub Spares : Change → List ℕ → Type 0
Spares (UserGone gone) name = gone ≢ name
Spares (RoleGone gone) name = gone ≢ name
Spares _ name = ⊤

-- the change doesn't drop the table
abbrev pub SparesTable : Change → TableName → Type 0
SparesTable (TableGone gone) name = gone ≢ name
SparesTable _ name = ⊤

pub users_stay : (change : Change) (users : List (List ℕ × List ℕ)) (name : List ℕ) → Spares change name → list_any (λ user. bytes_eq user.0 name) users ≡ true
    → list_any (λ user. bytes_eq user.0 name) (users_after change users) ≡ true
users_stay (User new verifier) users name spared is =
    put_any (λ (user : List ℕ × List ℕ). bytes_eq user.0 name) (λ user. by_name user.0 new) (new, verifier) users
    (λ user tied same. ap (λ (n : List ℕ). bytes_eq n name) (sym (tied_names user.0 new tied)) ∙ same) is
users_stay (UserGone gone) users name spared is =
    kept_any (λ (user : List ℕ × List ℕ). bytes_eq user.0 name) (λ user. not (bytes_eq user.0 gone)) users
    (λ user same. other_name user.0 gone (λ gone_too. spared (sym gone_too ∙ same_name user.0 name same))) is
users_stay _ users name spared is = is

pub roles_stay : (change : Change) (roles : List (List ℕ)) (name : List ℕ) → Spares change name → list_any (λ role. bytes_eq role name) roles ≡ true
    → list_any (λ role. bytes_eq role name) (roles_after change roles) ≡ true
roles_stay (Role new) roles name spared is =
    put_any (λ (role : List ℕ). bytes_eq role name) (λ role. by_name role new) new roles
    (λ role tied same. ap (λ (n : List ℕ). bytes_eq n name) (sym (tied_names role new tied)) ∙ same) is
roles_stay (RoleGone gone) roles name spared is =
    kept_any (λ (role : List ℕ). bytes_eq role name) (λ role. not (bytes_eq role gone)) roles
    (λ role same. other_name role gone (λ gone_too. spared (sym gone_too ∙ same_name role name same))) is
roles_stay _ roles name spared is = is

pub grantee_stays : (tree : List ℕ → Expr) (change : Change) (kept : Kept) (name : List ℕ) → Spares change name → IsTrue (has_grantee kept name) → IsTrue (has_grantee (changed tree change kept) name)
grantee_stays tree change kept name spared is = elim (or_cases (has_user kept name) (has_role kept name) is) [
  | inl user ↦ or_left (has_user (changed tree change kept) name) (has_role (changed tree change kept) name) (users_stay change kept.users name spared user)
  | inr role ↦ or_right (has_user (changed tree change kept) name) (has_role (changed tree change kept) name) (roles_stay change kept.roles name spared role)
]

pub tables_stay : (change : Change) (tables : List AnyTable) (name : TableName) → SparesTable change name → list_any (λ table. same_table table.name name) tables ≡ true
    → list_any (λ table. same_table table.name name) (tables_after change tables) ≡ true
tables_stay (Table new columns key) tables name spared is =
    put_any (λ (table : AnyTable). same_table table.name name) (λ table. by_fields (table_fields table.name) (table_fields new)) (record { name = new; columns = columns; key = key }) tables
    (λ table tied same. ap (λ (t : TableName). same_table t name) (sym (tied_tables table.name new tied)) ∙ same) is
tables_stay (TableGone gone) tables name spared is =
    kept_any (λ (table : AnyTable). same_table table.name name) (λ table. not (same_table table.name gone)) tables
    (λ table same. other_table table.name gone (λ gone_too. spared (sym gone_too ∙ same_tables table.name name same))) is
tables_stay _ tables name spared is = is

pub policies_stay : (tree : List ℕ → Expr) (change : Change) (policies : List AuditPolicy) (name : List ℕ) → (PolicyGone name ≢ change) → list_any (λ policy. bytes_eq policy.name name) policies ≡ true
    → list_any (λ policy. bytes_eq policy.name name) (policies_after tree change policies) ≡ true
policies_stay tree (Policy new privileges actions roles when) policies name spared is =
    put_any (λ (policy : AuditPolicy). bytes_eq policy.name name) (λ policy. by_name policy.name new) _ policies
    (λ policy tied same. ap (λ (n : List ℕ). bytes_eq n name) (sym (tied_names policy.name new tied)) ∙ same) is
policies_stay tree (PolicyGone gone) policies name spared is =
    kept_any (λ (policy : AuditPolicy). bytes_eq policy.name name) (λ policy. not (bytes_eq policy.name gone)) policies
    (λ policy same. other_name policy.name gone (λ gone_too. spared (ap PolicyGone (sym (same_name policy.name name same) ∙ gone_too)))) is
policies_stay tree _ policies name spared is = is

-- a table that is there stays with its columns, where a new one has another name
pub table_stays : (new : TableName) (entry : AnyTable) (tables : List AnyTable) (table : AnyTable) → entry.name ≡ new → not (list_any (λ other. same_table other.name new) tables) ≡ true → Contains tables table
    → Contains (tables_after (Table new entry.columns entry.key) tables) table
table_stays new entry tables table named absent has =
    elim (put_old (λ (other : AnyTable). by_fields (table_fields other.name) (table_fields new)) (record { name = new; columns = entry.columns; key = entry.key }) tables table has) [
      | inl tied ↦ absurd (none_pass (λ (other : AnyTable). same_table other.name new) tables table absent has (is_table_name table.name new (tied_tables table.name new tied)))
      | inr there ↦ there
    ]
