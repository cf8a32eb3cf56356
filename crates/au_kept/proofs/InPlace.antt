-- What few changes of which none is of a row leave of what is kept, and that each can be tested before it is made.
use Rattle.std.proofs.Common.{◌≡◌, ◌≢◌, ◌∙◌, ℕ, ◌≤◌, Bool, true, false, not, ◌⊎◌, inl, inr, List, [], ◌∷◌, length, refl, sym, ap, subst}
use Rattle.std.specs.Prelude.{◌↔◌, ◌||◌, IfOk, IsTrue, None, Result, Ok, Err}
use Rattle.std.specs.List.{AllByRecursion, Contains, filter, list_any}
use Rattle.std.specs.Str.{bytes_eq}
use Rattle.std.specs.declared.cmp.Ordering.{Ordering}
use Rattle.std.specs.declared.cmp.Ordering.TheVariants.{Equal}
use Rattle.std.specs.Ordering.{is_gt, is_lt}
use Rattle.std.proofs.lemmas.Bool.{and_parts}
use Rattle.std.proofs.lemmas.List.Elements.{Contains-append_cases, Contains-append_right}
use Rattle.std.proofs.lemmas.Slice.Eq.{bytes_eq-Decides}
use Rattle.au_base.specs.BuiltIn.{sys}
use Rattle.au_base.specs.Limits.{GRANTS, LAST_MOMENT, TABLE_COLUMNS}
use Rattle.au_base.specs.Sameness.{same_table}
use Rattle.au_base.specs.declared.numbers.ClientNo.{ClientNo}
use Rattle.au_base.specs.declared.numbers.RowNo.{RowNo}
use Rattle.au_base.specs.declared.numbers.Stamp.{Stamp}
use Rattle.au_base.specs.declared.table.TableName.{TableName}
use Rattle.au_entries.specs.declared.change.Change.{Change}
use Rattle.au_entries.specs.declared.change.Change.TheVariants as change
use Rattle.au_entries.specs.declared.kept.Kept.{Kept}
use Rattle.au_entries.specs.declared.table.Table.{Table}
use Rattle.au_entries.specs.declared.trail_record.Record.{Record}
use Rattle.au_entries.specs.Changing.{by_fields, by_name, changed, changed_all, put_in_order, table_fields, users_after}
use Rattle.au_entries.specs.Frames.{PartsGoOn}
use Rattle.au_entries.specs.Lawful.{IsFounded, IsLawful, IsWhole}
use Rattle.au_entries.specs.Replaying.{AllGoOn, Conditions, GoesOn, has_grantee, has_role, has_table, has_user}
use Rattle.au_grants.specs.Changing.{without}
use Rattle.au_grants.specs.Rights.{IsHolder, grant_count}
use Rattle.au_kept.specs.Keeping.{Contents, desk_of}
use Rattle.au_kept.specs.Quick.{AreApart, AreInPlace, HasGrantee, HasNewGrantee, IsGrant, IsGrantOf, IsLone, IsNewRole, IsPlain, IsRoleMade}
use Rattle.au_kept.specs.Sound.{IsKept}
use Rattle.au_kept.specs.Staging.{CanSettle, IsFree, IsOfRow}
use Rattle.au_kept.proofs.Among.{all_at, any_from, any_to, here, split}
use Rattle.au_kept.proofs.Apart.{IsGrantFounded, first_granted, is_false}
use Rattle.au_kept.proofs.Chosen.{filtered, filtered_from, still_there}
use Rattle.au_kept.proofs.CommitRows.{same_text}
use Rattle.au_kept.proofs.OpenKeys.{found as found_table}
use Rattle.au_kept.proofs.Replayed.{TouchedSuffices}
use Rattle.au_kept.proofs.Room.{AddsOne, all_few}
use Rattle.au_kept.proofs.Written.{open_lists}
use Rattle.au_replay.specs.Reading.{conditions}
use Rattle.au_replay.specs.Touched.{makes_table, puts_into, puts_row}
use Rattle.au_txn.specs.Desks.{Contents as Desk, open_of}
use Rattle.au_txn.specs.Logs.{Changes, changes_of}
use Rattle.au_txn.specs.Transactions.{names_table}
use Rattle.rec_codec.specs.Changes.{IsChangeSpellable}
use Rattle.rec_codec.specs.Records.{trail_record}
use Rattle.sql_ast.specs.declared.expression.Expr.{Expr}

-- ---- which changes there are

-- each is of no row, and one that makes a table makes it narrow
abbrev IsRowless : Change → Type 0
IsRowless c = ¬ IsOfRow c

plain_rowless : (c : Change) → IsPlain c → IsRowless c
plain_rowless (change.Put table number cells) plain = absurd plain
plain_rowless (change.Gone table number) plain = absurd plain
plain_rowless _ plain = λ row. row

grant_rowless : (c : Change) → IsGrant c → IsRowless c
grant_rowless (change.Put table number cells) is = absurd is
grant_rowless (change.Gone table number) is = absurd is
grant_rowless _ is = λ row. row

-- a grant of a role is a grant
is_grant : (name : List ℕ) (c : Change) → IsGrantOf name c → IsGrant c
is_grant name (change.RoleGrant grantee role admin) is = tt
is_grant name _ is = absurd is

all_rowless : (changes : List Change) → AllByRecursion IsGrant changes → AllByRecursion IsRowless changes
all_rowless [] grants = tt
all_rowless (c ∷ changes) grants = (grant_rowless c grants.0, all_rowless changes grants.1)

lone_rowless : (changes : List Change) → IsLone changes → AllByRecursion IsRowless changes
lone_rowless [] lone = absurd lone
lone_rowless (c ∷ []) lone = (plain_rowless c lone, tt)
lone_rowless (c ∷ other ∷ changes) lone = absurd lone

made_rowless : (kept : Kept) (first second : Change) → IsRoleMade kept first second → IsRowless first
made_rowless kept (change.Role name) second made = λ row. row
made_rowless kept _ second made = absurd made

made_grant : (kept : Kept) (first second : Change) → IsRoleMade kept first second → IsRowless second
made_grant kept (change.Role name) second made = grant_rowless second (is_grant name second made.1)
made_grant kept _ second made = absurd made

role_rowless : (kept : Kept) (changes : List Change) → IsNewRole kept changes → AllByRecursion IsRowless changes
role_rowless kept [] new = absurd new
role_rowless kept (first ∷ []) new = absurd new
role_rowless kept (first ∷ second ∷ []) new = (made_rowless kept first second new, (made_grant kept first second new, tt))
role_rowless kept (first ∷ second ∷ third ∷ changes) new = absurd new

pub few_rowless : (kept : Kept) (changes : List Change) → AreInPlace kept changes → AllByRecursion IsRowless changes
few_rowless kept changes (inl new, roomy) = role_rowless kept changes new
few_rowless kept changes (inr (inl lone), roomy) = lone_rowless changes lone
few_rowless kept changes (inr (inr apart), roomy) = all_rowless changes apart.0

-- ---- no row is put, and a table that is made is narrow

or_false : (b c : Bool) → b ≡ false → c ≡ false → (b || c) ≡ false
or_false true c is other = absurd (let e : true ≡ false = is in cc)
or_false false c is other = other

no_put : (table : TableName) (number : RowNo) (c : Change) → IsRowless c → puts_row table number c ≡ false
no_put table number (change.Put other row cells) rowless = absurd (rowless tt)
no_put table number _ rowless = refl

none_into : (table : TableName) (c : Change) → IsRowless c → puts_into table c ≡ false
none_into table (change.Put other row cells) rowless = absurd (rowless tt)
none_into table _ rowless = refl

no_puts : (table : TableName) (number : RowNo) (changes : List Change) → AllByRecursion IsRowless changes → list_any (puts_row table number) changes ≡ false
no_puts table number [] rowless = refl
no_puts table number (c ∷ changes) rowless = or_false _ _ (no_put table number c rowless.0) (no_puts table number changes rowless.1)

none_put : (table : TableName) (changes : List Change) → AllByRecursion IsRowless changes → list_any (puts_into table) changes ≡ false
none_put table [] rowless = refl
none_put table (c ∷ changes) rowless = or_false _ _ (none_into table c rowless.0) (none_put table changes rowless.1)

-- the change makes no table
abbrev MakesNone : Change → Type 0
MakesNone c = (table : TableName) → makes_table table c ≡ false

grant_none : (c : Change) → IsGrant c → MakesNone c
grant_none (change.Table name columns key) is = absurd is
grant_none _ is = λ table. refl

none_made : (changes : List Change) → AllByRecursion MakesNone changes → (table : TableName) → list_any (makes_table table) changes ≡ false
none_made [] none table = refl
none_made (c ∷ changes) none table = or_false _ _ (none.0 table) (none_made changes none.1 table)

all_none : (changes : List Change) → AllByRecursion IsGrant changes → AllByRecursion MakesNone changes
all_none [] grants = tt
all_none (c ∷ changes) grants = (grant_none c grants.0, all_none changes grants.1)

role_none : (kept : Kept) (first second : Change) → IsRoleMade kept first second → AllByRecursion MakesNone (first ∷ second ∷ [])
role_none kept (change.Role name) second made = ((λ table. refl), (grant_none second (is_grant name second made.1), tt))
role_none kept _ second made = absurd made

-- ---- entries that are put and taken away

same_bool : (a b : Bool) → (a ≡ true → b ≡ true) → (b ≡ true → a ≡ true) → a ≡ b
same_bool true b to from = sym (to refl)
same_bool false true to from = absurd (let e : false ≡ true = from refl in cc)
same_bool false false to from = refl

not_true : (b : Bool) → (b ≡ true → ⊥) → not b ≡ true
not_true true never = absurd (never refl)
not_true false never = refl

put_from : {X : Type 0} (order : X → Ordering) (entry : X) (xs : List X) (x : X) → Contains (put_in_order order entry xs) x → (entry ≡ x) ⊎ Contains xs x
put_from {X} order entry xs x has = elim (Contains-append_cases (filter (λ (y : X). is_lt (order y)) xs) (entry ∷ filter (λ (y : X). is_gt (order y)) xs) x has) [
  | inl lesser ↦ inr (filtered_from (λ (y : X). is_lt (order y)) xs x lesser).0
  | inr rest ↦ elim (split entry (filter (λ (y : X). is_gt (order y)) xs) x rest) [
    | inl same ↦ inl same
    | inr greater ↦ inr (filtered_from (λ (y : X). is_gt (order y)) xs x greater).0
  ]
]

put_there : {X : Type 0} (order : X → Ordering) (entry : X) (xs : List X) → Contains (put_in_order order entry xs) entry
put_there {X} order entry xs =
    Contains-append_right (filter (λ (y : X). is_lt (order y)) xs) (entry ∷ filter (λ (y : X). is_gt (order y)) xs) entry (here entry (filter (λ (y : X). is_gt (order y)) xs))

-- a test that the entry doesn't pass, and none that it takes the place of, finds what it found before
any_put : {X : Type 0} (order : X → Ordering) (entry : X) (xs : List X) (test : X → Bool) → (test entry ≡ true → ⊥) → ((x : X) → test x ≡ true → order x ≡ Equal → ⊥)
    → list_any test (put_in_order order entry xs) ≡ list_any test xs
any_put {X} order entry xs test not_entry apart = same_bool (list_any test (put_in_order order entry xs)) (list_any test xs)
    (λ is. let found = any_from test (put_in_order order entry xs) is in elim (put_from order entry xs found.0 found.1) [
      | inl same ↦ absurd (not_entry (ap test same ∙ found.2))
      | inr has ↦ any_to test xs found.0 has found.2
    ])
    (λ is. let found = any_from test xs is in any_to test (put_in_order order entry xs) found.0 (still_there order entry xs found.0 found.1 (apart found.0 found.2)) found.2)

-- and so does one that none passes that goes
any_left : {X : Type 0} (gone test : X → Bool) (xs : List X) → ((x : X) → test x ≡ true → gone x ≡ true → ⊥) → list_any test (without gone xs) ≡ list_any test xs
any_left {X} gone test xs apart = same_bool (list_any test (without gone xs)) (list_any test xs)
    (λ is. let found = any_from test (without gone xs) is in any_to test xs found.0 (filtered_from (λ (x : X). not (gone x)) xs found.0 found.1).0 found.2)
    (λ is. let found = any_from test xs is in any_to test (without gone xs) found.0 (filtered (λ (x : X). not (gone x)) xs found.0 found.1 (not_true (gone found.0) (apart found.0 found.2))) found.2)

-- a test that answers as what is seen says answers as it says
pub same_told : (f : Kept → Bool) (seen kept : Kept) (b : Bool) → seen ≡ kept → (IsTrue b ↔ IsTrue (f seen)) → b ≡ f kept
same_told f seen kept b same told = same_bool b (f kept) (λ is. subst (λ (k : Kept). f k ≡ true) same (told.0 is)) (λ is. told.1 (subst (λ (k : Kept). f k ≡ true) (sym same) is))

-- ---- a table that is made

table_same : (a b : TableName) → same_table a b ≡ true → a ≡ b
table_same a b is =
    let parts = and_parts (bytes_eq a.owner b.owner) (bytes_eq a.name b.name) is in
    ap (λ (o : List ℕ). let t : TableName = record { owner = o; name = a.name } in t) ((bytes_eq-Decides a.owner b.owner).0 parts.0)
    ∙ ap (λ (n : List ℕ). let t : TableName = record { owner = b.owner; name = n } in t) ((bytes_eq-Decides a.name b.name).0 parts.1)

not_new : (kept : Kept) (name : TableName) (table : Table) → Contains kept.tables table → name ≡ table.name → not (has_table kept name) ≡ true → ⊥
not_new kept name table has same new = let e : false ≡ true = sym (ap not (found_table kept.tables table name has (sym same))) ∙ new in cc

alone_true : (b : Bool) → (b || false) ≡ true → b ≡ true
alone_true true is = refl
alone_true false is = is

lone_narrow : (conditions : Conditions) (c : Change) (kept : Kept) → IsPlain c → GoesOn conditions false kept c → (table : Table) → Contains (changed conditions.tree c kept).tables table
    → list_any (makes_table table.name) (c ∷ []) ≡ true → length table.columns ≤ TABLE_COLUMNS
lone_narrow conditions (change.Table name columns key) kept plain goes table has made =
    elim (put_from (λ (other : Table). by_fields (table_fields other.name) (table_fields name)) (record { name = name; columns = columns; key = key }) kept.tables table has) [
      | inl same ↦ subst (λ (t : Table). length t.columns ≤ TABLE_COLUMNS) same plain
      | inr before ↦ absurd (not_new kept name table before (table_same name table.name (alone_true (same_table name table.name) made)) goes.0)
    ]
lone_narrow conditions _ kept plain goes table has made = absurd (let e : false ≡ true = made in cc)

few_narrow : (conditions : Conditions) (kept : Kept) (changes : List Change) → IsNewRole kept changes ⊎ AreApart kept changes → AllGoOn conditions false kept changes → (table : Table)
    → Contains (changed_all conditions.tree changes kept).tables table → list_any (makes_table table.name) changes ≡ true → length table.columns ≤ TABLE_COLUMNS
few_narrow conditions kept [] (inl new) goes table has made = absurd new
few_narrow conditions kept (first ∷ []) (inl new) goes table has made = absurd new
few_narrow conditions kept (first ∷ second ∷ []) (inl new) goes table has made = absurd (is_false _ (none_made (first ∷ second ∷ []) (role_none kept first second new) table.name) made)
few_narrow conditions kept (first ∷ second ∷ third ∷ changes) (inl new) goes table has made = absurd new
few_narrow conditions kept [] (inr (inl lone)) goes table has made = absurd lone
few_narrow conditions kept (c ∷ []) (inr (inl lone)) goes table has made = lone_narrow conditions c kept lone goes.0 table has made
few_narrow conditions kept (c ∷ other ∷ changes) (inr (inl lone)) goes table has made = absurd lone
few_narrow conditions kept changes (inr (inr apart)) goes table has made = absurd (is_false _ (none_made changes (all_none changes apart.0) table.name) made)

pub few_whole : AddsOne → TouchedSuffices → (conditions : Conditions) (kept : Kept) (changes : List Change) → IsLawful conditions kept → IsWhole kept → AreInPlace kept changes → AllGoOn conditions false kept changes
    → IsWhole (changed_all conditions.tree changes kept)
few_whole adds suffices conditions kept changes lawful whole few goes =
    let rowless = few_rowless kept changes few in
    (suffices conditions false kept changes lawful whole goes).1 (record {
      rows = λ row has put. absurd (is_false _ (no_puts row.0 row.1 changes rowless) put);
      columns = λ table has made. few_narrow conditions kept changes few.0 goes table has made;
      counts = λ table has put. absurd (is_false _ (none_put table.name changes rowless) put);
      few = all_few adds conditions.tree changes kept few.1;
    })

pub few_grants : AddsOne → (tree : List ℕ → Expr) (kept : Kept) (changes : List Change) → AreInPlace kept changes → grant_count (changed_all tree changes kept).grants ≤ GRANTS
few_grants adds tree kept changes few = (all_few adds tree changes kept few.1).grants

-- ---- SYS stays a user

lone_user : (tree : List ℕ → Expr) (c : Change) (kept : Kept) → IsPlain c → has_user (changed tree c kept) sys ≡ has_user kept sys
lone_user tree (change.User name verifier) kept plain =
    any_put (λ (user : List ℕ × List ℕ). by_name user.0 name) (name, verifier) kept.users (λ (user : List ℕ × List ℕ). bytes_eq user.0 sys)
    (λ is. plain ((bytes_eq-Decides name sys).0 is))
    (λ user is same. plain (sym (same_text user.0 name same) ∙ (bytes_eq-Decides user.0 sys).0 is))
lone_user tree (change.UserGone name) kept plain =
    any_left (λ (user : List ℕ × List ℕ). bytes_eq user.0 name) (λ (user : List ℕ × List ℕ). bytes_eq user.0 sys) kept.users
    (λ user is same. plain (sym ((bytes_eq-Decides user.0 name).0 same) ∙ (bytes_eq-Decides user.0 sys).0 is))
lone_user tree _ kept plain = refl

abbrev UsersStay : Change → Type 0
UsersStay c = (users : List (List ℕ × List ℕ)) → users_after c users ≡ users

grant_stay : (c : Change) → IsGrant c → UsersStay c
grant_stay (change.User name verifier) is = absurd is
grant_stay (change.UserGone name) is = absurd is
grant_stay _ is = λ users. refl

all_stay : (changes : List Change) → AllByRecursion IsGrant changes → AllByRecursion UsersStay changes
all_stay [] grants = tt
all_stay (c ∷ changes) grants = (grant_stay c grants.0, all_stay changes grants.1)

role_stay : (kept : Kept) (first second : Change) → IsRoleMade kept first second → AllByRecursion UsersStay (first ∷ second ∷ [])
role_stay kept (change.Role name) second made = ((λ users. refl), (grant_stay second (is_grant name second made.1), tt))
role_stay kept _ second made = absurd made

users_stay : (tree : List ℕ → Expr) (changes : List Change) (kept : Kept) → AllByRecursion UsersStay changes → has_user (changed_all tree changes kept) sys ≡ has_user kept sys
users_stay tree [] kept stay = refl
users_stay tree (c ∷ changes) kept stay = users_stay tree changes (changed tree c kept) stay.1 ∙ ap (λ (users : List (List ℕ × List ℕ)). list_any (λ (user : List ℕ × List ℕ). bytes_eq user.0 sys) users) (stay.0 kept.users)

pub few_user : (tree : List ℕ → Expr) (kept : Kept) (changes : List Change) → AreInPlace kept changes → has_user (changed_all tree changes kept) sys ≡ has_user kept sys
few_user tree kept [] (inl new, roomy) = absurd new
few_user tree kept (first ∷ []) (inl new, roomy) = absurd new
few_user tree kept (first ∷ second ∷ []) (inl new, roomy) = users_stay tree (first ∷ second ∷ []) kept (role_stay kept first second new)
few_user tree kept (first ∷ second ∷ third ∷ changes) (inl new, roomy) = absurd new
few_user tree kept [] (inr (inl lone), roomy) = absurd lone
few_user tree kept (c ∷ []) (inr (inl lone), roomy) = lone_user tree c kept lone
few_user tree kept (c ∷ other ∷ changes) (inr (inl lone), roomy) = absurd lone
few_user tree kept changes (inr (inr apart), roomy) = users_stay tree changes kept (all_stay changes apart.0)

-- an answer that tells the one tells the other
pub told_by : {E : Type 0} (P Q : Type 0) → P ↔ Q → (answer : Result Bool E) → IfOk answer (λ goes. IsTrue goes ↔ P) → IfOk answer (λ goes. IsTrue goes ↔ Q)
told_by P Q same (Ok b) told = (λ is. same.0 (told.0 is), λ q. told.1 (same.1 q))
told_by P Q same (Err error) told = tt

-- ---- a new role and its grant

or_none : (b c : Bool) → (b || c) ≡ false → c ≡ false
or_none true c none = absurd (let e : true ≡ false = none in cc)
or_none false c none = none

granted_before : (kept : Kept) (name grantee : List ℕ) → grantee ≢ name
    → (has_user kept grantee || list_any (λ (role : List ℕ). bytes_eq role grantee) (put_in_order (λ (other : List ℕ). by_name other name) name kept.roles)) ≡ has_grantee kept grantee
granted_before kept name grantee apart =
    ap (λ (b : Bool). has_user kept grantee || b)
    (any_put (λ (other : List ℕ). by_name other name) name kept.roles (λ (role : List ℕ). bytes_eq role grantee)
    (λ is. apart (sym ((bytes_eq-Decides name grantee).0 is)))
    (λ role is same. apart (sym ((bytes_eq-Decides role grantee).0 is) ∙ same_text role name same)))

none_held : (kept : Kept) (role name grantee : List ℕ) → IsFounded kept → role ≡ name → grantee ≢ name → has_grantee kept name ≡ false → IsHolder kept.grants.role role grantee → ⊥
none_held kept role name grantee founded is apart none (inl same) = apart (same ∙ is)
none_held kept role name grantee founded is apart none (inr (path, chain)) =
    let granted = first_granted kept.grants.role role path grantee chain in
    is_false (has_grantee kept name) none
    (ap (λ (n : List ℕ). has_grantee kept n) (sym is) ∙ (all_at (IsGrantFounded kept) kept.grants.role founded.role (role, granted.0, granted.1.0) granted.1.1).0)

made_goes : (conditions : Conditions) (kept : Kept) (name : List ℕ) (second : Change) → IsFounded kept → has_grantee kept name ≡ false → IsGrantOf name second
    → HasGrantee kept second ↔ AllGoOn conditions false kept (change.Role name ∷ second ∷ [])
made_goes conditions kept name (change.RoleGrant grantee role admin) founded none is = (
  λ has. (
    ap not (or_none (has_user kept name) (has_role kept name) none),
    (
      (
        granted_before kept name grantee is.1 ∙ has,
        any_to (λ (other : List ℕ). bytes_eq other role) (put_in_order (λ (other : List ℕ). by_name other name) name kept.roles) name (put_there (λ (other : List ℕ). by_name other name) name kept.roles)
            ((bytes_eq-Decides name role).1 (sym is.0)),
        none_held kept role name grantee founded is.0 is.1 none,
      ),
      tt,
    ),
  ),
  λ goes. sym (granted_before kept name grantee is.1) ∙ goes.1.0.0,
)
made_goes conditions kept name _ founded none is = absurd is

role_goes : (conditions : Conditions) (kept : Kept) (first second : Change) → IsFounded kept → IsRoleMade kept first second → HasGrantee kept second ↔ AllGoOn conditions false kept (first ∷ second ∷ [])
role_goes conditions kept (change.Role name) second founded made = made_goes conditions kept name second founded made.0 made.1
role_goes conditions kept _ second founded made = absurd made

pub new_goes : (conditions : Conditions) (kept : Kept) (changes : List Change) → IsFounded kept → IsNewRole kept changes → HasNewGrantee kept changes ↔ AllGoOn conditions false kept changes
new_goes conditions kept [] founded new = absurd new
new_goes conditions kept (first ∷ []) founded new = absurd new
new_goes conditions kept (first ∷ second ∷ []) founded new = role_goes conditions kept first second founded new
new_goes conditions kept (first ∷ second ∷ third ∷ changes) founded new = absurd new

-- ---- the frame

-- no client has a change of a row of a table that it drops, where none has any
free_at : (desk : Desk) (c : Change) → ((client : ClientNo) → open_of desk client ≡ []) → IsFree None desk c
free_at desk (change.TableGone table) alone = λ client other. ap (names_table table) (alone client)
free_at desk _ alone = tt

all_free : (desk : Desk) (changes : List Change) → ((client : ClientNo) → open_of desk client ≡ []) → AllByRecursion (IsFree None desk) changes
all_free desk [] alone = tt
all_free desk (c ∷ changes) alone = (free_at desk c alone, all_free desk changes alone)

-- the frame goes on where its stamp may follow and its changes go on
pub few_goes : AddsOne → TouchedSuffices → (kept : Kept) (stamp : Stamp) (changes : List Change) → IsLawful conditions kept → IsWhole kept → AreInPlace kept changes → kept.last.0 ≤ stamp.0 → IsTrue (has_user kept sys)
    → AllGoOn conditions false kept changes → PartsGoOn conditions false kept stamp changes
few_goes adds suffices kept stamp changes lawful whole few stamped user goes = record {
  stamped = stamped;
  go_on = goes;
  sys = few_user conditions.tree kept changes few ∙ user;
  whole = few_whole adds suffices conditions kept changes lawful whole few goes;
}

pub few_refused : (kept : Kept) (stamp : Stamp) (changes : List Change) (b : Bool) → AreInPlace kept changes → b ≡ false → (IsTrue b ↔ ((kept.last.0 ≤ stamp.0) × IsTrue (has_user kept sys)))
    → IsTrue false ↔ PartsGoOn conditions false kept stamp changes
few_refused kept stamp changes b few is told =
    (λ e. absurd (let no : false ≡ true = e in cc), λ goes. subst (λ (x : Bool). IsTrue x) is (told.1 (goes.stamped, sym (few_user conditions.tree kept changes few) ∙ goes.sys)))

-- it can be settled
few_settles : AddsOne → TouchedSuffices → (contents : Contents) (changes : List Change) (records : List Record) (stamp : Stamp) → IsLawful conditions contents.kept → IsWhole contents.kept → AreInPlace contents.kept changes
    → AllGoOn conditions false contents.kept changes → stamp.0 ≤ LAST_MOMENT → AllByRecursion IsChangeSpellable changes → AllByRecursion trail_record.IsSpellable records
    → ((client : ClientNo) → open_of (desk_of contents) client ≡ []) → CanSettle contents None changes records stamp
few_settles adds suffices contents changes records stamp lawful whole few goes moment spelled told alone = record {
  logged = changes;
  is_logged = refl;
  go_on = goes;
  whole = few_whole adds suffices conditions contents.kept changes lawful whole few goes;
  moment = moment;
  spelled = spelled;
  told = told;
  settled = all_free (desk_of contents) changes alone;
}

pub few_ready : AddsOne → TouchedSuffices → (self next : Contents) (changes : List Change) (records : List Record) (stamp : Stamp) → next.kept ≡ self.kept → next.logs ≡ self.logs → IsKept conditions self.kept
    → AreInPlace self.kept changes → AllGoOn conditions false self.kept changes → stamp.0 ≤ LAST_MOMENT → AllByRecursion IsChangeSpellable changes → AllByRecursion trail_record.IsSpellable records
    → ((client : ClientNo) → changes_of client self.logs ≡ []) → CanSettle next None changes records stamp
few_ready adds suffices self next changes records stamp same lists sound few goes moment spelled told alone =
    let back = sym same in
    few_settles adds suffices next changes records stamp
    (subst (IsLawful conditions) back sound.lawful)
    (subst IsWhole back sound.whole)
    (subst (λ (k : Kept). AreInPlace k changes) back few)
    (subst (λ (k : Kept). AllGoOn conditions false k changes) back goes)
    moment spelled told
    (λ client. open_lists (desk_of next) refl client ∙ ap (λ (logs : List Changes). changes_of client logs) lists ∙ alone client)
