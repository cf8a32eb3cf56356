-- Grants of which none changes whether another goes on: each goes on by itself exactly where they go on one after another.
use Rattle.std.proofs.Common.{◌≡◌, ◌∙◌, ℕ, ◌+◌, Bool, true, false, not, cond, ◌⊎◌, inl, inr, List, [], ◌∷◌, ◌++◌, refl, sym, ap, subst}
use Rattle.std.specs.Prelude.{◌↔◌, ◌||◌, IsTrue, None, Some, if◌then◌else◌, map}
use Rattle.std.specs.List.{AllByRecursion, Contains, filter, find, list_any}
use Rattle.std.specs.Str.{bytes_eq}
use Rattle.std.proofs.lemmas.List.Elements.{Contains-append_cases, Contains-append_left, Contains-append_right}
use Rattle.au_base.specs.Sameness.{same_table}
use Rattle.au_base.specs.declared.table.TableName.{TableName}
use Rattle.au_entries.specs.declared.change.Change.{Change}
use Rattle.au_entries.specs.declared.change.Change.TheVariants as change
use Rattle.au_entries.specs.declared.kept.Kept.{Kept}
use Rattle.au_entries.specs.declared.table.Table.{Table}
use Rattle.au_entries.specs.Changing.{changed}
use Rattle.au_entries.specs.Lawful.{IsFounded, IsLawful}
use Rattle.au_entries.specs.Replaying.{AllGoOn, Conditions, GoesOn, has_grantee, has_role, has_table, has_user}
use Rattle.au_grants.specs.Changing.{with_admin}
use Rattle.au_grants.specs.Holding.{grants_role}
use Rattle.au_grants.specs.Order.{placed, role_before}
use Rattle.au_grants.specs.Rights.{IsChain, IsHolder, IsRoleGranted, RoleEntry}
use Rattle.au_kept.specs.Quick.{AreApart, IsGrant, IsOfOne, IsToOne, ShareName, is_to_role}
use Rattle.au_kept.proofs.Among.{all_at, here, split, there}
use Rattle.au_kept.proofs.Chosen.{filtered, filtered_from, mapped, unmapped}
use Rattle.sql_ast.specs.declared.expression.Expr.{Expr}

-- ---- what is there

pub is_false : (b : Bool) → b ≡ false → b ≡ true → ⊥
is_false b is other = let e : false ≡ true = sym is ∙ other in cc

-- who holds a role is granted it in the last place, and has another in the first
last_granted : (roles : List RoleEntry) (from : List ℕ) (path : List (List ℕ)) (name : List ℕ) → IsChain roles from (path ++ name ∷ []) → (holder : List ℕ) × IsRoleGranted roles holder name
last_granted roles from [] name chain = (from, chain.0)
last_granted roles from (role ∷ path) name chain = last_granted roles role path name chain.1

pub first_granted : (roles : List RoleEntry) (from : List ℕ) (path : List (List ℕ)) (name : List ℕ) → IsChain roles from (path ++ name ∷ []) → (role : List ℕ) × IsRoleGranted roles from role
first_granted roles from [] name chain = (name, chain.0)
first_granted roles from (role ∷ path) name chain = (role, chain.0)

-- the role and the grantee of a grant are there
abbrev pub IsGrantFounded : Kept → RoleEntry → Type 0
IsGrantFounded kept grant = IsTrue (has_grantee kept grant.0) × IsTrue (has_role kept grant.1)

no_role_held : (kept : Kept) (role name : List ℕ) → IsFounded kept → has_role kept name ≡ false → has_role kept role ≡ true → IsHolder kept.grants.role role name → ⊥
no_role_held kept role name founded none is (inl same) = is_false (has_role kept name) none (ap (λ (n : List ℕ). has_role kept n) same ∙ is)
no_role_held kept role name founded none is (inr (path, chain)) =
    let granted = last_granted kept.grants.role role path name chain in
    is_false (has_role kept name) none (all_at (IsGrantFounded kept) kept.grants.role founded.role (granted.0, name, granted.1.0) granted.1.1).1

-- the same users, roles and tables
record SameNames (source target : Kept) : Type 0 where
  users : target.users ≡ source.users
  roles : target.roles ≡ source.roles
  tables : target.tables ≡ source.tables

role_same : (source target : Kept) → SameNames source target → (name : List ℕ) → has_role target name ≡ has_role source name
role_same source target same name = ap (λ (roles : List (List ℕ)). list_any (λ (role : List ℕ). bytes_eq role name) roles) same.roles

grantee_same : (source target : Kept) → SameNames source target → (name : List ℕ) → has_grantee target name ≡ has_grantee source name
grantee_same source target same name =
    ap (λ (users : List (List ℕ × List ℕ)). list_any (λ (user : List ℕ × List ℕ). bytes_eq user.0 name) users || has_role target name) same.users
    ∙ ap (λ (b : Bool). has_user source name || b) (role_same source target same name)

table_there : (source target : Kept) → SameNames source target → (name : TableName) → has_table target name ≡ has_table source name
table_there source target same name = ap (λ (tables : List Table). list_any (λ (table : Table). same_table table.name name) tables) same.tables

names_stay : (tree : List ℕ → Expr) (source target : Kept) → SameNames source target → (c : Change) → IsGrant c → SameNames source (changed tree c target)
names_stay tree source target same (change.SysGrant grantee privilege admin) is = record { users = same.users; roles = same.roles; tables = same.tables }
names_stay tree source target same (change.ObjGrant grantee table action) is = record { users = same.users; roles = same.roles; tables = same.tables }
names_stay tree source target same (change.RoleGrant grantee role admin) is = record { users = same.users; roles = same.roles; tables = same.tables }
names_stay tree source target same _ is = absurd is

-- ---- which roles are granted then

-- each role that is granted then is granted before, or to somebody who is no role, or is one that a change grants to a role
abbrev IsMade : Kept → List Change → List ℕ → Type 0
IsMade source changes role = (grantee : List ℕ) × (admin : Bool) × Contains changes (change.RoleGrant grantee role admin) × (has_role source grantee ≡ true)

abbrev AreKnown : Kept → List Change → Kept → Type 0
AreKnown source changes target =
    (from role : List ℕ) → IsRoleGranted target.grants.role from role → IsRoleGranted source.grants.role from role ⊎ ((has_role source from ≡ false) ⊎ IsMade source changes role)

-- and each that is granted before still is
abbrev AreStill : Kept → Kept → Type 0
AreStill source target = (from role : List ℕ) → IsRoleGranted source.grants.role from role → IsRoleGranted target.grants.role from role

grantee_kept : (b admin : Bool) (entry : RoleEntry) → (if b then (entry.0, entry.1, admin) else entry).0 ≡ entry.0
grantee_kept true admin entry = refl
grantee_kept false admin entry = refl

role_kept : (b admin : Bool) (entry : RoleEntry) → (if b then (entry.0, entry.1, admin) else entry).1 ≡ entry.1
role_kept true admin entry = refl
role_kept false admin entry = refl

named_so : (roles : List RoleEntry) (entry : RoleEntry) (from role : List ℕ) → Contains roles entry → entry.0 ≡ from → entry.1 ≡ role → IsRoleGranted roles from role
named_so roles entry from role has grantee granted =
    (entry.2, subst (λ (g : List ℕ). Contains roles (g, role, entry.2)) grantee (subst (λ (r : List ℕ). Contains roles (entry.0, r, entry.2)) granted has))

granted_from : (b : Bool) (test : RoleEntry → Bool) (entry : RoleEntry) (roles : List RoleEntry) (from role : List ℕ) → IsRoleGranted (if b then map (with_admin test entry.2) roles else placed role_before entry roles) from role
    → IsRoleGranted roles from role ⊎ ((from ≡ entry.0) × (role ≡ entry.1))
granted_from true test entry roles from role (admin, has) =
    let found = unmapped (with_admin test entry.2) roles (from, role, admin) has in
    inl (named_so roles found.0 from role found.1
    (sym (grantee_kept (test found.0) entry.2 found.0) ∙ ap (λ (e : RoleEntry). e.0) found.2)
    (sym (role_kept (test found.0) entry.2 found.0) ∙ ap (λ (e : RoleEntry). e.1) found.2))
granted_from false test entry roles from role (admin, has) =
    elim (Contains-append_cases (filter (λ (other : RoleEntry). role_before other entry) roles) (entry ∷ filter (λ (other : RoleEntry). not (role_before other entry)) roles) (from, role, admin) has) [
      | inl lesser ↦ inl (admin, (filtered_from (λ (other : RoleEntry). role_before other entry) roles (from, role, admin) lesser).0)
      | inr rest ↦ elim (split entry (filter (λ (other : RoleEntry). not (role_before other entry)) roles) (from, role, admin) rest) [
        | inl same ↦ inr (sym (ap (λ (e : RoleEntry). e.0) same), sym (ap (λ (e : RoleEntry). e.1) same))
        | inr greater ↦ inl (admin, (filtered_from (λ (other : RoleEntry). not (role_before other entry)) roles (from, role, admin) greater).0)
      ]
    ]

with_either : (b : Bool) (roles : List RoleEntry) (from role : List ℕ) (one other : Bool) → Contains roles (if b then (from, role, one) else (from, role, other)) → IsRoleGranted roles from role
with_either true roles from role one other has = (one, has)
with_either false roles from role one other has = (other, has)

placed_still : (b : Bool) (entry : RoleEntry) (roles : List RoleEntry) (other : RoleEntry) → role_before other entry ≡ b → Contains roles other → Contains (placed role_before entry roles) other
placed_still true entry roles other is has =
    Contains-append_left (filter (λ (o : RoleEntry). role_before o entry) roles) (entry ∷ filter (λ (o : RoleEntry). not (role_before o entry)) roles) other (filtered (λ (o : RoleEntry). role_before o entry) roles other has is)
placed_still false entry roles other is has =
    Contains-append_right (filter (λ (o : RoleEntry). role_before o entry) roles) (entry ∷ filter (λ (o : RoleEntry). not (role_before o entry)) roles) other
    (there entry (filter (λ (o : RoleEntry). not (role_before o entry)) roles) other (filtered (λ (o : RoleEntry). not (role_before o entry)) roles other has (ap not is)))

granted_still : (b : Bool) (test : RoleEntry → Bool) (entry : RoleEntry) (roles : List RoleEntry) (from role : List ℕ) → IsRoleGranted roles from role
    → IsRoleGranted (if b then map (with_admin test entry.2) roles else placed role_before entry roles) from role
granted_still true test entry roles from role (admin, has) =
    with_either (test (from, role, admin)) (map (with_admin test entry.2) roles) from role entry.2 admin (mapped (with_admin test entry.2) roles (from, role, admin) has)
granted_still false test entry roles from role (admin, has) = (admin, placed_still (role_before (from, role, admin) entry) entry roles (from, role, admin) refl has)

either_bool : (b : Bool) → (b ≡ true) ⊎ (b ≡ false)
either_bool true = inl refl
either_bool false = inr refl

known_stay : (tree : List ℕ → Expr) (source : Kept) (changes : List Change) (target : Kept) (c : Change) → IsGrant c → Contains changes c → AreKnown source changes target → AreKnown source changes (changed tree c target)
known_stay tree source changes target (change.SysGrant grantee privilege admin) is has known = known
known_stay tree source changes target (change.ObjGrant grantee table action) is has known = known
known_stay tree source changes target (change.RoleGrant grantee role admin) is has known = λ from granted at.
    elim (granted_from (list_any (grants_role grantee role) target.grants.role) (grants_role grantee role) (grantee, role, admin) target.grants.role from granted at) [
      | inl before ↦ known from granted before
      | inr same ↦ elim (either_bool (has_role source grantee)) [
        | inl among ↦ inr (inr (grantee, admin, subst (λ (r : List ℕ). Contains changes (change.RoleGrant grantee r admin)) (sym same.1) has, among))
        | inr none ↦ inr (inl (ap (λ (n : List ℕ). has_role source n) same.0 ∙ none))
      ]
    ]
known_stay tree source changes target _ is has known = absurd is

still_stay : (tree : List ℕ → Expr) (source target : Kept) (c : Change) → IsGrant c → AreStill source target → AreStill source (changed tree c target)
still_stay tree source target (change.SysGrant grantee privilege admin) is still = still
still_stay tree source target (change.ObjGrant grantee table action) is still = still
still_stay tree source target (change.RoleGrant grantee role admin) is still = λ from granted at.
    granted_still (list_any (grants_role grantee role) target.grants.role) (grants_role grantee role) (grantee, role, admin) target.grants.role from granted (still from granted at)
still_stay tree source target _ is still = absurd is

-- ---- who holds which role then

behind : (roles : List RoleEntry) (from next name : List ℕ) → IsRoleGranted roles from next → IsHolder roles next name → IsHolder roles from name
behind roles from next name edge (inl same) = inr ([], (subst (λ (n : List ℕ). IsRoleGranted roles from n) (sym same) edge, tt))
behind roles from next name edge (inr (path, chain)) = inr (next ∷ path, (edge, chain))

-- where no role that the changes grant to a role is or holds the name, a role that holds it then holds it before
held_before : (source target : Kept) (changes : List Change) → SameNames source target → IsFounded target → AreKnown source changes target → (name : List ℕ) → ((role : List ℕ) → IsMade source changes role → ¬ IsHolder source.grants.role role name)
    → (path : List (List ℕ)) (from : List ℕ) → has_role source from ≡ true → IsChain target.grants.role from (path ++ name ∷ []) → IsHolder source.grants.role from name
held_before source target changes same founded known name apart [] from is chain = elim (known from name chain.0) [
  | inl before ↦ inr ([], (before, tt))
  | inr other ↦ elim other [
    | inl none ↦ absurd (is_false (has_role source from) none is)
    | inr made ↦ absurd (apart name made (inl refl))
  ]
]
held_before source target changes same founded known name apart (next ∷ path) from is chain =
    let granted = all_at (IsGrantFounded target) target.grants.role founded.role (from, next, chain.0.0) chain.0.1 in
    let held = held_before source target changes same founded known name apart path next (sym (role_same source target same next) ∙ granted.1) chain.1 in
    elim (known from next chain.0) [
      | inl before ↦ behind source.grants.role from next name before held
      | inr other ↦ elim other [
        | inl none ↦ absurd (is_false (has_role source from) none is)
        | inr made ↦ absurd (apart next made held)
      ]
    ]

chain_still : (source target : Kept) → AreStill source target → (path : List (List ℕ)) (from : List ℕ) → IsChain source.grants.role from path → IsChain target.grants.role from path
chain_still source target still [] from chain = tt
chain_still source target still (role ∷ path) from chain = (still from role chain.0, chain_still source target still path role chain.1)

holder_still : (source target : Kept) → AreStill source target → (role name : List ℕ) → IsHolder source.grants.role role name → IsHolder target.grants.role role name
holder_still source target still role name (inl same) = inl same
holder_still source target still role name (inr (path, chain)) = inr (path, chain_still source target still (path ++ name ∷ []) role chain)

-- ---- that each goes on by itself, and one after another

-- no role that the changes grant to a role is or holds a role to which they grant one
abbrev LeadApart : Kept → List Change → Type 0
LeadApart source changes = (grantee role : List ℕ) (admin : Bool) → Contains changes (change.RoleGrant grantee role admin) → has_role source grantee ≡ true
    → (other : List ℕ) → IsMade source changes other → ¬ IsHolder source.grants.role other grantee

named_at : (b : Bool) (P : Type 0) → b ≡ true → (b ≡ false) ⊎ P → P
named_at b P is (inl none) = absurd (is_false b none is)
named_at b P is (inr named) = named

lead_apart : (conditions : Conditions) (source : Kept) (changes : List Change) → ShareName source changes → AllByRecursion (GoesOn conditions false source) changes → LeadApart source changes
lead_apart conditions source changes (name, inl to) goes grantee role admin has is other made holder =
    let one = named_at (has_role source grantee) (grantee ≡ name) is (all_at (IsToOne source name) changes to (change.RoleGrant grantee role admin) has) in
    let two = named_at (has_role source made.0) (made.0 ≡ name) made.3 (all_at (IsToOne source name) changes to (change.RoleGrant made.0 other made.1) made.2) in
    (all_at (GoesOn conditions false source) changes goes (change.RoleGrant made.0 other made.1) made.2).2 (subst (λ (n : List ℕ). IsHolder source.grants.role other n) (one ∙ sym two) holder)
lead_apart conditions source changes (name, inr single) goes grantee role admin has is other made holder =
    let one = named_at (has_role source grantee) (role ≡ name) is (all_at (IsOfOne source name) changes single (change.RoleGrant grantee role admin) has) in
    let two = named_at (has_role source made.0) (other ≡ name) made.3 (all_at (IsOfOne source name) changes single (change.RoleGrant made.0 other made.1) made.2) in
    (all_at (GoesOn conditions false source) changes goes (change.RoleGrant grantee role admin) has).2 (subst (λ (n : List ℕ). IsHolder source.grants.role n grantee) (two ∙ sym one) holder)

none_then : (source target : Kept) (changes : List Change) → SameNames source target → IsFounded target → AreKnown source changes target → (grantee role : List ℕ) → has_role source role ≡ true
    → ((other : List ℕ) → has_role source grantee ≡ true → IsMade source changes other → ¬ IsHolder source.grants.role other grantee) → ¬ IsHolder source.grants.role role grantee → ¬ IsHolder target.grants.role role grantee
none_then source target changes same founded known grantee role is apart none holder = elim (either_bool (has_role source grantee)) [
  | inl there ↦ elim holder [
    | inl at ↦ none (inl at)
    | inr held ↦ none (held_before source target changes same founded known grantee (λ other made. apart other there made) held.0 role is held.1)
  ]
  | inr away ↦ no_role_held target role grantee founded (role_same source target same grantee ∙ away) (role_same source target same role ∙ is) holder
]

goes_then : (conditions : Conditions) (source target : Kept) (changes : List Change) → SameNames source target → IsFounded target → AreKnown source changes target → LeadApart source changes → (c : Change) → IsGrant c → Contains changes c
    → GoesOn conditions false source c → GoesOn conditions false target c
goes_then conditions source target changes same founded known apart (change.SysGrant grantee privilege admin) is has goes = grantee_same source target same grantee ∙ goes
goes_then conditions source target changes same founded known apart (change.ObjGrant grantee table action) is has goes = (grantee_same source target same grantee ∙ goes.0, table_there source target same table ∙ goes.1)
goes_then conditions source target changes same founded known apart (change.RoleGrant grantee role admin) is has goes = (
  grantee_same source target same grantee ∙ goes.0,
  role_same source target same role ∙ goes.1,
  none_then source target changes same founded known grantee role goes.1 (λ other there made. apart grantee role admin has there other made) goes.2,
)
goes_then conditions source target changes same founded known apart _ is has goes = absurd is

goes_before : (conditions : Conditions) (source target : Kept) → SameNames source target → AreStill source target → (c : Change) → IsGrant c → GoesOn conditions false target c → GoesOn conditions false source c
goes_before conditions source target same still (change.SysGrant grantee privilege admin) is goes = sym (grantee_same source target same grantee) ∙ goes
goes_before conditions source target same still (change.ObjGrant grantee table action) is goes = (sym (grantee_same source target same grantee) ∙ goes.0, sym (table_there source target same table) ∙ goes.1)
goes_before conditions source target same still (change.RoleGrant grantee role admin) is goes = (
  sym (grantee_same source target same grantee) ∙ goes.0,
  sym (role_same source target same role) ∙ goes.1,
  λ holder. goes.2 (holder_still source target still role grantee holder),
)
goes_before conditions source target same still _ is goes = absurd is

-- what is lawful stays so, as the law has it
abbrev pub StaysLawful : Type 0
StaysLawful = (conditions : Conditions) (image : Bool) (kept : Kept) (change : Change) → IsLawful conditions kept → GoesOn conditions image kept change → IsLawful conditions (changed conditions.tree change kept)

each_goes : StaysLawful → (conditions : Conditions) (source : Kept) (all : List Change) → LeadApart source all → (changes : List Change) (target : Kept) → ((c : Change) → Contains changes c → Contains all c) → SameNames source target
    → IsLawful conditions target → AreKnown source all target → AllByRecursion IsGrant changes → AllByRecursion (GoesOn conditions false source) changes → AllGoOn conditions false target changes
each_goes stays conditions source all apart [] target within same lawful known grants goes = tt
each_goes stays conditions source all apart (c ∷ changes) target within same lawful known grants goes =
    let has = within c (here c changes) in
    let first = goes_then conditions source target all same lawful.founded known apart c grants.0 has goes.0 in (
      first,
      each_goes stays conditions source all apart changes (changed conditions.tree c target) (λ d later. within d (there c changes d later)) (names_stay conditions.tree source target same c grants.0)
          (stays conditions false target c lawful first) (known_stay conditions.tree source all target c grants.0 has known) grants.1 goes.1,
    )

each_back : (conditions : Conditions) (source : Kept) (changes : List Change) (target : Kept) → SameNames source target → AreStill source target → AllByRecursion IsGrant changes → AllGoOn conditions false target changes
    → AllByRecursion (GoesOn conditions false source) changes
each_back conditions source [] target same still grants goes = tt
each_back conditions source (c ∷ changes) target same still grants goes = (
  goes_before conditions source target same still c grants.0 goes.0,
  each_back conditions source changes (changed conditions.tree c target) (names_stay conditions.tree source target same c grants.0) (still_stay conditions.tree source target c grants.0 still) grants.1 goes.1,
)

-- each of the changes goes on by itself exactly where they go on one after another
pub apart_goes : StaysLawful → (conditions : Conditions) (kept : Kept) (changes : List Change) → IsLawful conditions kept → AreApart kept changes → AllByRecursion (GoesOn conditions false kept) changes ↔ AllGoOn conditions false kept changes
apart_goes stays conditions kept [] lawful (inl lone) = absurd lone
apart_goes stays conditions kept (c ∷ []) lawful (inl lone) = ((λ goes. goes), (λ goes. goes))
apart_goes stays conditions kept (c ∷ other ∷ changes) lawful (inl lone) = absurd lone
apart_goes stays conditions kept changes lawful (inr apart) =
    let same : SameNames kept kept = record { users = refl; roles = refl; tables = refl } in (
      λ goes. each_goes stays conditions kept changes (lead_apart conditions kept changes apart.1 goes) changes kept (λ c has. has) same lawful (λ from role at. inl at) apart.0 goes,
      λ goes. each_back conditions kept changes kept same (λ from role at. at) apart.0 goes,
    )

-- a grant of a role to somebody who is no role closes no circle
pub none_closes : (kept : Kept) (role name : List ℕ) → IsFounded kept → has_role kept role ≡ true → has_role kept name ≡ false → IsTrue false ↔ IsHolder kept.grants.role role name
none_closes kept role name founded is none = ((λ e. absurd (let no : false ≡ true = e in cc)), (λ holder. absurd (no_role_held kept role name founded none is holder)))

-- ---- the first change that grants a role to a role

first_at : (kept : Kept) (c : Change) (rest : List Change) (first : Change) (b : Bool) → is_to_role kept c ≡ b → (find (is_to_role kept) rest ≡ Some first → Contains rest first × (is_to_role kept first ≡ true))
    → cond b (Some c) (find (is_to_role kept) rest) ≡ Some first → Contains (c ∷ rest) first × (is_to_role kept first ≡ true)
first_at kept c rest first true same more is =
    let e : c ≡ first = cc in
    (subst (λ (d : Change). Contains (c ∷ rest) d) e (here c rest), subst (λ (d : Change). is_to_role kept d ≡ true) e same)
first_at kept c rest first false same more is = let later = more is in (there c rest first later.0, later.1)

pub first_found : (kept : Kept) (changes : List Change) (first : Change) → find (is_to_role kept) changes ≡ Some first → Contains changes first × (is_to_role kept first ≡ true)
first_found kept [] first is = absurd (let e : None ≡ Some first = is in cc)
first_found kept (c ∷ changes) first is = first_at kept c changes first (is_to_role kept c) refl (first_found kept changes first) is

none_to : (kept : Kept) (name : List ℕ) (c : Change) → is_to_role kept c ≡ false → IsToOne kept name c
none_to kept name (change.RoleGrant grantee role admin) none = inl none
none_to kept name _ none = tt

none_at : (kept : Kept) (name : List ℕ) (c : Change) (rest : List Change) (b : Bool) → is_to_role kept c ≡ b → (find (is_to_role kept) rest ≡ None → AllByRecursion (IsToOne kept name) rest)
    → cond b (Some c) (find (is_to_role kept) rest) ≡ None → AllByRecursion (IsToOne kept name) (c ∷ rest)
none_at kept name c rest true same more is = absurd (let e : Some c ≡ None = is in cc)
none_at kept name c rest false same more is = (none_to kept name c same, more is)

none_found : (kept : Kept) (name : List ℕ) (changes : List Change) → find (is_to_role kept) changes ≡ None → AllByRecursion (IsToOne kept name) changes
none_found kept name [] none = tt
none_found kept name (c ∷ changes) none = none_at kept name c changes (is_to_role kept c) refl (none_found kept name changes) none

pub none_shares : (kept : Kept) (changes : List Change) → find (is_to_role kept) changes ≡ None → ShareName kept changes
none_shares kept changes none = ([], inl (none_found kept [] changes none))

-- it tells whether they share a name
pub shared_by : (kept : Kept) (changes : List Change) (grantee role : List ℕ) (admin : Bool) → Contains changes (change.RoleGrant grantee role admin) → has_role kept grantee ≡ true
    → (AllByRecursion (IsToOne kept grantee) changes ⊎ AllByRecursion (IsOfOne kept role) changes) ↔ ShareName kept changes
shared_by kept changes grantee role admin has is = (
  λ shared. elim shared [
    | inl to ↦ (grantee, inl to)
    | inr single ↦ (role, inr single)
  ],
  λ share. elim share.1 [
    | inl to ↦ inl (subst (λ (n : List ℕ). AllByRecursion (IsToOne kept n) changes) (sym (named_at (has_role kept grantee) (grantee ≡ share.0) is (all_at (IsToOne kept share.0) changes to (change.RoleGrant grantee role admin) has))) to)
    | inr single ↦ inr (subst (λ (n : List ℕ). AllByRecursion (IsOfOne kept n) changes) (sym (named_at (has_role kept grantee) (role ≡ share.0) is (all_at (IsOfOne kept share.0) changes single (change.RoleGrant grantee role admin) has))) single)
  ],
)
