-- GRANT and REVOKE are decided by the names that they name.
use Rattle.std.proofs.Common.{◌≡◌, ◌∙◌, suc, zero, Bool, true, false, cond, ◌↔◌, inl, inr, List, [], ◌∷◌, ◌++◌, Some, None, ℕ, map, refl, sym, ap, subst, arith}
use Rattle.std.specs.List.{Contains, filter, flat_map, list_any, slice_get}
use Rattle.std.specs.Str.{bytes_eq}
use Rattle.std.proofs.lemmas.Bool.{or_cases, or_left, or_right}
use Rattle.std.proofs.lemmas.Option.{same_Some}
use Rattle.std.proofs.lemmas.Slice.Eq.{bytes_eq-Decides}
use Rattle.au_base.specs.BuiltIn.{resolved_table}
use Rattle.au_base.specs.Sameness.{same_table}
use Rattle.au_base.specs.declared.code.Code.{Code}
use Rattle.au_base.specs.declared.grant.GrantStatement.{GrantStatement}
use Rattle.au_base.specs.declared.grant.GrantStatement.TheVariants as S
use Rattle.au_base.specs.declared.grant.ObjectRight.{ObjectRight}
use Rattle.au_base.specs.declared.grant.Right.{Right}
use Rattle.au_base.specs.declared.grant.Right.TheVariants.{Privilege, Role}
use Rattle.au_base.specs.declared.table.TableName.{TableName}
use Rattle.au_define.specs.Granting.{known_of}
use Rattle.au_define.specs.Settings.{Setting, has_role, has_table, has_user}
use Rattle.au_define.specs.descent.Named.{known_named, known_of_rights, known_on_table, roles_in}
use Rattle.au_define.proofs.Members.{here, none, split, there}
use Rattle.au_entries.specs.declared.table.Table.{Table}
use Rattle.au_grants.specs.declared.change.GrantChange.{GrantChange}
use Rattle.au_grants.specs.Rights.{Grants, Name}
use Rattle.au_priv.specs.declared.decided.Decided.{Decided}
use Rattle.au_priv.specs.declared.decided.Known.{Known}
use Rattle.au_priv.specs.declared.pair.Way.{Way}
use Rattle.au_priv.specs.declared.pair.Way.TheVariants as way
use Rattle.au_priv.specs.Deciding.{Decides, DecidesOnTable, DecidesPairs, DecidesRights, FirstRefused, NoneRefused, RefusesGrantee, RefusesRight, RefusesTable}
use Rattle.au_priv.specs.Pairs.{Pair, object_pair, pairs, right_pair}

-- ---- what a list contains

kept_at : {X : Type 0} (test : X → Bool) (b : Bool) (y : X) (rest : List X) (x : X) → test y ≡ b → (Contains rest x → test x ≡ true) → Contains (cond b (y ∷ rest) rest) x → test x ≡ true
kept_at test true y rest x passes more has = elim (split y rest x has) [
  | inl same ↦ ap test (sym same) ∙ passes
  | inr later ↦ more later
]
kept_at test false y rest x fails more has = more has

-- what is kept passes the test
kept_passes : {X : Type 0} (test : X → Bool) (xs : List X) (x : X) → Contains (filter test xs) x → test x ≡ true
kept_passes test [] x has = absurd (none x has)
kept_passes test (y ∷ ys) x has = kept_at test (test y) y (filter test ys) x refl (kept_passes test ys x) has

first_kept : {X : Type 0} (b : Bool) (y : X) (rest : List X) → b ≡ true → Contains (cond b (y ∷ rest) rest) y
first_kept b y rest passes = subst (λ c. Contains (cond c (y ∷ rest) rest) y) (sym passes) (here y rest)

later_kept : {X : Type 0} (b : Bool) (y : X) (rest : List X) (x : X) → Contains rest x → Contains (cond b (y ∷ rest) rest) x
later_kept true y rest x has = there y rest x has
later_kept false y rest x has = has

-- what passes the test is kept
passes_kept : {X : Type 0} (test : X → Bool) (xs : List X) (x : X) → Contains xs x → test x ≡ true → Contains (filter test xs) x
passes_kept test [] x has passes = absurd (none x has)
passes_kept test (y ∷ ys) x has passes = elim (split y ys x has) [
  | inl same ↦ subst (λ z. Contains (cond (test y) (y ∷ filter test ys) (filter test ys)) z) same (first_kept (test y) y (filter test ys) (ap test same ∙ passes))
  | inr later ↦ later_kept (test y) y (filter test ys) x (passes_kept test ys x later passes)
]

in_front : {X : Type 0} (xs ys : List X) (x : X) → Contains xs x → Contains (xs ++ ys) x
in_front [] ys x has = absurd (none x has)
in_front (y ∷ xs) ys x has = elim (split y xs x has) [
  | inl same ↦ subst (λ z. Contains (y ∷ (xs ++ ys)) z) same (here y (xs ++ ys))
  | inr later ↦ there y (xs ++ ys) x (in_front xs ys x later)
]

behind : {X : Type 0} (xs ys : List X) (x : X) → Contains ys x → Contains (xs ++ ys) x
behind [] ys x has = has
behind (y ∷ xs) ys x has = there y (xs ++ ys) x (behind xs ys x has)

at_place : {X : Type 0} (xs : List X) (k : ℕ) (x : X) → slice_get xs k ≡ Some x → Contains xs x
at_place [] k x is = absurd cc
at_place (y ∷ xs) zero x is = subst (λ z. Contains (y ∷ xs) z) (same_Some y x is) (here y xs)
at_place (y ∷ xs) (suc k) x is = there y xs x (at_place xs k x is)

role_among : (rights : List Right) (k : ℕ) (role : Name) → slice_get rights k ≡ Some (Role role) → Contains (flat_map roles_in rights) role
role_among [] k role is = absurd cc
role_among (right ∷ rights) zero role is = subst (λ r. Contains (roles_in r ++ flat_map roles_in rights) role) (sym (same_Some right (Role role) is)) (here role (flat_map roles_in rights))
role_among (right ∷ rights) (suc k) role is = behind (roles_in right) (flat_map roles_in rights) role (role_among rights k role is)

-- ---- what is there, by its key

keyed_to : {X K : Type 0} (same : K → K → Bool) (key : X → K) (k : K) → ((a b : K) → (same a b ≡ true) ↔ (a ≡ b)) → (xs : List X) → list_any (λ x. same (key x) k) xs ≡ true → Contains (map key xs) k
keyed_to same key k decides [] is = absurd (let e : false ≡ true = is in cc)
keyed_to same key k decides (x ∷ xs) is = elim (or_cases (same (key x) k) (list_any (λ y. same (key y) k) xs) is) [
  | inl passes ↦ subst (λ z. Contains (key x ∷ map key xs) z) ((decides (key x) k).0 passes) (here (key x) (map key xs))
  | inr later ↦ there (key x) (map key xs) k (keyed_to same key k decides xs later)
]

keyed_from : {X K : Type 0} (same : K → K → Bool) (key : X → K) (k : K) → ((a b : K) → (same a b ≡ true) ↔ (a ≡ b)) → (xs : List X) → Contains (map key xs) k → list_any (λ x. same (key x) k) xs ≡ true
keyed_from same key k decides [] has = absurd (none k has)
keyed_from same key k decides (x ∷ xs) has = elim (split (key x) (map key xs) k has) [
  | inl is ↦ or_left (same (key x) k) _ ((decides (key x) k).1 is)
  | inr later ↦ or_right (same (key x) k) _ (keyed_from same key k decides xs later)
]

map_itself : {X : Type 0} (xs : List X) → map (λ x. x) xs ≡ xs
map_itself [] = refl
map_itself (x ∷ xs) = ap (λ ys. x ∷ ys) (map_itself xs)

name_decides : (a b : Name) → (bytes_eq a b ≡ true) ↔ (a ≡ b)
name_decides a b = bytes_eq-Decides a b

user_there : (setting : Setting) (name : Name) → (has_user setting name ≡ true) ↔ Contains (known_of setting).users name
user_there setting name = (
  keyed_to bytes_eq (λ (user : List ℕ × List ℕ). user.0) name name_decides setting.users,
  keyed_from bytes_eq (λ (user : List ℕ × List ℕ). user.0) name name_decides setting.users,
)

role_there : (setting : Setting) (name : Name) → (has_role setting name ≡ true) ↔ Contains (known_of setting).roles name
role_there setting name = (
  λ is. subst (λ roles. Contains roles name) (map_itself setting.roles) (keyed_to bytes_eq (λ (role : Name). role) name name_decides setting.roles is),
  λ has. keyed_from bytes_eq (λ (role : Name). role) name name_decides setting.roles (subst (λ roles. Contains roles name) (sym (map_itself setting.roles)) has),
)

-- ---- what is asked alike is decided alike

-- one of them has the element exactly where the other has it
abbrev Alike : {X : Type 0} → List X → List X → X → Type 0
Alike xs ys x = Contains xs x ↔ Contains ys x

first_alike : {X : Type 0} (Refuses Other : X → Code → Type 0) (xs : List X) → ((k : ℕ) (x : X) (code : Code) → slice_get xs k ≡ Some x → Refuses x code ↔ Other x code)
    → (code : Code) → FirstRefused Refuses xs code → FirstRefused Other xs code
first_alike Refuses Other xs alike code (k, x, is, refuses, before) =
    (k, x, is, (alike k x code is).0 refuses, λ j y other less at refused. before j y other less at ((alike j y other at).1 refused))

none_alike : {X : Type 0} (Refuses Other : X → Code → Type 0) (xs : List X) → ((k : ℕ) (x : X) (code : Code) → slice_get xs k ≡ Some x → Refuses x code ↔ Other x code)
    → NoneRefused Refuses xs → NoneRefused Other xs
none_alike Refuses Other xs alike passes = λ k x code is refused. passes k x code is ((alike k x code is).1 refused)

module _ (one other : Known) where
  grantee_alike : (grantee : Name) (code : Code) → Alike one.users other.users grantee → Alike one.roles other.roles grantee → RefusesGrantee one grantee code ↔ RefusesGrantee other grantee code
  grantee_alike grantee code users roles = (
    λ refuses. ((λ has. refuses.0 (users.1 has)), (λ has. refuses.1 (roles.1 has)), refuses.2),
    λ refuses. ((λ has. refuses.0 (users.0 has)), (λ has. refuses.1 (roles.0 has)), refuses.2),
  )

  -- each grantee is known of the one as of the other
  abbrev GranteesAlike : List Name → Type 0
  GranteesAlike grantees = (k : ℕ) (grantee : Name) → slice_get grantees k ≡ Some grantee → Alike one.users other.users grantee × Alike one.roles other.roles grantee

  pairs_alike : (grants : Grants) (grantees : List Name) (list : List Pair) (code : Code) (changes : List GrantChange) → GranteesAlike grantees
      → DecidesPairs grants one grantees list code changes → DecidesPairs grants other grantees list code changes
  pairs_alike grants grantees list code changes alike decides =
      let each : (k : ℕ) (grantee : Name) (code : Code) → slice_get grantees k ≡ Some grantee → RefusesGrantee one grantee code ↔ RefusesGrantee other grantee code =
      λ k grantee code is. (let both = alike k grantee is in grantee_alike grantee code both.0 both.1) in
      elim decides [
        | inl refused ↦ inl (first_alike (RefusesGrantee one) (RefusesGrantee other) grantees each code refused.0, refused.1)
        | inr later ↦ elim later [
          | inl refused ↦ inr (inl (none_alike (RefusesGrantee one) (RefusesGrantee other) grantees each refused.0, refused.1, refused.2))
          | inr passes ↦ inr (inr (none_alike (RefusesGrantee one) (RefusesGrantee other) grantees each passes.0, passes.1, passes.2, passes.3))
        ]
      ]

  right_alike : (grants : Grants) (user : Name) (right : Right) (code : Code) → ((role : Name) → right ≡ Role role → Alike one.roles other.roles role)
      → RefusesRight grants one user right code ↔ RefusesRight grants other user right code
  right_alike grants user (Privilege privilege) code alike = (λ refuses. refuses, λ refuses. refuses)
  right_alike grants user (Role role) code alike =
      let same = alike role refl in (
        λ refuses. elim refuses [
          | inl missing ↦ inl ((λ has. missing.0 (same.1 has)), missing.1)
          | inr lacks ↦ inr ((λ missing. lacks.0 (λ has. missing (same.0 has))), lacks.1, lacks.2, lacks.3)
        ],
        λ refuses. elim refuses [
          | inl missing ↦ inl ((λ has. missing.0 (same.0 has)), missing.1)
          | inr lacks ↦ inr ((λ missing. lacks.0 (λ has. missing (same.1 has))), lacks.1, lacks.2, lacks.3)
        ],
      )

  rights_alike : (grants : Grants) (user : Name) (w : Way) (rights : List Right) (grantees : List Name) (decided : Decided)
      → ((k : ℕ) (role : Name) → slice_get rights k ≡ Some (Role role) → Alike one.roles other.roles role) → GranteesAlike grantees
      → DecidesRights grants one user w rights grantees decided → DecidesRights grants other user w rights grantees decided
  rights_alike grants user w rights grantees decided roles alike decides =
      let each : (k : ℕ) (right : Right) (code : Code) → slice_get rights k ≡ Some right → RefusesRight grants one user right code ↔ RefusesRight grants other user right code =
      λ k right code is. right_alike grants user right code (λ role same. roles k role (is ∙ ap Some same)) in
      elim decides [
        | inl refused ↦ inl (first_alike (RefusesRight grants one user) (RefusesRight grants other user) rights each decided.code refused.0, refused.1, refused.2)
        | inr passes ↦ inr (
          none_alike (RefusesRight grants one user) (RefusesRight grants other user) rights each passes.0,
          passes.1,
          pairs_alike grants grantees (pairs (right_pair w) rights grantees) decided.code decided.grants alike passes.2,
        )
      ]

  table_alike : (grants : Grants) (user : Name) (table : TableName) (code : Code) → Alike one.tables other.tables table → RefusesTable grants one user table code → RefusesTable grants other user table code
  table_alike grants user table code same (inl built) = inl built
  table_alike grants user table code same (inr (inl missing)) = inr (inl (missing.0, (λ has. missing.1 (same.1 has)), missing.2))
  table_alike grants user table code same (inr (inr lacks)) = inr (inr (lacks.0, same.0 lacks.1, lacks.2, lacks.3, lacks.4))

on_table_alike : (one other : Known) (grants : Grants) (user : Name) (w : Way) (table : TableName) (rights : List ObjectRight) (grantees : List Name) (decided : Decided)
    → Alike one.tables other.tables table → GranteesAlike one other grantees → DecidesOnTable grants one user w table rights grantees decided → DecidesOnTable grants other user w table rights grantees decided
on_table_alike one other grants user w table rights grantees decided same alike (inl refused) =
    inl (table_alike one other grants user table decided.code same refused.0, refused.1, refused.2)
on_table_alike one other grants user w table rights grantees decided same alike (inr passes) =
    inr (
      (λ code refuses. passes.0 code (table_alike other one grants user table code (same.1, same.0) refuses)),
      passes.1,
      pairs_alike one other grants grantees (pairs (object_pair w table) rights grantees) decided.code decided.grants alike passes.2,
    )

-- ---- what is known of the names is what is there

-- what is kept of a list that has the element tells whether it is there
alike_at : {X : Type 0} (test : X → Bool) (names known : List X) (x : X) → Contains names x → (test x ≡ true) ↔ Contains known x → Alike (filter test names) known x
alike_at test names known x named tells = (
  λ has. tells.0 (kept_passes test names x has),
  λ has. passes_kept test names x named (tells.1 has),
)

of_rights : (setting : Setting) (w : Way) (rights : List Right) (grantees : List Name) (decided : Decided)
    → DecidesRights setting.grants (known_of_rights setting rights grantees) setting.user w rights grantees decided → DecidesRights setting.grants (known_of setting) setting.user w rights grantees decided
of_rights setting w rights grantees decided decides =
    let names = grantees ++ flat_map roles_in rights in
    rights_alike (known_of_rights setting rights grantees) (known_of setting) setting.grants setting.user w rights grantees decided
    (λ k role is. alike_at (has_role setting) names setting.roles role (behind grantees (flat_map roles_in rights) role (role_among rights k role is)) (role_there setting role))
    (λ k grantee is. (
      alike_at (has_user setting) grantees (known_of setting).users grantee (at_place grantees k grantee is) (user_there setting grantee),
      alike_at (has_role setting) names setting.roles grantee (in_front grantees (flat_map roles_in rights) grantee (at_place grantees k grantee is)) (role_there setting grantee),
    ))
    decides

module _ (table_is : (a b : TableName) → (same_table a b ≡ true) ↔ (a ≡ b)) where
  table_there : (setting : Setting) (table : TableName) → (has_table setting table ≡ true) ↔ Contains (known_of setting).tables table
  table_there setting table = (keyed_to same_table (λ (other : Table). other.name) table table_is setting.tables, keyed_from same_table (λ (other : Table). other.name) table table_is setting.tables)

  on_table : (setting : Setting) (w : Way) (table : TableName) (rights : List ObjectRight) (grantees : List Name) (decided : Decided)
      → DecidesOnTable setting.grants (known_on_table setting table grantees) setting.user w table rights grantees decided → DecidesOnTable setting.grants (known_of setting) setting.user w table rights grantees decided
  on_table setting w table rights grantees decided decides =
      on_table_alike (known_on_table setting table grantees) (known_of setting) setting.grants setting.user w table rights grantees decided
      (alike_at (has_table setting) (table ∷ []) (known_of setting).tables table (here table []) (table_there setting table))
      (λ k grantee is. (
        alike_at (has_user setting) grantees (known_of setting).users grantee (at_place grantees k grantee is) (user_there setting grantee),
        alike_at (has_role setting) grantees setting.roles grantee (at_place grantees k grantee is) (role_there setting grantee),
      ))
      decides

  -- what is decided by the names that the statement names is decided by all that is there
  pub decided_by_names : (setting : Setting) (statement : GrantStatement) (decided : Decided)
      → Decides setting.grants (known_named setting statement) setting.user statement decided → Decides setting.grants (known_of setting) setting.user statement decided
  decided_by_names setting (S.Grant rights grantees admin) decided decides = of_rights setting (way.Grant admin) rights grantees decided decides
  decided_by_names setting (S.Revoke rights grantees) decided decides = of_rights setting way.Revoke rights grantees decided decides
  decided_by_names setting (S.GrantObject rights table grantees) decided decides = on_table setting (way.Grant false) (resolved_table setting.user table) rights grantees decided decides
  decided_by_names setting (S.RevokeObject rights table grantees) decided decides = on_table setting way.Revoke (resolved_table setting.user table) rights grantees decided decides
