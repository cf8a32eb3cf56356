-- The changes of GRANT and REVOKE go on.
use Rattle.std.proofs.Common.{◌≡◌, ◌≢◌, ◌∙◌, suc, zero, Bool, true, false, not, cond, ◌&&◌, ◌||◌, ◌⊎◌, inl, inr, List, [], ◌∷◌, ◌++◌, Some, None, ℕ, map, filter, refl, sym, ap, subst}
use Rattle.std.specs.Prelude.{◌↔◌, ⊤}
use Rattle.std.specs.List.{AllByRecursion, Contains, list_any, slice_get}
use Rattle.std.specs.Str.{bytes_eq}
use Rattle.std.proofs.lemmas.Bool.{and_parts, or_left, or_parts, or_right}
use Rattle.std.proofs.lemmas.Map.Views.{any-filter_same}
use Rattle.std.proofs.lemmas.Slice.Eq.{bytes_eq-Decides}
use Rattle.au_base.specs.BuiltIn.{resolved_table}
use Rattle.au_base.specs.Codes.{CIRCULAR_ROLE_GRANT, NO_SUCH_GRANTEE, NO_SUCH_ROLE, NO_SUCH_TABLE, PRIVILEGE_MISSING}
use Rattle.au_base.specs.Sameness.{same_action, same_table}
use Rattle.au_base.specs.declared.action.Action.{Action}
use Rattle.au_base.specs.declared.action.Action.TheVariants as A
use Rattle.au_base.specs.declared.code.Code.{Code}
use Rattle.au_base.specs.declared.grant.GrantStatement.{GrantStatement}
use Rattle.au_base.specs.declared.grant.GrantStatement.TheVariants as S
use Rattle.au_base.specs.declared.grant.ObjectRight.{ObjectRight}
use Rattle.au_base.specs.declared.grant.ObjectRight.TheVariants as object
use Rattle.au_base.specs.declared.grant.Right.{Right}
use Rattle.au_base.specs.declared.grant.Right.TheVariants.{Privilege as SystemRight, Role as RoleRight}
use Rattle.au_base.specs.declared.table.TableName.{TableName}
use Rattle.au_define.specs.Granting.{change_of}
use Rattle.au_define.proofs.Members.{any_to, here, none, split, there}
use Rattle.au_entries.specs.declared.change.Change.TheVariants as change
use Rattle.au_entries.specs.declared.kept.Kept.{Kept}
use Rattle.au_entries.specs.declared.table.Table.{Table}
use Rattle.au_entries.specs.Changing.{changed}
use Rattle.au_entries.specs.Replaying.{AllGoOn, Conditions}
use Rattle.au_grants.specs.declared.change.GrantChange.{GrantChange}
use Rattle.au_grants.specs.declared.change.GrantChange.TheVariants.{UserGone, RoleGone, SystemGrant, SystemRevoke, RoleGrant, RoleRevoke, ObjectGrant, ObjectRevoke, TableGone}
use Rattle.au_grants.specs.Changing.{applied, applied_all, without}
use Rattle.au_grants.specs.Holding.{grants_object, grants_privilege, grants_role}
use Rattle.au_grants.specs.Rights.{Grants, IsHolder, Name, ObjectEntry}
use Rattle.au_priv.specs.declared.decided.Decided.{Decided}
use Rattle.au_priv.specs.declared.decided.Known.{Known}
use Rattle.au_priv.specs.declared.pair.Way.{Way}
use Rattle.au_priv.specs.declared.pair.Way.TheVariants as way
use Rattle.au_priv.specs.Deciding.{Decides, DecidesOnTable, DecidesPairs, DecidesRights, IsNoRole, NoneRefused, RefusesGrantee, RefusesRight, RefusesTable}
use Rattle.au_priv.specs.Pairs.{Pair, actions_of, object_change, object_pair, pairs, right_change, right_pair}
use Rattle.au_priv.specs.Walking.{AllPass, RefusesPair, is_effective, made, made_all}

-- ---- what a change asks of what is there, and what of the grants

abbrev pub is_grantee : List (List ℕ × List ℕ) → List (List ℕ) → List ℕ → Bool
is_grantee users roles name = list_any (λ user. bytes_eq user.0 name) users || list_any (λ role. bytes_eq role name) roles

-- the grantee and what is granted are there; the change isn't one of a user, a role or a table that goes
abbrev pub Stands : List (List ℕ × List ℕ) → List (List ℕ) → List Table → GrantChange → Type 0
Stands users roles tables (SystemGrant grantee privilege admin) = is_grantee users roles grantee ≡ true
Stands users roles tables (SystemRevoke grantee privilege) = ⊤
Stands users roles tables (RoleGrant grantee role admin) = (is_grantee users roles grantee ≡ true) × (list_any (λ other. bytes_eq other role) roles ≡ true)
Stands users roles tables (RoleRevoke grantee role) = ⊤
Stands users roles tables (ObjectGrant grantee table action) = (is_grantee users roles grantee ≡ true) × (list_any (λ other. same_table other.name table) tables ≡ true)
Stands users roles tables (ObjectRevoke grantee table action) = ⊤
Stands users roles tables _ = ⊥

-- what is revoked is granted; a role that is granted closes no circle
abbrev pub Suits : Grants → GrantChange → Type 0
Suits grants (SystemRevoke grantee privilege) = list_any (grants_privilege grantee privilege) grants.system ≡ true
Suits grants (RoleGrant grantee role admin) = ¬ IsHolder grants.role role grantee
Suits grants (RoleRevoke grantee role) = list_any (grants_role grantee role) grants.role ≡ true
Suits grants (ObjectRevoke grantee table action) = list_any (grants_object grantee table action) grants.object ≡ true
Suits grants _ = ⊤

-- each change suits the grants that those before it leave
abbrev pub AllSuit : Grants → List GrantChange → Type 0
AllSuit grants [] = ⊤
AllSuit grants (change ∷ changes) = Suits grants change × AllSuit (applied change grants) changes

pub go_all : (conditions : Conditions) (kept : Kept) (changes : List GrantChange) → AllByRecursion (Stands kept.users kept.roles kept.tables) changes
    → AllSuit kept.grants changes → AllGoOn conditions false kept (map change_of changes)
go_all conditions kept [] stand suit = tt
go_all conditions kept (SystemGrant grantee privilege admin ∷ changes) stand suit = (stand.0, go_all conditions (changed conditions.tree (change.SysGrant grantee privilege admin) kept) changes stand.1 suit.1)
go_all conditions kept (SystemRevoke grantee privilege ∷ changes) stand suit = (suit.0, go_all conditions (changed conditions.tree (change.SysRevoke grantee privilege) kept) changes stand.1 suit.1)
go_all conditions kept (RoleGrant grantee role admin ∷ changes) stand suit =
    ((stand.0.0, stand.0.1, suit.0), go_all conditions (changed conditions.tree (change.RoleGrant grantee role admin) kept) changes stand.1 suit.1)
go_all conditions kept (RoleRevoke grantee role ∷ changes) stand suit = (suit.0, go_all conditions (changed conditions.tree (change.RoleRevoke grantee role) kept) changes stand.1 suit.1)
go_all conditions kept (ObjectGrant grantee table action ∷ changes) stand suit = (stand.0, go_all conditions (changed conditions.tree (change.ObjGrant grantee table action) kept) changes stand.1 suit.1)
go_all conditions kept (ObjectRevoke grantee table action ∷ changes) stand suit = (suit.0, go_all conditions (changed conditions.tree (change.ObjRevoke grantee table action) kept) changes stand.1 suit.1)
go_all conditions kept (UserGone name ∷ changes) stand suit = absurd stand.0
go_all conditions kept (RoleGone name ∷ changes) stand suit = absurd stand.0
go_all conditions kept (TableGone table ∷ changes) stand suit = absurd stand.0

-- ---- the changes of pairs suit

suit_joined : (xs ys : List GrantChange) (grants : Grants) → AllSuit grants xs → AllSuit (applied_all xs grants) ys → AllSuit grants (xs ++ ys)
suit_joined [] ys grants one other = other
suit_joined (x ∷ xs) ys grants one other = (one.0, suit_joined xs ys (applied x grants) one.1 other)

-- what isn't refused makes changes that suit
abbrev Passes : Pair → Type 0
Passes pair = (grants : Grants) → ((code : Code) → ¬ RefusesPair grants pair code) → AllSuit grants (made grants pair)

suit_all : (list : List Pair) (grants : Grants) → AllByRecursion Passes list → AllPass grants list → AllSuit grants (made_all grants list)
suit_all [] grants fit passes = tt
suit_all (pair ∷ list) grants fit passes =
    suit_joined (made grants pair) _ grants (fit.0 grants passes.0) (suit_all list (applied_all (made grants pair) grants) fit.1 passes.1)

suits_at : (grants : Grants) (one : GrantChange) (b : Bool) → (b ≡ true → Suits grants one) → AllSuit grants (cond b (one ∷ []) [])
suits_at grants one true suits = (suits refl, tt)
suits_at grants one false suits = tt

right_suits : (w : Way) (right : Right) (grantee : Name) (grants : Grants) → ((code : Code) → ¬ RefusesPair grants (right_pair w right grantee) code)
    → is_effective grants (right_change w right grantee) ≡ true → Suits grants (right_change w right grantee)
right_suits (way.Grant admin) (SystemRight privilege) grantee grants passes is = tt
right_suits (way.Grant admin) (RoleRight role) grantee grants passes is = λ holds. passes CIRCULAR_ROLE_GRANT (inl ((0, RoleGrant grantee role admin, refl, holds), refl))
right_suits way.Revoke (SystemRight privilege) grantee grants passes is = is
right_suits way.Revoke (RoleRight role) grantee grants passes is = is

right_passes : (w : Way) (right : Right) (grantee : Name) → Passes (right_pair w right grantee)
right_passes w right grantee grants passes =
    suits_at grants (right_change w right grantee) (is_effective grants (right_change w right grantee)) (right_suits w right grantee grants passes)

-- ---- object privileges, up to four at a time

and_false : (a b : Bool) → b ≡ false → (a && b) ≡ false
and_false false b is = refl
and_false true b is = is

-- ---- facts of all elements

all_passed : {X : Type 0} (Refuses : X → Code → Type 0) (xs : List X) → NoneRefused Refuses xs → AllByRecursion (λ x. (code : Code) → ¬ Refuses x code) xs
all_passed Refuses [] none = tt
all_passed Refuses (x ∷ xs) none = (λ code. none 0 x code refl, all_passed Refuses xs (λ k y code at. none (suc k) y code at))

pub all_joined : {X : Type 0} (P : X → Type 0) (xs ys : List X) → AllByRecursion P xs → AllByRecursion P ys → AllByRecursion P (xs ++ ys)
all_joined P [] ys one other = other
all_joined P (x ∷ xs) ys one other = (one.0, all_joined P xs ys one.1 other)

pub all_each : {X Y : Type 0} (make : X → Y) (Q : X → Type 0) (P : Y → Type 0) → ((x : X) → Q x → P (make x)) → (xs : List X) → AllByRecursion Q xs → AllByRecursion P (map make xs)
all_each make Q P goes [] all = tt
all_each make Q P goes (x ∷ xs) all = (goes x all.0, all_each make Q P goes xs all.1)

pub all_pairs : {R : Type 0} (make : R → Name → Pair) (O : R → Type 0) (Q : Name → Type 0) (P : Pair → Type 0) → ((right : R) → O right → (grantee : Name) → Q grantee → P (make right grantee))
    → (rights : List R) (grantees : List Name) → AllByRecursion O rights → AllByRecursion Q grantees → AllByRecursion P (pairs make rights grantees)
all_pairs make O Q P goes [] grantees all each = tt
all_pairs make O Q P goes (right ∷ rights) grantees all each =
    all_joined P (map (make right) grantees) (pairs make rights grantees) (all_each (make right) Q P (goes right all.0) grantees each) (all_pairs make O Q P goes rights grantees all.1 each)

kept_of_test : {X : Type 0} (P : X → Type 0) (test : X → Bool) (x : X) (b : Bool) (rest : List X) → P x → AllByRecursion P rest → AllByRecursion P (cond b (x ∷ rest) rest)
kept_of_test P test x true rest one all = (one, all)
kept_of_test P test x false rest one all = all

all_filtered : {X : Type 0} (P : X → Type 0) (test : X → Bool) (xs : List X) → AllByRecursion P xs → AllByRecursion P (filter test xs)
all_filtered P test [] all = tt
all_filtered P test (x ∷ xs) all = kept_of_test P test x (test x) (filter test xs) all.0 (all_filtered P test xs all.1)

pub all_made : (P : GrantChange → Type 0) (list : List Pair) (grants : Grants) → AllByRecursion (AllByRecursion P) list → AllByRecursion P (made_all grants list)
all_made P [] grants all = tt
all_made P (pair ∷ list) grants all =
    all_joined P (made grants pair) (made_all (applied_all (made grants pair) grants) list) (all_filtered P (is_effective grants) pair all.0) (all_made P list (applied_all (made grants pair) grants) all.1)

pub all_true : {X : Type 0} (xs : List X) → AllByRecursion (λ x. ⊤) xs
all_true [] = tt
all_true (x ∷ xs) = (tt, all_true xs)

told : (b : Bool) → (b ≡ false → ⊥) → b ≡ true
told true isnt = refl
told false isnt = absurd (isnt refl)

of_mapped : {X Y : Type 0} (f : X → Y) (xs : List X) (y : Y) → Contains (map f xs) y → (x : X) × Contains xs x × (f x ≡ y)
of_mapped f [] y has = absurd (none y has)
of_mapped f (x ∷ xs) y has = elim (split (f x) (map f xs) y has) [
  | inl same ↦ (x, here x xs, same)
  | inr later ↦ (let found = of_mapped f xs y later in (found.0, there x xs found.0 found.1, found.2))
]

module _ (action_is : (a b : Action) → (same_action a b ≡ true) ↔ (a ≡ b)) where
  -- no two of the actions are the same
  abbrev Apart : List Action → Type 0
  Apart [] = ⊤
  Apart (action ∷ actions) = AllByRecursion (λ other. other ≢ action) actions × Apart actions

  differs : (one other : Action) → other ≢ one → (b : Bool) → same_action other one ≡ b → b ≡ false
  differs one other apart false is = refl
  differs one other apart true is = absurd (apart ((action_is other one).0 is))

  -- an entry that grants one action doesn't grant another
  other_action : (grantee : Name) (table : TableName) (one other : Action) (entry : ObjectEntry) → other ≢ one → grants_object grantee table other entry ≡ true → grants_object grantee table one entry ≡ false
  other_action grantee table one other entry apart is =
      let parts = and_parts (bytes_eq entry.0 grantee && same_table entry.1 table) (same_action entry.2 other) is in
      let same : entry.2 ≡ other = (action_is entry.2 other).0 parts.1 in
      let isnt : same_action entry.2 one ≡ false = differs one entry.2 (λ is_one. apart (sym same ∙ is_one)) (same_action entry.2 one) refl in
      and_false (bytes_eq entry.0 grantee && same_table entry.1 table) (same_action entry.2 one) isnt

  -- what is granted of other actions stays when one is revoked
  stays : (grantee : Name) (table : TableName) (one other : Action) (entries : List ObjectEntry) → other ≢ one → list_any (grants_object grantee table other) entries ≡ true
      → list_any (grants_object grantee table other) (without (grants_object grantee table one) entries) ≡ true
  stays grantee table one other entries apart is =
      any-filter_same (grants_object grantee table other) (λ entry. not (grants_object grantee table one entry)) true (λ entry granted. ap not (other_action grantee table one other entry apart granted)) entries ∙ is

  -- of each of the actions, what is granted in the one is granted in the other
  abbrev Keeps : Name → TableName → Grants → Grants → List Action → Type 0
  Keeps grantee table start now actions = AllByRecursion (λ action. list_any (grants_object grantee table action) start.object ≡ true → list_any (grants_object grantee table action) now.object ≡ true) actions

  keeps_on : (grantee : Name) (table : TableName) (start now : Grants) (one : Action) (actions : List Action) → AllByRecursion (λ other. other ≢ one) actions
      → Keeps grantee table start now actions → Keeps grantee table start (applied (ObjectRevoke grantee table one) now) actions
  keeps_on grantee table start now one [] apart keeps = tt
  keeps_on grantee table start now one (action ∷ actions) apart keeps =
      (λ granted. stays grantee table one action now.object apart.0 (keeps.0 granted), keeps_on grantee table start now one actions apart.1 keeps.1)

  revoked_at : (grantee : Name) (table : TableName) (action : Action) (rest : List GrantChange) (now : Grants) (b : Bool) → (b ≡ true → Suits now (ObjectRevoke grantee table action))
      → AllSuit now rest → AllSuit (applied (ObjectRevoke grantee table action) now) rest → AllSuit now (cond b (ObjectRevoke grantee table action ∷ rest) rest)
  revoked_at grantee table action rest now true suits same next = (suits refl, next)
  revoked_at grantee table action rest now false suits same next = same

  revokes_suit : (grantee : Name) (table : TableName) (start now : Grants) (actions : List Action) → Apart actions → Keeps grantee table start now actions
      → AllSuit now (filter (is_effective start) (map (object_change way.Revoke table grantee) actions))
  revokes_suit grantee table start now [] apart keeps = tt
  revokes_suit grantee table start now (action ∷ actions) apart keeps =
      revoked_at grantee table action _ now (list_any (grants_object grantee table action) start.object) keeps.0
      (revokes_suit grantee table start now actions apart.1 keeps.1)
      (revokes_suit grantee table start (applied (ObjectRevoke grantee table action) now) actions apart.1 (keeps_on grantee table start now action actions apart.0 keeps.1))

  granted_at : (grantee : Name) (table : TableName) (action : Action) (rest : List GrantChange) (now : Grants) (b : Bool) → ((after : Grants) → AllSuit after rest)
      → AllSuit now (cond b (ObjectGrant grantee table action ∷ rest) rest)
  granted_at grantee table action rest now true suits = (tt, suits (applied (ObjectGrant grantee table action) now))
  granted_at grantee table action rest now false suits = suits now

  grants_suit : (admin : Bool) (grantee : Name) (table : TableName) (start now : Grants) (actions : List Action) → AllSuit now (filter (is_effective start) (map (object_change (way.Grant admin) table grantee) actions))
  grants_suit admin grantee table start now [] = tt
  grants_suit admin grantee table start now (action ∷ actions) =
      granted_at grantee table action _ now (not (list_any (grants_object grantee table action) start.object)) (λ after. grants_suit admin grantee table start after actions)

  actions_apart : (right : ObjectRight) → Apart (actions_of right)
  actions_apart object.Select = (tt, tt)
  actions_apart object.Insert = (tt, tt)
  actions_apart object.Update = (tt, tt)
  actions_apart object.Delete = (tt, tt)
  actions_apart object.All = (
    ((λ same. absurd cc), ((λ same. absurd cc), ((λ same. absurd cc), tt))),
    (((λ same. absurd cc), ((λ same. absurd cc), tt)), (((λ same. absurd cc), tt), (tt, tt))),
  )

  keeps_itself : (grantee : Name) (table : TableName) (grants : Grants) (actions : List Action) → Keeps grantee table grants grants actions
  keeps_itself grantee table grants [] = tt
  keeps_itself grantee table grants (action ∷ actions) = (λ is. is, keeps_itself grantee table grants actions)

  object_passes : (w : Way) (table : TableName) (right : ObjectRight) (grantee : Name) → Passes (object_pair w table right grantee)
  object_passes (way.Grant admin) table right grantee grants passes = grants_suit admin grantee table grants grants (actions_of right)
  object_passes way.Revoke table right grantee grants passes = revokes_suit grantee table grants grants (actions_of right) (actions_apart right) (keeps_itself grantee table grants (actions_of right))

  -- ---- what a statement names is there

  -- the users, roles and tables that are there, as rights know them
  module _ (users : List (List ℕ × List ℕ)) (roles : List (List ℕ)) (tables : List Table) where
    abbrev pub known : Known
    known = record { users = map (λ user. user.0) users; roles = roles; tables = map (λ table. table.name) tables }

    user_found : (name : List ℕ) → Contains (map (λ (user : List ℕ × List ℕ). user.0) users) name → list_any (λ (user : List ℕ × List ℕ). bytes_eq user.0 name) users ≡ true
    user_found name has =
        let found = of_mapped (λ (user : List ℕ × List ℕ). user.0) users name has in
        any_to (λ (user : List ℕ × List ℕ). bytes_eq user.0 name) users found.0 found.1 ((bytes_eq-Decides found.0.0 name).1 found.2)

    role_found : (name : List ℕ) → Contains roles name → list_any (λ (role : List ℕ). bytes_eq role name) roles ≡ true
    role_found name has = any_to (λ (role : List ℕ). bytes_eq role name) roles name has ((bytes_eq-Decides name name).1 refl)

    apart_of : (a b : Bool) → a ≡ true → a ≡ false → ⊥
    apart_of a b is isnt = let e : true ≡ false = sym is ∙ isnt in absurd cc

    grantee_there : (grantee : List ℕ) → ((code : Code) → ¬ RefusesGrantee known grantee code) → is_grantee users roles grantee ≡ true
    grantee_there grantee passes =
        told (is_grantee users roles grantee) (λ isnt. (let both = or_parts (list_any (λ (user : List ℕ × List ℕ). bytes_eq user.0 grantee) users) (list_any (λ (role : List ℕ). bytes_eq role grantee) roles) isnt in
        passes NO_SUCH_GRANTEE ((λ user. apart_of _ true (user_found grantee user) both.0), (λ role. apart_of _ true (role_found grantee role) both.1), refl)))

    role_there : (grants : Grants) (user : Name) (role : List ℕ) → ((code : Code) → ¬ RefusesRight grants known user (RoleRight role) code) → list_any (λ (other : List ℕ). bytes_eq other role) roles ≡ true
    role_there grants user role passes =
        told (list_any (λ (other : List ℕ). bytes_eq other role) roles) (λ isnt. passes NO_SUCH_ROLE (inl ((λ has. apart_of _ true (role_found role has) isnt), refl)))

    table_there : (table_is : (a b : TableName) → (same_table a b ≡ true) ↔ (a ≡ b)) (grants : Grants) (user : Name) (table : TableName) → ((code : Code) → ¬ RefusesTable grants known user table code)
        → list_any (λ (other : Table). same_table other.name table) tables ≡ true
    table_there table_is grants user table passes =
        told (list_any (λ (other : Table). same_table other.name table) tables) (λ isnt. passes NO_SUCH_TABLE (inr (inl (
          (λ built. passes PRIVILEGE_MISSING (inl (built, refl))),
          (λ has. (let found = of_mapped (λ (other : Table). other.name) tables table has in
              apart_of _ true (any_to (λ (other : Table). same_table other.name table) tables found.0 found.1 ((table_is found.0.name table).1 found.2)) isnt)),
          refl,
        ))))

    right_stands : (grants : Grants) (user : Name) (w : Way) (right : Right) → ((code : Code) → ¬ RefusesRight grants known user right code) → (grantee : Name)
        → ((code : Code) → ¬ RefusesGrantee known grantee code) → AllByRecursion (Stands users roles tables) (right_pair w right grantee)
    right_stands grants user (way.Grant admin) (SystemRight privilege) passes grantee there = (grantee_there grantee there, tt)
    right_stands grants user (way.Grant admin) (RoleRight role) passes grantee there = ((grantee_there grantee there, role_there grants user role passes), tt)
    right_stands grants user way.Revoke (SystemRight privilege) passes grantee there = (tt, tt)
    right_stands grants user way.Revoke (RoleRight role) passes grantee there = (tt, tt)

    actions_stand : (w : Way) (table : TableName) → list_any (λ (other : Table). same_table other.name table) tables ≡ true → (grantee : Name) → is_grantee users roles grantee ≡ true
        → (actions : List Action) → AllByRecursion (Stands users roles tables) (map (object_change w table grantee) actions)
    actions_stand w table is grantee there [] = tt
    actions_stand (way.Grant admin) table is grantee there (action ∷ actions) = ((there, is), actions_stand (way.Grant admin) table is grantee there actions)
    actions_stand way.Revoke table is grantee there (action ∷ actions) = (tt, actions_stand way.Revoke table is grantee there actions)

    -- ---- statements

    -- what the changes of a statement are
    Made : Grants → List GrantChange → Type 0
    Made grants changes = AllByRecursion (Stands users roles tables) changes × AllSuit grants changes

    nothing_made : (grants : Grants) (changes : List GrantChange) → changes ≡ [] → Made grants changes
    unfolding Made
    nothing_made grants changes is = subst (λ (c : List GrantChange). AllByRecursion (Stands users roles tables) c × AllSuit grants c) (sym is) (tt, tt)

    pairs_made : (grants : Grants) (grantees : List Name) (list : List Pair) (code : Code) (changes : List GrantChange)
        → AllByRecursion Passes list → (NoneRefused (RefusesGrantee known) grantees → AllByRecursion (AllByRecursion (Stands users roles tables)) list)
        → DecidesPairs grants known grantees list code changes → Made grants changes
    unfolding Made
    pairs_made grants grantees list code changes fit stand (inl refused) = nothing_made grants changes refused.1
    pairs_made grants grantees list code changes fit stand (inr (inl refused)) = nothing_made grants changes refused.2
    pairs_made grants grantees list code changes fit stand (inr (inr done)) =
        subst (λ (c : List GrantChange). AllByRecursion (Stands users roles tables) c × AllSuit grants c) (sym done.3)
        (all_made (Stands users roles tables) list grants (stand done.0), suit_all list grants fit done.1)

    rights_made : (grants : Grants) (user : Name) (w : Way) (rights : List Right) (grantees : List Name) (decided : Decided)
        → DecidesRights grants known user w rights grantees decided → Made grants decided.grants
    rights_made grants user w rights grantees decided (inl refused) = nothing_made grants decided.grants refused.2
    rights_made grants user w rights grantees decided (inr going) =
        pairs_made grants grantees (pairs (right_pair w) rights grantees) decided.code decided.grants
        (all_pairs (right_pair w) (λ right. ⊤) (λ grantee. ⊤) Passes (λ right is grantee each. right_passes w right grantee) rights grantees (all_true rights) (all_true grantees))
        (λ there. all_pairs (right_pair w) (λ right. (code : Code) → ¬ RefusesRight grants known user right code) (λ grantee. (code : Code) → ¬ RefusesGrantee known grantee code)
        (AllByRecursion (Stands users roles tables)) (right_stands grants user w) rights grantees
        (all_passed (RefusesRight grants known user) rights going.0) (all_passed (RefusesGrantee known) grantees there)) going.2

    table_made : (table_is : (a b : TableName) → (same_table a b ≡ true) ↔ (a ≡ b)) (grants : Grants) (user : Name) (w : Way) (table : TableName) (rights : List ObjectRight) (grantees : List Name) (decided : Decided)
        → DecidesOnTable grants known user w table rights grantees decided → Made grants decided.grants
    table_made table_is grants user w table rights grantees decided (inl refused) = nothing_made grants decided.grants refused.2
    table_made table_is grants user w table rights grantees decided (inr going) =
        pairs_made grants grantees (pairs (object_pair w table) rights grantees) decided.code decided.grants
        (all_pairs (object_pair w table) (λ right. ⊤) (λ grantee. ⊤) Passes (λ right is grantee each. object_passes w table right grantee) rights grantees (all_true rights) (all_true grantees))
        (λ there. all_pairs (object_pair w table) (λ right. ⊤) (λ grantee. (code : Code) → ¬ RefusesGrantee known grantee code)
        (AllByRecursion (Stands users roles tables)) (λ right is grantee each. actions_stand w table (table_there table_is grants user table going.0) grantee (grantee_there grantee each) (actions_of right)) rights grantees
        (all_true rights) (all_passed (RefusesGrantee known) grantees there)) going.2

    pub decided_made : (table_is : (a b : TableName) → (same_table a b ≡ true) ↔ (a ≡ b)) (grants : Grants) (user : Name) (statement : GrantStatement) (decided : Decided) → Decides grants known user statement decided
        → AllByRecursion (Stands users roles tables) decided.grants × AllSuit grants decided.grants
    unfolding Made
    decided_made table_is grants user (S.Grant rights grantees admin) decided = rights_made grants user (way.Grant admin) rights grantees decided
    decided_made table_is grants user (S.Revoke rights grantees) decided = rights_made grants user way.Revoke rights grantees decided
    decided_made table_is grants user (S.GrantObject rights table grantees) decided = table_made table_is grants user (way.Grant false) (resolved_table user table) rights grantees decided
    decided_made table_is grants user (S.RevokeObject rights table grantees) decided = table_made table_is grants user way.Revoke (resolved_table user table) rights grantees decided
