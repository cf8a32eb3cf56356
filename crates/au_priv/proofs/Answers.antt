-- Each question has one answer.
use Rattle.std.proofs.Common.{◌≡◌, inl, inr, Bool, true, false, ◌↔◌, Some, refl, sym, subst, ap, ◌∙◌}
use Rattle.std.proofs.lemmas.Option.{same_Some}
use Rattle.au_base.specs.declared.action.Action.{Action}
use Rattle.au_base.specs.declared.action.Action.TheVariants as A
use Rattle.au_base.specs.declared.privilege.Privilege.{Privilege}
use Rattle.au_base.specs.declared.privilege.Privilege.TheVariants.{SelectAnyTable, InsertAnyTable, UpdateAnyTable, DeleteAnyTable}
use Rattle.au_base.specs.declared.table.TableName.{TableName}
use Rattle.au_base.specs.declared.code.Code.{Code}
use Rattle.au_base.specs.BuiltIn.{dual, trail}
use Rattle.au_priv.specs.declared.allowed.Allowed.{Allowed}
use Rattle.au_priv.specs.declared.allowed.Allowed.TheVariants.{Owner, Object, System, Refused}
use Rattle.au_grants.specs.declared.grants.Grants.{Grants}
use Rattle.au_priv.specs.Allowing.{AllowedIs, AllowedOnTable, AllowedOnTrail, IsRefusal, HoldsSomeAnyTable, any_table_privilege}
use Rattle.au_grants.specs.declared.right.Sought.TheVariants.{AnyTable}
use Rattle.au_grants.specs.Holding.{Holds, is_any_table, same_table}
use Rattle.au_grants.specs.Rights.{Name}
use Rattle.au_priv.proofs.Tables.{same_table-is, same_table-refl}

-- the privileges that allow some action on any table
some_action : (privilege : Privilege) → is_any_table privilege ≡ true → (action : Action) × (any_table_privilege action ≡ Some privilege)
some_action SelectAnyTable is = (A.Select, refl)
some_action InsertAnyTable is = (A.Insert, refl)
some_action UpdateAnyTable is = (A.Update, refl)
some_action DeleteAnyTable is = (A.Delete, refl)
some_action _ is = absurd (let e : false ≡ true = is in cc)

any_table_of : (action : Action) (privilege : Privilege) → any_table_privilege action ≡ Some privilege → is_any_table privilege ≡ true
any_table_of A.Select privilege is = ap is_any_table (sym (same_Some SelectAnyTable privilege is))
any_table_of A.Insert privilege is = ap is_any_table (sym (same_Some InsertAnyTable privilege is))
any_table_of A.Update privilege is = ap is_any_table (sym (same_Some UpdateAnyTable privilege is))
any_table_of A.Delete privilege is = ap is_any_table (sym (same_Some DeleteAnyTable privilege is))
any_table_of _ privilege is = absurd (cc)

-- who has one of them holds it
pub any_table_held : (grants : Grants) (user : Name) → Holds grants user AnyTable ↔ HoldsSomeAnyTable grants user
any_table_held grants user = (
  λ (privilege, any, holds). (let some = some_action privilege any in (some.0, privilege, (some.1, holds))),
  λ (action, privilege, (allows, holds)). (privilege, any_table_of action privilege allows, holds),
)

-- there is one code for a missing right
one_refusal : (grants : Grants) (user : Name) (table : TableName) (a b : Code) → IsRefusal grants user table a → IsRefusal grants user table b → a ≡ b
one_refusal grants user table a b (inl (some, is)) (inl (too, other)) = is ∙ sym other
one_refusal grants user table a b (inl (some, is)) (inr (nothing, other)) = absurd (nothing some)
one_refusal grants user table a b (inr (nothing, is)) (inl (some, other)) = absurd (nothing some)
one_refusal grants user table a b (inr (nothing, is)) (inr (too, other)) = is ∙ sym other

one_on_table : (grants : Grants) (user : Name) (table : TableName) (action : Action) (a b : Allowed) → AllowedOnTable grants user table action a → AllowedOnTable grants user table action b → a ≡ b
one_on_table grants user table action Owner Owner x y = refl
one_on_table grants user table action Owner Object x y = absurd (y.0 x)
one_on_table grants user table action Owner (System q) x y = absurd (y.0 x)
one_on_table grants user table action Owner (Refused c) x y = absurd (y.0 x)
one_on_table grants user table action Object Owner x y = absurd (x.0 y)
one_on_table grants user table action Object Object x y = refl
one_on_table grants user table action Object (System q) x y = absurd (y.1 x.1)
one_on_table grants user table action Object (Refused c) x y = absurd (y.1 x.1)
one_on_table grants user table action (System p) Owner x y = absurd (x.0 y)
one_on_table grants user table action (System p) Object x y = absurd (x.1 y.1)
one_on_table grants user table action (System p) (System q) x y = ap System (same_Some p q (sym x.2.0 ∙ y.2.0))
one_on_table grants user table action (System p) (Refused c) x y = absurd (y.2 p x.2)
one_on_table grants user table action (Refused c) Owner x y = absurd (x.0 y)
one_on_table grants user table action (Refused c) Object x y = absurd (x.1 y.1)
one_on_table grants user table action (Refused c) (System q) x y = absurd (x.2 q y.2)
one_on_table grants user table action (Refused c) (Refused d) x y = ap Refused (one_refusal grants user table c d x.3 y.3)

one_on_select : (grants : Grants) (user : Name) (a b : Allowed) → AllowedOnTrail grants user A.Select a → AllowedOnTrail grants user A.Select b → a ≡ b
one_on_select grants user Owner b x y = absurd x
one_on_select grants user (System p) b x y = absurd x
one_on_select grants user Object Owner x y = absurd y
one_on_select grants user Object Object x y = refl
one_on_select grants user Object (System q) x y = absurd y
one_on_select grants user Object (Refused c) x y = absurd (y.0 x)
one_on_select grants user (Refused c) Owner x y = absurd y
one_on_select grants user (Refused c) Object x y = absurd (x.0 y)
one_on_select grants user (Refused c) (System q) x y = absurd y
one_on_select grants user (Refused c) (Refused d) x y = ap Refused (x.1 ∙ sym y.1)

one_on_trail : (grants : Grants) (user : Name) (action : Action) (a b : Allowed) → AllowedOnTrail grants user action a → AllowedOnTrail grants user action b → a ≡ b
one_on_trail grants user A.Select a b x y = one_on_select grants user a b x y
one_on_trail grants user _ a b x y = x ∙ sym y

one_at : (grants : Grants) (user : Name) (table : TableName) (action : Action) (a b : Allowed) (is_dual is_trail : Bool)
    → same_table table dual ≡ is_dual → same_table table trail ≡ is_trail → AllowedIs grants user table action a → AllowedIs grants user table action b → a ≡ b
one_at grants user table action a b true is_trail is other x y =
    let same : table ≡ dual = same_table-is table dual is in x.on_dual same ∙ sym (y.on_dual same)
one_at grants user table action a b false true isnt is x y =
    let same : table ≡ trail = same_table-is table trail is in one_on_trail grants user action a b (x.on_trail same) (y.on_trail same)
one_at grants user table action a b false false not_dual not_trail x y =
    let no_dual : table ≡ dual → ⊥ = λ same. (let is : same_table table dual ≡ true = subst (λ (t : TableName). same_table table t ≡ true) same (same_table-refl table) in cc) in
    let no_trail : table ≡ trail → ⊥ = λ same. (let is : same_table table trail ≡ true = subst (λ (t : TableName). same_table table t ≡ true) same (same_table-refl table) in cc) in
    one_on_table grants user table action a b (x.on_table no_dual no_trail) (y.on_table no_dual no_trail)

-- an answer that is right is the answer
pub exactly : (grants : Grants) (user : Name) (table : TableName) (action : Action) (right : Allowed) → AllowedIs grants user table action right
    → (answer : Allowed) → (right ≡ answer) ↔ AllowedIs grants user table action answer
exactly grants user table action right is answer = (
  λ same. subst (λ (a : Allowed). AllowedIs grants user table action a) same is,
  λ other. one_at grants user table action right answer _ _ refl refl is other,
)

-- no table is both of the built-in ones
pub not_both : (table : TableName) → table ≡ dual → table ≡ trail → ⊥
not_both table is also =
    let same : dual ≡ trail = sym is ∙ also in
    let wrong : same_table dual trail ≡ true = subst (λ (t : TableName). same_table dual t ≡ true) same (same_table-refl dual) in
    let isnt : same_table dual trail ≡ false = refl in
    cc

-- a test that answered false didn't answer true
pub not_at_false : {b : Bool} → b ≡ false → b ≡ true → ⊥
not_at_false is isnt = cc
