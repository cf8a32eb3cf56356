-- A loop that gathers what rights need.
use Rattle.std.proofs.Common.{◌≡◌, ◌≤◌, ◌<◌, ◌+◌, ◌⊎◌, ◌↔◌, ℕ, Bool, inl, inr, List, Result, Ok, Err, Some, get_or, length, refl, sym, subst, ap, ◌∙◌, arith, true}
use Rattle.std.specs.Prelude.{IsErrAnd, MatchResult}
use Rattle.std.specs.List.{slice_get}
use Rattle.std.proofs.lemmas.Option.{same_Some, slice_get-get_or, slice_get_within}
use Rattle.au_base.specs.Codes.{PRIVILEGE_MISSING}
use Rattle.au_base.specs.declared.code.Code.{Code}
use Rattle.au_base.specs.declared.grant.Right.{Right}
use Rattle.au_base.specs.declared.grant.Right.TheVariants.{Privilege as SystemRight, Role}
use Rattle.au_base.specs.declared.privilege.Privilege.{Privilege}
use Rattle.au_base.specs.declared.privilege.Privilege.TheVariants.{GrantAnyPrivilege, GrantAnyRole}
use Rattle.au_grants.specs.declared.grants.Grants.{Grants}
use Rattle.au_grants.specs.declared.right.Sought.{Sought}
use Rattle.au_grants.specs.declared.right.Sought.TheVariants.{PrivilegeWithAdmin}
use Rattle.au_grants.specs.Holding.{Holds}
use Rattle.au_grants.specs.Rights.{Name, AdministersRole, HoldsPrivilege}
use Rattle.au_priv.specs.declared.decided.Known.{Known}
use Rattle.au_priv.specs.Deciding.{IsNoRole, Needs, NoneRefused, RefusesRight}
use Rattle.au_priv.specs.descent.Asking.{AreNeeded, AreNeededHeld, AreNeededWith, IsNeededWith, NeedsFor}
use Rattle.au_priv.proofs.Refusals.{NoneBefore, below_or_at, none_all, none_more}

-- one of the first rights needs the privilege
abbrev pub NeedsBefore : Grants → Name → List Right → ℕ → Privilege → Type 0
NeedsBefore grants user rights i privilege = (k : ℕ) × (right : Right) × (k < i) × (slice_get rights k ≡ Some right) × NeedsFor grants user right privilege

-- what is so while the rights are gone over
pub record Needing (grants : Grants) (known : Known) (user : Name) (rights : List Right) (i : ℕ) (privilege role : Bool) : Type 0 where
  pub none : NoneBefore (RefusesRight grants known user) rights i
  pub held : AreNeededHeld grants user privilege role
  pub privilege_is : (privilege ≡ true) ↔ NeedsBefore grants user rights i GrantAnyPrivilege
  pub role_is : (role ≡ true) ↔ NeedsBefore grants user rights i GrantAnyRole

needs_more : (grants : Grants) (user : Name) (rights : List Right) (i : ℕ) (read : Right) (any : Privilege) (needed next : Bool) → slice_get rights i ≡ Some read
    → (needed ≡ true) ↔ NeedsBefore grants user rights i any → (next ≡ true) ↔ ((needed ≡ true) ⊎ NeedsFor grants user read any) → (next ≡ true) ↔ NeedsBefore grants user rights (i + 1) any
needs_more grants user rights i read any needed next at before step = (
  λ is. elim (step.0 is) [
    | inl earlier ↦ (let (k, right, less, there, needs) = before.0 earlier in (k, right, omega (arith, less), there, needs))
    | inr here ↦ (i, read, omega arith, at, here)
  ],
  λ (k, right, less, there, needs). step.1 (elim (below_or_at k i less) [
    | inl earlier ↦ inl (before.1 (k, right, earlier, there, needs))
    | inr same ↦ inr (subst (λ (r : Right). NeedsFor grants user r any) (same_Some right read (sym there ∙ ap (λ (n : ℕ). slice_get rights n) same ∙ at)) needs)
  ]),
)

pub needing_more : (grants : Grants) (known : Known) (user : Name) (rights : List Right) (i : ℕ) (read : Right) (privilege role next_privilege next_role : Bool) → i < length rights → read ≡ get_or rights i read
    → Needing grants known user rights i privilege role → ((code : Code) → ¬ RefusesRight grants known user read code) → AreNeededWith grants user read privilege role next_privilege next_role
    → Needing grants known user rights (i + 1) next_privilege next_role
needing_more grants known user rights i read privilege role next_privilege next_role within is before passes step =
    let at : slice_get rights i ≡ Some read = slice_get-get_or rights i read within ∙ ap (λ (r : Right). Some r) (sym is) in
    record {
      none = none_more (RefusesRight grants known user) rights i read within is before.none passes;
      held = step.held;
      privilege_is = needs_more grants user rights i read GrantAnyPrivilege privilege next_privilege at before.privilege_is step.privilege_is;
      role_is = needs_more grants user rights i read GrantAnyRole role next_role at before.role_is step.role_is;
    }

needs_all : (grants : Grants) (user : Name) (rights : List Right) (i : ℕ) (any : Privilege) (needed : Bool) → length rights ≤ i → (needed ≡ true) ↔ NeedsBefore grants user rights i any → (needed ≡ true) ↔ Needs grants user rights any
needs_all grants user rights i any needed whole before = (
  λ is. (let (k, right, less, there, needs) = before.0 is in (k, right, there, needs.0, needs.1)),
  λ (k, right, there, kind, not). before.1 (k, right, (let within = slice_get_within rights k right there in omega (arith, within, whole)), there, (kind, not)),
)

pub needing_all : (grants : Grants) (known : Known) (user : Name) (rights : List Right) (i : ℕ) (privilege role : Bool) → length rights ≤ i → Needing grants known user rights i privilege role
    → NoneRefused (RefusesRight grants known user) rights × AreNeeded grants user rights privilege role
needing_all grants known user rights i privilege role whole at = (
  none_all (RefusesRight grants known user) rights i whole at.none,
  (needs_all grants user rights i GrantAnyPrivilege privilege whole at.privilege_is, needs_all grants user rights i GrantAnyRole role whole at.role_is),
)

-- a system privilege that isn't refused
pub passed_privilege : (grants : Grants) (known : Known) (user : Name) (right : Right) (p : Privilege) (needed role next : Bool) → right ≡ SystemRight p → AreNeededHeld grants user needed role
    → IsNeededWith grants user needed (PrivilegeWithAdmin p) GrantAnyPrivilege next
    → ((code : Code) → ¬ RefusesRight grants known user right code) × AreNeededWith grants user right needed role next role
passed_privilege grants known user right p needed role next same held is =
    subst (λ (r : Right). ((code : Code) → ¬ RefusesRight grants known user r code) × AreNeededWith grants user r needed role next role) (sym same) (
      λ code refuses. elim refuses [
        | inl no_role ↦ no_role.0
        | inr neither ↦ elim is.suffices [ inl holds ↦ neither.1 holds | inr any ↦ neither.2 any ]
      ],
      record {
        held = (is.held, held.1);
        privilege_is = (
          λ now. elim (is.needed_is.0 now) [ inl before ↦ inl before | inr here ↦ inr (refl, here) ],
          λ either. is.needed_is.1 (elim either [ inl before ↦ inl before | inr here ↦ inr here.1 ]),
        );
        role_is = (λ before. inl before, λ either. elim either [ inl before ↦ before | inr other ↦ absurd (let e : GrantAnyPrivilege ≡ GrantAnyRole = other.0 in cc) ]);
      },
    )

-- a role that is refused
pub refused_role : (grants : Grants) (known : Known) (user : Name) (right : Right) (name : Name) (sought : Sought) (code : Code) → right ≡ Role name → ¬ IsNoRole known right
    → (Holds grants user sought ↔ AdministersRole grants user name) → (¬ Holds grants user sought) × (¬ HoldsPrivilege grants user GrantAnyRole) × (code ≡ PRIVILEGE_MISSING) → RefusesRight grants known user right code
refused_role grants known user right name sought code same there means lacks =
    let there_is : ¬ IsNoRole known (Role name) = subst (λ (r : Right). ¬ IsNoRole known r) same there in
    subst (λ (r : Right). RefusesRight grants known user r code) (sym same) (inr (there_is, λ administers. lacks.0 (means.1 administers), lacks.1, lacks.2))

-- a role by its text
pub by_text : (grants : Grants) (user : Name) (text name : Name) → text ≡ name → AdministersRole grants user text ↔ AdministersRole grants user name
by_text grants user text name same = (λ is. subst (λ (n : Name). AdministersRole grants user n) same is, λ is. subst (λ (n : Name). AdministersRole grants user n) (sym same) is)

-- a refusal that is passed on
pub passed_on : {X : Type 0} (result : Result X Code) (code : Code) (Passes : X → Type 0) (Refuses : Code → Type 0) → IsErrAnd result (λ other. other ≡ code) → Refuses code → MatchResult result Passes Refuses
passed_on (Ok x) code Passes Refuses is refuses = absurd is
passed_on (Err other) code Passes Refuses is refuses = subst Refuses (sym is) refuses
