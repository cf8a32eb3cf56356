-- Each privilege and each action is the one with its number.
use Rattle.std.proofs.Common.{◌≡◌, ℕ, ◌==◌, ◌∙◌, Bool, true, false, cond, List, [], ◌∷◌, Option, Some, None, ap, sym, subst, arith, refl}
use Rattle.std.specs.Prelude.{◌↔◌}
use Rattle.std.specs.List.{find}
use Rattle.std.proofs.lemmas.Bool.Decides.{nat_tests}
use Rattle.au_base.specs.Actions as actions
use Rattle.au_base.specs.Privileges as privileges
use Rattle.au_base.specs.declared.action.Action.{Action}
use Rattle.au_base.specs.declared.action.Action.TheVariants.{All, Select, Insert, Update, Delete, Commit, Rollback, CreateTable, DropTable, CreateUser, AlterUser, DropUser, CreateRole, DropRole, Grant, Revoke, CreateAuditPolicy, DropAuditPolicy, Audit, Noaudit, Execute, Logon, Logoff}
use Rattle.au_base.specs.declared.privilege.Privilege.{Privilege}
use Rattle.au_base.specs.declared.privilege.Privilege.TheVariants as p
use Rattle.rec_parts.specs.descent.Parts.{action_with, privilege_with}

find-passes : {X : Type 0} (test : X → Bool) (xs : List X) (x : X) → find test xs ≡ Some x → test x ≡ true
find-passes test [] x is = cc
find-passes test (y ∷ ys) x is =
    let step : (b : Bool) → test y ≡ b → cond b (Some y) (find test ys) ≡ Some x → test x ≡ true =
    elim [
      | true ↦ (λ passes here. let same : y ≡ x = cc here in ap test (sym same) ∙ passes)
      | false ↦ (λ fails there. find-passes test ys x there)
    ] in
    step (test y) refl is

nat_eq-is : (m n : ℕ) → (m == n) ≡ true → m ≡ n
nat_eq-is m n is = grind (arith, nat_tests)

pub privilege_back : (code : ℕ) (privilege : Privilege) → privilege_with code ≡ Some privilege → privileges.code_of privilege ≡ code
unfolding privilege_with
privilege_back code privilege e = nat_eq-is _ _ (find-passes (λ other. privileges.code_of other == code) privileges.each_privilege privilege e)

pub action_back : (code : ℕ) (action : Action) → action_with code ≡ Some action → actions.code_of action ≡ code
unfolding action_with
action_back code action e = nat_eq-is _ _ (find-passes (λ other. actions.code_of other == code) actions.each_action action e)

pub privilege_forth : (privilege : Privilege) → privilege_with (privileges.code_of privilege) ≡ Some privilege
unfolding privilege_with
privilege_forth p.AlterUser = refl
privilege_forth p.AuditSystem = refl
privilege_forth p.CreateAnyTable = refl
privilege_forth p.CreateRole = refl
privilege_forth p.CreateSession = refl
privilege_forth p.CreateTable = refl
privilege_forth p.CreateUser = refl
privilege_forth p.DeleteAnyTable = refl
privilege_forth p.DropAnyRole = refl
privilege_forth p.DropAnyTable = refl
privilege_forth p.DropUser = refl
privilege_forth p.GrantAnyObjectPrivilege = refl
privilege_forth p.GrantAnyPrivilege = refl
privilege_forth p.GrantAnyRole = refl
privilege_forth p.InsertAnyTable = refl
privilege_forth p.SelectAnyTable = refl
privilege_forth p.UpdateAnyTable = refl

pub action_forth : (action : Action) → action_with (actions.code_of action) ≡ Some action
unfolding action_with
action_forth All = refl
action_forth Select = refl
action_forth Insert = refl
action_forth Update = refl
action_forth Delete = refl
action_forth Commit = refl
action_forth Rollback = refl
action_forth CreateTable = refl
action_forth DropTable = refl
action_forth CreateUser = refl
action_forth AlterUser = refl
action_forth DropUser = refl
action_forth CreateRole = refl
action_forth DropRole = refl
action_forth Grant = refl
action_forth Revoke = refl
action_forth CreateAuditPolicy = refl
action_forth DropAuditPolicy = refl
action_forth Audit = refl
action_forth Noaudit = refl
action_forth Execute = refl
action_forth Logon = refl
action_forth Logoff = refl

-- what was found by its number is the one with the number, and where nothing was found there is none
pub is_found : {X : Type 0} (code_of : X → ℕ) (with_code : ℕ → Option X) (forth : (x : X) → with_code (code_of x) ≡ Some x) (code : ℕ) (x : X) → ((y : X) → (Some x ≡ Some y) ↔ (code_of y ≡ code)) → with_code code ≡ Some x
is_found {X} code_of with_code forth code x h = subst (λ n. with_code n ≡ Some x) ((h x).0 refl) (forth x)

none_from : {X : Type 0} (r : Option X) → ((x : X) → r ≡ Some x → ⊥) → r ≡ None
none_from (Some x) h = absurd (h x refl)
none_from None h = refl

pub is_absent : {X : Type 0} (code_of : X → ℕ) (with_code : ℕ → Option X) (back : (n : ℕ) (x : X) → with_code n ≡ Some x → code_of x ≡ n) (code : ℕ) → ((y : X) → (None ≡ Some y) ↔ (code_of y ≡ code)) → with_code code ≡ None
is_absent {X} code_of with_code back code h = none_from (with_code code) (λ x e. let no : None ≡ Some x = (h x).1 (back code x e) in absurd cc)
