-- Tests of sameness decide.
use Rattle.std.proofs.Common.{◌≡◌, ◌==◌, ◌↔◌, ℕ, true, List, Some, refl, ap, sym, subst, ◌∙◌, arith}
use Rattle.std.specs.List.{find}
use Rattle.std.specs.Str.{bytes_eq}
use Rattle.std.proofs.lemmas.Bool.{and_parts, and_from}
use Rattle.std.proofs.lemmas.Bool.Decides.{nat_tests}
use Rattle.std.proofs.lemmas.Slice.Eq.{bytes_eq-Decides}
use Rattle.std.proofs.lemmas.Option.{same_Some}
use Rattle.au_base.specs.declared.action.Action.{Action}
use Rattle.au_base.specs.declared.action.TheConstants.Action as AllActions
use Rattle.au_base.specs.declared.privilege.Privilege.{Privilege}
use Rattle.au_base.specs.declared.privilege.TheConstants.Privilege as AllPrivileges
use Rattle.au_base.specs.declared.table.TableName.{TableName}
use Rattle.au_base.specs.Actions as actions
use Rattle.au_base.specs.Privileges as privileges
use Rattle.au_base.specs.Sameness.{same_action, same_privilege, same_table}
use Rattle.au_base.proofs.ActionLemmas as action_lemmas
use Rattle.au_base.proofs.PrivilegeLemmas as privilege_lemmas

nat_eq-is : (m n : ℕ) → (m == n) ≡ true → m ≡ n
nat_eq-is m n is = grind (arith, nat_tests)

nat_eq-same : (m : ℕ) → (m == m) ≡ true
nat_eq-same m = grind (arith, nat_tests)

same_privilege-is : (a b : Privilege) → same_privilege a b ≡ true → a ≡ b
same_privilege-is a b is =
    let codes : privileges.code_of a ≡ privileges.code_of b = nat_eq-is _ _ is in
    same_Some a b (sym (privilege_lemmas.first_with_code a) ∙ subst (λ (code : ℕ). find (λ other. privileges.code_of other == code) AllPrivileges.EACH ≡ Some b) (sym codes) (privilege_lemmas.first_with_code b))

same_action-is : (a b : Action) → same_action a b ≡ true → a ≡ b
same_action-is a b is =
    let codes : actions.code_of a ≡ actions.code_of b = nat_eq-is _ _ is in
    same_Some a b (sym (action_lemmas.first_with_code a) ∙ subst (λ (code : ℕ). find (λ other. actions.code_of other == code) AllActions.EACH ≡ Some b) (sym codes) (action_lemmas.first_with_code b))

same_table-is : (a b : TableName) → same_table a b ≡ true → a ≡ b
same_table-is a b is =
    let parts = and_parts (bytes_eq a.owner b.owner) (bytes_eq a.name b.name) is in
    let owners : a.owner ≡ b.owner = (bytes_eq-Decides a.owner b.owner).0 parts.0 in
    let names : a.name ≡ b.name = (bytes_eq-Decides a.name b.name).0 parts.1 in
    let table : List ℕ → List ℕ → TableName = λ owner name. record { owner = owner; name = name } in
    let half : table a.owner a.name ≡ table b.owner a.name = ap (λ (owner : List ℕ). table owner a.name) owners in
    half ∙ ap (λ (name : List ℕ). table b.owner name) names

pub table_decides : (a b : TableName) → (same_table a b ≡ true) ↔ (a ≡ b)
table_decides a b = (
  same_table-is a b,
  λ same. subst (λ (c : TableName). same_table a c ≡ true) same (and_from _ _ ((bytes_eq-Decides a.owner a.owner).1 refl) ((bytes_eq-Decides a.name a.name).1 refl)),
)

pub privilege_decides : (a b : Privilege) → (same_privilege a b ≡ true) ↔ (a ≡ b)
privilege_decides a b = (same_privilege-is a b, λ same. subst (λ (c : Privilege). same_privilege a c ≡ true) same (nat_eq-same (privileges.code_of a)))

pub action_decides : (a b : Action) → (same_action a b ≡ true) ↔ (a ≡ b)
action_decides a b = (same_action-is a b, λ same. subst (λ (c : Action). same_action a c ≡ true) same (nat_eq-same (actions.code_of a)))
