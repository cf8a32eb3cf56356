-- Some entry grants a system privilege to a name exactly where it stands among the grants.
use Rattle.std.proofs.Common.{◌≡◌, ◌↔◌, ◌∙◌, ℕ, Bool, List, ap, refl, subst}
use Rattle.std.specs.Prelude.{IsTrue}
use Rattle.std.specs.Bool.{Decides}
use Rattle.std.specs.List.{Contains, list_any}
use Rattle.std.specs.Str.{bytes_eq}
use Rattle.std.proofs.lemmas.Bool.{and_from, and_parts}
use Rattle.std.proofs.lemmas.List.Folds.{Any-from_list_any, list_any_at}
use Rattle.std.proofs.lemmas.Slice.Eq.{bytes_eq-Decides}
use Rattle.au_base.specs.declared.privilege.Privilege.{Privilege}
use Rattle.au_base.specs.Sameness.{same_privilege}
use Rattle.au_grants.specs.Holding.{grants_privilege}

abbrev Entry : Type 0
Entry = List ℕ × Privilege × Bool

pub decides : ((a b : Privilege) → IsTrue (same_privilege a b) ↔ (a ≡ b)) → (role : List ℕ) (privilege : Privilege) (system : List Entry)
    → Decides (list_any (grants_privilege role privilege) system) ((admin : Bool) × Contains system (role, privilege, admin))
decides same role privilege system = (
  λ found. (let one = Any-from_list_any (grants_privilege role privilege) system found in
      let parts = and_parts (bytes_eq one.1.0 role) (same_privilege one.1.1 privilege) one.4 in
      let name = (bytes_eq-Decides one.1.0 role).0 parts.0 in
      let kind = (same one.1.1 privilege).0 parts.1 in
      (one.1.2, subst (λ (entry : Entry). Contains system entry) (λ i. (name i, kind i, one.1.2)) (one.0, one.2, one.3))),
  λ granted. list_any_at (grants_privilege role privilege) system granted.1.0 (role, privilege, granted.0) granted.1.1
      (ap (grants_privilege role privilege) granted.1.2
      ∙ and_from (bytes_eq role role) (same_privilege privilege privilege) ((bytes_eq-Decides role role).1 refl) ((same privilege privilege).1 refl)),
)
