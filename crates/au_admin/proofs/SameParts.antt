-- Action parts that are the same are equal.
use Rattle.std.proofs.Common.{◌≡◌, Bool, true, false, ◌&&◌, Option, Some, None, refl, ap, ap₂}
use Rattle.std.specs.Prelude.{◌↔◌, IsTrue}
use Rattle.au_base.specs.Sameness.{same_action, same_table}
use Rattle.au_base.specs.declared.action.Action.{Action}
use Rattle.au_base.specs.declared.table.TableName.{TableName}
use Rattle.au_admin.specs.Policies.{Part, same_part, same_place}

both : (a b : Bool) → (a && b) ≡ true → (a ≡ true) × (b ≡ true)
both true b is = (refl, is)
both false b is = absurd (let e : false ≡ true = is in cc)

place_equal : ((a b : TableName) → IsTrue (same_table a b) ↔ (a ≡ b)) → (a b : Option TableName) → same_place a b ≡ true → a ≡ b
place_equal tables None None is = refl
place_equal tables (Some a) (Some b) is = ap Some ((tables a b).0 is)
place_equal tables None (Some b) is = absurd (let e : false ≡ true = is in cc)
place_equal tables (Some a) None is = absurd (let e : false ≡ true = is in cc)

pub part_equal : ((a b : TableName) → IsTrue (same_table a b) ↔ (a ≡ b)) → ((a b : Action) → IsTrue (same_action a b) ↔ (a ≡ b)) → (a b : Part) → same_part a b ≡ true → a ≡ b
part_equal tables actions (a, p) (b, q) is =
    let parts = both (same_action a b) (same_place p q) is in
    ap₂ (λ (x : Action) (y : Option TableName). (x, y)) ((actions a b).0 parts.0) (place_equal tables p q parts.1)
