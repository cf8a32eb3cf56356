-- What leaves the policies and the enablements.
use Rattle.std.proofs.Common.{◌≡◌, ℕ, Bool, true, false, ◌||◌, List, refl}
use Rattle.au_entries.specs.declared.change.Change.{Change}
use Rattle.au_entries.specs.declared.change.Change.TheVariants as change
use Rattle.au_entries.specs.declared.policy.AuditPolicy.{AuditPolicy}
use Rattle.au_entries.specs.declared.policy.Enabled.{Enabled}
use Rattle.au_entries.specs.Changing.{enabled_after, policies_after}
use Rattle.au_pindex.specs.Changing.{changes_policies}
use Rattle.sql_ast.specs.declared.expression.Expr.{Expr}

pub policies_stay : (tree : List ℕ → Expr) (one : Change) (policies : List AuditPolicy) → changes_policies one ≡ false → policies_after tree one policies ≡ policies
policies_stay tree (change.Policy name privileges actions roles when) policies is = absurd (let e : true ≡ false = is in cc)
policies_stay tree (change.PolicyGone name) policies is = absurd (let e : true ≡ false = is in cc)
policies_stay tree _ policies is = refl

pub enabled_stay : (one : Change) (entries : List (List ℕ × Enabled)) → changes_policies one ≡ false → enabled_after one entries ≡ entries
enabled_stay (change.Enable policy enabled) entries is = absurd (let e : true ≡ false = is in cc)
enabled_stay (change.UserGone user) entries is = absurd (let e : true ≡ false = is in cc)
enabled_stay _ entries is = refl

pub neither : (a b : Bool) → (a || b) ≡ false → (a ≡ false) × (b ≡ false)
neither true b is = absurd (let e : true ≡ false = is in cc)
neither false b is = (refl, is)
