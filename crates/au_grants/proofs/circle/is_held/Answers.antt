use Rattle.std.proofs.Common.{◌≡◌, ◌∙◌, false, true, sym}
use Rattle.au_grants.proofs.Holders.{holds_none}
use Rattle.au_grants.proofs.circle.is_held.Goals as goal

pub returns-then-not-is_grantee : goal.returns-then-not-is_grantee
returns-then-not-is_grantee c = (
  λ is. absurd (let e : false ≡ true = is in cc),
  λ holds. absurd (holds_none _ _ _ (sym c.is_grantee.ensures ∙ c.if-not-is_grantee.true) holds),
)
