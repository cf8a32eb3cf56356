use Rattle.std.proofs.Common.{◌∙◌, sym, inl, inr}
use Rattle.au_grants.proofs.Holders.{holds_none}
use Rattle.au_grants.proofs.course.Course.closes_circle.Goals as goal

pub returns-then-not-is_role_grantee-clause-closes : goal.returns-then-not-is_role_grantee-clause-closes
returns-then-not-is_role_grantee-clause-closes c = (
  λ is. inl (c.is_same_name.ensures.0 is),
  λ holder. elim holder [
    | inl same ↦ c.is_same_name.ensures.1 same
    | inr holds ↦ absurd (holds_none _ _ _ (sym c.is_role_grantee.ensures ∙ c.if-not-is_role_grantee.true) holds)
  ],
)
