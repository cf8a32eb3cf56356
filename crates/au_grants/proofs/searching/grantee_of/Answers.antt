use Rattle.std.proofs.Common.{◌∙◌, ap}
use Rattle.au_grants.specs.Rights.{RoleEntry}
use Rattle.au_grants.proofs.Reached.{read_grantee}
use Rattle.au_grants.proofs.searching.grantee_of.Goals as goal

pub returns : goal.returns
returns c = c.grantee.ensures ∙ ap (λ (e : RoleEntry). e.0) c.index-roles-place.is ∙ read_grantee _ _ _ c.requires
