use Rattle.std.proofs.Common.{◌∙◌, ap}
use Rattle.au_grants.specs.Rights.{RoleEntry}
use Rattle.au_grants.proofs.Reached.{read_role}
use Rattle.au_grants.proofs.searching.role_of.Goals as goal

pub returns : goal.returns
returns c = c.role.ensures ∙ ap (λ (e : RoleEntry). e.1) c.index-roles-place.is ∙ read_role _ _ _ c.requires
