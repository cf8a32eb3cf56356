-- What no sight shows doesn't matter to whether a change goes on.
use Rattle.std.specs.Prelude.{◌↔◌, Bool}
use Rattle.au_entries.specs.declared.change.Change.{Change}
use Rattle.au_entries.specs.declared.change.Change.TheVariants.{User, UserGone, Role, RoleGone, SysGrant, SysRevoke, RoleGrant, RoleRevoke, ObjGrant, ObjRevoke, Table, TableGone, Put, Gone, Policy, PolicyGone, Enable, Fga, FgaGone, Archive, Start}
use Rattle.au_entries.specs.declared.kept.Kept.{Kept}
use Rattle.au_entries.specs.Lawful.{IsOrdered}
use Rattle.au_entries.specs.Replaying.{Conditions, GoesOn}
use Rattle.au_replay.specs.declared.sight.Sight.{Sight}
use Rattle.au_replay.specs.Sights.{IsSorted, showable, shown}

pub goes : (conditions : Conditions) (image : Bool) (kept : Kept) (change : Change) → GoesOn conditions image (showable kept) change ↔ GoesOn conditions image kept change
goes conditions image kept (User name verifier) = (λ is. is, λ is. is)
goes conditions image kept (UserGone name) = (λ is. is, λ is. is)
goes conditions image kept (Role name) = (λ is. is, λ is. is)
goes conditions image kept (RoleGone name) = (λ is. is, λ is. is)
goes conditions image kept (SysGrant grantee privilege admin) = (λ is. is, λ is. is)
goes conditions image kept (SysRevoke grantee privilege) = (λ is. is, λ is. is)
goes conditions image kept (RoleGrant grantee role admin) = (λ is. is, λ is. is)
goes conditions image kept (RoleRevoke grantee role) = (λ is. is, λ is. is)
goes conditions image kept (ObjGrant grantee table action) = (λ is. is, λ is. is)
goes conditions image kept (ObjRevoke grantee table action) = (λ is. is, λ is. is)
goes conditions image kept (Table name columns key) = (λ is. is, λ is. is)
goes conditions image kept (TableGone name) = (λ is. is, λ is. is)
goes conditions image kept (Put name row cells) = (λ is. is, λ is. is)
goes conditions image kept (Gone name row) = (λ is. is, λ is. is)
goes conditions image kept (Policy name privileges actions roles when) = (λ is. is, λ is. is)
goes conditions image kept (PolicyGone name) = (λ is. is, λ is. is)
goes conditions image kept (Enable policy enabled) = (λ is. is, λ is. is)
goes conditions image kept (Fga name policy condition columns all types enabled) = (λ is. is, λ is. is)
goes conditions image kept (FgaGone name policy) = (λ is. is, λ is. is)
goes conditions image kept (Archive stamp) = (λ is. is, λ is. is)
goes conditions image kept (Start instance) = (λ is. is, λ is. is)

pub ordered : (kept : Kept) → IsOrdered (showable kept) ↔ IsOrdered kept
ordered kept = (
  λ is. record { users = is.users; roles = is.roles; grants = is.grants; tables = is.tables; rows = is.rows; policies = is.policies; enabled = is.enabled; fga = is.fga; on = is.on; unreserved = is.unreserved },
  λ is. record { users = is.users; roles = is.roles; grants = is.grants; tables = is.tables; rows = is.rows; policies = is.policies; enabled = is.enabled; fga = is.fga; on = is.on; unreserved = is.unreserved },
)

pub sorted : (sight : Sight) → IsOrdered (shown sight) → IsSorted sight
sorted sight is = record { users = is.users; roles = is.roles; tables = is.tables; policies = is.policies; enabled = is.enabled; fga = is.fga }
