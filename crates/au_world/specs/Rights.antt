-- The right of a user to do something with the tables that a statement names (Database Security Guide, "Configuring
-- Privilege and Role Authorization"; the order of the refusals is this project's profile).
use Rattle.std.specs.Prelude.{◌≡◌, Bool, true, false, List, [], map, filter, Option, None, Some}
use Rattle.std.specs.List.{AllZip, list_any}
use Rattle.au_base.specs.declared.action.Action.{Action}
use Rattle.au_base.specs.declared.code.Code.{Code}
use Rattle.au_base.specs.declared.privilege.Privilege.{Privilege}
use Rattle.au_base.specs.declared.table.TableName.{TableName}
use Rattle.au_base.specs.Codes.{DONE, NO_SUCH_TABLE}
use Rattle.au_base.specs.Privileges.{each_privilege}
use Rattle.au_base.specs.Sameness.{same_privilege}
use Rattle.au_entries.specs.declared.table.Table.{Table}
use Rattle.au_expr.specs.Names.{first}
use Rattle.au_grants.specs.declared.grants.Grants.{Grants}
use Rattle.au_grants.specs.Rights.{Name}
use Rattle.au_priv.specs.declared.allowed.Allowed.{Allowed}
use Rattle.au_priv.specs.declared.allowed.Allowed.TheVariants.{System, Refused}
use Rattle.au_priv.specs.Allowing.{AllowedIs}
use Rattle.au_world.specs.declared.rights.TableRights.{TableRights}
use Rattle.au_world.specs.Sights.{is_there}

abbrev pub AnswersIfThere : Bool → Grants → Name → Action → TableName → Allowed → Type 0
AnswersIfThere true grants user action table answer = AllowedIs grants user table action answer
AnswersIfThere false grants user action table answer = answer ≡ Refused NO_SUCH_TABLE

-- what the user may do with the table; a table that isn't there is refused
abbrev pub Answers : List Table → Grants → Name → Action → TableName → Allowed → Type 0
Answers tables grants user action table answer = AnswersIfThere (is_there tables table) grants user action table answer

abbrev pub code_of : Allowed → Option Code
code_of (Refused code) = Some code
code_of _ = None

-- the code of the first table that is refused
abbrev pub refusal : List Allowed → Option Code
refusal answers = first (map code_of answers)

abbrev pub code_or_done : Option Code → Code
code_or_done None = DONE
code_or_done (Some code) = code

-- the privilege makes the answer possible; who owns the table or has an object privilege on it uses none
abbrev pub uses : Privilege → Allowed → Bool
uses privilege (System used) = same_privilege used privilege
uses privilege _ = false

-- the privileges that some answer uses, in the order of their numbers
abbrev pub used_by : List Allowed → List Privilege
used_by answers = filter (λ privilege. list_any (uses privilege) answers) each_privilege

abbrev pub used_unless : Option Code → List Allowed → List Privilege
used_unless None answers = used_by answers
used_unless (Some code) answers = []

-- The code is that of the first table, in order, that is refused, and nothing is used then. Where none is refused, the
-- privileges are those that make some answer possible.
pub record AreTableRights (catalog : List Table) (grants : Grants) (user : Name) (action : Action) (tables : List TableName) (rights : TableRights) : Type 0 where
  pub answers : List Allowed
  pub each : AllZip (Answers catalog grants user action) tables answers
  pub code : rights.code ≡ code_or_done (refusal answers)
  pub used : rights.used ≡ used_unless (refusal answers) answers
