-- What an expression reads of its session (SQL Language Reference, "USER", "SYSTIMESTAMP" and "SYS_CONTEXT").
use Rattle.std.specs.Prelude.{◌≢◌, ◌≤◌, ◌<◌, ◌^◌, ℕ, Bool, List, [], if◌then◌else◌}
use Rattle.std.specs.Fmt.{decimal}
use Rattle.std.specs.Str.{bytes_eq}
use Rattle.au_base.specs.declared.cell.Cell.{Cell}
use Rattle.au_base.specs.declared.cell.Cell.TheVariants as cell
use Rattle.au_base.specs.declared.numbers.SessionNo.{SessionNo}
use Rattle.au_base.specs.declared.numbers.Stamp.{Stamp}
use Rattle.au_base.specs.Limits.{LAST_MOMENT}
use Rattle.sql_ast.specs.Attributes.{attribute_name}
use Rattle.sql_ast.specs.declared.context.Attribute.TheVariants.{SessionId, SessionUser}

-- the user's name, the session's number and the moment of the event
pub record Session : Type 0 where
  pub user : List ℕ
  pub session : SessionNo
  pub stamp : Stamp

-- USER, and SYS_CONTEXT of SESSION_USER
abbrev pub user_cell : Session → Cell
user_cell session = cell.Text session.user

-- SYS_CONTEXT of SESSIONID: the digits of the number
abbrev pub number_cell : Session → Cell
number_cell session = cell.Text (decimal session.session.0)

-- SYSTIMESTAMP
abbrev pub now_cell : Session → Cell
now_cell session = cell.Moment session.stamp.0

-- what SYS_CONTEXT of USERENV names: the session's number
abbrev pub is_number : List ℕ → Bool
is_number attribute = bytes_eq attribute (attribute_name SessionId)

-- or the user
abbrev pub is_user : List ℕ → Bool
is_user attribute = bytes_eq attribute (attribute_name SessionUser)

-- SYS_CONTEXT of USERENV: SESSIONID, SESSION_USER, and nothing else
abbrev pub context_cell : Session → List ℕ → Cell
context_cell session attribute =
    if is_number attribute then number_cell session else (if is_user attribute then user_cell session else cell.Null)

-- the user has a name, the number has 64 bits, and the moment isn't over the last one
pub record IsSoundSession (session : Session) : Type 0 where
  pub named : session.user ≢ []
  pub counted : session.session.0 < 2 ^ 64
  pub early : session.stamp.0 ≤ LAST_MOMENT
