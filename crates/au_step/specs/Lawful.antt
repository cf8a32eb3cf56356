-- What is so in every state.
use Rattle.std.specs.Prelude.{◌≢◌, ◌≤◌, IsTrue, map}
use Rattle.std.specs.List.{AllByRecursion}
use Rattle.au_audit.specs.Conditions.{result_before}
use Rattle.au_base.specs.Limits.{INSTANCE_SESSIONS}
use Rattle.au_base.specs.Naming.{IsName}
use Rattle.au_base.specs.Order.{is_in_order}
use Rattle.au_entries.specs.declared.kept.Kept.{Kept}
use Rattle.au_entries.specs.Replaying.{has_user}
use Rattle.au_kept.specs.Keeping.{Contents, HoldsTogether, desk_of}
use Rattle.au_kept.specs.Sound.{IsKept}
use Rattle.au_replay.specs.Reading.{conditions}
use Rattle.au_step.specs.declared.session.Session.{Session}
use Rattle.au_step.specs.State.{OpenSession, State}
use Rattle.au_txn.specs.Desks.{Contents as Desk}
use Rattle.au_txn.specs.Logs.{Changes}

-- what is kept is lawful, is whole and has a spelling
abbrev pub IsLawful : Kept → Type 0
IsLawful kept = IsKept conditions kept

-- Of a session over what is kept: its user is a name and a user; its number has up to 18 digits and isn't 0, which is that of
-- no session; and the results that it keeps stand in order.
pub record IsLawfulSession (kept : Kept) (session : Session) : Type 0 where
  pub user : IsName session.user
  pub there : IsTrue (has_user kept session.user)
  pub some : 1 ≤ session.number.0
  pub number : session.number.0 ≤ 999_999_999_999_999_999
  pub results : IsTrue (is_in_order result_before session.results)

-- the client's transaction, as a desk lists it
abbrev pub log_of : OpenSession → Changes
log_of seat = record { client = seat.session.client; changes = seat.transaction; spare = 0 }

-- what is kept, with the transaction of each session, and the tables and the committed rows of it with these
abbrev pub contents_in : State → Contents
contents_in m = record { kept = m.kept; logs = map log_of m.sessions; spare = 0; room = 0 }

abbrev pub desk_in : State → Desk
desk_in m = desk_of (contents_in m)

-- What is kept is lawful, and so is each session, of which none is the client's by whom frames are replayed. What
-- transactions have changed keeps the discipline of keys and the limits. The instance has drawn no more sessions than there
-- are numbers; and the results that the instance keeps stand in order.
pub record IsLawfulState (m : State) : Type 0 where
  pub kept : IsLawful m.kept
  pub sessions : AllByRecursion (λ seat. IsLawfulSession m.kept seat.session) m.sessions
  pub clients : AllByRecursion (λ seat. seat.session.client.0 ≢ 0) m.sessions
  pub transactions : HoldsTogether m.kept (desk_in m)
  pub drawn : m.drawn ≤ INSTANCE_SESSIONS
  pub results : IsTrue (is_in_order result_before m.results)
