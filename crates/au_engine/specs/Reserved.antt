-- What contracts see of an engine.
use Rattle.std.specs.Prelude.{ℕ, List, Option}
use Rattle.au_kept.specs.Keeping.{Contents}
use Rattle.au_pindex.specs.declared.index.Index.{Index}
use Rattle.au_step.specs.declared.session.Session.{Session}
use Rattle.au_step.specs.State.{OpenSession, State}
use Rattle.au_txn.specs.Logs.{Changes, changes_of}

-- a state; each client's changes of rows that aren't committed; for how many more rows and tables, records and sessions its
-- engine has room; and the index of the audit policies, where it is made
pub record Reserved : Type 0 where
  pub state : State
  pub logs : List Changes
  pub spare : ℕ
  pub room : ℕ
  pub seats : ℕ
  pub index : Option Index

-- what is kept of it, as its keeping sees it
abbrev pub contents_of : Reserved → Contents
contents_of engine = record { kept = engine.state.kept; logs = engine.logs; spare = engine.spare; room = engine.room }

-- a session with what its client has changed and not committed
abbrev pub with_changes : List Changes → Session → OpenSession
with_changes logs session = record { session = session; transaction = changes_of session.client logs }
