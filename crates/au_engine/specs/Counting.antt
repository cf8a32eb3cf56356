-- How many audit policies a step tests: of those that aren't Off, at most the ones that name its event. An ask that is no
-- event tests none: a text that is no statement, an ask of a client without a session but a logon, and a logon of one that
-- has a session.
use Rattle.std.specs.Prelude.{◌≡◌, ◌⊎◌, ◌≤◌, ◌+◌, ℕ, List, MatchOption, is_some, false}
use Rattle.au_audit.specs.Statements.{logoff_facts, logon_facts, statement_facts}
use Rattle.au_base.specs.declared.ask.Ask.{Ask}
use Rattle.au_base.specs.declared.ask.Ask.TheVariants.{Local, Logon, Sql, Logoff}
use Rattle.au_base.specs.declared.numbers.ClientNo.{ClientNo}
use Rattle.au_base.specs.Codes.{DONE}
use Rattle.au_catalog.specs.Settling.{catalog_of}
use Rattle.au_entries.specs.declared.facts.Facts.{Facts}
use Rattle.au_logon.specs.declared.admission.Admission.{Admission}
use Rattle.au_logon.specs.Admitting.{Admits, IsLocal}
use Rattle.au_pindex.specs.Naming.{count_named}
use Rattle.au_ruling.specs.declared.ruling.Ruling.{Ruling}
use Rattle.au_ruling.specs.Rulings.{Comes}
use Rattle.au_step.specs.declared.session.Session.{Session}
use Rattle.au_step.specs.Reading.{ReadsSoundly}
use Rattle.au_step.specs.State.{State}
use Rattle.au_step.specs.Step.{decided_in, ground_of, is_crowded, session_of}
use Rattle.sql_ast.specs.declared.statement.Statement.{Statement}

-- the counter goes from one number to the other, and rises by at most the policies that aren't Off and name these facts
pub record IsCounted (m : State) (facts : Facts) (old new : ℕ) : Type 0 where
  pub rises : old ≤ new
  pub most : new ≤ old + count_named m.kept.grants (catalog_of m.kept) facts

-- the facts of a statement of the session, by what it comes to in the state in which it is decided
abbrev pub AreStatementFacts : State → Session → Statement → ℕ → Facts → Type 0
AreStatementFacts m session statement stamp facts =
    (ruling : Ruling) × Comes (ground_of (decided_in m session.client statement) session statement stamp) statement ruling
    × (facts ≡ statement_facts session.user statement ruling.used ruling.code)

-- the facts of a text of the session that is a statement
abbrev pub AreTextFacts : State → Session → List ℕ → ℕ → Facts → Type 0
AreTextFacts m session text stamp facts = (statement : Statement) × ReadsSoundly text statement × AreStatementFacts m session statement stamp facts

-- the facts of a logon of a client without a session, which is admitted or refused by one of these
abbrev pub AreLogonFacts : (Admission → Type 0) → State → ClientNo → Facts → Type 0
AreLogonFacts Is m client facts =
    (is_some (session_of m.sessions client) ≡ false) × (admission : Admission) × Is admission × (facts ≡ logon_facts admission.user admission.used admission.code)

-- these are the facts of the event that the client's ask at this stamp is
abbrev pub AreFactsOf : State → ClientNo → Ask → ℕ → Facts → Type 0
AreFactsOf m client Local stamp facts = AreLogonFacts (IsLocal (is_crowded m)) m client facts
AreFactsOf m client (Logon user password) stamp facts = AreLogonFacts (Admits m.kept.users m.kept.grants (is_crowded m) user password) m client facts
AreFactsOf m client (Sql text) stamp facts = MatchOption (session_of m.sessions client) ⊥ (λ seat. AreTextFacts m seat.session text stamp facts)
AreFactsOf m client Logoff stamp facts = MatchOption (session_of m.sessions client) ⊥ (λ seat. facts ≡ logoff_facts seat.session.user DONE)

-- The counter stays, or rises by at most the policies that aren't Off and name the facts, which are such facts.
abbrev pub CountsUp : State → (Facts → Type 0) → ℕ → ℕ → Type 0
CountsUp m Are old new = (new ≡ old) ⊎ ((facts : Facts) × Are facts × IsCounted m facts old new)

-- so for the client's ask at this stamp
abbrev pub CountsFor : State → ClientNo → Ask → ℕ → ℕ → ℕ → Type 0
CountsFor m client ask stamp old new = CountsUp m (AreFactsOf m client ask stamp) old new
