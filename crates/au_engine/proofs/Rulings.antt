-- What a statement comes to in the state in which it is decided.
use Rattle.std.proofs.Common.{◌≡◌, ◌∙◌, ℕ, Bool, true, false, List, [], refl, sym, ap, subst}
use Rattle.std.specs.Prelude.{MatchBool, Option, Some, None, Ok, if◌then◌else◌}
use Rattle.au_audit.specs.declared.place.Place.{Place}
use Rattle.au_base.specs.declared.numbers.ClientNo.{ClientNo}
use Rattle.au_catalog.specs.Settling.{catalog_of}
use Rattle.au_entries.specs.declared.facts.Facts.{Facts}
use Rattle.au_entries.specs.declared.fine_grained.FgaName.{FgaName}
use Rattle.au_ruling.specs.declared.kind.StatementKind.{StatementKind}
use Rattle.au_ruling.specs.declared.kind.StatementKind.TheVariants.{OnRows, Commit, Rollback, Definition, Administration}
use Rattle.au_ruling.specs.declared.ruling.Ruling.{Ruling}
use Rattle.au_ruling.specs.declared.ruling_case.RulingCase.{RulingCase}
use Rattle.au_ruling.specs.Cases.{IsLentBy}
use Rattle.au_ruling.specs.Kinds.{commits, commits_by_kind, is_kind_on_rows, is_on_rows, kind_of}
use Rattle.au_ruling.specs.Rulings.{Comes, ComesAs, Ground, IsPlanIn, of_plan}
use Rattle.au_step.specs.declared.session.Session.{Session}
use Rattle.au_step.specs.Planning.{IsPlanOfRead, IsPlanned, IsUnplanned}
use Rattle.au_step.specs.State.{State}
use Rattle.au_step.specs.Step.{busy_in, committed, decided_in, event_left, facts_at, ground_of}
use Rattle.au_world.specs.declared.row_plan.RowPlan.{RowPlan}
use Rattle.sql_ast.specs.declared.statement.Statement.{Statement}

-- the state, once the client's transaction is committed where it is
abbrev pub decided : Bool → State → ClientNo → State
decided b m client = if b then committed client m else m

planned_at : (kind : StatementKind) (m : State) (session : Session) (statement : Statement) (stamp : ℕ) (plan : RowPlan)
    → MatchBool (is_kind_on_rows kind) (IsPlanned (ground_of m session statement stamp) statement (Some plan)) (IsUnplanned (Some plan))
    → ComesAs kind (ground_of (decided (commits_by_kind kind) m session.client) session statement stamp) statement (of_plan plan)
planned_at OnRows m session statement stamp plan is = (plan, is, refl)
planned_at Commit m session statement stamp plan is = absurd (let e : Some plan ≡ None = is in cc)
planned_at Rollback m session statement stamp plan is = absurd (let e : Some plan ≡ None = is in cc)
planned_at Definition m session statement stamp plan is = absurd (let e : Some plan ≡ None = is in cc)
planned_at Administration m session statement stamp plan is = absurd (let e : Some plan ≡ None = is in cc)

-- a statement with a plan comes to what the plan says
pub ruled_by_plan : (m : State) (session : Session) (statement : Statement) (stamp : ℕ) (plan : RowPlan) → IsPlanOfRead m session stamp (Ok statement) (Some plan)
    → Comes (ground_of (decided_in m session.client statement) session statement stamp) statement (of_plan plan)
ruled_by_plan m session statement stamp plan is = planned_at (kind_of statement) m session statement stamp plan is

unplanned_at : (b : Bool) (basis : Ground) (statement : Statement) → MatchBool b (IsPlanned basis statement None) (IsUnplanned None) → b ≡ false
unplanned_at true basis statement is = absurd is
unplanned_at false basis statement is = refl

-- one without a plan isn't on rows
pub unplanned : (m : State) (session : Session) (statement : Statement) (stamp : ℕ) → IsPlanOfRead m session stamp (Ok statement) None → is_on_rows statement ≡ false
unplanned m session statement stamp is = unplanned_at (is_on_rows statement) (ground_of m session statement stamp) statement is

lent_at : (b : Bool) (m : State) (session : Session) (statement : Statement) (stamp : ℕ) (case : RulingCase) → case.catalog.now ≡ catalog_of m.kept → case.grants.now ≡ m.kept.grants
    → case.busy.now ≡ busy_in (decided b m session.client) session.user statement → case.client ≡ session.client → case.session.now ≡ facts_at session.user session.number stamp
    → IsLentBy (ground_of (decided b m session.client) session statement stamp) case
lent_at true m session statement stamp case catalog grants busy client facts = record { catalog = catalog; grants = grants; busy = busy; client = client; session = facts }
lent_at false m session statement stamp case catalog grants busy client facts = record { catalog = catalog; grants = grants; busy = busy; client = client; session = facts }

-- the catalogue and the grants are the same when it is decided
pub lent : (m : State) (session : Session) (statement : Statement) (stamp : ℕ) (case : RulingCase) → case.catalog.now ≡ catalog_of m.kept → case.grants.now ≡ m.kept.grants
    → case.busy.now ≡ busy_in (decided_in m session.client statement) session.user statement → case.client ≡ session.client → case.session.now ≡ facts_at session.user session.number stamp
    → IsLentBy (ground_of (decided_in m session.client statement) session statement stamp) case
lent m session statement stamp case = lent_at (commits statement) m session statement stamp case

left_at_commit : (b : Bool) (m : State) (client : ClientNo) (results : List (List ℕ × Bool)) (facts : Facts) (place : Place) (fired : List FgaName) (forgets : List (List ℕ))
    → event_left m results facts place fired forgets ≡ event_left (decided b m client) results facts place fired forgets
left_at_commit true m client results facts place fired forgets = refl
left_at_commit false m client results facts place fired forgets = refl

-- and so is what auditing leaves
pub left_decided : (m : State) (client : ClientNo) (statement : Statement) (results : List (List ℕ × Bool)) (facts : Facts) (place : Place) (fired : List FgaName) (forgets : List (List ℕ))
    → event_left m results facts place fired forgets ≡ event_left (decided_in m client statement) results facts place fired forgets
left_decided m client statement = left_at_commit (commits statement) m client

-- ---- by the kind of the statement

quiet_kind : (kind : StatementKind) (basis : Ground) (statement : Statement) (ruling : Ruling) → ComesAs kind basis statement ruling → commits_by_kind kind ≡ false → ruling.changes ≡ []
quiet_kind OnRows basis statement ruling comes is = ap (λ (r : Ruling). r.changes) comes.2
quiet_kind Commit basis statement ruling comes is = absurd (let e : true ≡ false = is in cc)
quiet_kind Rollback basis statement ruling comes is = ap (λ (r : Ruling). r.changes) comes
quiet_kind Definition basis statement ruling comes is = absurd (let e : true ≡ false = is in cc)
quiet_kind Administration basis statement ruling comes is = absurd (let e : true ≡ false = is in cc)

-- a statement that doesn't commit changes nothing of what is kept
pub quiet_ruling : (basis : Ground) (statement : Statement) (ruling : Ruling) → Comes basis statement ruling → commits statement ≡ false → ruling.changes ≡ []
quiet_ruling basis statement ruling comes is = quiet_kind (kind_of statement) basis statement ruling comes is

commit_kind : (kind : StatementKind) (basis : Ground) (statement : Statement) (ruling : Ruling) → ComesAs kind basis statement ruling → commits_by_kind kind ≡ true → (ruling.rows ≡ []) × (ruling.undoes ≡ false)
commit_kind OnRows basis statement ruling comes is = absurd (let e : false ≡ true = is in cc)
commit_kind Commit basis statement ruling comes is = (ap (λ (r : Ruling). r.rows) comes, ap (λ (r : Ruling). r.undoes) comes)
commit_kind Rollback basis statement ruling comes is = absurd (let e : false ≡ true = is in cc)
commit_kind Definition basis statement ruling comes is = (ap (λ (r : Ruling). r.rows) comes.2, ap (λ (r : Ruling). r.undoes) comes.2)
commit_kind Administration basis statement ruling comes is = (ap (λ (r : Ruling). r.rows) comes.2, ap (λ (r : Ruling). r.undoes) comes.2)

-- one that commits writes no row and undoes nothing
pub commit_ruling : (basis : Ground) (statement : Statement) (ruling : Ruling) → Comes basis statement ruling → commits statement ≡ true → (ruling.rows ≡ []) × (ruling.undoes ≡ false)
commit_ruling basis statement ruling comes is = commit_kind (kind_of statement) basis statement ruling comes is

rows_kind : (kind : StatementKind) (basis : Ground) (statement : Statement) (ruling : Ruling) → ComesAs kind basis statement ruling → commits_by_kind kind ≡ false → ruling.undoes ≡ false → is_kind_on_rows kind ≡ true
rows_kind OnRows basis statement ruling comes is kept = refl
rows_kind Commit basis statement ruling comes is kept = absurd (let e : true ≡ false = is in cc)
rows_kind Rollback basis statement ruling comes is kept = absurd (let e : true ≡ false = sym (ap (λ (r : Ruling). r.undoes) comes) ∙ kept in cc)
rows_kind Definition basis statement ruling comes is kept = absurd (let e : true ≡ false = is in cc)
rows_kind Administration basis statement ruling comes is kept = absurd (let e : true ≡ false = is in cc)

-- one that neither commits nor undoes is on rows
pub rows_ruling : (basis : Ground) (statement : Statement) (ruling : Ruling) → Comes basis statement ruling → commits statement ≡ false → ruling.undoes ≡ false → is_on_rows statement ≡ true
rows_ruling basis statement ruling comes is kept = rows_kind (kind_of statement) basis statement ruling comes is kept
