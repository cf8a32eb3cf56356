-- What a statement on rows comes to can be written over each keeping of the state.
use Rattle.std.proofs.Common.{◌≡◌, ◌∙◌, ℕ, true, map, sym, ap, subst}
use Rattle.std.specs.Prelude.{Some}
use Rattle.au_base.specs.declared.numbers.ClientNo.{ClientNo}
use Rattle.au_entries.specs.declared.kept.Kept.{Kept}
use Rattle.au_image.specs.Image.{open_table}
use Rattle.au_kept.specs.Keeping.{Contents, HoldsTogether, desk_of}
use Rattle.au_ruling.specs.declared.ruling.Ruling.{Ruling}
use Rattle.au_ruling.specs.Kinds.{is_on_rows}
use Rattle.au_ruling.specs.Rulings.{Comes, Ground}
use Rattle.au_ruling.specs.Sound.{IsDeskIn, IsSoundGround, IsSoundStatement}
use Rattle.au_txn.specs.Desks.{Contents as Desk, open_of}
use Rattle.au_txn.specs.Rows.{of_triple}
use Rattle.au_writing.specs.Written.{CanBeWritten}
use Rattle.sql_ast.specs.declared.statement.Statement.{Statement}
use Rattle.au_step.specs.Lawful.{IsLawfulState, desk_in}
use Rattle.au_step.specs.Replaying.{EndsWell}
use Rattle.au_step.specs.Sound.{HoldsOfKeepings}
use Rattle.au_step.specs.State.{IsStampOf, OpenSession, State}
use Rattle.au_step.specs.Step.{ground_of, session_of, transaction_of}
use Rattle.au_step.proofs.Decided.{ready_firm, sound_ground}
use Rattle.au_step.proofs.Desks.{desk_tells}
use Rattle.au_step.proofs.Seats.{IsLawfulSeat, found_holds}
use Rattle.au_step.proofs.Stepping.{ready}

-- that a ruling's changes of rows can be written
abbrev Writes : Type 0
Writes = (g : Ground) (x : Statement) (r : Ruling) (desk : Desk) → HoldsTogether g.kept desk → IsDeskIn g desk → IsSoundGround g → IsSoundStatement x → Comes g x r → CanBeWritten g.kept desk g.client r.rows

-- that transactions hold together over the same desk told otherwise
abbrev Holds : Type 0
Holds = (kept : Kept) (before after : Desk) → HoldsTogether kept before → after.tables ≡ before.tables → after.rows ≡ before.rows
    → ((client : ClientNo) → open_of after client ≡ open_of before client) → HoldsTogether kept after

-- the desk of a keeping of the state
keeping_holds : Holds → (m : State) (contents : Contents) → IsLawfulState m → contents.kept ≡ m.kept → ((client : ClientNo) → open_of (desk_of contents) client ≡ transaction_of m.sessions client)
    → HoldsTogether m.kept (desk_of contents)
keeping_holds holds m contents lawful same tells =
    holds m.kept (desk_in m) (desk_of contents) lawful.transactions (ap (λ (k : Kept). map open_table k.tables) same) (ap (λ (k : Kept). map of_triple k.rows) same)
    (λ client. tells client ∙ sym (desk_tells m.kept m.sessions client))

pub can_be_written : Writes → Holds → (m : State) (client : ClientNo) (seat : OpenSession) (x : Statement) (stamp : ℕ) (r : Ruling) → IsLawfulState m → EndsWell m.kept → IsStampOf m stamp
    → session_of m.sessions client ≡ Some seat → IsSoundStatement x → is_on_rows x ≡ true → Comes (ground_of m seat.session x stamp) x r
    → HoldsOfKeepings m (λ contents. CanBeWritten contents.kept (desk_of contents) seat.session.client r.rows)
can_be_written writes holds m client seat x stamp r lawful ends stamped is sound on comes contents same tells =
    let firm = ready_firm m stamp (ready m stamp lawful ends stamped) in
    subst (λ (k : Kept). CanBeWritten k (desk_of contents) seat.session.client r.rows) (sym same)
    (writes (ground_of m seat.session x stamp) x r (desk_of contents) (keeping_holds holds m contents lawful same tells)
    (record { rows = ap (λ (k : Kept). map of_triple k.rows) same; changes = tells })
    (sound_ground m seat.session x stamp firm (found_holds (IsLawfulSeat m.kept) client m.sessions lawful.sessions seat is)) sound comes)
