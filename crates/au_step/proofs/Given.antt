-- What the laws of the crates below say of the parts that a step is made of.
use Rattle.std.proofs.Common.{◌≡◌, ◌≢◌, ◌≤◌, ◌<◌, ◌^◌, ◌+◌, ℕ, Bool, false, List, [], ◌++◌, length, map}
use Rattle.std.specs.Prelude.{IsTrue, IsUtf8, Option, Some}
use Rattle.std.specs.List.{AllByRecursion}
use Rattle.au_audit.specs.declared.place.Place.{Place}
use Rattle.au_audit.specs.Conditions.{Result, forgetting, result_before}
use Rattle.au_audit.specs.Statements.{IsPlaced, object_of, recorded_text}
use Rattle.au_base.specs.BuiltIn.{sys}
use Rattle.au_base.specs.Codes.{DONE}
use Rattle.au_base.specs.Limits.{CATALOG_OBJECTS, TRANSACTION_CHANGES}
use Rattle.au_base.specs.Naming.{IsName}
use Rattle.au_base.specs.Order.{is_in_order}
use Rattle.au_base.specs.declared.code.Code.{Code}
use Rattle.au_base.specs.declared.numbers.ClientNo.{ClientNo}
use Rattle.au_base.specs.declared.numbers.Stamp.{Stamp}
use Rattle.au_catalog.specs.declared.catalog.Catalog.{Catalog}
use Rattle.au_entries.specs.declared.change.Change.{Change}
use Rattle.au_entries.specs.declared.facts.Facts.{Facts}
use Rattle.au_entries.specs.declared.fine_grained.FgaName.{FgaName}
use Rattle.au_entries.specs.declared.kept.Kept.{Kept}
use Rattle.au_entries.specs.declared.results.KeptResults.{KeptResults}
use Rattle.au_entries.specs.declared.trail_record.Record.{Record}
use Rattle.au_entries.specs.Changing.{changed_all}
use Rattle.au_entries.specs.Frames.{after_parts}
use Rattle.au_entries.specs.Lawful.{IsWhole}
use Rattle.au_entries.specs.Replaying.{AllGoOn, has_user}
use Rattle.au_expr.specs.Sessions.{Session}
use Rattle.au_grants.specs.declared.grants.Grants.{Grants}
use Rattle.au_image.specs.Image.{open_table}
use Rattle.au_kept.specs.Keeping.{Contents, HoldsTogether, desk_of}
use Rattle.au_kept.specs.Sound.{IsKept}
use Rattle.au_kept.specs.Staging.{CanSettle, IsFree, IsLogged, IsOfRow, committed_for, final_change}
use Rattle.au_kept.specs.Writing.{KeepsKeys, KeepsSound}
use Rattle.au_logon.specs.declared.admission.Admission.{Admission}
use Rattle.au_logon.specs.Admitting.{Admits, IsLocal}
use Rattle.au_policy.specs.Asking.{AreInOrder}
use Rattle.au_recording.specs.Keeping.{ArePoliciesOrdered}
use Rattle.au_recording.specs.Recording.{left_by}
use Rattle.au_recording.specs.Writing.{CanBeRecorded}
use Rattle.au_replay.specs.Reading.{conditions}
use Rattle.au_ruling.specs.declared.ruling.Ruling.{Ruling}
use Rattle.au_ruling.specs.Rulings.{Comes, Ground}
use Rattle.au_ruling.specs.Sound.{IsDeskIn, IsNamedFga, IsNamedObject, IsSoundGround, IsSoundStatement, IsTimelyPurge, TellsBusy, is_connected}
use Rattle.au_txn.specs.declared.change.RowChange.{RowChange}
use Rattle.au_txn.specs.declared.finals.Final.{Final}
use Rattle.au_txn.specs.Desks.{Contents as Desk, IsWritable, open_of}
use Rattle.au_txn.specs.Finals.{AreFinals}
use Rattle.au_txn.specs.Keys.{ChangesOne}
use Rattle.au_txn.specs.Rows.{Row, of_triple}
use Rattle.au_txn.specs.Transactions.{AreFrom, laid_over}
use Rattle.au_writing.specs.Written.{CanBeWritten}
use Rattle.rec_codec.specs.Changes.{IsChangeSpellable}
use Rattle.rec_codec.specs.Records.{trail_record}
use Rattle.rec_parts.specs.Parts.{privileges_in_order}
use Rattle.sql_ast.specs.declared.statement.Statement.{Statement}
use Rattle.sql_parse.specs.Statements.{IsUnread, Reads}

-- texts have one reading, statements come to one thing, a logon has one admission, and a transaction leaves one thing
pub record OneEach : Type 0 where
  pub statement : (text : List ℕ) (x y : Statement) → Reads text x → Reads text y → x ≡ y
  pub code : (text : List ℕ) (a b : Code) → IsUnread text a → IsUnread text b → a ≡ b
  pub apart : (text : List ℕ) (x : Statement) (code : Code) → Reads text x → IsUnread text code → ⊥
  pub ruling : (g : Ground) (x : Statement) (a b : Ruling) → Comes g x a → Comes g x b → a ≡ b
  pub admission : (users : List (List ℕ × List ℕ)) (grants : Grants) (crowded : Bool) (user password : List ℕ) (a b : Admission)
      → Admits users grants crowded user password a → Admits users grants crowded user password b → a ≡ b
  pub finals : (rows : List Row) (changes : List RowChange) (a b : List Final) → AreFinals rows changes a → AreFinals rows changes b → a ≡ b

-- what a sound statement comes to on sound ground
pub record OfRulings : Type 0 where
  pub goes : (g : Ground) (x : Statement) (r : Ruling) → IsSoundGround g → IsSoundStatement x → Comes g x r → AllGoOn conditions false g.kept r.changes
  pub whole : (g : Ground) (x : Statement) (r : Ruling) → IsSoundGround g → IsSoundStatement x → Comes g x r
      → IsWhole (changed_all conditions.tree r.changes g.kept) × IsTrue (has_user (changed_all conditions.tree r.changes g.kept) sys)
  pub stay : (g : Ground) (x : Statement) (r : Ruling) (who : List ℕ) → IsSoundGround g → IsSoundStatement x → Comes g x r
      → IsTrue (has_user g.kept who) → IsTrue (is_connected g who) → IsTrue (has_user (changed_all conditions.tree r.changes g.kept) who)
  pub rowless : (g : Ground) (x : Statement) (r : Ruling) → Comes g x r → AllByRecursion (λ change. ¬ IsOfRow change) r.changes
  pub alone : (g : Ground) (x : Statement) (r : Ruling) (desk : Desk) → TellsBusy g x desk → Comes g x r → AllByRecursion (IsFree (Some g.client) desk) r.changes
  pub rows : (g : Ground) (x : Statement) (r : Ruling) (desk : Desk) → HoldsTogether g.kept desk → IsDeskIn g desk → IsSoundGround g → IsSoundStatement x → Comes g x r
      → CanBeWritten g.kept desk g.client r.rows
  pub told : (g : Ground) (x : Statement) (r : Ruling) → Comes g x r → (r.code.0 < 2 ^ 32) × privileges_in_order.IsSpellable r.used
  pub written : (g : Ground) (x : Statement) (r : Ruling) → IsSoundGround g → IsSoundStatement x → Comes g x r → AllByRecursion IsChangeSpellable r.changes
  pub fired : (g : Ground) (x : Statement) (r : Ruling) → IsSoundGround g → Comes g x r → AllByRecursion IsNamedFga r.fired
  pub few : (g : Ground) (x : Statement) (r : Ruling) → IsSoundGround g → IsSoundStatement x → Comes g x r → (length r.changes + TRANSACTION_CHANGES < 2 ^ 32) × (length r.fired ≤ CATALOG_OBJECTS)
  pub purged : (g : Ground) (x : Statement) (r : Ruling) → IsSoundGround g → Comes g x r → IsTimelyPurge r.purge
  pub object : (user : List ℕ) (x : Statement) → IsName user → IsSoundStatement x → IsNamedObject (object_of user x)

-- an admission, by one of the ways in which a logon is decided
pub record OfAdmission (kept : Kept) (crowded : Bool) (admission : Admission) : Type 0 where
  pub named : IsName admission.user
  pub there : admission.code ≡ DONE → IsTrue (has_user kept admission.user)
  pub told : (admission.code.0 < 2 ^ 32) × privileges_in_order.IsSpellable admission.used
  pub open_to : admission.code ≡ DONE → crowded ≡ false

pub record OfLogons : Type 0 where
  pub logon : (kept : Kept) (crowded : Bool) (user password : List ℕ) (admission : Admission) → IsUtf8 user → Admits kept.users kept.grants crowded user password admission → OfAdmission kept crowded admission
  pub «local» : (kept : Kept) (crowded : Bool) (admission : Admission) → IsTrue (has_user kept sys) → IsLocal crowded admission → OfAdmission kept crowded admission

-- the text of a record
pub record OfTexts : Type 0 where
  pub some : (text : List ℕ) (x : Statement) → IsPlaced text x → text ≢ [] → 1 ≤ length (recorded_text text x)
  pub fits : (text : List ℕ) (x : Statement) → IsPlaced text x → length (recorded_text text x) ≤ length text

-- what auditing leaves of an event
pub record OfRecords : Type 0 where
  pub written : (catalog : Catalog) (grants : Grants) (kept : KeptResults) (session : Session) (facts : Facts) (place : Place) (fired : List FgaName) (forgets : List (List ℕ))
      → CanBeRecorded catalog facts place fired → AllByRecursion trail_record.IsSpellable (left_by catalog grants kept session facts place fired forgets).records
  pub few : (catalog : Catalog) (grants : Grants) (kept : KeptResults) (session : Session) (facts : Facts) (place : Place) (fired : List FgaName) (forgets : List (List ℕ))
      → length (left_by catalog grants kept session facts place fired forgets).records ≤ 1 + length fired
  pub left : (catalog : Catalog) (grants : Grants) (kept : KeptResults) (session : Session) (facts : Facts) (place : Place) (fired : List FgaName) (forgets : List (List ℕ))
      → ArePoliciesOrdered catalog.policies → AreInOrder kept → AreInOrder (left_by catalog grants kept session facts place fired forgets).results
  pub forgotten : (forgets : List (List ℕ)) (results : List Result) → IsTrue (is_in_order result_before results) → IsTrue (is_in_order result_before (forgetting forgets results))

-- what becomes of a client's rows by a commit: it goes on from what is kept, gives what is kept then, and is little
pub record OfCommits : Type 0 where
  pub goes : (contents : Contents) (client : ClientNo) (finals : List Final) → HoldsTogether contents.kept (desk_of contents) → AreFinals (desk_of contents).rows (open_of (desk_of contents) client) finals
      → AllGoOn conditions false contents.kept (map final_change finals)
  pub left : (contents : Contents) (client : ClientNo) (finals : List Final) → HoldsTogether contents.kept (desk_of contents) → AreFinals (desk_of contents).rows (open_of (desk_of contents) client) finals
      → changed_all conditions.tree (map final_change finals) contents.kept ≡ committed_for (Some client) contents
  pub kept : (contents : Contents) (client : ClientNo) (finals : List Final) → HoldsTogether contents.kept (desk_of contents) → AreFinals (desk_of contents).rows (open_of (desk_of contents) client) finals
      → IsKept conditions (committed_for (Some client) contents)
  pub few : (contents : Contents) (client : ClientNo) (finals : List Final) → HoldsTogether contents.kept (desk_of contents) → AreFinals (desk_of contents).rows (open_of (desk_of contents) client) finals
      → length finals ≤ TRANSACTION_CHANGES
  pub spelled : (contents : Contents) (client : ClientNo) (finals : List Final) → HoldsTogether contents.kept (desk_of contents) → AreFinals (desk_of contents).rows (open_of (desk_of contents) client) finals
      → AllByRecursion (λ (final : Final). IsChangeSpellable (final_change final)) finals

-- what is so of transactions stays so
pub record OfTransactions : Type 0 where
  pub same : (kept : Kept) (before after : Desk) → HoldsTogether kept before → after.tables ≡ before.tables → after.rows ≡ before.rows
      → ((client : ClientNo) → open_of after client ≡ open_of before client) → HoldsTogether kept after
  pub written : (kept : Kept) (before after : Desk) (client : ClientNo) (changes : List RowChange) → HoldsTogether kept before → client.0 ≢ 0
      → AllByRecursion (IsWritable before.tables (open_of before) client) changes → AreFrom (laid_over before.rows (open_of before client)) changes
      → KeepsKeys before client changes → KeepsSound kept.tables before client changes
      → after.tables ≡ before.tables → after.rows ≡ before.rows → ChangesOne client (open_of before client ++ changes) (open_of before) (open_of after)
      → HoldsTogether kept after
  pub ended : (kept : Kept) (before after : Desk) (client : ClientNo) → HoldsTogether kept before
      → after.tables ≡ before.tables → after.rows ≡ before.rows → ChangesOne client [] (open_of before) (open_of after) → HoldsTogether kept after
  pub settled : (contents : Contents) (commits : Option ClientNo) (changes logged : List Change) (records : List Record) (last : Stamp) (purge : Option (Option Stamp)) (kept : Kept) (after : Desk)
      → HoldsTogether contents.kept (desk_of contents) → CanSettle contents commits changes records last → AllByRecursion (λ change. ¬ IsOfRow change) changes
      → IsLogged commits contents changes logged → kept ≡ after_parts conditions.tree last purge logged records contents.kept
      → after.tables ≡ map open_table kept.tables → after.rows ≡ map of_triple kept.rows
      → ((client : ClientNo) → commits ≡ Some client → open_of after client ≡ [])
      → ((client : ClientNo) → commits ≢ Some client → open_of after client ≡ open_of (desk_of contents) client)
      → HoldsTogether kept after

-- all of them
pub record Below : Type 0 where
  pub rulings : OfRulings
  pub logons : OfLogons
  pub texts : OfTexts
  pub records : OfRecords
  pub commits : OfCommits
  pub transactions : OfTransactions
