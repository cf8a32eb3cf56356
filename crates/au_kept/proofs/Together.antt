-- What is kept and a desk hold together, whatever a client does.
use Rattle.std.proofs.Common.{◌≡◌, ◌≢◌, ◌∙◌, inl, inr, ℕ, List, [], ◌∷◌, ◌++◌, map, refl, sym, ap, subst}
use Rattle.std.specs.Prelude.{false, not, IsTrue, Option, Some, None}
use Rattle.std.specs.List.{AllByRecursion, Contains, filter, filter_map}
use Rattle.au_base.specs.Order.{placed}
use Rattle.au_base.specs.declared.numbers.ClientNo.{ClientNo}
use Rattle.au_base.specs.declared.numbers.Stamp.{Stamp}
use Rattle.au_base.specs.declared.table.TableName.{TableName}
use Rattle.au_entries.specs.declared.change.Change.{Change}
use Rattle.au_entries.specs.declared.change.Change.TheVariants as change
use Rattle.au_entries.specs.declared.kept.Kept.{Kept}
use Rattle.au_entries.specs.declared.table.Table.{Table}
use Rattle.au_entries.specs.declared.trail_record.Record.{Record}
use Rattle.au_entries.specs.Changing.{KeptRow, changed, changed_all}
use Rattle.au_entries.specs.Frames.{after_parts, trail_left}
use Rattle.au_entries.specs.Lawful.{IsLawful, IsRowFounded}
use Rattle.au_entries.specs.Replaying.{AllGoOn, has_table}
use Rattle.au_image.specs.Image.{open_table}
use Rattle.au_kept.specs.Keeping.{Contents, HoldsTogether, desk_of}
use Rattle.au_kept.specs.OpenChanges.{AreSoundChanges, IsSoundChange}
use Rattle.au_kept.specs.Sound.{IsKept}
use Rattle.au_kept.specs.Staging.{CanSettle, IsFree, IsLogged, IsOfRow, committed_for, table_edit}
use Rattle.au_kept.specs.descent.Tabling.{rows_edited_all, rows_for}
use Rattle.au_kept.proofs.Among.{all_at}
use Rattle.au_kept.proofs.Chosen.{unmapped}
use Rattle.au_kept.proofs.Committing.{CommitLaws, kept, rows_rise}
use Rattle.au_kept.proofs.OpenKeys.{found, keys_differ}
use Rattle.au_kept.proofs.Rebuilt.{Quiet}
use Rattle.au_kept.proofs.Settled.{logged_follows, logged_goes, rows_follow, rows_stand, settled_sound, tables_stay}
use Rattle.au_kept.proofs.SettledChanges.{settled_changes, which}
use Rattle.au_kept.proofs.Sounds.{LeftRows, each_stays, none_each, quiet_sound}
use Rattle.au_kept.proofs.Tabled.{kept_open, not_false, open_there, opened_placed}
use Rattle.au_kept.proofs.Written.{StaysSame}
use Rattle.au_replay.specs.Reading.{conditions}
use Rattle.au_rows.specs.declared.table.Table.{Table as OpenTable}
use Rattle.au_txn.specs.declared.change.RowChange.{RowChange}
use Rattle.au_txn.specs.Desks.{Contents as Desk, has_name, is_open, key_of, open_of, replayer, table_before}
use Rattle.au_txn.specs.Keys.{ChangesOne, IsKeyedDesk, KeysDiffer}
use Rattle.au_txn.specs.Rows.{Row, is_in, of_triple, triple_of}
use Rattle.au_txn.specs.Transactions.{laid_over, names_table}

-- what the laws of desks say
pub record DeskLaws : Type 0 where
  pub same : StaysSame
  pub quiet : Quiet
  pub committed : (old new : Desk) (client : ClientNo) → IsKeyedDesk old → new.tables ≡ old.tables → new.rows ≡ laid_over old.rows (open_of old client) → ChangesOne client [] (open_of old) (open_of new) → IsKeyedDesk new
  pub opened : (old new : Desk) (table : OpenTable) → IsKeyedDesk old
      → ((row : Row) → Contains old.rows row → IsTrue (is_open row.table old.tables))
      → ((client : ClientNo) → AllByRecursion (λ (change : RowChange). IsTrue (is_open change.table old.tables)) (open_of old client))
      → is_open table.name old.tables ≡ false
      → new.tables ≡ placed table_before table old.tables → new.rows ≡ old.rows → ((q : ClientNo) → open_of new q ≡ open_of old q) → IsKeyedDesk new
  pub dropped : (old new : Desk) (table : TableName) → IsKeyedDesk old → ((client : ClientNo) → names_table table (open_of old client) ≡ false)
      → new.tables ≡ filter (λ other. not (has_name table other)) old.tables → new.rows ≡ filter (λ row. not (is_in table row)) old.rows
      → ((q : ClientNo) → open_of new q ≡ open_of old q) → IsKeyedDesk new

-- the laws that all of it stands on
pub record TogetherLaws : Type 0 where
  pub commit : CommitLaws
  pub desks : DeskLaws
  pub back : (rows : List Row) → map of_triple (map triple_of rows) ≡ rows
  pub gone : LeftRows

-- the desk with these tables and rows in place of its own
abbrev with_these : Desk → List Table → List KeptRow → Desk
with_these desk tables rows = record { tables = map open_table tables; rows = map of_triple rows; logs = desk.logs; laid = desk.laid; spare = desk.spare }

-- ---- rows and changes are of open tables

rows_open : (kept : Kept) → IsLawful conditions kept → (row : Row) → Contains (map of_triple kept.rows) row → IsTrue (is_open row.table (map open_table kept.tables))
rows_open kept law row has =
    let (triple, stands, same) = unmapped of_triple kept.rows row has in
    let founded = all_at (IsRowFounded kept) kept.rows law.founded.rows triple stands in
    let (table, is, size) = founded.1 in
    subst (λ (r : Row). IsTrue (is_open r.table (map open_table kept.tables))) same (open_there triple.0 kept.tables ∙ found kept.tables table triple.0 is.0 is.1)

changes_open : (tables : List Table) (changes : List RowChange) → AllByRecursion (IsSoundChange tables) changes → AllByRecursion (λ (change : RowChange). IsTrue (is_open change.table (map open_table tables))) changes
changes_open tables [] all = tt
changes_open tables (change ∷ changes) all =
    let (table, has, named, fit) = all.0.fits in
    (open_there change.table tables ∙ found tables table change.table has named, changes_open tables changes all.1)

-- ---- tables come and go

none_some : (client : ClientNo) → None ≢ Some client
none_some client e = let no : None ≡ Some client = e in cc

rows_left : TogetherLaws → (name : TableName) (rows : List KeptRow) → map of_triple (filter (λ (row : KeptRow). not (is_in name (of_triple row))) rows) ≡ filter (λ row. not (is_in name row)) (map of_triple rows)
rows_left laws name rows =
    ap (λ (rs : List KeptRow). map of_triple (filter (λ (row : KeptRow). not (is_in name (of_triple row))) rs)) (sym (laws.commit.triples.forth rows))
    ∙ ap (map of_triple) (sym (laws.commit.triples.left name (map of_triple rows)))
    ∙ laws.back (filter (λ row. not (is_in name row)) (map of_triple rows))

-- the discipline of keys stays while changes are made that open and drop tables
keyed_all : TogetherLaws → (desk : Desk) (changes : List Change) (kept : Kept) → IsLawful conditions kept → AllGoOn conditions false kept changes → AllByRecursion (λ change. ¬ IsOfRow change) changes
    → AllByRecursion (IsFree None desk) changes → ((client : ClientNo) → AllByRecursion (IsSoundChange kept.tables) (open_of desk client))
    → IsKeyedDesk (with_these desk kept.tables kept.rows) → IsKeyedDesk (with_these desk (changed_all conditions.tree changes kept).tables (changed_all conditions.tree changes kept).rows)
keyed_all laws desk [] kept law goes rowless free sound keyed = keyed
keyed_all laws desk (change.Put table number cells ∷ changes) kept law goes rowless free sound keyed = absurd (rowless.0 tt)
keyed_all laws desk (change.Gone table number ∷ changes) kept law goes rowless free sound keyed = absurd (rowless.0 tt)
keyed_all laws desk (change.Table name columns key ∷ changes) kept law goes rowless free sound keyed =
    let made = change.Table name columns key in
    let next = changed conditions.tree made kept in
    let table : Table = record { name = name; columns = columns; key = key } in
    let new = not_false (has_table kept name) goes.0.0 in
    keyed_all laws desk changes next (laws.commit.lawful conditions false kept (made ∷ []) law (goes.0, tt)) goes.1 rowless.1 free.1
    (λ client. each_stays conditions false (made ∷ []) kept (open_of desk client) (goes.0, tt) (tt, tt) (sound client))
    (laws.desks.opened (with_these desk kept.tables kept.rows) (with_these desk next.tables next.rows) (open_table table) keyed (rows_open kept law) (λ client. changes_open kept.tables (open_of desk client) (sound client))
    (open_there name kept.tables ∙ new) (sym (opened_placed table kept.tables new)) refl (λ q. refl))
keyed_all laws desk (change.TableGone name ∷ changes) kept law goes rowless free sound keyed =
    let made = change.TableGone name in
    let next = changed conditions.tree made kept in
    let unnamed : (client : ClientNo) → names_table name (open_of desk client) ≡ false = λ client. free.0 client (none_some client) in
    keyed_all laws desk changes next (laws.commit.lawful conditions false kept (made ∷ []) law (goes.0, tt)) goes.1 rowless.1 free.1
    (λ client. each_stays conditions false (made ∷ []) kept (open_of desk client) (goes.0, tt) (unnamed client, tt) (sound client))
    (laws.desks.dropped (with_these desk kept.tables kept.rows) (with_these desk next.tables next.rows) name keyed unnamed
    (sym (kept_open (λ (other : OpenTable). not (has_name name other)) kept.tables)) (rows_left laws name kept.rows) (λ q. refl))
keyed_all laws desk (c ∷ changes) kept law goes rowless free sound keyed =
    keyed_all laws desk changes (changed conditions.tree c kept) (laws.commit.lawful conditions false kept (c ∷ []) law (goes.0, tt)) goes.1 rowless.1 free.1 sound keyed

-- ---- a client has committed

abbrev number_of_some : Option ClientNo → ℕ
number_of_some None = 0
number_of_some (Some client) = client.0

middle_lawful : CommitLaws → (contents : Contents) (commits : Option ClientNo) (changes logged : List Change) → HoldsTogether contents.kept (desk_of contents) → IsLogged commits contents changes logged
    → IsLawful conditions (committed_for commits contents)
middle_lawful laws contents None changes logged h is = h.kept_is.lawful
middle_lawful laws contents (Some client) changes logged h (finals, are, is) = (kept laws contents client finals h are).lawful

middle_keyed : TogetherLaws → (contents : Contents) (commits : Option ClientNo) (after : Desk) → HoldsTogether contents.kept (desk_of contents)
    → ((client : ClientNo) → commits ≡ Some client → open_of after client ≡ []) → ((client : ClientNo) → commits ≢ Some client → open_of after client ≡ open_of (desk_of contents) client)
    → IsKeyedDesk (with_these after (committed_for commits contents).tables (committed_for commits contents).rows)
middle_keyed laws contents None after h own others =
    laws.desks.same (desk_of contents) (with_these after contents.kept.tables contents.kept.rows) h.keyed refl refl (λ q. others q (none_some q))
middle_keyed laws contents (Some client) after h own others =
    laws.desks.committed (desk_of contents) (with_these after contents.kept.tables (committed_for (Some client) contents).rows) client h.keyed refl (laws.back (laid_over (desk_of contents).rows (open_of (desk_of contents) client)))
    (record { own_are = own client refl; others_are = λ q apart. others q (λ e. apart (sym (ap number_of_some e))) })

free_after : (commits : Option ClientNo) (desk after : Desk) (changes : List Change) → ((client : ClientNo) → commits ≡ Some client → open_of after client ≡ [])
    → ((client : ClientNo) → commits ≢ Some client → open_of after client ≡ open_of desk client) → AllByRecursion (IsFree commits desk) changes → AllByRecursion (IsFree None after) changes
free_after commits desk after [] own others free = tt
free_after commits desk after (change.TableGone name ∷ changes) own others free = (
  λ client some. elim (which commits client) [
    | inl is ↦ ap (names_table name) (own client is)
    | inr other ↦ ap (names_table name) (others client other) ∙ free.0 client other
  ],
  free_after commits desk after changes own others free.1,
)
free_after commits desk after (_ ∷ changes) own others free = (tt, free_after commits desk after changes own others free.1)

-- ---- what is settled

pub settled_holds : TogetherLaws → (contents : Contents) (commits : Option ClientNo) (changes logged : List Change) (records : List Record) (last : Stamp) (purge : Option (Option Stamp)) (next : Kept) (after : Desk)
    → HoldsTogether contents.kept (desk_of contents) → CanSettle contents commits changes records last → AllByRecursion (λ change. ¬ IsOfRow change) changes
    → IsLogged commits contents changes logged → next ≡ after_parts conditions.tree last purge logged records contents.kept
    → after.tables ≡ map open_table next.tables → after.rows ≡ map of_triple next.rows
    → ((client : ClientNo) → commits ≡ Some client → open_of after client ≡ []) → ((client : ClientNo) → commits ≢ Some client → open_of after client ≡ open_of (desk_of contents) client)
    → HoldsTogether next after
settled_holds laws contents commits changes logged records last purge next after h can rowless is same tables rows own others =
    let triples = laws.commit.triples in
    let settles = laws.commit.settles in
    let ordered = rows_rise laws.commit contents h in
    let middle = committed_for commits contents in
    let made = changed_all conditions.tree changes middle in
    let goes = logged_goes triples settles conditions false commits contents changes can.logged ordered can.is_logged can.go_on in
    let follows = logged_follows triples settles conditions.tree commits contents changes logged ordered is in
    let told = logged_follows triples settles conditions.tree commits contents changes can.logged ordered can.is_logged in
    let ends : next ≡ after_parts conditions.tree last purge can.logged records contents.kept =
    same ∙ ap (λ (k : Kept). record k { trail = trail_left purge contents.kept.trail ++ records; last = last }) (follows ∙ sym told) in
    let tables_are : next.tables ≡ made.tables = ap (λ (k : Kept). k.tables) same ∙ ap (λ (k : Kept). k.tables) follows in
    let rows_are : next.rows ≡ made.rows = ap (λ (k : Kept). k.rows) same ∙ ap (λ (k : Kept). k.rows) follows in
    let sound : (client : ClientNo) → AllByRecursion (IsSoundChange middle.tables) (open_of after client) = λ client.
    subst (λ (ts : List Table). AllByRecursion (IsSoundChange ts) (open_of after client)) (sym (tables_stay commits contents))
    (elim (which commits client) [
      | inl commits_it ↦ none_each contents.kept.tables (open_of after client) (own client commits_it)
      | inr other ↦ subst (AllByRecursion (IsSoundChange contents.kept.tables)) (sym (others client other)) (h.changes.each client)
    ]) in
    record {
      kept_is = subst (IsKept conditions) (sym ends)
          (settled_sound laws.commit.lawful conditions contents.kept last purge can.logged records h.kept_is can.go_on can.whole (record { moment = can.moment; changes = can.spelled; records = can.told }));
      desk_is = record {
        tables_are = tables;
        quiet = elim (which commits replayer) [
          | inl commits_it ↦ own replayer commits_it
          | inr other ↦ others replayer other ∙ h.desk_is.quiet
        ];
      };
      keyed = laws.desks.same (with_these after made.tables made.rows) after
          (keyed_all laws after changes middle (middle_lawful laws.commit contents commits changes can.logged h can.is_logged) goes rowless (free_after commits (desk_of contents) after changes own others can.settled) sound
          (middle_keyed laws contents commits after h own others))
          (tables ∙ ap (map open_table) tables_are) (rows ∙ ap (map of_triple) rows_are) (λ q. refl);
      changes = subst (λ (ts : List Table). AreSoundChanges ts after) (sym tables_are)
          (settled_changes laws.commit.laid.untouched laws.gone conditions commits middle (desk_of contents) after changes (filter_map table_edit changes)
          (subst (λ (ts : List Table). AreSoundChanges ts (desk_of contents)) (sym (tables_stay commits contents)) h.changes) goes can.settled own others
          (rows ∙ ap (map of_triple) (rows_are ∙ rows_follow triples conditions.tree changes middle (rows_for commits (desk_of contents)) rowless (rows_stand triples commits contents))
          ∙ laws.back (rows_edited_all (filter_map table_edit changes) (rows_for commits (desk_of contents)))));
    }

-- ---- no client has changes

pub quiet_holds : TogetherLaws → (kept : Kept) (desk : Desk) → IsKept conditions kept → desk.tables ≡ map open_table kept.tables → desk.rows ≡ map of_triple kept.rows
    → ((client : ClientNo) → open_of desk client ≡ []) → HoldsTogether kept desk
quiet_holds laws kept desk is tables rows quiet =
    let same : kept.rows ≡ map triple_of desk.rows = sym (laws.commit.triples.forth kept.rows) ∙ ap (map triple_of) (sym rows) in
    record {
      kept_is = is;
      desk_is = record { tables_are = tables; quiet = quiet replayer };
      keyed = laws.desks.quiet desk quiet
          (λ table. subst (λ (opened : List OpenTable). KeysDiffer (key_of table opened) table desk.rows) (sym tables) (keys_differ laws.commit.laid.stands kept desk.rows same is.whole.keys table));
      changes = quiet_sound kept desk quiet same is.lawful.founded.rows is.whole.few.rows;
    }
