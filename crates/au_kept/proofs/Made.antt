-- What holds where staged changes are made.
use Rattle.std.proofs.Common.{◌≡◌, ◌≢◌, ◌∙◌, inr, ℕ, List, [], ◌++◌, map, sym, ap, ap₂, subst}
use Rattle.std.specs.Prelude.{false, IsTrue, Option, Some}
use Rattle.std.specs.List.{AllByRecursion, filter_map}
use Rattle.au_base.specs.declared.numbers.ClientNo.{ClientNo}
use Rattle.au_base.specs.declared.numbers.Stamp.{Stamp}
use Rattle.au_catalog.specs.declared.catalog.Catalog.{Catalog}
use Rattle.au_catalog.specs.Settling.{catalog_after_all, catalog_of}
use Rattle.au_catalog.specs.Staging as catalogs
use Rattle.au_entries.specs.declared.change.Change.{Change}
use Rattle.au_entries.specs.declared.kept.Kept.{Kept}
use Rattle.au_entries.specs.declared.table.Table.{Table}
use Rattle.au_entries.specs.declared.trail_record.Record.{Record}
use Rattle.au_entries.specs.Frames.{after_parts, trail_left}
use Rattle.au_entries.specs.Lawful.{IsOrdered}
use Rattle.au_grants.specs.declared.change.GrantChange.{GrantChange}
use Rattle.au_grants.specs.Changing.{applied_all}
use Rattle.au_grants.specs.Rights.{Grants}
use Rattle.au_image.specs.Image.{kept_of, kept_rows, open_table}
use Rattle.au_kept.specs.declared.staged.Staged.{Staged}
use Rattle.au_kept.specs.declared.staged.TableEdit.{TableEdit}
use Rattle.au_kept.specs.Keeping.{Contents, HoldsTogether, desk_of}
use Rattle.au_kept.specs.OpenChanges.{AreSoundChanges}
use Rattle.au_kept.specs.Sound.{IsKept}
use Rattle.au_kept.specs.Staging.{CanSettle, IsFree, IsLogged, IsStaged, committed_for, number_after, table_edit}
use Rattle.au_kept.specs.descent.Tabling.{CanEdit, left_open, rows_edited_all, rows_for, tables_edited_all}
use Rattle.au_kept.proofs.Held.{desk_seen, none_laid}
use Rattle.au_kept.proofs.Settled.{Catalogs, Settles, StaysLawful, Triples, logged_follows, logged_goes, settled_kept, settled_sound, tables_stay}
use Rattle.au_kept.proofs.SettledChanges.{settled_changes}
use Rattle.au_kept.proofs.Sounds.{LeftRows, Untouched, same_sound}
use Rattle.au_kept.proofs.Tabled.{can_edit, tables_follow}
use Rattle.au_kept.proofs.Written.{open_lists}
use Rattle.au_replay.specs.Reading.{conditions}
use Rattle.au_rows.specs.declared.table.Table.{Table as OpenTable}
use Rattle.au_txn.specs.Desks.{Contents as Desk, open_in, open_of, replayer}
use Rattle.au_txn.specs.Keys.{IsKeyedDesk}
use Rattle.au_txn.specs.Logs.{changes_of}
use Rattle.au_txn.specs.Rows.{Row, are_in_order, of_triple, triple_of}

-- what is staged can be made
abbrev pub Can : Contents → Option ClientNo → Staged → List Record → Stamp → Type 0
Can self commits staged records last = (changes : List Change) × IsStaged changes staged × CanSettle self commits changes records last

-- the desk is the one that is seen, and its rows stand in order
pub record Seen (self : Contents) (desk : Desk) : Type 0 where
  pub desk_is : desk ≡ desk_of self
  pub ordered : IsTrue (are_in_order desk.rows)
  pub tables_are : desk.tables ≡ map open_table self.kept.tables

pub seen_from : ((rows : List Row) → map of_triple (map triple_of rows) ≡ rows) → (self : Contents) (kept : Kept) (desk : Desk) (room : ℕ) → (record { kept = kept; logs = desk.logs; spare = desk.spare; room = room }) ≡ self → kept.rows ≡ kept_rows desk
    → HoldsTogether kept desk → IsTrue (are_in_order desk.rows) → Seen self desk
seen_from back self kept desk room view rows h ordered =
    subst (λ (s : Contents). Seen s desk) view (record { desk_is = desk_seen back kept desk room rows h; ordered = ordered; tables_are = h.desk_is.tables_are })

seen_ordered : (self : Contents) (desk : Desk) → Seen self desk → IsTrue (are_in_order (desk_of self).rows)
seen_ordered self desk seen = subst (λ (d : Desk). IsTrue (are_in_order d.rows)) seen.desk_is seen.ordered

pub settle_can : Triples → Settles → (self : Contents) (commits : Option ClientNo) (staged : Staged) (records : List Record) (last : Stamp) (desk : Desk) → Seen self desk → Can self commits staged records last
    → CanEdit (left_open commits desk) staged.tables.items desk.tables
settle_can triples settles self commits staged records last desk seen (changes, is, can) =
    let goes = logged_goes triples settles conditions false commits self changes can.logged (seen_ordered self desk seen) can.is_logged can.go_on in
    let free = subst (λ (d : Desk). AllByRecursion (IsFree commits d) changes) (sym seen.desk_is) can.settled in
    subst (λ (edits : List TableEdit). CanEdit (left_open commits desk) edits desk.tables) (sym is.tables)
    (subst (λ (tables : List OpenTable). CanEdit (left_open commits desk) (filter_map table_edit changes) tables)
    (ap (map open_table) (tables_stay commits self) ∙ sym seen.tables_are)
    (can_edit conditions false commits desk changes (committed_for commits self) goes free))

pub settled_at : Triples → Settles → Catalogs → (self : Contents) (commits : Option ClientNo) (staged : Staged) (records : List Record) (purge : Option (Option Stamp)) (last : Stamp) (desk : Desk)
    (catalog : Catalog) (grants : Grants) (rows : List Row) (trail : List Record) (instance : ℕ) → Seen self desk
    → ((changes : List Change) → catalogs.IsStaged conditions.tree changes staged.catalog → catalog ≡ catalog_after_all conditions.tree changes (catalog_of self.kept))
    → grants ≡ applied_all staged.grants.changes self.kept.grants
    → rows ≡ rows_edited_all staged.tables.items (rows_for commits desk)
    → trail ≡ trail_left purge self.kept.trail ++ records
    → instance ≡ number_after staged.instance self.kept.instance
    → (changes logged : List Change) → IsStaged changes staged → IsLogged commits self changes logged
    → kept_of catalog grants (map triple_of rows) trail last instance ≡ after_parts conditions.tree last purge logged records self.kept
settled_at triples settles catalogues self commits staged records purge last desk catalog grants rows trail instance seen catalog_is grants_are rows_are trail_is number_is changes logged is logs =
    settled_kept triples settles catalogues conditions.tree commits self changes logged purge records last catalog grants rows trail instance (seen_ordered self desk seen) logs is.rowless
    (catalog_is changes is.catalog)
    (grants_are ∙ ap (λ (made : List GrantChange). applied_all made self.kept.grants) is.grants)
    (rows_are ∙ ap (λ (edits : List TableEdit). rows_edited_all edits (rows_for commits desk)) is.tables ∙ ap (λ (d : Desk). rows_edited_all (filter_map table_edit changes) (rows_for commits d)) seen.desk_is)
    trail_is
    (number_is ∙ ap (λ (n : Option ℕ). number_after n self.kept.instance) is.instance)

pub settle_holds : Triples → Settles → StaysLawful → Untouched → LeftRows → (self : Contents) (commits : Option ClientNo) (staged : Staged) (records : List Record) (purge : Option (Option Stamp)) (last : Stamp) (desk next : Desk) (kept : Kept)
    → Seen self desk → IsKept conditions self.kept → Can self commits staged records last
    → ((changes logged : List Change) → IsStaged changes staged → IsLogged commits self changes logged → kept ≡ after_parts conditions.tree last purge logged records self.kept)
    → next.tables ≡ tables_edited_all staged.tables.items desk.tables → open_of next replayer ≡ [] → IsKeyedDesk next → AreSoundChanges self.kept.tables desk → open_of desk replayer ≡ []
    → next.rows ≡ rows_edited_all staged.tables.items (rows_for commits desk)
    → ((client : ClientNo) → commits ≡ Some client → changes_of client next.logs ≡ []) → ((client : ClientNo) → commits ≢ Some client → changes_of client next.logs ≡ changes_of client desk.logs)
    → HoldsTogether kept next
settle_holds triples settles lawful untouched gone self commits staged records purge last desk next kept seen sound (changes, is, can) settled tables quiet keyed sound_changes quiet_before rows own others =
    let same = settled changes can.logged is can.is_logged in
    let ordered = seen_ordered self desk seen in
    let goes = logged_goes triples settles conditions false commits self changes can.logged ordered can.is_logged can.go_on in
    subst (λ (k : Kept). HoldsTogether k next) (sym same)
    (record {
      kept_is = settled_sound lawful conditions self.kept last purge can.logged records sound can.go_on can.whole (record { moment = can.moment; changes = can.spelled; records = can.told });
      desk_is = record {
        tables_are =
            tables ∙ ap (λ (edits : List TableEdit). tables_edited_all edits desk.tables) is.tables
            ∙ ap (tables_edited_all (filter_map table_edit changes)) (seen.tables_are ∙ sym (ap (map open_table) (tables_stay commits self)))
            ∙ tables_follow conditions false changes (committed_for commits self) goes
            ∙ ap (λ (k : Kept). map open_table k.tables) (sym (logged_follows triples settles conditions.tree commits self changes can.logged ordered can.is_logged));
        quiet = quiet;
      };
      keyed = keyed;
      changes =
          subst (λ (k : Kept). AreSoundChanges k.tables next) (sym (logged_follows triples settles conditions.tree commits self changes can.logged ordered can.is_logged))
          (settled_changes untouched gone conditions commits (committed_for commits self) desk next changes staged.tables.items
          (subst (λ (ts : List Table). AreSoundChanges ts desk) (sym (tables_stay commits self)) sound_changes) goes
          (subst (λ (d : Desk). AllByRecursion (IsFree commits d) changes) (sym seen.desk_is) can.settled)
          (λ client commits_it. open_lists next (none_laid next quiet) client ∙ own client commits_it)
          (λ client other. open_lists next (none_laid next quiet) client ∙ others client other ∙ sym (open_lists desk (none_laid desk quiet_before) client))
          rows);
    })

-- a desk with more room holds what is kept together too
pub roomier : (kept other : Kept) (desk next : Desk) → HoldsTogether kept desk → kept ≡ other → next.tables ≡ desk.tables → next.rows ≡ desk.rows → next.logs ≡ desk.logs → next.laid ≡ desk.laid
    → ((old new : Desk) → IsKeyedDesk old → new.tables ≡ old.tables → new.rows ≡ old.rows → ((q : ClientNo) → open_of new q ≡ open_of old q) → IsKeyedDesk new)
    → HoldsTogether other next
roomier kept other desk next h same tables rows logs laid keyed =
    let open_same : (q : ClientNo) → open_of next q ≡ open_of desk q = λ q. ap₂ (λ l ls. open_in l ls q) laid logs in
    subst (λ (k : Kept). HoldsTogether k next) same
    (record {
      kept_is = h.kept_is;
      desk_is = record { tables_are = tables ∙ h.desk_is.tables_are; quiet = open_same replayer ∙ h.desk_is.quiet };
      keyed = keyed desk next h.keyed tables rows open_same;
      changes = same_sound kept.tables desk next h.changes rows (λ q. inr (open_same q));
    })
