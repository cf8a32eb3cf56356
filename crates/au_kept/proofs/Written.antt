-- What a client's changes of rows leave of a keeping.
use Rattle.std.proofs.Common.{◌≡◌, ◌≢◌, ◌∙◌, ◌++◌, ◌⊎◌, inl, inr, ℕ, Bool, true, false, if◌then◌else◌, List, [], ◌∷◌, map, refl, sym, ap, ap₂, subst, arith}
use Rattle.std.specs.Prelude.{◌==◌, IsTrue}
use Rattle.std.specs.List.{AllByRecursion}
use Rattle.std.specs.Str.{bytes_eq}
use Rattle.std.proofs.lemmas.Bool.{and_parts, or_cases}
use Rattle.std.proofs.lemmas.Bool.Decides.{nat_tests}
use Rattle.std.proofs.lemmas.Slice.Eq.{bytes_eq-Decides}
use Rattle.au_base.specs.Sameness.{same_table}
use Rattle.au_base.specs.declared.cell.Cell.{Cell}
use Rattle.au_base.specs.declared.numbers.ClientNo.{ClientNo}
use Rattle.au_base.specs.declared.numbers.RowNo.{RowNo}
use Rattle.au_base.specs.declared.table.TableName.{TableName}
use Rattle.au_entries.specs.declared.kept.Kept.{Kept}
use Rattle.au_image.specs.Image.{kept_rows}
use Rattle.au_kept.specs.Keeping.{Contents, HoldsTogether, desk_of}
use Rattle.au_kept.specs.Writing.{KeepsKeys, KeepsSound}
use Rattle.au_kept.proofs.Held.{desk_seen, none_laid}
use Rattle.au_kept.proofs.Sounds.{by_client, same_sound, written_sound}
use Rattle.au_rows.specs.declared.table.Table.{Table as OpenTable}
use Rattle.au_txn.specs.declared.change.RowChange.{RowChange}
use Rattle.au_txn.specs.Desks.{Contents as Desk, IsWritable, key_of, open_in, open_of, replayer}
use Rattle.au_txn.specs.Keys.{ChangesOne, IsKeyedDesk, KeysDiffer}
use Rattle.au_txn.specs.Logs.{changes_of}
use Rattle.au_txn.specs.Rows.{Row, of_triple, triple_of}
use Rattle.au_txn.specs.Transactions.{AreFrom, IsKeyLocked, IsRowLocked, MakesKey, is_of_row, laid_over, names_row, rows_differ}

-- the desk is the one that contracts see
pub desk_here : ((rows : List Row) → map of_triple (map triple_of rows) ≡ rows) → (self : Contents) (kept : Kept) (desk : Desk) (room : ℕ) → (record { kept = kept; logs = desk.logs; spare = desk.spare; room = room }) ≡ self → kept.rows ≡ kept_rows desk
    → HoldsTogether kept desk → desk ≡ desk_of self
desk_here back self kept desk room view rows h = desk_seen back kept desk room rows h ∙ ap desk_of view

-- where nothing is laid, a client's open changes are its list
neither : (b : Bool) (log : List RowChange) → (if b then [] else []) ++ log ≡ log
neither true log = refl
neither false log = refl

pub open_lists : (desk : Desk) → desk.laid ≡ [] → (client : ClientNo) → open_of desk client ≡ changes_of client desk.logs
open_lists desk none client = ap (λ (laid : List RowChange). open_in laid desk.logs client) none ∙ neither (client.0 == 0) (changes_of client desk.logs)

pub nothing_laid : (kept : Kept) (desk : Desk) → HoldsTogether kept desk → desk.laid ≡ []
nothing_laid kept desk h = none_laid desk h.desk_is.quiet

-- ---- no row that writable changes name is another client's

pub same_name : (a b : TableName) → same_table a b ≡ true → a ≡ b
same_name a b is =
    let parts = and_parts (bytes_eq a.owner b.owner) (bytes_eq a.name b.name) is in
    ap₂ (λ (o n : List ℕ). let t : TableName = record { owner = o; name = n } in t) ((bytes_eq-Decides a.owner b.owner).0 parts.0) ((bytes_eq-Decides a.name b.name).0 parts.1)

same_number : (a b : RowNo) → (a.0 == b.0) ≡ true → a ≡ b
same_number a b is = let e : a.0 ≡ b.0 = grind (arith, nat_tests) in ap (λ (n : ℕ). let r : RowNo = record { 0 = n } in r) e

row_free : (tables : List OpenTable) (transactions : ClientNo → List RowChange) (client : ClientNo) (changes : List RowChange) → AllByRecursion (IsWritable tables transactions client) changes
    → (table : TableName) (row : RowNo) → IsTrue (names_row table row changes) → ¬ IsRowLocked transactions client table row
row_free tables transactions client [] all table row named = absurd (let e : false ≡ true = named in cc)
row_free tables transactions client (change ∷ changes) all table row named = elim (or_cases (is_of_row table row change) (names_row table row changes) named) [
  | inl here ↦ (
      let parts = and_parts (same_table change.table table) (change.row.0 == row.0) here in
      subst (λ (r : RowNo). ¬ IsRowLocked transactions client table r) (same_number change.row row parts.1)
      (subst (λ (t : TableName). ¬ IsRowLocked transactions client t change.row) (same_name change.table table parts.0) all.0.free))
  | inr later ↦ row_free tables transactions client changes all.1 table row later
]

-- ---- what is written

-- the discipline of keys after writing, as the law has it
abbrev pub StaysKeyed : Type 0
StaysKeyed = (old new : Desk) (client : ClientNo) (changes : List RowChange) → IsKeyedDesk old
    → AreFrom (laid_over old.rows (open_of old client)) changes
    → IsTrue (rows_differ changes)
    → ((table : TableName) → KeysDiffer (key_of table old.tables) table (laid_over old.rows (open_of old client ++ changes)))
    → ((table : TableName) (key : List Cell) → key_of table old.tables ≢ [] → MakesKey (key_of table old.tables) table key changes → ¬ IsKeyLocked (key_of table old.tables) (open_of old) client table key)
    → ((table : TableName) (row : RowNo) → IsTrue (names_row table row changes) → ¬ IsRowLocked (open_of old) client table row)
    → new.tables ≡ old.tables → new.rows ≡ old.rows → ChangesOne client (open_of old client ++ changes) (open_of old) (open_of new) → IsKeyedDesk new

pub written_holds : StaysKeyed → (kept other : Kept) (desk next : Desk) (client : ClientNo) (changes : List RowChange) → HoldsTogether kept desk → kept ≡ other → client.0 ≢ 0
    → AllByRecursion (IsWritable desk.tables (open_of desk) client) changes → AreFrom (laid_over desk.rows (open_of desk client)) changes → KeepsKeys desk client changes → KeepsSound kept.tables desk client changes
    → next.tables ≡ desk.tables → next.rows ≡ desk.rows → open_of next client ≡ open_of desk client ++ changes → ((q : ClientNo) → q.0 ≢ client.0 → open_of next q ≡ open_of desk q) → HoldsTogether other next
written_holds stays kept other desk next client changes h same apart writable from keys sound tables rows own others =
    subst (λ (k : Kept). HoldsTogether k next) same
    (record {
      kept_is = h.kept_is;
      desk_is = record { tables_are = tables ∙ h.desk_is.tables_are; quiet = others replayer (λ e. apart (sym e)) ∙ h.desk_is.quiet };
      keyed = stays desk next client changes h.keyed from keys.once keys.differ keys.unlocked (row_free desk.tables (open_of desk) client changes writable) tables rows (record { own_are = own; others_are = others });
      changes = written_sound kept.tables desk next client changes h.changes sound rows own others;
    })

-- ---- what is taken back

-- the discipline of keys after a client's changes are taken back, as the law has it
abbrev pub StaysBack : Type 0
StaysBack = (old new : Desk) (client : ClientNo) → IsKeyedDesk old → new.tables ≡ old.tables → new.rows ≡ old.rows → ChangesOne client [] (open_of old) (open_of new) → IsKeyedDesk new

pub back_holds : StaysBack → (kept other : Kept) (desk next : Desk) (client : ClientNo) → HoldsTogether kept desk → kept ≡ other → next.tables ≡ desk.tables → next.rows ≡ desk.rows → open_of next client ≡ []
    → ((q : ClientNo) → q.0 ≢ client.0 → open_of next q ≡ open_of desk q) → HoldsTogether other next
back_holds stays kept other desk next client h same tables rows own others =
    subst (λ (k : Kept). HoldsTogether k next) same
    (record {
      kept_is = h.kept_is;
      desk_is = record {
        tables_are = tables ∙ h.desk_is.tables_are;
        quiet = by_client (λ (c : ClientNo). open_of next c ≡ []) client replayer own (λ apart. others replayer apart ∙ h.desk_is.quiet);
      };
      keyed = stays desk next client h.keyed tables rows (record { own_are = own; others_are = others });
      changes = same_sound kept.tables desk next h.changes rows
          (λ q. by_client (λ (c : ClientNo). (open_of next c ≡ []) ⊎ (open_of next c ≡ open_of desk c)) client q (inl own) (λ apart. inr (others q apart)));
    })

-- ---- what stays

-- the discipline of keys where nothing changes, as the law has it
abbrev pub StaysSame : Type 0
StaysSame = (old new : Desk) → IsKeyedDesk old → new.tables ≡ old.tables → new.rows ≡ old.rows → ((q : ClientNo) → open_of new q ≡ open_of old q) → IsKeyedDesk new

pub same_holds : StaysSame → (kept other : Kept) (desk next : Desk) → HoldsTogether kept desk → kept ≡ other → next.tables ≡ desk.tables → next.rows ≡ desk.rows → ((q : ClientNo) → open_of next q ≡ open_of desk q) → HoldsTogether other next
same_holds stays kept other desk next h same tables rows changes =
    subst (λ (k : Kept). HoldsTogether k next) same
    (record {
      kept_is = h.kept_is;
      desk_is = record { tables_are = tables ∙ h.desk_is.tables_are; quiet = changes replayer ∙ h.desk_is.quiet };
      keyed = stays desk next h.keyed tables rows changes;
      changes = same_sound kept.tables desk next h.changes rows (λ q. inr (changes q));
    })
