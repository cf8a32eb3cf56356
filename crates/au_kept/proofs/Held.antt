-- How a keeping holds together.
use Rattle.std.proofs.Common.{◌≡◌, ◌∙◌, ℕ, Bool, true, false, if◌then◌else◌, List, [], ◌∷◌, ◌++◌, map, refl, sym, ap, subst, arith}
use Rattle.std.specs.Prelude.{◌==◌}
use Rattle.au_base.specs.declared.numbers.ClientNo.{ClientNo}
use Rattle.au_base.specs.declared.numbers.Stamp.{Stamp}
use Rattle.au_base.specs.declared.table.TableName.{TableName}
use Rattle.au_catalog.specs.declared.catalog.Catalog.{Catalog}
use Rattle.au_entries.specs.declared.kept.Kept.{Kept}
use Rattle.au_entries.specs.declared.trail_record.Record.{Record}
use Rattle.au_entries.specs.Imaging.{nothing}
use Rattle.au_grants.specs.Rights.{Grants}
use Rattle.au_image.specs.declared.told.Told.{Told}
use Rattle.au_image.specs.Image.{IsWritable, kept_as_told, kept_of, kept_rows, open_table, trail_told}
use Rattle.au_rows.specs.declared.table.Table.{Table as OpenTable}
use Rattle.au_txn.specs.declared.change.RowChange.{RowChange}
use Rattle.au_txn.specs.Desks.{Contents as Desk, key_of, open_of, replayer}
use Rattle.au_txn.specs.Logs.{changes_of}
use Rattle.au_txn.specs.Keys.{IsKeyedDesk, KeysDiffer}
use Rattle.au_txn.specs.Rows.{Row, of_triple, triple_of}
use Rattle.au_txn.specs.Transactions.{laid_over}
use Rattle.au_kept.specs.Keeping.{HoldsTogether, desk_of}
use Rattle.au_replay.specs.Reading.{conditions}
use Rattle.au_kept.specs.Sound.{IsKept}
use Rattle.au_kept.proofs.Sounds.{quiet_sound}

-- a desk without anything
abbrev bare : Desk
bare = record { tables = []; rows = []; logs = []; laid = []; spare = 0 }

-- keys keep their discipline where no client has changes
abbrev Quiet : Type 0
Quiet = (desk : Desk) → ((client : ClientNo) → open_of desk client ≡ []) → ((table : TableName) → KeysDiffer (key_of table desk.tables) table desk.rows) → IsKeyedDesk desk

abbrev none : List RowChange
none = []

neither : (b : Bool) → (if b then none else none) ++ none ≡ none
neither true = refl
neither false = refl

bare_open : (client : ClientNo) → open_of bare client ≡ []
bare_open client = neither (client.0 == 0)

bare_holds : Quiet → IsKept conditions nothing → HoldsTogether nothing bare
bare_holds keyed kept = record {
  kept_is = kept;
  desk_is = record { tables_are = refl; quiet = refl };
  keyed = keyed bare bare_open (λ table. tt);
  changes = quiet_sound nothing bare bare_open refl kept.lawful.founded.rows kept.whole.few.rows;
}

-- where nothing is kept and the desk is bare, they hold together
pub nothing_holds : Quiet → IsKept conditions nothing → (kept : Kept) (desk : Desk) → kept ≡ nothing → desk ≡ bare → HoldsTogether kept desk
nothing_holds keyed is kept desk blank empty = subst (λ (k : Kept). HoldsTogether k desk) (sym blank) (subst (HoldsTogether nothing) (sym empty) (bare_holds keyed is))

-- what is kept can be written
pub writable : (kept : Kept) (desk : Desk) → HoldsTogether kept desk → IsWritable kept
writable kept desk h = record { last = h.kept_is.lawful.last; spelled = h.kept_is.spelled }

pub bare_writable : (kept : Kept) (desk : Desk) → HoldsTogether kept desk → IsWritable (record kept { trail = []; last = record { 0 = 0 } })
bare_writable kept desk h = record { last = omega arith; spelled = record { entries = h.kept_is.spelled.entries; records = tt } }

-- What is told of a keeping by the client by which rows are replayed, which has no changes: it is what is kept, with this trail
-- and this last stamp.
pub as_told : (catalog : Catalog) (grants : Grants) (desk : Desk) (told : Told) (instance : ℕ) (trail : List Record) (last : Stamp)
    → open_of desk replayer ≡ [] → trail_told told ≡ trail → told.last ≡ last
    → kept_as_told catalog grants desk replayer told instance ≡ kept_of catalog grants (kept_rows desk) trail last instance
as_told catalog grants desk told instance trail last quiet records stamped =
    ap (λ (changes : List RowChange). kept_of catalog grants (map triple_of (laid_over desk.rows changes)) (trail_told told) told.last instance) quiet
    ∙ ap (λ (t : List Record). kept_of catalog grants (kept_rows desk) t told.last instance) records
    ∙ ap (λ (s : Stamp). kept_of catalog grants (kept_rows desk) trail s instance) stamped

-- nothing is laid where the client by which rows are replayed has no changes
front_none : (xs ys : List RowChange) → xs ++ ys ≡ [] → xs ≡ []
front_none [] ys empty = refl
front_none (x ∷ xs) ys empty = absurd (let e : x ∷ (xs ++ ys) ≡ [] = empty in cc)

pub none_laid : (desk : Desk) → open_of desk replayer ≡ [] → desk.laid ≡ []
none_laid desk quiet = front_none desk.laid (changes_of replayer desk.logs) quiet

-- the desk is the one that contracts see
pub desk_seen : ((rows : List Row) → map of_triple (map triple_of rows) ≡ rows) → (kept : Kept) (desk : Desk) (room : ℕ) → kept.rows ≡ kept_rows desk → HoldsTogether kept desk
    → desk ≡ desk_of (record { kept = kept; logs = desk.logs; spare = desk.spare; room = room })
desk_seen back kept desk room rows_are h =
    ap (λ (tables : List OpenTable). record { tables = tables; rows = desk.rows; logs = desk.logs; laid = desk.laid; spare = desk.spare }) h.desk_is.tables_are
    ∙ ap (λ (rows : List Row). record { tables = map open_table kept.tables; rows = rows; logs = desk.logs; laid = desk.laid; spare = desk.spare }) (sym (back desk.rows) ∙ ap (map of_triple) (sym rows_are))
    ∙ ap (λ (laid : List RowChange). record { tables = map open_table kept.tables; rows = map of_triple kept.rows; logs = desk.logs; laid = laid; spare = desk.spare }) (none_laid desk h.desk_is.quiet)

pub keyed_seen : ((rows : List Row) → map of_triple (map triple_of rows) ≡ rows) → (kept : Kept) (desk : Desk) (room : ℕ) → kept.rows ≡ kept_rows desk → HoldsTogether kept desk
    → IsKeyedDesk (desk_of (record { kept = kept; logs = desk.logs; spare = desk.spare; room = room }))
keyed_seen back kept desk room rows_are h = subst IsKeyedDesk (desk_seen back kept desk room rows_are h) h.keyed

pub quiet_seen : ((rows : List Row) → map of_triple (map triple_of rows) ≡ rows) → (kept : Kept) (desk : Desk) (room : ℕ) → kept.rows ≡ kept_rows desk → HoldsTogether kept desk
    → open_of (desk_of (record { kept = kept; logs = desk.logs; spare = desk.spare; room = room })) replayer ≡ []
quiet_seen back kept desk room rows_are h = subst (λ (d : Desk). open_of d replayer ≡ []) (desk_seen back kept desk room rows_are h) h.desk_is.quiet

pub together_seen : ((rows : List Row) → map of_triple (map triple_of rows) ≡ rows) → (kept : Kept) (desk : Desk) (room : ℕ) → kept.rows ≡ kept_rows desk → HoldsTogether kept desk
    → HoldsTogether kept (desk_of (record { kept = kept; logs = desk.logs; spare = desk.spare; room = room }))
together_seen back kept desk room rows_are h = subst (HoldsTogether kept) (desk_seen back kept desk room rows_are h) h
