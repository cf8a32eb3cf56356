-- The row under a key that conditions fix, as a part of the table that is seen.
use Rattle.std.proofs.Common.{◌≡◌, ◌∙◌, true, List, ℕ, map, refl, sym, ap, subst}
use Rattle.std.specs.Prelude.{◌↔◌, IsTrue, Some}
use Rattle.std.specs.List.{Contains}
use Rattle.au_base.specs.declared.cell.Cell.{Cell}
use Rattle.au_base.specs.declared.numbers.ClientNo.{ClientNo}
use Rattle.au_base.specs.declared.table.TableName.{TableName}
use Rattle.au_base.specs.Sameness.{same_table}
use Rattle.au_expr.specs.declared.placed.Placed.{Placed}
use Rattle.au_expr.specs.Sessions.{Session}
use Rattle.au_query.specs.declared.source.Source.{Source}
use Rattle.au_query.specs.Combos.{Line, rows_of}
use Rattle.au_txn.specs.Desks.{contents_of, key_of, open_of}
use Rattle.au_txn.specs.Keys.{KeysDiffer}
use Rattle.au_txn.specs.Rows.{Row, are_in_order, row_at}
use Rattle.au_txn.specs.Transactions.{laid_over, view}
use Rattle.au_world.specs.declared.world.World.{World}
use Rattle.au_world.specs.Cutting.{IsCut}
use Rattle.au_world.specs.Inside.{AreUnder, IsKeyFixed, told_by}
use Rattle.au_world.specs.Selecting.{seen_of}
use Rattle.au_world.specs.Sights.{rows_by, sight_of}
use Rattle.au_world.proofs.Members.{mapped_to}
use Rattle.au_world.proofs.Numbered.{view_apart}
use Rattle.au_world.proofs.UnderKey.{under_is_cut}

pub line_seen : (name : TableName) (laid seen : List Row) → ((row : Row) → (row.table ≡ name) × (row_at name row.number laid ≡ Some row.cells) → Contains seen row)
    → (line : Line) → row_at name line.0 laid ≡ Some line.1 → Contains (map contents_of seen) line
line_seen name laid seen stands line at =
    let row : Row = record { table = name; number = line.0; cells = line.1 } in
    mapped_to contents_of seen row (stands row (refl, at))

pub keyed_cut : ((a b : TableName) → same_table a b ≡ true → a ≡ b)
    → (world : World) (client : ClientNo) (session : Session) (conditions : List Placed) (names : List TableName) (place : ℕ) (name : TableName) (key : List Cell)
    → IsTrue (are_in_order (laid_over world.desk.now.rows (open_of world.desk.now client)))
    → ((row : Row) → Contains (view world.desk.now.rows (open_of world.desk.now client) name) row ↔ ((row.table ≡ name) × (row_at name row.number (laid_over world.desk.now.rows (open_of world.desk.now client)) ≡ Some row.cells)))
    → KeysDiffer (key_of name world.desk.now.tables) name (laid_over world.desk.now.rows (open_of world.desk.now client))
    → IsKeyFixed session conditions names place world.desk.now.tables name key
    → (source : Source) → source.table ≡ name → AreUnder world.desk.now client name key (rows_of source)
    → IsCut session conditions names place (seen_of (sight_of world client) name) (told_by source)
keyed_cut same world client session conditions names place name key ordered viewed differ fixed source table under =
    let desk = world.desk.now in
    let laid = laid_over desk.rows (open_of desk client) in
    let seen = view desk.rows (open_of desk client) name in
    subst (λ (lines : List Line). IsCut session conditions names place (name, lines) (told_by source)) (sym (ap (rows_by (sight_of world client) name) fixed.created))
    (under_is_cut session conditions names place name (key_of name desk.tables) key laid seen (λ row has. ((viewed row).0 has).1)
    (λ line at. line_seen name laid seen (λ row. (viewed row).1) line at) (view_apart same name laid ordered) differ fixed.alone (told_by source) table under)
