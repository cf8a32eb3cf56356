-- Rows that are laid on a desk on which no client has changes.
use Rattle.std.proofs.Common.{◌≡◌, ◌≢◌, ◌∙◌, ◌⊎◌, inl, inr, ℕ, ◌≤◌, Bool, true, false, List, [], ◌∷◌, map, refl, sym, ap, subst, arith}
use Rattle.std.specs.Prelude.{◌==◌, ◌||◌, IsSome, IsTrue, Option, Some, if◌then◌else◌}
use Rattle.std.specs.List.{AllByRecursion, Contains, list_any}
use Rattle.std.proofs.lemmas.Bool.Decides.{nat_tests}
use Rattle.au_base.specs.declared.cell.Cell.{Cell}
use Rattle.au_base.specs.declared.numbers.ClientNo.{ClientNo}
use Rattle.au_base.specs.declared.numbers.RowNo.{RowNo}
use Rattle.au_base.specs.declared.table.TableName.{TableName}
use Rattle.au_entries.specs.Changing.{is_row}
use Rattle.au_image.specs.Image.{kept_rows}
use Rattle.au_kept.specs.descent.Laying.{IsAlone}
use Rattle.au_kept.proofs.OpenKeys.{none, split}
use Rattle.au_kept.proofs.Written.{open_lists}
use Rattle.au_replay.specs.Sights.{rows_of, rows_seen}
use Rattle.au_txn.specs.declared.change.RowChange.{RowChange}
use Rattle.au_txn.specs.Desks.{Contents as Desk, is_open, open_of, replayer}
use Rattle.au_txn.specs.Logs.{changes_of}
use Rattle.au_txn.specs.Rows.{Row, row_at, triple_of}
use Rattle.au_txn.specs.Rows as txn
use Rattle.au_txn.specs.Transactions.{laid_over}

-- where nothing is laid either, the rows that are seen are the committed ones
pub seen_bare : (desk : Desk) → desk.laid ≡ [] → IsAlone desk → rows_seen desk ≡ kept_rows desk
seen_bare desk bare alone = ap (λ (changes : List RowChange). rows_of (laid_over desk.rows changes)) (open_lists desk bare replayer ∙ alone replayer)

pub none_open : (desk : Desk) → desk.laid ≡ [] → IsAlone desk → (client : ClientNo) → open_of desk client ≡ []
none_open desk bare alone client = open_lists desk bare client ∙ alone client

-- no client has changes still
client_is : (a : ClientNo) → (a.0 == 0) ≡ true → replayer ≡ a
client_is a is = let e : 0 ≡ a.0 = grind (arith, nat_tests) in ap (λ (n : ℕ). let c : ClientNo = record { 0 = n } in c) e

apart_at : (a : ClientNo) → (a.0 == 0) ≡ false → a.0 ≢ 0
apart_at a is same = grind (arith, nat_tests)

alone_at : (desk next : Desk) (client : ClientNo) (b : Bool) → (client.0 == 0) ≡ b → IsAlone desk → changes_of replayer next.logs ≡ [] → ((q : ClientNo) → q.0 ≢ 0 → changes_of q next.logs ≡ changes_of q desk.logs) → changes_of client next.logs ≡ []
alone_at desk next client true is alone listed lists = subst (λ (q : ClientNo). changes_of q next.logs ≡ []) (client_is client is) listed
alone_at desk next client false is alone listed lists = lists client (apart_at client is) ∙ alone client

pub alone_still : (desk next : Desk) → IsAlone desk → changes_of replayer next.logs ≡ [] → ((q : ClientNo) → q.0 ≢ 0 → changes_of q next.logs ≡ changes_of q desk.logs) → IsAlone next
alone_still desk next alone listed lists client = alone_at desk next client (client.0 == 0) refl alone listed lists

-- ---- a row that is seen is there

abbrev HasCells : Option (List Cell) → Type 0
HasCells content = (cells : List Cell) × (content ≡ Some cells)

found_at : (b : Bool) (any : Bool) (cells : List Cell) (rest : Option (List Cell)) → (b || any) ≡ true → (any ≡ true → HasCells rest) → HasCells (if b then Some cells else rest)
found_at true any cells rest has more = (cells, refl)
found_at false any cells rest has more = more has

row_found : (table : TableName) (number : RowNo) (rows : List Row) → list_any (is_row table number) (map triple_of rows) ≡ true → HasCells (row_at table number rows)
row_found table number [] has = absurd (let e : false ≡ true = has in cc)
row_found table number (row ∷ rows) has = found_at (txn.is_row table number row) _ row.cells (row_at table number rows) has (row_found table number rows)

all_at : {X : Type 0} (P : X → Type 0) (xs : List X) (x : X) → AllByRecursion P xs → Contains xs x → P x
all_at P [] x all has = absurd (none x has)
all_at P (y ∷ ys) x all has = elim (split y ys x has) [
  | inl same ↦ subst P same all.0
  | inr later ↦ all_at P ys x all.1 later
]

-- what the laws of rows say
pub record RowLaws : Type 0 where
  pub there : (rows : List Row) (row : Row) → row_at row.table row.number rows ≡ Some row.cells → Contains rows row
  pub laid : (rows : List Row) (changes : List RowChange) (row : Row) → Contains (laid_over rows changes) row
      → Contains rows row ⊎ ((change : RowChange) × Contains changes change × (change.table ≡ row.table) × (change.row ≡ row.number) × (change.new ≡ Some row.cells))

-- what holds of every desk
pub record DeskLaws (desk : Desk) : Type 0 where
  pub rows_open : (row : Row) → Contains desk.rows row → IsTrue (is_open row.table desk.tables) × (1 ≤ row.number.0)
  pub changes_open : (client : ClientNo) → AllByRecursion (λ (change : RowChange). IsTrue (is_open change.table desk.tables)) (open_of desk client)
  pub numbered : (client : ClientNo) → AllByRecursion (λ (change : RowChange). 1 ≤ change.row.0) (open_of desk client)

pub record IsThere (desk : Desk) (table : TableName) (number : RowNo) : Type 0 where
  pub opened : IsTrue (is_open table desk.tables)
  pub numbered : 1 ≤ number.0
  pub content : IsSome (row_at table number (laid_over desk.rows (open_of desk replayer)))

some_is : (content : Option (List Cell)) → HasCells content → IsSome content
some_is content (cells, is) = subst IsSome (sym is) refl

pub gone_there : RowLaws → (desk : Desk) → DeskLaws desk → (table : TableName) (number : RowNo) → list_any (is_row table number) (rows_seen desk) ≡ true → IsThere desk table number
gone_there laws desk holds table number has =
    let (cells, is) = row_found table number (laid_over desk.rows (open_of desk replayer)) has in
    let row : Row = record { table = table; number = number; cells = cells } in
    let content = some_is (row_at table number (laid_over desk.rows (open_of desk replayer))) (cells, is) in
    elim (laws.laid desk.rows (open_of desk replayer) row (laws.there (laid_over desk.rows (open_of desk replayer)) row is)) [
      | inl stands ↦ (let parts = holds.rows_open row stands in record { opened = parts.0; numbered = parts.1; content = content })
      | inr (change, made, of, at, new) ↦ record {
        opened = subst (λ (t : TableName). IsTrue (is_open t desk.tables)) of (all_at (λ (c : RowChange). IsTrue (is_open c.table desk.tables)) (open_of desk replayer) change (holds.changes_open replayer) made);
        numbered = subst (λ (n : RowNo). 1 ≤ n.0) at (all_at (λ (c : RowChange). 1 ≤ c.row.0) (open_of desk replayer) change (holds.numbered replayer) made);
        content = content;
      }
    ]
