-- How the tables that are open for rows go with those of the catalogue.
use Rattle.std.proofs.Common.{◌≡◌, ◌≢◌, ◌∙◌, ℕ, ◌+◌, ◌≤◌, Bool, true, false, not, cond, List, [], ◌∷◌, ◌++◌, length, map, refl, sym, ap, ap₂, subst, arith}
use Rattle.std.specs.Prelude.{◌==◌, ◌||◌, Option, Some, None, if◌then◌else◌}
use Rattle.std.specs.List.{AllByRecursion, filter, filter_map, list_any}
use Rattle.std.specs.declared.cmp.Ordering.{Ordering}
use Rattle.std.specs.declared.cmp.Ordering.TheVariants.{Less, Equal, Greater}
use Rattle.std.specs.Ordering.{is_eq, is_gt, is_lt, nat_cmp, ordering_then}
use Rattle.std.specs.Cmp.Lexicographic.{slice_cmp}
use Rattle.std.specs.Str.{bytes_eq}
use Rattle.std.proofs.lemmas.Bool.{and_from}
use Rattle.std.proofs.lemmas.Bool.Decides.{nat_tests}
use Rattle.std.proofs.lemmas.List.{map-append}
use Rattle.std.proofs.lemmas.Map.Text.{is_eq-slice_cmp}
use Rattle.std.proofs.Math.Path.{subst₂}
use Rattle.au_base.specs.declared.numbers.ClientNo.{ClientNo}
use Rattle.au_base.specs.declared.table.TableName.{TableName}
use Rattle.au_base.specs.Order.{placed}
use Rattle.au_base.specs.Sameness.{same_table}
use Rattle.au_entries.specs.declared.table.Table.{Table}
use Rattle.au_entries.specs.declared.change.Change.{Change}
use Rattle.au_entries.specs.declared.change.Change.TheVariants as change
use Rattle.au_entries.specs.declared.kept.Kept.{Kept}
use Rattle.au_entries.specs.Changing.{by_fields, changed_all, put_in_order, table_fields}
use Rattle.au_entries.specs.Replaying.{AllGoOn, Conditions, has_table}
use Rattle.au_image.specs.Image.{open_table}
use Rattle.au_kept.specs.declared.staged.TableEdit.{TableEdit}
use Rattle.au_kept.specs.declared.staged.TableEdit.TheVariants.{Open, Close}
use Rattle.au_kept.specs.Staging.{IsFree, opened_count, table_edit}
use Rattle.au_kept.specs.descent.Tabling.{CanEdit, left_open, tables_edited_all}
use Rattle.au_rows.specs.declared.table.Table.{Table as OpenTable}
use Rattle.au_txn.specs.declared.change.RowChange.{RowChange}
use Rattle.au_txn.specs.Desks.{Contents as Desk, has_name, is_open, open_in, open_of, table_before}
use Rattle.au_txn.specs.Logs.{Changes}
use Rattle.au_txn.specs.Transactions.{names_table}

-- ---- edits

-- the edits that may still be made after one
pub can_go : (desk next : Desk) (edits : List TableEdit) (tables : List OpenTable) → next.logs ≡ desk.logs → next.laid ≡ desk.laid → next.tables ≡ tables → CanEdit (open_of desk) edits tables → CanEdit (open_of next) edits next.tables
can_go desk next edits tables logs laid same can =
    subst (λ (ts : List OpenTable). CanEdit (open_of next) edits ts) (sym same)
    (subst₂ (λ (l : List RowChange) (ls : List Changes). CanEdit (λ client. open_in l ls client) edits tables) (sym laid) (sym logs) can)

pub opened_more : (edit : TableEdit) (rest : List TableEdit) → opened_count (edit ∷ rest) ≡ opened_count (edit ∷ []) + opened_count rest
opened_more (Open name key) rest = omega arith
opened_more (Close name) rest = omega arith

pub opened_first : (edit : TableEdit) (rest : List TableEdit) (spare : ℕ) → opened_count (edit ∷ rest) ≤ spare → opened_count (edit ∷ []) ≤ spare
opened_first edit rest spare fits = let more = opened_more edit rest in omega arith

-- ---- a new table stands where the catalogue has it

then_equal : (a b : Ordering) → ordering_then a b ≡ Equal → (a ≡ Equal) × (b ≡ Equal)
then_equal Less b e = absurd (let no : Less ≡ Equal = e in cc)
then_equal Equal b e = (refl, e)
then_equal Greater b e = absurd (let no : Greater ≡ Equal = e in cc)

same_text : (a b : List ℕ) → slice_cmp nat_cmp a b ≡ Equal → bytes_eq a b ≡ true
same_text a b e = sym (is_eq-slice_cmp a b) ∙ ap is_eq e

same_at : (a b : TableName) → by_fields (table_fields a) (table_fields b) ≡ Equal → same_table a b ≡ true
same_at a b e =
    let one = then_equal (slice_cmp nat_cmp a.owner b.owner) _ e in
    let two = then_equal (slice_cmp nat_cmp a.name b.name) _ one.1 in
    and_from (bytes_eq a.owner b.owner) (bytes_eq a.name b.name) (same_text a.owner b.owner one.0) (same_text a.name b.name two.0)

behind_at : (o : Ordering) → (o ≡ Equal → ⊥) → not (is_lt o) ≡ is_gt o
behind_at Less apart = refl
behind_at Equal apart = absurd (apart refl)
behind_at Greater apart = refl

map_kept_at : (b : Bool) (t : Table) (left : List Table) (rest : List OpenTable) → rest ≡ map open_table left → cond b (open_table t ∷ rest) rest ≡ map open_table (cond b (t ∷ left) left)
map_kept_at true t left rest same = ap (λ (ts : List OpenTable). open_table t ∷ ts) same
map_kept_at false t left rest same = same

-- the tables that a test keeps, opened
pub kept_open : (test : OpenTable → Bool) (tables : List Table) → filter test (map open_table tables) ≡ map open_table (filter (λ (t : Table). test (open_table t)) tables)
kept_open test [] = refl
kept_open test (t ∷ tables) = map_kept_at (test (open_table t)) t (filter (λ (other : Table). test (open_table other)) tables) _ (kept_open test tables)

filters_same : (p q : Table → Bool) (tables : List Table) → AllByRecursion (λ (t : Table). p t ≡ q t) tables → filter p tables ≡ filter q tables
filters_same p q [] all = refl
filters_same p q (t ∷ tables) all = ap₂ (λ (b : Bool) (ts : List Table). cond b (t ∷ ts) ts) all.0 (filters_same p q tables all.1)

abbrev IsBehind : TableName → Table → Type 0
IsBehind name t = not (is_lt (by_fields (table_fields t.name) (table_fields name))) ≡ is_gt (by_fields (table_fields t.name) (table_fields name))

none_at : (name : TableName) (t : Table) (tables : List Table) (b : Bool) → same_table t.name name ≡ b → (list_any (λ (other : Table). same_table other.name name) tables ≡ false → AllByRecursion (IsBehind name) tables)
    → (b || list_any (λ (other : Table). same_table other.name name) tables) ≡ false → AllByRecursion (IsBehind name) (t ∷ tables)
none_at name t tables true is more = λ absent. absurd (let e : true ≡ false = absent in cc)
none_at name t tables false is more = λ absent.
    (behind_at (by_fields (table_fields t.name) (table_fields name)) (λ e. let same = same_at t.name name e in let clash : true ≡ false = sym same ∙ is in cc), more absent)

none_same : (name : TableName) (tables : List Table) → list_any (λ (t : Table). same_table t.name name) tables ≡ false → AllByRecursion (IsBehind name) tables
none_same name [] none = tt
none_same name (t ∷ tables) none = none_at name t tables (same_table t.name name) refl (none_same name tables) none

pub opened_placed : (table : Table) (tables : List Table) → list_any (λ (t : Table). same_table t.name table.name) tables ≡ false
    → placed table_before (open_table table) (map open_table tables) ≡ map open_table (put_in_order (λ (other : Table). by_fields (table_fields other.name) (table_fields table.name)) table tables)
opened_placed table tables new =
    ap₂ (λ (front behind : List OpenTable). front ++ open_table table ∷ behind)
    (kept_open (λ (other : OpenTable). table_before other (open_table table)) tables)
    (kept_open (λ (other : OpenTable). not (table_before other (open_table table))) tables
    ∙ ap (map open_table) (filters_same _ (λ (other : Table). is_gt (by_fields (table_fields other.name) (table_fields table.name))) tables (none_same table.name tables new)))
    ∙ sym (map-append open_table (filter (λ (other : Table). is_lt (by_fields (table_fields other.name) (table_fields table.name))) tables) _)

-- a table is open exactly where the catalogue has it
pub open_there : (name : TableName) (tables : List Table) → is_open name (map open_table tables) ≡ list_any (λ (t : Table). same_table t.name name) tables
open_there name [] = refl
open_there name (t ∷ tables) = ap (λ (b : Bool). same_table t.name name || b) (open_there name tables)

-- ---- edits of changes

can_moved : (T U : ClientNo → List RowChange) → ((client : ClientNo) → U client ≡ T client) → (edits : List TableEdit) (tables : List OpenTable) → CanEdit T edits tables → CanEdit U edits tables
can_moved T U same [] tables can = tt
can_moved T U same (Open name key ∷ edits) tables can = (can.0, can_moved T U same edits _ can.1)
can_moved T U same (Close name ∷ edits) tables can = ((can.0.0, λ client. ap (names_table name) (same client) ∙ can.0.1 client), can_moved T U same edits _ can.1)

-- the edits that may be made once a client has committed
pub can_behind : (commits : Option ClientNo) (desk next : Desk) (edits : List TableEdit) → ((client : ClientNo) → open_of next client ≡ left_open commits desk client) → next.tables ≡ desk.tables
    → CanEdit (left_open commits desk) edits desk.tables → CanEdit (open_of next) edits next.tables
can_behind commits desk next edits same tables can =
    can_moved (left_open commits desk) (open_of next) same edits next.tables (subst (λ (ts : List OpenTable). CanEdit (left_open commits desk) edits ts) (sym tables) can)

number_self : (n : ℕ) → (n == n) ≡ true
number_self n = grind (arith, nat_tests)

abbrev number_of_some : Option ClientNo → ℕ
number_of_some None = 0
number_of_some (Some c) = c.0

pub apart_from : (committed client : ClientNo) → (client.0 == committed.0) ≡ false → Some committed ≡ Some client → ⊥
apart_from committed client is e =
    let same : committed.0 ≡ client.0 = ap number_of_some e in
    let no : true ≡ false = sym (subst (λ (n : ℕ). (client.0 == n) ≡ true) (sym same) (number_self client.0)) ∙ is in cc

left_at : (desk : Desk) (table : TableName) (committed client : ClientNo) (b : Bool) → (client.0 == committed.0) ≡ b → (Some committed ≢ Some client → names_table table (open_of desk client) ≡ false)
    → names_table table (if b then [] else open_of desk client) ≡ false
left_at desk table committed client true is free = refl
left_at desk table committed client false is free = free (apart_from committed client is)

left_free : (commits : Option ClientNo) (desk : Desk) (table : TableName) → ((client : ClientNo) → commits ≢ Some client → names_table table (open_of desk client) ≡ false)
    → (client : ClientNo) → names_table table (left_open commits desk client) ≡ false
left_free None desk table free client = free client (λ e. let no : None ≡ Some client = e in cc)
left_free (Some committed) desk table free client = left_at desk table committed client (client.0 == committed.0) refl (free client)

pub not_false : (b : Bool) → not b ≡ true → b ≡ false
not_false true is = absurd (let e : false ≡ true = is in cc)
not_false false is = refl

pub can_edit : (conditions : Conditions) (image : Bool) (commits : Option ClientNo) (desk : Desk) (changes : List Change) (kept : Kept)
    → AllGoOn conditions image kept changes → AllByRecursion (IsFree commits desk) changes → CanEdit (left_open commits desk) (filter_map table_edit changes) (map open_table kept.tables)
can_edit conditions image commits desk [] kept goes free = tt
can_edit conditions image commits desk (change.Table name columns key ∷ changes) kept goes free =
    let new = not_false (has_table kept name) goes.0.0 in (
      open_there name kept.tables ∙ new,
      subst (λ (ts : List OpenTable). CanEdit (left_open commits desk) (filter_map table_edit changes) ts) (sym (opened_placed (record { name = name; columns = columns; key = key }) kept.tables new))
          (can_edit conditions image commits desk changes _ goes.1 free.1),
    )
can_edit conditions image commits desk (change.TableGone name ∷ changes) kept goes free = (
  (open_there name kept.tables ∙ goes.0, left_free commits desk name free.0),
  subst (λ (ts : List OpenTable). CanEdit (left_open commits desk) (filter_map table_edit changes) ts) (sym (kept_open (λ (other : OpenTable). not (has_name name other)) kept.tables))
      (can_edit conditions image commits desk changes _ goes.1 free.1),
)
can_edit conditions image commits desk (_ ∷ changes) kept goes free = can_edit conditions image commits desk changes _ goes.1 free.1

pub tables_follow : (conditions : Conditions) (image : Bool) (changes : List Change) (kept : Kept) → AllGoOn conditions image kept changes
    → tables_edited_all (filter_map table_edit changes) (map open_table kept.tables) ≡ map open_table (changed_all conditions.tree changes kept).tables
tables_follow conditions image [] kept goes = refl
tables_follow conditions image (change.Table name columns key ∷ changes) kept goes =
    ap (tables_edited_all (filter_map table_edit changes)) (opened_placed (record { name = name; columns = columns; key = key }) kept.tables (not_false (has_table kept name) goes.0.0))
    ∙ tables_follow conditions image changes _ goes.1
tables_follow conditions image (change.TableGone name ∷ changes) kept goes =
    ap (tables_edited_all (filter_map table_edit changes)) (kept_open (λ (other : OpenTable). not (has_name name other)) kept.tables) ∙ tables_follow conditions image changes _ goes.1
tables_follow conditions image (_ ∷ changes) kept goes = tables_follow conditions image changes _ goes.1

pub opened_few : (edits : List TableEdit) → opened_count edits ≤ length edits
opened_few [] = omega arith
opened_few (Open name key ∷ edits) = let more = opened_few edits in omega arith
opened_few (Close name ∷ edits) = let more = opened_few edits in omega arith
