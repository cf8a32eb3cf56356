-- The keys of the tables that are open for rows.
use Rattle.std.proofs.Common.{◌≡◌, ◌≢◌, ◌∙◌, ◌⊎◌, inl, inr, ℕ, zero, suc, ◌<◌, Bool, true, false, List, [], ◌∷◌, length, map, refl, sym, ap, ap₂, subst, arith}
use Rattle.std.specs.Prelude.{IsTrue, ◌||◌, Option, Some, None, if◌then◌else◌}
use Rattle.std.specs.List.{Contains, list_all, list_any, slice_get, slice_index}
use Rattle.std.specs.Option.{unwrap_or}
use Rattle.std.specs.Str.{bytes_eq}
use Rattle.std.proofs.lemmas.Bool.{and_from, and_parts}
use Rattle.std.proofs.lemmas.Option.{unwrap_or-slice_get}
use Rattle.std.proofs.lemmas.Slice.Eq.{bytes_eq-Decides}
use Rattle.au_base.specs.Order.{fields_before, is_in_order}
use Rattle.au_base.specs.OrderLaws.{fields_irreflexive}
use Rattle.au_base.specs.Sameness.{same_table}
use Rattle.au_base.specs.declared.cell.Cell.{Cell}
use Rattle.au_base.specs.declared.cell.Cell.TheVariants.{Null}
use Rattle.au_base.specs.declared.numbers.RowNo.{RowNo}
use Rattle.au_base.specs.declared.table.TableName.{TableName}
use Rattle.au_entries.specs.declared.kept.Kept.{Kept}
use Rattle.au_entries.specs.declared.table.Table.{Table}
use Rattle.au_entries.specs.Changing.{KeptRow, table_fields}
use Rattle.au_entries.specs.Lawful as lawful
use Rattle.au_entries.specs.Replaying.{IsKeptTable}
use Rattle.au_image.specs.Image.{open_table}
use Rattle.au_kept.proofs.Written.{same_name}
use Rattle.au_rows.specs.Held.{HasKey}
use Rattle.au_txn.specs.Desks.{key_of}
use Rattle.au_txn.specs.Keys.{KeysDiffer}
use Rattle.au_txn.specs.Rows.{Row, row_at, triple_of}

here : {X : Type 0} (x : X) (xs : List X) → Contains (x ∷ xs) x
here x xs = (0, omega arith, refl)

there : {X : Type 0} (y : X) (xs : List X) (x : X) → Contains xs x → Contains (y ∷ xs) x
there y xs x (k, within, is) = (suc k, omega arith, is)

pub split : {X : Type 0} (y : X) (xs : List X) (x : X) → Contains (y ∷ xs) x → (y ≡ x) ⊎ Contains xs x
split y xs x (zero, within, is) = inl is
split y xs x (suc k, within, is) = inr (k, omega arith, is)

pub none : {X : Type 0} (x : X) → Contains {X = X} [] x → ⊥
none x (k, within, is) = omega arith

self_same : (t : TableName) → same_table t t ≡ true
self_same t = and_from (bytes_eq t.owner t.owner) (bytes_eq t.name t.name) ((bytes_eq-Decides t.owner t.owner).1 refl) ((bytes_eq-Decides t.name t.name).1 refl)

-- a table that is kept is found by its name
pub found : (tables : List Table) (t : Table) (name : TableName) → Contains tables t → t.name ≡ name → list_any (λ (other : Table). same_table other.name name) tables ≡ true
found [] t name has is = absurd (none t has)
found (x ∷ xs) t name has is = elim (split x xs t has) [
  | inl same ↦ ap (λ (b : Bool). b || list_any (λ (other : Table). same_table other.name name) xs) (subst (λ (n : TableName). same_table n name ≡ true) (sym (ap (λ (y : Table). y.name) same ∙ is)) (self_same name))
  | inr later ↦ joined (same_table x.name name) _ (found xs t name later is)
]
  where
    joined : (a b : Bool) → b ≡ true → (a || b) ≡ true
    joined true b is = refl
    joined false b is = is

before_all : (x : Table) (xs : List Table) (t : Table) → list_all (fields_before (table_fields x.name)) (map (λ (other : Table). table_fields other.name) xs) ≡ true → Contains xs t → fields_before (table_fields x.name) (table_fields t.name) ≡ true
before_all x [] t all has = absurd (none t has)
before_all x (y ∷ ys) t all has = elim (split y ys t has) [
  | inl same ↦ subst (λ (other : Table). fields_before (table_fields x.name) (table_fields other.name) ≡ true) same (and_parts (fields_before (table_fields x.name) (table_fields y.name)) _ all).0
  | inr later ↦ before_all x ys t (and_parts (fields_before (table_fields x.name) (table_fields y.name)) _ all).1 later
]

key_other : (x t : Table) (rest : List ℕ) (b : Bool) → same_table x.name t.name ≡ b → fields_before (table_fields x.name) (table_fields t.name) ≡ true → rest ≡ t.key → (if b then x.key else rest) ≡ t.key
key_other x t rest true is before more =
    absurd (let e : true ≡ false = sym (subst (λ (n : TableName). fields_before (table_fields n) (table_fields t.name) ≡ true) (same_name x.name t.name is) before) ∙ fields_irreflexive (table_fields t.name) in cc)
key_other x t rest false is before more = more

-- each table that is kept is open with its key
pub keyed_open : (tables : List Table) → IsTrue (is_in_order fields_before (map (λ (t : Table). table_fields t.name) tables)) → (t : Table) → Contains tables t → key_of t.name (map open_table tables) ≡ t.key
keyed_open [] ordered t has = absurd (none t has)
keyed_open (x ∷ xs) ordered t has =
    let parts = and_parts (list_all (fields_before (table_fields x.name)) (map (λ (other : Table). table_fields other.name) xs)) (is_in_order fields_before (map (λ (other : Table). table_fields other.name) xs)) ordered in
    elim (split x xs t has) [
      | inl same ↦ (
          ap (λ (b : Bool). if b then x.key else key_of t.name (map open_table xs)) (subst (λ (n : TableName). same_table n t.name ≡ true) (sym (ap (λ (y : Table). y.name) same)) (self_same t.name))
          ∙ ap (λ (y : Table). y.key) same)
      | inr later ↦ key_other x t _ (same_table x.name t.name) refl (before_all x xs t parts.0 later) (keyed_open xs parts.1 t later)
    ]

-- ---- keys that differ in what is kept differ on the desk

-- a table's key on the desk is none, or that of a table that is kept
IsKeyFrom : TableName → List Table → List ℕ → Type 0
IsKeyFrom name tables key = (key ≡ []) ⊎ ((t : Table) × Contains tables t × (t.name ≡ name) × (key ≡ t.key))

key_from_at : (name : TableName) (x : Table) (xs : List Table) (rest : List ℕ) (b : Bool) → same_table x.name name ≡ b → IsKeyFrom name xs rest → IsKeyFrom name (x ∷ xs) (if b then x.key else rest)
unfolding IsKeyFrom
key_from_at name x xs rest true is more = inr (x, here x xs, same_name x.name name is, refl)
key_from_at name x xs rest false is (inl empty) = inl empty
key_from_at name x xs rest false is (inr (t, has, named, same)) = inr (t, there x xs t has, named, same)

key_from : (name : TableName) (tables : List Table) → IsKeyFrom name tables (key_of name (map open_table tables))
unfolding IsKeyFrom
key_from name [] = inl refl
key_from name (x ∷ xs) = key_from_at name x xs _ (same_table x.name name) refl (key_from name xs)

-- cells that have one key have the same cells at its places
keys_same : (places : List ℕ) (a b : List Cell) → ((at : ℕ) → at < length places → slice_get a (slice_index places at) ≡ slice_get b (slice_index places at)) → lawful.key_of places a ≡ lawful.key_of places b
keys_same [] a b same = refl
keys_same (place ∷ places) a b same =
    ap₂ (λ (c : Cell) (cs : List Cell). c ∷ cs)
    (sym (unwrap_or-slice_get a place Null) ∙ ap (λ (o : Option Cell). unwrap_or o Null) (same 0 (omega arith)) ∙ unwrap_or-slice_get b place Null)
    (keys_same places a b (λ at within. same (suc at) (omega arith)))

-- a row that has a key is there
HasCells : List ℕ → List Cell → Option (List Cell) → Type 0
HasCells places key content = (cells : List Cell) × (content ≡ Some cells) × HasKey places key (Some cells)

cells_of : (places : List ℕ) (key : List Cell) (content : Option (List Cell)) → HasKey places key content → HasCells places key content
unfolding HasCells
cells_of places key None has = absurd has
cells_of places key (Some cells) has = (cells, refl, has)

has_triple : (rows : List Row) (row : Row) → Contains rows row → Contains (map triple_of rows) (triple_of row)
has_triple [] row has = absurd (none row has)
has_triple (x ∷ xs) row has = elim (split x xs row has) [
  | inl same ↦ subst (λ (r : Row). Contains (map triple_of (x ∷ xs)) (triple_of r)) same (here (triple_of x) (map triple_of xs))
  | inr later ↦ there (triple_of x) (map triple_of xs) (triple_of row) (has_triple xs row later)
]

abbrev There : Type 0
There = (rows : List Row) (row : Row) → row_at row.table row.number rows ≡ Some row.cells → Contains rows row

differ_by : (places : List ℕ) (table : TableName) (rows : List Row)
    → (places ≢ [] → (m n : RowNo) (key : List Cell) → HasKey places key (row_at table m rows) → HasKey places key (row_at table n rows) → m ≡ n) → KeysDiffer places table rows
differ_by [] table rows each = tt
differ_by (place ∷ places) table rows each = each (λ e. let no : place ∷ places ≡ [] = e in cc)

one_row : There → (kept : Kept) (rows : List Row) → kept.rows ≡ map triple_of rows → lawful.KeysDiffer kept → (table : TableName) (t : Table) → IsKeptTable kept table t → t.key ≢ []
    → (m n : RowNo) (key : List Cell) → HasKey t.key key (row_at table m rows) → HasKey t.key key (row_at table n rows) → m ≡ n
unfolding HasCells
one_row there_law kept rows same keys table t is keyed m n key first second =
    let (a, a_is, a_key) = cells_of t.key key (row_at table m rows) first in
    let (b, b_is, b_key) = cells_of t.key key (row_at table n rows) second in
    let one : KeptRow = (table, m, a) in
    let two : KeptRow = (table, n, b) in
    let has_one : Contains kept.rows one = subst (λ (rs : List KeptRow). Contains rs one) (sym same) (has_triple rows (record { table = table; number = m; cells = a }) (there_law rows (record { table = table; number = m; cells = a }) a_is)) in
    let has_two : Contains kept.rows two = subst (λ (rs : List KeptRow). Contains rs two) (sym same) (has_triple rows (record { table = table; number = n; cells = b }) (there_law rows (record { table = table; number = n; cells = b }) b_is)) in
    keys one two t has_one has_two is refl keyed (keys_same t.key a b (λ at within. a_key.1 at within ∙ sym (b_key.1 at within)))

pub keys_differ : There → (kept : Kept) (rows : List Row) → kept.rows ≡ map triple_of rows → lawful.KeysDiffer kept → (table : TableName) → KeysDiffer (key_of table (map open_table kept.tables)) table rows
unfolding IsKeyFrom
keys_differ there_law kept rows same keys table = differ_by (key_of table (map open_table kept.tables)) table rows (λ some. elim (key_from table kept.tables) [
  | inl empty ↦ absurd (some empty)
  | inr (t, has, named, key_is) ↦ (
      subst (λ (places : List ℕ). (m n : RowNo) (key : List Cell) → HasKey places key (row_at table m rows) → HasKey places key (row_at table n rows) → m ≡ n) (sym key_is)
      (one_row there_law kept rows same keys table t (has, named) (λ e. some (key_is ∙ e))))
])
