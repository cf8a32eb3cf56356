-- The discipline of keys, of desks.
use Rattle.std.proofs.Common.{◌≡◌, ◌≢◌, ◌∙◌, ◌⊎◌, inl, inr, Bool, true, false, not, cond, ◌||◌, ℕ, List, [], ◌∷◌, ◌++◌, filter, refl, sym, ap, ap₂, subst, Option, None, Some}
use Rattle.std.specs.Prelude.{IsTrue}
use Rattle.std.specs.List.{AllByRecursion, Contains}
use Rattle.au_base.specs.declared.cell.Cell.{Cell}
use Rattle.au_base.specs.declared.numbers.ClientNo.{ClientNo}
use Rattle.au_base.specs.declared.numbers.RowNo.{RowNo}
use Rattle.au_base.specs.declared.table.TableName.{TableName}
use Rattle.au_base.specs.Order.{fields_before, placed}
use Rattle.au_base.specs.Sameness.{same_table}
use Rattle.au_rows.specs.declared.table.Table.{Table}
use Rattle.au_rows.specs.Held.{or_else}
use Rattle.au_txn.specs.declared.change.RowChange.{RowChange}
use Rattle.au_txn.specs.Desks.{Contents, has_name, is_open, key_of, open_of, table_before}
use Rattle.au_txn.specs.Keys.{ChangesOne, IsKeyed, IsKeyedDesk, KeysDiffer}
use Rattle.au_txn.specs.Rows.{Row, is_in, row_at}
use Rattle.au_txn.specs.Transactions.{AreFrom, IsKeyLocked, IsRowLocked, MakesKey, is_of_table, laid_over, names_row, names_table, rows_differ}
use Rattle.au_txn.proofs.KeysStay.{keyed-dropped, keyed-opened, keyed-quiet, keyed-settled, keyed-undone, keyed-written}
use Rattle.au_txn.proofs.Numbered.{has-contains}
use Rattle.au_txn.proofs.RowOrder.{row_at-filter, is_row-is, same_table-is, there}
use Rattle.au_txn.proofs.TableLemmas.{key-named, key_in, named_in}

-- the table of a name among joined and among filtered tables
named-append : (t : TableName) (xs ys : List Table) → named_in t (xs ++ ys) ≡ or_else (named_in t xs) (named_in t ys)
named-append t [] ys = refl
named-append t (x ∷ xs) ys = go (has_name t x) (named-append t xs ys)
  where
    go : (b : Bool) → named_in t (xs ++ ys) ≡ or_else (named_in t xs) (named_in t ys)
        → cond b (Some x) (named_in t (xs ++ ys)) ≡ or_else (cond b (Some x) (named_in t xs)) (named_in t ys)
    go true rest = refl
    go false rest = rest

module _ (t : TableName) (p : Table → Bool) (v : Bool) (says : (x : Table) → has_name t x ≡ true → p x ≡ v) where
  named-step : (x : Table) (xs : List Table) (b c : Bool) → has_name t x ≡ b → p x ≡ c → named_in t (filter p xs) ≡ cond v (named_in t xs) None
      → named_in t (cond c (x ∷ filter p xs) (filter p xs)) ≡ cond v (cond b (Some x) (named_in t xs)) None
  named-step x xs true true e f rest = let is : v ≡ true = sym (says x e) ∙ f in rw (e, is) refl
  named-step x xs true false f g rest = let is : v ≡ false = sym (says x f) ∙ g in rest ∙ (ap (λ w. cond w (named_in t xs) None) is ∙ sym (ap (λ w. cond w (Some x) None) is))
  named-step x xs false true e f rest = rw e rest
  named-step x xs false false e f rest = rest

  named-filter : (xs : List Table) → named_in t (filter p xs) ≡ cond v (named_in t xs) None
  named-filter [] = go v
    where
      go : (w : Bool) → None ≡ cond {A = Option Table} w None None
      go true = refl
      go false = refl
  named-filter (x ∷ xs) = named-step x xs (has_name t x) (p x) refl refl (named-filter xs)

shut-named : (t : TableName) (tables : List Table) → is_open t tables ≡ false → named_in t tables ≡ None
shut-named t [] shut = refl
shut-named t (x ∷ xs) shut = go (has_name t x) (is_open t xs) refl shut (shut-named t xs)
  where
    go : (a b : Bool) → is_open t xs ≡ b → (a || is_open t xs) ≡ false → (is_open t xs ≡ false → named_in t xs ≡ None) → cond a (Some x) (named_in t xs) ≡ None
    go true b e is rest = absurd (let wrong : true ≡ false = is in cc)
    go false b e is rest = rest is

-- the key of a name once a table has come
key-placed : (t : TableName) (new : Table) (tables : List Table) → has_name t new ≡ false → key_of t (placed table_before new tables) ≡ key_of t tables
key-placed t new tables other =
    key-named t (placed table_before new tables)
    ∙ (ap key_in (named-append t (filter (λ x. table_before x new) tables) (new ∷ filter (λ x. not (table_before x new)) tables)
    ∙ (ap₂ or_else front (ap (λ b. cond b (Some new) (named_in t (filter (λ x. not (table_before x new)) tables))) other ∙ back)
    ∙ joined v (named_in t tables)))
    ∙ sym (key-named t tables))
  where
    v : Bool
    v = fields_before (t.owner ∷ t.name ∷ []) (new.name.owner ∷ new.name.name ∷ [])

    says : (x : Table) → has_name t x ≡ true → table_before x new ≡ fields_before (t.owner ∷ t.name ∷ []) (new.name.owner ∷ new.name.name ∷ [])
    says x is = ap (λ (u : TableName). fields_before (u.owner ∷ u.name ∷ []) (new.name.owner ∷ new.name.name ∷ [])) (same_table-is x.name t is)

    front : named_in t (filter (λ x. table_before x new) tables) ≡ cond (fields_before (t.owner ∷ t.name ∷ []) (new.name.owner ∷ new.name.name ∷ [])) (named_in t tables) None
    front = named-filter t (λ x. table_before x new) (fields_before (t.owner ∷ t.name ∷ []) (new.name.owner ∷ new.name.name ∷ [])) says tables

    back : named_in t (filter (λ x. not (table_before x new)) tables) ≡ cond (not (fields_before (t.owner ∷ t.name ∷ []) (new.name.owner ∷ new.name.name ∷ []))) (named_in t tables) None
    back = named-filter t (λ x. not (table_before x new)) (not (fields_before (t.owner ∷ t.name ∷ []) (new.name.owner ∷ new.name.name ∷ []))) (λ x is. ap not (says x is)) tables

    joined : (w : Bool) (o : Option Table) → or_else (cond w o None) (cond (not w) o None) ≡ o
    joined true None = refl
    joined true (Some x) = refl
    joined false o = refl

-- and once one has gone
key-less : (t u : TableName) (tables : List Table) → same_table t u ≡ false → key_of t (filter (λ other. not (has_name u other)) tables) ≡ key_of t tables
key-less t u tables other =
    key-named t (filter (λ x. not (has_name u x)) tables)
    ∙ (ap key_in (named-filter t (λ x. not (has_name u x)) true (λ x is. ap not (ap (λ (y : TableName). same_table y u) (same_table-is x.name t is) ∙ other)) tables)
    ∙ sym (key-named t tables))

-- a table that isn't open has no row and no change
no-row : (t : TableName) (tables : List Table) (rows : List Row) → is_open t tables ≡ false → ((row : Row) → Contains rows row → is_open row.table tables ≡ true)
    → (n : RowNo) → row_at t n rows ≡ None
no-row t tables rows shut opened n = go (row_at t n rows) refl
  where
    go : (o : Option (List Cell)) → row_at t n rows ≡ o → row_at t n rows ≡ None
    go None e = e
    go (Some cells) e =
        let is = opened (record { table = t; number = n; cells = cells }) (has-contains rows (record { table = t; number = n; cells = cells }) (there t n cells rows e)) in
        absurd (let wrong : true ≡ false = sym is ∙ shut in cc)

no-change : (t : TableName) (tables : List Table) → is_open t tables ≡ false → (changes : List RowChange) → AllByRecursion (λ (change : RowChange). IsTrue (is_open change.table tables)) changes → names_table t changes ≡ false
no-change t tables shut [] opened = refl
no-change t tables shut (c ∷ cs) opened = go (is_of_table t c) refl (no-change t tables shut cs opened.1)
  where
    go : (b : Bool) → is_of_table t c ≡ b → names_table t cs ≡ false → (is_of_table t c || names_table t cs) ≡ false
    go false e rest = ap (λ b. b || names_table t cs) e ∙ rest
    go true e rest =
        let is : is_open t tables ≡ true = subst (λ u. is_open u tables ≡ true) (same_table-is c.table t e) opened.0 in
        absurd (let wrong : true ≡ false = sym is ∙ shut in cc)

-- a desk with the same tables, rows and changes
pub desk-same : (old new : Contents) (keys : TableName → List ℕ) → IsKeyed keys old.rows (open_of old) → new.rows ≡ old.rows → ((q : ClientNo) → open_of new q ≡ open_of old q)
    → IsKeyed keys new.rows (open_of new)
desk-same old new keys keyed rows changes =
    subst (λ (xs : List Row). IsKeyed keys xs (open_of new)) (sym rows) (subst (IsKeyed keys old.rows) (λ i q. sym (changes q) i) keyed)

pub desk-opened : (old new : Contents) (table : Table) → IsKeyedDesk old
    → ((row : Row) → Contains old.rows row → is_open row.table old.tables ≡ true)
    → ((client : ClientNo) → AllByRecursion (λ (change : RowChange). IsTrue (is_open change.table old.tables)) (open_of old client))
    → is_open table.name old.tables ≡ false → new.tables ≡ placed table_before table old.tables → new.rows ≡ old.rows → ((q : ClientNo) → open_of new q ≡ open_of old q) → IsKeyedDesk new
desk-opened old new table keyed rows-open changes-open shut tables rows changes =
    desk-same old new (λ t. key_of t new.tables)
    (subst (λ (ts : List Table). IsKeyed (λ t. key_of t ts) old.rows (open_of old)) (sym tables)
    (keyed-opened (λ t. key_of t old.tables) (λ t. key_of t (placed table_before table old.tables)) old.rows (open_of old) (λ t. either t (has_name t table) refl) keyed))
    rows changes
  where
    either : (t : TableName) (b : Bool) → has_name t table ≡ b
        → (key_of t (placed table_before table old.tables) ≡ key_of t old.tables) ⊎ (((n : RowNo) → row_at t n old.rows ≡ None) × ((c : ClientNo) → names_table t (open_of old c) ≡ false))
    either t false e = inl (key-placed t table old.tables e)
    either t true e =
        let closed : is_open t old.tables ≡ false = subst (λ u. is_open u old.tables ≡ false) (same_table-is table.name t e) shut in
        inr (no-row t old.tables old.rows closed rows-open, λ c. no-change t old.tables closed (open_of old c) (changes-open c))

pub desk-dropped : (old new : Contents) (table : TableName) → IsKeyedDesk old → ((client : ClientNo) → names_table table (open_of old client) ≡ false)
    → new.tables ≡ filter (λ other. not (has_name table other)) old.tables → new.rows ≡ filter (λ row. not (is_in table row)) old.rows
    → ((q : ClientNo) → open_of new q ≡ open_of old q) → IsKeyedDesk new
desk-dropped old new table keyed settled tables rows changes =
    subst (λ (ts : List Table). IsKeyed (λ t. key_of t ts) new.rows (open_of new)) (sym tables)
    (subst (λ (xs : List Row). IsKeyed (λ t. key_of t (filter (λ other. not (has_name table other)) old.tables)) xs (open_of new)) (sym rows)
    (subst (IsKeyed (λ t. key_of t (filter (λ other. not (has_name table other)) old.tables)) (filter (λ row. not (is_in table row)) old.rows)) (λ i q. sym (changes q) i)
    (keyed-opened (λ t. key_of t old.tables) (λ t. key_of t (filter (λ other. not (has_name table other)) old.tables)) (filter (λ row. not (is_in table row)) old.rows) (open_of old)
    (λ t. either t (same_table t table) refl)
    (keyed-dropped (λ t. key_of t old.tables) old.rows (open_of old) table settled keyed))))
  where
    either : (t : TableName) (b : Bool) → same_table t table ≡ b
        → (key_of t (filter (λ other. not (has_name table other)) old.tables) ≡ key_of t old.tables)
        ⊎ (((n : RowNo) → row_at t n (filter (λ row. not (is_in table row)) old.rows) ≡ None) × ((c : ClientNo) → names_table t (open_of old c) ≡ false))
    either t false e = inl (key-less t table old.tables e)
    either t true e = inr (
      (λ n. row_at-filter t n (λ row. not (is_in table row)) false (λ r is. ap not (ap (λ (x : TableName). same_table x table) (is_row-is t n r is).0 ∙ e)) old.rows),
      (λ c. subst (λ u. names_table u (open_of old c) ≡ false) (sym (same_table-is t table e)) (settled c)),
    )

-- where no client has changes
pub desk-quiet : (desk : Contents) → ((q : ClientNo) → open_of desk q ≡ []) → ((t : TableName) → KeysDiffer (key_of t desk.tables) t desk.rows) → IsKeyedDesk desk
desk-quiet desk none differ = keyed-quiet (λ t. key_of t desk.tables) desk.rows (open_of desk) none differ

-- and after what a client does
module _ (old new : Contents) (client : ClientNo) (keyed : IsKeyedDesk old) (tables : new.tables ≡ old.tables) where
  moved : (rows : List Row) → new.rows ≡ rows → IsKeyed (λ t. key_of t old.tables) rows (open_of new) → IsKeyedDesk new
  moved rows same after =
      subst (λ (xs : List Row). IsKeyed (λ t. key_of t new.tables) xs (open_of new)) (sym same)
      (subst (λ (ts : List Table). IsKeyed (λ t. key_of t ts) rows (open_of new)) (sym tables) after)

  pub desk-written : (changes : List RowChange) → AreFrom (laid_over old.rows (open_of old client)) changes → rows_differ changes ≡ true
      → ((t : TableName) → KeysDiffer (key_of t old.tables) t (laid_over old.rows (open_of old client ++ changes)))
      → ((t : TableName) (key : List Cell) → key_of t old.tables ≢ [] → MakesKey (key_of t old.tables) t key changes → IsKeyLocked (key_of t old.tables) (open_of old) client t key → ⊥)
      → ((t : TableName) (n : RowNo) → names_row t n changes ≡ true → IsRowLocked (open_of old) client t n → ⊥)
      → new.rows ≡ old.rows → ChangesOne client (open_of old client ++ changes) (open_of old) (open_of new) → IsKeyedDesk new
  desk-written changes from once differ unlocked free rows one =
      moved old.rows rows (keyed-written (λ t. key_of t old.tables) old.rows (open_of old) (open_of new) client keyed changes one from once differ unlocked free)

  pub desk-committed : new.rows ≡ laid_over old.rows (open_of old client) → ChangesOne client [] (open_of old) (open_of new) → IsKeyedDesk new
  desk-committed rows one =
      moved (laid_over old.rows (open_of old client)) rows (keyed-settled (λ t. key_of t old.tables) old.rows (open_of old) (open_of new) client keyed one)

  pub desk-undone : new.rows ≡ old.rows → ChangesOne client [] (open_of old) (open_of new) → IsKeyedDesk new
  desk-undone rows one = moved old.rows rows (keyed-undone (λ t. key_of t old.tables) old.rows (open_of old) (open_of new) client keyed one)
