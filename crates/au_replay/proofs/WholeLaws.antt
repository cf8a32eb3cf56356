-- What was whole before a frame is whole after it, where the frame leaves whole what it touches.
use Rattle.std.proofs.Common.{◌≡◌, ◌≢◌, ◌≤◌, ◌+◌, ◌==◌, ℕ, Bool, true, false, not, ◌&&◌, ◌||◌, inl, inr, cond, List, [], ◌∷◌, ◌++◌, length, refl, sym, ap, subst, ◌∙◌, arith}
use Rattle.std.specs.List.{Contains, filter, list_any}
use Rattle.std.specs.declared.cmp.Ordering.{Ordering}
use Rattle.std.specs.declared.cmp.Ordering.TheVariants.{Less, Equal, Greater}
use Rattle.std.specs.Ordering.{is_gt, is_lt}
use Rattle.std.proofs.lemmas.Bool.{and_from}
use Rattle.std.proofs.lemmas.Bool.Decides.{nat_tests}
use Rattle.au_base.specs.Limits.{TABLE_COLUMNS, TABLE_ROW_NUMBERS}
use Rattle.au_base.specs.Sameness.{same_table}
use Rattle.au_base.specs.declared.numbers.RowNo.{RowNo}
use Rattle.au_base.specs.declared.table.TableName.{TableName}
use Rattle.au_entries.specs.declared.change.Change.{Change}
use Rattle.au_entries.specs.declared.change.Change.TheVariants.{Table, TableGone, Put, Gone}
use Rattle.au_entries.specs.declared.kept.Kept.{Kept}
use Rattle.au_entries.specs.declared.table.Table.{Table as AnyTable}
use Rattle.au_entries.specs.Changing.{KeptRow, by_fields, changed, changed_all, put_in_order, row_fields, rows_after, table_fields, tables_after}
use Rattle.au_entries.specs.Lawful.{FitColumns, IsFounded, IsLawful, IsRowFounded, IsWhole, key_of}
use Rattle.au_entries.specs.Replaying.{AllGoOn, Conditions, GoesOn, IsKeptTable, has_table}
use Rattle.au_replay.specs.Touched.{IsWholeWhereTouched, makes_table, puts_into, puts_row, rows_in}
use Rattle.au_replay.proofs.Found.{same_table-is, same_table-to}
use Rattle.au_replay.proofs.Members.{all_at, all_of, any_to, here, kept as kept_of, put_cases, there}

-- the law that a change that goes on keeps what is kept lawful
abbrev pub KeepsLaws : Type 0
KeepsLaws = (conditions : Conditions) (image : Bool) (kept : Kept) (change : Change) → IsLawful conditions kept → GoesOn conditions image kept change → IsLawful conditions (changed conditions.tree change kept)

nat_same : (m n : ℕ) → m ≡ n → (m == n) ≡ true
nat_same m n same = grind (arith, nat_tests)

-- a test that no element passes, element by element
no_first : (a b : Bool) → (a || b) ≡ false → a ≡ false
no_first false b is = refl
no_first true b is = is

no_later : (a b : Bool) → (a || b) ≡ false → b ≡ false
no_later false b is = is
no_later true b is = absurd (let e : true ≡ false = is in cc)

-- ---- one change

-- the row that is put is put
put_is : (table : TableName) (number : RowNo) (row : KeptRow) (same : row.0 ≡ table) (at : row.1 ≡ number) → (same_table table row.0 && number.0 == row.1.0) ≡ true
put_is table number row same at = and_from _ _ (same_table-to table row.0 (sym same)) (nat_same _ _ (ap (λ (n : RowNo). n.0) (sym at)))

-- a row that a change doesn't put was there before it
row_was : (change : Change) (rows : List KeptRow) (row : KeptRow) → puts_row row.0 row.1 change ≡ false → Contains (rows_after change rows) row → Contains rows row
row_was (Put table number cells) rows row other has =
    elim (put_cases (λ (r : KeptRow). by_fields (row_fields r.0 r.1) (row_fields table number)) (table, number, cells) rows row has) [
      | inl same ↦ absurd (let e : true ≡ false = sym (put_is table number row (ap (λ (r : KeptRow). r.0) (sym same)) (ap (λ (r : KeptRow). r.1) (sym same))) ∙ other in cc)
      | inr there ↦ there
    ]
row_was (Gone table number) rows row other has = kept_of _ rows row has
row_was (TableGone table) rows row other has = kept_of _ rows row has
row_was _ rows row other has = has

-- a table that a change doesn't make was there before it
table_was : (change : Change) (tables : List AnyTable) (table : AnyTable) → makes_table table.name change ≡ false → Contains (tables_after change tables) table → Contains tables table
table_was (Table name columns key) tables table other has =
    elim (put_cases (λ (t : AnyTable). by_fields (table_fields t.name) (table_fields name)) (record { name = name; columns = columns; key = key }) tables table has) [
      | inl same ↦ absurd (let e : true ≡ false = sym (same_table-to name table.name (ap (λ (t : AnyTable). t.name) same)) ∙ other in cc)
      | inr there ↦ there
    ]
table_was (TableGone name) tables table other has = kept_of _ tables table has
table_was _ tables table other has = has

not_there : (b : Bool) → not b ≡ true → b ≡ false
not_there false is = refl
not_there true is = absurd (let e : false ≡ true = is in cc)

-- a table that a change makes wasn't there before it
table_new : (conditions : Conditions) (image : Bool) (kept : Kept) (change : Change) (name : TableName) → makes_table name change ≡ true → GoesOn conditions image kept change → has_table kept name ≡ false
table_new conditions image kept (Table other columns key) name makes goes = subst (λ (n : TableName). has_table kept n ≡ false) (same_table-is other name makes) (not_there _ goes.0)
table_new conditions image kept _ name makes goes = absurd (let e : false ≡ true = makes in cc)

-- each row's table is there
there_is : (kept : Kept) → IsFounded kept → (row : KeptRow) → Contains kept.rows row → has_table kept row.0 ≡ true
there_is kept founded row has =
    let (table, stands, wide) = (all_at (IsRowFounded kept) kept.rows founded.rows row has).1 in
    any_to (λ (t : AnyTable). same_table t.name row.0) kept.tables table stands.0 (same_table-to table.name row.0 stands.1)

-- a table of a name that no change makes was there
named_was : (change : Change) (tables : List AnyTable) (name : TableName) (table : AnyTable) → makes_table name change ≡ false → Contains (tables_after change tables) table → table.name ≡ name → Contains tables table
named_was change tables name table other has same = table_was change tables table (ap (λ (n : TableName). makes_table n change) same ∙ other) has

row_step : (conditions : Conditions) (image : Bool) (kept : Kept) (change : Change) → IsFounded kept → GoesOn conditions image kept change → (row : KeptRow) (table : AnyTable)
    → puts_row row.0 row.1 change ≡ false → Contains (changed conditions.tree change kept).rows row → IsKeptTable (changed conditions.tree change kept) row.0 table
    → Contains kept.rows row × IsKeptTable kept row.0 table
row_step conditions image kept change founded goes row table other has (held, same) =
    let was = row_was change kept.rows row other has in
    (was, (go (makes_table row.0 change) refl was, same))
  where
    go : (b : Bool) → makes_table row.0 change ≡ b → Contains kept.rows row → Contains kept.tables table
    go true makes was = absurd (let e : false ≡ true = sym (table_new conditions image kept change row.0 makes goes) ∙ there_is kept founded row was in cc)
    go false makes was = named_was change kept.tables row.0 table makes held same

-- ---- counts of rows

both : {X : Type 0} (b : Bool) (x : X) (xs ys : List X) → length xs ≤ length ys → length (cond b (x ∷ xs) xs) ≤ length (cond b (x ∷ ys) ys)
both true x xs ys fewer = omega (arith, fewer)
both false x xs ys fewer = fewer

more : {X : Type 0} (b : Bool) (n : ℕ) (y : X) (ys : List X) → n ≤ length ys → n ≤ length (cond b (y ∷ ys) ys)
more true n y ys fewer = omega (arith, fewer)
more false n y ys fewer = fewer

both_front : {X : Type 0} (b : Bool) (n : ℕ) (x : X) (xs ys : List X) → length xs + n ≤ length ys → length (cond b (x ∷ xs) xs) + n ≤ length (cond b (x ∷ ys) ys)
both_front true n x xs ys fewer = omega (arith, fewer)
both_front false n x xs ys fewer = fewer

both_back : {X : Type 0} (b : Bool) (n : ℕ) (x : X) (xs ys : List X) → n + length xs ≤ length ys → n + length (cond b (x ∷ xs) xs) ≤ length (cond b (x ∷ ys) ys)
both_back true n x xs ys fewer = omega (arith, fewer)
both_back false n x xs ys fewer = fewer

kept_step : {X : Type 0} (p : X → Bool) (x : X) (kept xs : List X) (d : Bool) → length (filter p kept) ≤ length (filter p xs) → length (filter p (cond d (x ∷ kept) kept)) ≤ length (filter p (x ∷ xs))
kept_step p x kept xs true fewer = both (p x) x (filter p kept) (filter p xs) fewer
kept_step p x kept xs false fewer = more (p x) (length (filter p kept)) x (filter p xs) fewer

kept_counts : {X : Type 0} (p q : X → Bool) (xs : List X) → length (filter p (filter q xs)) ≤ length (filter p xs)
kept_counts p q [] = omega arith
kept_counts p q (x ∷ xs) = kept_step p x (filter q xs) xs (q x) (kept_counts p q xs)

joined_step : {X : Type 0} (b : Bool) (n : ℕ) (x : X) (all xs : List X) → length all ≡ length xs + n → length (cond b (x ∷ all) all) ≡ length (cond b (x ∷ xs) xs) + n
joined_step true n x all xs same = omega (arith, same)
joined_step false n x all xs same = same

joined_counts : {X : Type 0} (p : X → Bool) (xs ys : List X) → length (filter p (xs ++ ys)) ≡ length (filter p xs) + length (filter p ys)
joined_counts p [] ys = omega arith
joined_counts p (x ∷ xs) ys = joined_step (p x) (length (filter p ys)) x (filter p (xs ++ ys)) (filter p xs) (joined_counts p xs ys)

parted_step : {X : Type 0} (p : X → Bool) (x : X) (front back xs : List X) (o : Ordering) → length (filter p front) + length (filter p back) ≤ length (filter p xs)
    → length (filter p (cond (is_lt o) (x ∷ front) front)) + length (filter p (cond (is_gt o) (x ∷ back) back)) ≤ length (filter p (x ∷ xs))
parted_step p x front back xs Less fewer = both_front (p x) (length (filter p back)) x (filter p front) (filter p xs) fewer
parted_step p x front back xs Equal fewer = more (p x) (length (filter p front) + length (filter p back)) x (filter p xs) fewer
parted_step p x front back xs Greater fewer = both_back (p x) (length (filter p front)) x (filter p back) (filter p xs) fewer

parted_counts : {X : Type 0} (p : X → Bool) (order : X → Ordering) (xs : List X) → length (filter p (filter (λ x. is_lt (order x)) xs)) + length (filter p (filter (λ x. is_gt (order x)) xs)) ≤ length (filter p xs)
parted_counts p order [] = omega arith
parted_counts p order (x ∷ xs) = parted_step p x (filter (λ y. is_lt (order y)) xs) (filter (λ y. is_gt (order y)) xs) xs (order x) (parted_counts p order xs)

-- an entry that fails the test adds nothing to what passes it
put_counts : {X : Type 0} (p : X → Bool) (order : X → Ordering) (entry : X) (xs : List X) → p entry ≡ false → length (filter p (put_in_order order entry xs)) ≤ length (filter p xs)
put_counts p order entry xs fails =
    let front = filter (λ x. is_lt (order x)) xs in
    let back = filter (λ x. is_gt (order x)) xs in
    let whole : length (filter p (front ++ entry ∷ back)) ≡ length (filter p front) + length (filter p (entry ∷ back)) = joined_counts p front (entry ∷ back) in
    let rest : length (filter p (entry ∷ back)) ≡ length (filter p back) = ap (λ (b : Bool). length (cond b (entry ∷ filter p back) (filter p back))) fails in
    let parts = parted_counts p order xs in
    omega (arith, whole, rest, parts)

fewer : (name : TableName) (change : Change) (rows : List KeptRow) → puts_into name change ≡ false → length (rows_in name (rows_after change rows)) ≤ length (rows_in name rows)
fewer name (Put table number cells) rows other = put_counts (λ (row : KeptRow). same_table row.0 name) (λ (row : KeptRow). by_fields (row_fields row.0 row.1) (row_fields table number)) (table, number, cells) rows other
fewer name (Gone table number) rows other = kept_counts _ _ rows
fewer name (TableGone table) rows other = kept_counts _ _ rows
fewer name _ rows other = omega arith

none_counts : {X : Type 0} (p : X → Bool) (xs : List X) → ((x : X) → Contains xs x → p x ≡ false) → length (filter p xs) ≡ 0
none_counts p [] fails = refl
none_counts p (x ∷ xs) fails =
    ap (λ (b : Bool). length (cond b (x ∷ filter p xs) (filter p xs))) (fails x (here x xs)) ∙ none_counts p xs (λ y has. fails y (there x xs y has))

-- the table of this name has few rows
abbrev pub HasFew : TableName → Kept → Type 0
HasFew name kept = (table : AnyTable) → Contains kept.tables table → table.name ≡ name → length (rows_in name kept.rows) ≤ TABLE_ROW_NUMBERS

bool_of : (b : Bool) → (b ≡ true → ⊥) → b ≡ false
bool_of true isnt = absurd (isnt refl)
bool_of false isnt = refl

few_at : (conditions : Conditions) (image : Bool) (kept : Kept) (change : Change) (name : TableName) → IsFounded kept → GoesOn conditions image kept change
    → puts_into name change ≡ false → HasFew name kept → (table : AnyTable) → Contains (tables_after change kept.tables) table → table.name ≡ name
    → (b : Bool) → makes_table name change ≡ b → length (rows_in name (rows_after change kept.rows)) ≤ TABLE_ROW_NUMBERS
few_at conditions image kept change name founded goes other few table has same false makes =
    let before = few table (named_was change kept.tables name table makes has same) same in
    let most = fewer name change kept.rows other in
    omega (arith, most, before)
few_at conditions image kept change name founded goes other few table has same true makes =
    let none : length (rows_in name kept.rows) ≡ 0 = none_counts (λ (row : KeptRow). same_table row.0 name) kept.rows
    (λ row held. bool_of (same_table row.0 name) (λ is. (let e : false ≡ true = sym (table_new conditions image kept change name makes goes) ∙ subst (λ (n : TableName). has_table kept n ≡ true) (same_table-is row.0 name is) (there_is kept founded row held) in cc))) in
    let most = fewer name change kept.rows other in
    omega (arith, most, none)

few_step : (conditions : Conditions) (image : Bool) (kept : Kept) (change : Change) (name : TableName) → IsFounded kept → GoesOn conditions image kept change
    → puts_into name change ≡ false → HasFew name kept → HasFew name (changed conditions.tree change kept)
few_step conditions image kept change name founded goes other few = λ table has same. few_at conditions image kept change name founded goes other few table has same (makes_table name change) refl

-- ---- all changes of a frame

module _ (keeps : KeepsLaws) (conditions : Conditions) (image : Bool) where
  abbrev next : List Change → Kept → Kept
  next changes kept = changed_all conditions.tree changes kept

  row_before : (changes : List Change) (kept : Kept) → IsLawful conditions kept → AllGoOn conditions image kept changes → (row : KeptRow) (table : AnyTable)
      → list_any (puts_row row.0 row.1) changes ≡ false → Contains (next changes kept).rows row → IsKeptTable (next changes kept) row.0 table
      → Contains kept.rows row × IsKeptTable kept row.0 table
  row_before [] kept lawful go row table other has at = (has, at)
  row_before (change ∷ changes) kept lawful go row table other has at =
      let later = row_before changes (changed conditions.tree change kept) (keeps conditions image kept change lawful go.0) go.1 row table (no_later (puts_row row.0 row.1 change) _ other) has at in
      row_step conditions image kept change lawful.founded go.0 row table (no_first (puts_row row.0 row.1 change) _ other) later.0 later.1

  table_before : (changes : List Change) (kept : Kept) (table : AnyTable) → list_any (makes_table table.name) changes ≡ false → Contains (next changes kept).tables table → Contains kept.tables table
  table_before [] kept table other has = has
  table_before (change ∷ changes) kept table other has =
      table_was change kept.tables table (no_first (makes_table table.name change) _ other) (table_before changes (changed conditions.tree change kept) table (no_later (makes_table table.name change) _ other) has)

  few_after : (changes : List Change) (kept : Kept) (name : TableName) → IsLawful conditions kept → AllGoOn conditions image kept changes
      → list_any (puts_into name) changes ≡ false → HasFew name kept → HasFew name (next changes kept)
  few_after [] kept name lawful go other few = few
  few_after (change ∷ changes) kept name lawful go other few =
      few_after changes (changed conditions.tree change kept) name (keeps conditions image kept change lawful go.0) go.1 (no_later (puts_into name change) _ other)
      (few_step conditions image kept change name lawful.founded go.0 (no_first (puts_into name change) _ other) few)

  -- what is whole is so where it was touched
  pub touched_from : (changes : List Change) (kept : Kept) → IsWhole kept → IsWholeWhereTouched changes kept
  touched_from changes kept whole = record {
    rows = λ row has touched. record {
      fits = λ table at. whole.fits row table has at;
      alone = λ table other at there same keyed key. whole.keys row other table has there at same keyed key;
    };
    columns = λ table has made. all_at (λ (t : AnyTable). length t.columns ≤ TABLE_COLUMNS) kept.tables whole.few.columns table has;
    counts = λ table has put. all_at (λ (t : AnyTable). length (rows_in t.name kept.rows) ≤ TABLE_ROW_NUMBERS) kept.tables whole.few.rows table has;
    few = record {
      users = whole.few.users;
      roles = whole.few.roles;
      tables = whole.few.tables;
      policies = whole.few.policies;
      fga = whole.few.fga;
      grants = whole.few.grants;
    };
  }

  module _ (changes : List Change) (kept : Kept) (lawful : IsLawful conditions kept) (whole : IsWhole kept) (go : AllGoOn conditions image kept changes)
      (touched : IsWholeWhereTouched changes (next changes kept)) where
    fits_at : (row : KeptRow) (table : AnyTable) (b : Bool) → list_any (puts_row row.0 row.1) changes ≡ b → Contains (next changes kept).rows row → IsKeptTable (next changes kept) row.0 table → FitColumns table.columns row.2
    fits_at row table true is has at = (touched.rows row has is).fits table at
    fits_at row table false is has at = let was = row_before changes kept lawful go row table is has at in whole.fits row table was.0 was.1

    keys_at : (a b : KeptRow) (table : AnyTable) (c d : Bool) → list_any (puts_row a.0 a.1) changes ≡ c → list_any (puts_row b.0 b.1) changes ≡ d
        → Contains (next changes kept).rows a → Contains (next changes kept).rows b → IsKeptTable (next changes kept) a.0 table → b.0 ≡ a.0
        → table.key ≢ [] → key_of table.key a.2 ≡ key_of table.key b.2 → a.1 ≡ b.1
    keys_at a b table true d is _ has there at same keyed key = (touched.rows a has is).alone table b at there same keyed key
    keys_at a b table false true _ is has there at same keyed key = sym ((touched.rows b there is).alone table a (at.0, at.1 ∙ sym same) has (sym same) keyed (sym key))
    keys_at a b table false false one other has there at same keyed key =
        let first = row_before changes kept lawful go a table one has at in
        let second = row_before changes kept lawful go b table other there (at.0, at.1 ∙ sym same) in
        whole.keys a b table first.0 second.0 first.1 same keyed key

    columns_at : (table : AnyTable) (b : Bool) → list_any (makes_table table.name) changes ≡ b → Contains (next changes kept).tables table → length table.columns ≤ TABLE_COLUMNS
    columns_at table true is has = touched.columns table has is
    columns_at table false is has = all_at (λ (t : AnyTable). length t.columns ≤ TABLE_COLUMNS) kept.tables whole.few.columns table (table_before changes kept table is has)

    counts_at : (table : AnyTable) (b : Bool) → list_any (puts_into table.name) changes ≡ b → Contains (next changes kept).tables table → length (rows_in table.name (next changes kept).rows) ≤ TABLE_ROW_NUMBERS
    counts_at table true is has = touched.counts table has is
    counts_at table false is has =
        few_after changes kept table.name lawful go is (λ t held same. subst (λ (n : TableName). length (rows_in n kept.rows) ≤ TABLE_ROW_NUMBERS) same (all_at (λ (t : AnyTable). length (rows_in t.name kept.rows) ≤ TABLE_ROW_NUMBERS) kept.tables whole.few.rows t held)) table has refl

    pub touched_to : IsWhole (next changes kept)
    touched_to = record {
      fits = λ row table has at. fits_at row table (list_any (puts_row row.0 row.1) changes) refl has at;
      keys = λ a b table has there at same keyed key. keys_at a b table _ _ refl refl has there at same keyed key;
      few = record {
        users = touched.few.users;
        roles = touched.few.roles;
        tables = touched.few.tables;
        policies = touched.few.policies;
        fga = touched.few.fga;
        grants = touched.few.grants;
        columns = all_of (λ (t : AnyTable). length t.columns ≤ TABLE_COLUMNS) (next changes kept).tables (λ table has. columns_at table _ refl has);
        rows = all_of (λ (t : AnyTable). length (rows_in t.name (next changes kept).rows) ≤ TABLE_ROW_NUMBERS) (next changes kept).tables (λ table has. counts_at table _ refl has);
      };
    }
