-- What an INSERT comes to can be written.
use Rattle.std.proofs.Common.{◌≡◌, ◌≢◌, ◌∙◌, ◌⊎◌, inl, inr, ℕ, ◌+◌, ◌≤◌, ◌<◌, Bool, true, false, List, [], ◌∷◌, ◌++◌, length, map, refl, sym, ap, subst, arith}
use Rattle.std.specs.Prelude.{◌==◌, ◌&&◌, ◌||◌, nat_le, IsSome, IsTrue, Option, Some, None}
use Rattle.std.specs.List.{AllByRecursion, Contains, list_any, zip}
use Rattle.std.proofs.lemmas.Bool.{and_parts}
use Rattle.std.proofs.lemmas.Bool.Decides.{nat_tests}
use Rattle.std.proofs.lemmas.List.{length-append}
use Rattle.au_base.specs.Codes.{NULL_INSERTED, OVERFLOW, TOO_MANY_CHANGES, TOO_MANY_ROW_NUMBERS}
use Rattle.au_base.specs.Limits.{LAST_ROW_NUMBER, TABLE_ROW_NUMBERS, TRANSACTION_CHANGES}
use Rattle.au_base.specs.Naming.{IsName}
use Rattle.au_base.specs.Sameness.{same_table}
use Rattle.au_base.specs.declared.cell.Cell.{Cell}
use Rattle.au_base.specs.declared.cell.Cell.TheVariants as cell
use Rattle.au_base.specs.declared.numbers.ClientNo.{ClientNo}
use Rattle.au_base.specs.declared.numbers.RowNo.{RowNo}
use Rattle.au_base.specs.declared.table.Column.{Column}
use Rattle.au_base.specs.declared.table.TableName.{TableName}
use Rattle.au_entries.specs.declared.kept.Kept.{Kept}
use Rattle.au_entries.specs.declared.table.Table.{Table}
use Rattle.au_entries.specs.Replaying.{NamesDiffer}
use Rattle.au_expr.specs.Sessions.{IsSoundSession, Session}
use Rattle.au_insert.specs.Inserting.{cell_of, given, insertion, is_full, listed_refusal, new_row, room_refusal, row_refusal, targets, value_overflows, value_refusal}
use Rattle.au_kept.specs.OpenChanges.{AreAmong}
use Rattle.au_literals.specs.Literals.{IsSoundValue}
use Rattle.au_modify.specs.Fitting.{fit_code}
use Rattle.au_modify.specs.Keys.{IsLockedKey, IsPresentKey, IsSomeKeyLocked, key_in}
use Rattle.au_modify.specs.Targets.{given_or, kinds_refusal, names_refusal, target_refusal}
use Rattle.au_query.specs.Refusals.{where_broken}
use Rattle.au_rows.specs.Held.{HasKey}
use Rattle.au_txn.specs.declared.change.RowChange.{RowChange}
use Rattle.au_txn.specs.Counts.{AreNumbers}
use Rattle.au_txn.specs.Desks.{Contents as Desk, is_open, key_of, open_of}
use Rattle.au_txn.specs.Keys.{KeysDiffer}
use Rattle.au_txn.specs.Rows.{Row, row_at}
use Rattle.au_txn.specs.Transactions.{IsNumber, IsRowLocked, is_of_row, laid_over, names_row}
use Rattle.au_world.specs.Sights.{Sight, columns_of}
use Rattle.au_writing.specs.Written.{CanBeWritten}
use Rattle.au_writing.proofs.Contents.{IsContent, content_written, over_nothing, table_told}
use Rattle.au_writing.proofs.Deleting.{StaysDifferent}
use Rattle.au_writing.proofs.Fitting.{IsGood, fit_of, good_fits, null_of_kind, unbroken, unrefused}
use Rattle.au_writing.proofs.Giving.{HasPair, each_none, given_case, pairs_kind, same_column, targets_there}
use Rattle.au_writing.proofs.Lists.{all_at, here, none, split, there}
use Rattle.au_writing.proofs.Seen.{RowLaws, Stand, laid_used, or_neither}
use Rattle.au_writing.proofs.Shown.{IsCreated, key_same, open_there, same_name, shown}
use Rattle.au_writing.proofs.Updating.{key_free, others_apart}
use Rattle.au_writing.proofs.Values.{GivesSound, good_value}
use Rattle.rec_parts.specs.Tables.{row_number}
use Rattle.sql_ast.specs.declared.expression.Expr.{Expr}
use Rattle.sql_ast.specs.declared.rows.Insert.{Insert}

-- ---- the new row

sound_pairs : (names : List (List ℕ)) (values : List Expr) → AllByRecursion IsSoundValue values → AllByRecursion (λ (p : List ℕ × Expr). IsSoundValue p.1) (zip names values)
sound_pairs [] values all = tt
sound_pairs (name ∷ names) [] all = tt
sound_pairs (name ∷ names) (value ∷ values) all = (all.0, sound_pairs names values all.1)

-- a cell that is given is that of a value
given_from : (session : Session) (names : List (List ℕ)) (values : List Expr) (p : List ℕ × Cell) → Contains (zip names (map (cell_of session) values)) p
    → (q : List ℕ × Expr) × Contains (zip names values) q × ((q.0, cell_of session q.1) ≡ p)
given_from session [] values p has = absurd (none p has)
given_from session (name ∷ names) [] p has = absurd (none p has)
given_from session (name ∷ names) (value ∷ values) p has = elim (split (name, cell_of session value) (zip names (map (cell_of session) values)) p has) [
  | inl same ↦ ((name, value), here (name, value) (zip names values), same)
  | inr later ↦ (let (q, stands, same) = given_from session names values p later in (q, there (name, value) (zip names values) q stands, same))
]

null_good : (column : Column) → IsGood column.kind cell.Null
null_good column = record { of_kind = null_of_kind column.kind; sound = tt; utf8 = tt }

-- the values of the statement, for a table with these columns
module _ (gives : GivesSound) (session : Session) (columns : List Column) (insert : Insert) (sound : IsSoundSession session) (named : IsName session.user) (differ : NamesDiffer (map (λ (c : Column). c.name) columns))
    (literals : AllByRecursion IsSoundValue insert.values) (paired : AllByRecursion (HasPair [] columns) (zip (targets columns insert) insert.values)) where
  given_good : (column : Column) → Contains columns column → (p : List ℕ × Cell) → Contains (given session columns insert) p → p.0 ≡ column.name → IsGood column.kind p.1
  given_good column has p stands same =
      let (q, among, is_it) = given_from session (targets columns insert) insert.values p stands in
      let (found, pairing) = all_at (HasPair [] columns) (zip (targets columns insert) insert.values) paired q among in
      let value_sound = all_at (λ (r : List ℕ × Expr). IsSoundValue r.1) (zip (targets columns insert) insert.values) (sound_pairs (targets columns insert) insert.values literals) q among in
      let good = good_value gives found.kind [] [] session q.1 (over_nothing session sound named) value_sound pairing.kind in
      let one = same_column columns differ q.0 found column pairing.called has (ap (λ (r : List ℕ × Cell). r.0) is_it ∙ same) in
      subst (λ (content : Cell). IsGood column.kind content) (ap (λ (r : List ℕ × Cell). r.1) is_it) (subst (λ (c : Column). IsGood c.kind (cell_of session q.1)) one good)

  each_fits : (some : List Column) → ((column : Column) → Contains some column → Contains columns column)
      → AllByRecursion (λ (p : Column × Cell). fit_code NULL_INSERTED p.0 p.1 ≡ None) (zip some (map (given_or cell.Null (given session columns insert)) some))
      → IsContent some (map (given_or cell.Null (given session columns insert)) some)
  each_fits [] among codes = record { fits = tt; utf8 = tt }
  each_fits (column ∷ some) among codes =
      let content = given_or cell.Null (given session columns insert) column in
      let good = given_case (IsGood column.kind) cell.Null (given session columns insert) column (null_good column) (given_good column (among column (here column some))) in
      let rest = each_fits some (λ other has. among other (there column some other has)) codes.1 in
      record { fits = (good_fits column content good (fit_of NULL_INSERTED column content codes.0), rest.fits); utf8 = (good.utf8, rest.utf8) }

  pub row_new : row_refusal session columns insert ≡ None → IsContent columns (new_row session columns insert)
  row_new is =
      each_fits columns (λ column has. has) (each_none (λ (p : Column × Cell). fit_code NULL_INSERTED p.0 p.1) (zip columns (new_row session columns insert)) is)

-- ---- the rules of an INSERT

-- what the rules of an INSERT keep
pub record Keeps (sight : Sight) (client : ClientNo) (session : Session) (name : TableName) (insert : Insert) (count last : ℕ) : Type 0 where
  pub listed : listed_refusal (columns_of sight.catalog.tables name) insert ≡ None
  pub values : value_refusal session (columns_of sight.catalog.tables name) insert ≡ None
  pub numbers : AreNumbers sight.rows sight.transactions name count last
  pub room : room_refusal sight.own count last ≡ None
  pub free : ¬ IsLockedKey sight client name (new_row session (columns_of sight.catalog.tables name) insert)
  pub absent : ¬ IsPresentKey sight name (new_row session (columns_of sight.catalog.tables name) insert)

-- the content of the new row
pub new_content : GivesSound → (session : Session) (columns : List Column) (insert : Insert) → IsSoundSession session → IsName session.user → NamesDiffer (map (λ (c : Column). c.name) columns) → AllByRecursion IsSoundValue insert.values
    → listed_refusal columns insert ≡ None → value_refusal session columns insert ≡ None → IsContent columns (new_row session columns insert)
new_content gives session columns insert sound named differ literals listed values =
    let one = unrefused (target_refusal columns (targets columns insert)) _ listed in
    let two = unrefused (names_refusal [] insert.values) _ values in
    let three = unrefused (kinds_refusal [] columns (targets columns insert) insert.values) _ two.1 in
    let four = unrefused (where_broken (list_any (value_overflows session) insert.values) OVERFLOW) _ three.1 in
    let five = unrefused (row_refusal session columns insert) _ four.1 in
    row_new gives session columns insert sound named differ literals (pairs_kind [] columns (targets columns insert) insert.values (targets_there columns (targets columns insert) one.0) three.0) five.0

either_false : (a b : Bool) → (a || b) ≡ false → (a ≡ false) × (b ≡ false)
either_false true b is = absurd (let e : true ≡ false = is in cc)
either_false false b is = (refl, is)

not_le : (a b : ℕ) → nat_le a b ≡ false → b < a
not_le a b is = grind (arith, nat_tests)

-- there is room for the row
pub record HasRoom (own : List RowChange) (count last : ℕ) : Type 0 where
  pub count_few : count < TABLE_ROW_NUMBERS
  pub last_few : last < LAST_ROW_NUMBER
  pub own_few : length own < TRANSACTION_CHANGES

pub room_of : (own : List RowChange) (count last : ℕ) → room_refusal own count last ≡ None → HasRoom own count last
room_of own count last is =
    let parts = unrefused (where_broken (is_full count last) TOO_MANY_ROW_NUMBERS) _ is in
    let full = either_false (nat_le TABLE_ROW_NUMBERS count) (nat_le LAST_ROW_NUMBER last) (unbroken (is_full count last) TOO_MANY_ROW_NUMBERS parts.0) in
    let changes = unbroken (nat_le TRANSACTION_CHANGES (length own)) TOO_MANY_CHANGES parts.1 in
    record { count_few = not_le TABLE_ROW_NUMBERS count full.0; last_few = not_le LAST_ROW_NUMBER last full.1; own_few = not_le TRANSACTION_CHANGES (length own) changes }

number_written : (last : ℕ) → last < LAST_ROW_NUMBER → row_number.IsSpellable (record { 0 = last + 1 })
unfolding row_number
number_written last few = omega (arith, few)

-- ---- the row that comes

-- one more number, as the law has it
abbrev pub OneMore : Type 0
OneMore = (rows : List Row) (transactions : ClientNo → List RowChange) (table : TableName) (count last limit : ℕ) (change : RowChange) → AreNumbers rows transactions table count last
    → count < limit → AreAmong limit (λ number. IsNumber rows transactions table number ⊎ IsTrue (names_row table number (change ∷ [])))

over_last : (last n : ℕ) → n ≤ last → n ≡ last + 1 → ⊥
over_last last n least is = omega (arith, least, is)

module _ (laws : RowLaws) (stays : StaysDifferent) (more : OneMore) (kept : Kept) (desk : Desk) (client : ClientNo) (sight : Sight) (name : TableName) (told : Table) (s : Stand kept desk) (created : IsCreated kept.tables name told)
    (count last : ℕ) (content : List Cell) (numbers : AreNumbers desk.rows (open_of desk) name count last) (room : HasRoom (open_of desk client) count last) (is : IsContent told.columns content)
    (free : ¬ IsLockedKey (shown kept desk client sight) client name content) (absent : ¬ IsPresentKey (shown kept desk client sight) name content) where
  abbrev number : RowNo
  number = record { 0 = last + 1 }

  abbrev change : RowChange
  change = insertion name number content

  abbrev seen : List Row
  seen = laid_over desk.rows (open_of desk client)

  abbrev places : TableName → List ℕ
  places table = key_of table desk.tables

  places_are : places name ≡ key_in kept.tables name
  places_are = ap (key_of name) s.together.desk_is.tables_are ∙ key_same name kept.tables

  unused : IsNumber desk.rows (open_of desk) name number → ⊥
  unused used = over_last last (last + 1) (numbers.most number used) refl

  unlocked_row : ¬ IsRowLocked (open_of desk) client name number
  unlocked_row (other, apart, names) = unused (inr (other, names))

  opened : IsTrue (is_open name desk.tables)
  opened = ap (is_open name) s.together.desk_is.tables_are ∙ open_there name kept.tables ∙ created.there

  vacant_at : (o : Option (List Cell)) → row_at name number seen ≡ o → None ≡ o
  vacant_at None at = refl
  vacant_at (Some cells) at = absurd (unused (laid_used laws desk.rows (open_of desk) client name number (subst IsSome (sym at) refl)))

  vacant : None ≡ row_at name number seen
  vacant = vacant_at (row_at name number seen) refl

  its : (other : RowChange) → Contains (change ∷ []) other → other.table ≡ name
  its other has = elim (split change [] other has) [
    | inl same ↦ sym (ap (λ (c : RowChange). c.table) same)
    | inr later ↦ absurd (none other later)
  ]

  it : (other : RowChange) → Contains (change ∷ []) other → change ≡ other
  it other has = elim (split change [] other has) [
    | inl same ↦ same
    | inr later ↦ absurd (none other later)
  ]

  keyed_content : (table : TableName) (key : List Cell) (other : RowChange) → Contains (change ∷ []) other → other.table ≡ table → HasKey (places name) key (row_at table other.row (laid_over seen (change ∷ []))) → HasKey (places name) key (Some content)
  keyed_content table key other has of keyed =
      subst (HasKey (places name) key)
      (ap (λ (t : TableName). row_at t other.row (laid_over seen (change ∷ []))) (sym of) ∙ laws.once seen (change ∷ []) other refl has ∙ sym (ap (λ (c : RowChange). c.new) (it other has))) keyed

  other_seen : (other : RowNo) → other ≢ number → row_at name other (laid_over seen (change ∷ [])) ≡ row_at name other seen
  other_seen other apart = laws.untouched seen (change ∷ []) name other (unnamed (is_of_row name other change) refl)
    where
      unnamed : (b : Bool) → is_of_row name other change ≡ b → names_row name other (change ∷ []) ≡ false
      unnamed true named = absurd (apart (sym (same_numbers (and_parts (same_table name name) (last + 1 == other.0) named).1)))
        where
          same_numbers : (last + 1 == other.0) ≡ true → number ≡ other
          same_numbers same = let e : last + 1 ≡ other.0 = grind (arith, nat_tests) in ap (λ (n : ℕ). let r : RowNo = record { 0 = n } in r) e
      unnamed false named = or_neither (is_of_row name other change) false named refl

  not_present : (key : List Cell) (other : RowNo) (found : Option (List Cell)) → row_at name other seen ≡ found → HasKey (places name) key (Some content) → HasKey (places name) key found → places name ≢ [] → ⊥
  not_present key other None at keyed held some = held
  not_present key other (Some cells) at keyed held some =
      let as_catalog : (o : Option (List Cell)) → HasKey (places name) key o → HasKey (key_in kept.tables name) key o = λ o has. subst (λ (ps : List ℕ). HasKey ps key o) places_are has in
      absent ((λ empty. some (places_are ∙ empty)), (key, as_catalog (Some content) keyed, ((other, cells), (at, as_catalog (Some cells) held))))

  differ_here : (ps : List ℕ) → places name ≡ ps → KeysDiffer ps name (laid_over seen (change ∷ []))
  differ_here [] empty = tt
  differ_here (place ∷ ps) is_it =
      subst (λ (qs : List ℕ). KeysDiffer qs name (laid_over seen (change ∷ []))) is_it
      (stays (places name) name seen (change ∷ []) (s.together.keyed.seen client name)
      (λ one key other has of keyed under.
      let at_number : one.row ≡ number = sym (ap (λ (c : RowChange). c.row) (it one has)) in
      not_present key other (row_at name other seen) refl (keyed_content name key one has of keyed)
      (subst (HasKey (places name) key) (other_seen other (λ same. under.0 (same ∙ sym at_number))) under.1)
      (λ empty. let e : place ∷ ps ≡ [] = sym is_it ∙ empty in cc)))

  named_elsewhere : (table : TableName) → same_table name table ≡ false → (at : RowNo) → IsTrue (names_row table at (change ∷ [])) → IsNumber desk.rows (open_of desk) table at
  named_elsewhere table apart at named = absurd (neither (same_table name table) (last + 1 == at.0) apart named)
    where
      neither : (a b : Bool) → a ≡ false → ((a && b) || false) ≡ true → ⊥
      neither true b one two = let e : true ≡ false = one in cc
      neither false b one two = let e : false ≡ true = two in cc

  few_at : (table : TableName) (b : Bool) → same_table name table ≡ b → AreAmong TABLE_ROW_NUMBERS (λ at. IsNumber desk.rows (open_of desk) table at ⊎ IsTrue (names_row table at (change ∷ [])))
  few_at table true same =
      subst (λ (t : TableName). AreAmong TABLE_ROW_NUMBERS (λ at. IsNumber desk.rows (open_of desk) t at ⊎ IsTrue (names_row t at (change ∷ [])))) (same_name name table same)
      (more desk.rows (open_of desk) name count last TABLE_ROW_NUMBERS change numbers room.count_few)
  few_at table false apart = laws.used desk.rows (open_of desk) table TABLE_ROW_NUMBERS (change ∷ []) (s.together.changes.few table) (named_elsewhere table apart)

  short : length (open_of desk client ++ change ∷ []) ≤ TRANSACTION_CHANGES
  short = let size = length-append (open_of desk client) (change ∷ []) in let few = room.own_few in omega (arith, size, few)

  same_cells : (cells : List Cell) → Some cells ≡ Some content → cells ≡ content
  same_cells cells same = cc

  not_locked : ¬ IsSomeKeyLocked (shown kept desk client sight) client name (change ∷ [])
  not_locked (other, has, found) =
      let (cells, new, locked) = found in
      free (subst (IsLockedKey (shown kept desk client sight) client name) (same_cells cells (sym new ∙ sym (ap (λ (c : RowChange). c.new) (it other has)))) locked)

  pub row_comes : CanBeWritten kept desk client (change ∷ [])
  row_comes = record {
    writable = (record { there = opened; free = unlocked_row; numbered = omega arith; content = inr refl }, tt);
    old = (vacant, tt);
    keys = record {
      once = refl;
      differ = λ table. subst (KeysDiffer (key_of table desk.tables) table) (sym (laws.behind desk.rows (open_of desk client) (change ∷ [])))
          (others_apart laws stays desk client places name (change ∷ []) its (s.together.keyed.seen client) (differ_here (places name) refl) table);
      unlocked = key_free kept desk client sight name (change ∷ []) s.together.desk_is.tables_are its
          not_locked;
    };
    sound = record {
      each = (
        record {
          numbered = omega arith;
          fits = (told, created.has, created.named, is.fits);
          spelled = content_written kept name told number content (table_told kept desk name told s created) (number_written last room.last_few) is;
        },
        tt,
      );
      short = short;
      few = λ table. few_at table (same_table name table) refl;
    };
  }
