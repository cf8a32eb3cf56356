-- The table of an UPDATE, and that its changes are of different rows.
use Rattle.std.proofs.Common.{◌≡◌, ◌∙◌, ℕ, Bool, true, false, not, cond, ◌&&◌, ◌||◌, ◌==◌, List, [], ◌∷◌, map, filter, refl, sym, ap, ap₂, subst, arith}
use Rattle.std.specs.Prelude.{IsTrue, Option, Some, ⊤}
use Rattle.std.specs.List.{AllByRecursion, find, list_all, list_any}
use Rattle.std.proofs.lemmas.Bool.{and_from, and_parts}
use Rattle.std.proofs.lemmas.Bool.Decides.{nat_tests}
use Rattle.au_base.specs.declared.numbers.RowNo.{RowNo}
use Rattle.au_base.specs.declared.table.TableName.{TableName}
use Rattle.au_base.specs.Order.{fields_before, is_in_order}
use Rattle.au_base.specs.OrderLaws.{fields_irreflexive}
use Rattle.au_base.specs.Sameness.{same_table}
use Rattle.au_change.specs.declared.updating.Asked.{Asked}
use Rattle.au_change.specs.Behind.{IsAsked, sight_in}
use Rattle.au_change.specs.Updating.{row_update, updates}
use Rattle.au_choose.specs.Choosing.{conditions_over, range_in}
use Rattle.au_entries.specs.declared.table.Table.{Table}
use Rattle.au_modify.specs.Keys as keys
use Rattle.au_query.specs.Combos.{Line, passes}
use Rattle.au_txn.specs.declared.change.RowChange.{RowChange}
use Rattle.au_txn.specs.Desks.{contents_of, key_of, open_of}
use Rattle.au_txn.specs.Keys.{KeysDiffer}
use Rattle.au_txn.specs.Rows.{Row, are_in_order, is_in, place_of, row_before, rows_in}
use Rattle.au_txn.specs.Transactions.{laid_over, names_row, rows_differ}
use Rattle.au_world.specs.Sights.{rows_by, rows_seen}
use Rattle.au_world.specs.Sound.{IsOpenTable, IsSeenSoundly}

-- ---- the table

abbrev Found : (Table → Type 0) → TableName → Option Table → Type 0
Found P name found = (t : Table) × (found ≡ Some t) × (same_table t.name name ≡ true) × P t

at_table : (P : Table → Type 0) (table : Table) (tables : List Table) (name : TableName) (b : Bool) → same_table table.name name ≡ b → P table
    → (list_any (λ (t : Table). same_table t.name name) tables ≡ true → Found P name (find (λ (t : Table). same_table t.name name) tables))
    → (b || list_any (λ (t : Table). same_table t.name name) tables) ≡ true → Found P name (cond b (Some table) (find (λ (t : Table). same_table t.name name) tables))
at_table P table tables name true is holds more has = (table, refl, is, holds)
at_table P table tables name false is holds more has = more has

found_table : (P : Table → Type 0) (tables : List Table) (name : TableName) → AllByRecursion P tables → list_any (λ (t : Table). same_table t.name name) tables ≡ true
    → Found P name (find (λ (t : Table). same_table t.name name) tables)
found_table P [] name all has = absurd (let e : false ≡ true = has in cc)
found_table P (t ∷ tables) name all has = at_table P t tables name (same_table t.name name) refl all.0 (found_table P tables name all.1) has

both : {X : Type 0} (P Q : X → Type 0) (xs : List X) → AllByRecursion P xs → AllByRecursion Q xs → AllByRecursion (λ x. P x × Q x) xs
both P Q [] one other = tt
both P Q (x ∷ xs) one other = ((one.0, other.0), both P Q xs one.1 other.1)

pub table_facts : (asked : Asked) → IsAsked asked → ((a b : TableName) → same_table a b ≡ true → a ≡ b)
    → (key_of asked.table.now asked.world.desk.now.tables ≡ keys.key_in asked.world.catalog.now.tables asked.table.now)
    × KeysDiffer (key_of asked.table.now asked.world.desk.now.tables) asked.table.now (laid_over asked.world.desk.now.rows (open_of asked.world.desk.now asked.client))
table_facts asked is same =
    let desk = asked.world.desk.now in
    let f = found_table (λ (t : Table). IsOpenTable desk t × IsSeenSoundly desk asked.client t.name) asked.world.catalog.now.tables asked.table.now
    (both (IsOpenTable desk) (λ (t : Table). IsSeenSoundly desk asked.client t.name) asked.world.catalog.now.tables is.sound.tables is.sound.seen) is.there in
    let named : f.0.name ≡ asked.table.now = same f.0.name asked.table.now f.2 in (
      ap (λ (n : TableName). key_of n desk.tables) (sym named) ∙ f.3.0.key ∙ sym (ap keys.key_of f.1),
      subst (λ (n : TableName). KeysDiffer (key_of n desk.tables) n (laid_over desk.rows (open_of desk asked.client))) named f.3.1.keys,
    )

-- ---- rows with different numbers

abbrev AreApart : List Line → Type 0
AreApart [] = ⊤
AreApart (x ∷ xs) = AllByRecursion (λ (y : Line). (y.0.0 == x.0.0) ≡ false) xs × AreApart xs

not_true : (b : Bool) → (b ≡ true → ⊥) → b ≡ false
not_true true never = absurd (never refl)
not_true false never = refl

number_same : (a b : RowNo) → (b.0 == a.0) ≡ true → b ≡ a
number_same a b is = let e : b.0 ≡ a.0 = grind (arith, nat_tests) in ap (λ (n : ℕ). let r : RowNo = record { 0 = n } in r) e

later_differs : (table : TableName) (x y : Row) → x.table ≡ table → y.table ≡ table → row_before x y ≡ true → (y.number.0 == x.number.0) ≡ false
later_differs table x y of_x of_y before = not_true (y.number.0 == x.number.0) (λ e.
    let places = ap₂ (λ (t : TableName) (n : RowNo). fields_before (place_of x.table x.number) (place_of t n)) (of_y ∙ sym of_x) (number_same x.number y.number e) in
    let e : false ≡ true = sym (fields_irreflexive (place_of x.table x.number)) ∙ sym places ∙ before in cc)

each_later : (table : TableName) (x : Row) (rows : List Row) → x.table ≡ table → AllByRecursion (λ (r : Row). r.table ≡ table) rows → list_all (row_before x) rows ≡ true
    → AllByRecursion (λ (y : Line). (y.0.0 == x.number.0) ≡ false) (map contents_of rows)
each_later table x [] of_x all before = tt
each_later table x (y ∷ rows) of_x all before =
    let parts = and_parts (row_before x y) (list_all (row_before x) rows) before in
    (later_differs table x y of_x all.0 parts.0, each_later table x rows of_x all.1 parts.1)

rows_apart : (table : TableName) (rows : List Row) → AllByRecursion (λ (r : Row). r.table ≡ table) rows → is_in_order row_before rows ≡ true → AreApart (map contents_of rows)
rows_apart table [] all ordered = tt
rows_apart table (x ∷ rows) all ordered =
    let parts = and_parts (list_all (row_before x) rows) (is_in_order row_before rows) ordered in
    (each_later table x rows all.0 all.1 parts.0, rows_apart table rows all.1 parts.1)

-- ---- filters

all_cond : {X : Type 0} (P : X → Type 0) (x : X) (xs : List X) (b : Bool) → P x → AllByRecursion P xs → AllByRecursion P (cond b (x ∷ xs) xs)
all_cond P x xs true one all = (one, all)
all_cond P x xs false one all = all

all_filter : {X : Type 0} (P : X → Type 0) (p : X → Bool) (xs : List X) → AllByRecursion P xs → AllByRecursion P (filter p xs)
all_filter P p [] all = tt
all_filter P p (x ∷ xs) all = all_cond P x (filter p xs) (p x) all.0 (all_filter P p xs all.1)

tested_cond : {X : Type 0} (q : X → Bool) (x : X) (xs : List X) (b : Bool) → q x ≡ true → list_all q xs ≡ true → list_all q (cond b (x ∷ xs) xs) ≡ true
tested_cond q x xs true one all = and_from (q x) (list_all q xs) one all
tested_cond q x xs false one all = all

tested_filter : {X : Type 0} (q p : X → Bool) (xs : List X) → list_all q xs ≡ true → list_all q (filter p xs) ≡ true
tested_filter q p [] all = refl
tested_filter q p (x ∷ xs) all = let parts = and_parts (q x) (list_all q xs) all in tested_cond q x (filter p xs) (p x) parts.0 (tested_filter q p xs parts.1)

ordered_cond : {X : Type 0} (before : X → X → Bool) (x : X) (xs : List X) (b : Bool) → list_all (before x) xs ≡ true → is_in_order before xs ≡ true → is_in_order before (cond b (x ∷ xs) xs) ≡ true
ordered_cond before x xs true first rest = and_from (list_all (before x) xs) (is_in_order before xs) first rest
ordered_cond before x xs false first rest = rest

ordered_filter : {X : Type 0} (before : X → X → Bool) (p : X → Bool) (xs : List X) → is_in_order before xs ≡ true → is_in_order before (filter p xs) ≡ true
ordered_filter before p [] ordered = refl
ordered_filter before p (x ∷ xs) ordered =
    let parts = and_parts (list_all (before x) xs) (is_in_order before xs) ordered in
    ordered_cond before x (filter p xs) (p x) (tested_filter (before x) p xs parts.0) (ordered_filter before p xs parts.1)

passing_cond : (P : Row → Type 0) (x : Row) (xs : List Row) (b : Bool) → (b ≡ true → P x) → AllByRecursion P xs → AllByRecursion P (cond b (x ∷ xs) xs)
passing_cond P x xs true one all = (one refl, all)
passing_cond P x xs false one all = all

passing_all : (P : Row → Type 0) (p : Row → Bool) (xs : List Row) → ((x : Row) → p x ≡ true → P x) → AllByRecursion P (filter p xs)
passing_all P p [] each = tt
passing_all P p (x ∷ xs) each = passing_cond P x (filter p xs) (p x) (each x) (passing_all P p xs each)

apart_cond : (x : Line) (xs : List Line) (b : Bool) → AllByRecursion (λ (y : Line). (y.0.0 == x.0.0) ≡ false) xs → AreApart xs → AreApart (cond b (x ∷ xs) xs)
apart_cond x xs true first rest = (first, rest)
apart_cond x xs false first rest = rest

apart_filter : (p : Line → Bool) (xs : List Line) → AreApart xs → AreApart (filter p xs)
apart_filter p [] apart = tt
apart_filter p (x ∷ xs) apart =
    apart_cond x (filter p xs) (p x) (all_filter (λ (y : Line). (y.0.0 == x.0.0) ≡ false) p xs apart.0) (apart_filter p xs apart.1)

-- ---- changes

and_false : (a b : Bool) → b ≡ false → (a && b) ≡ false
and_false true b is = is
and_false false b is = refl

module _ (f : Line → RowChange) (numbered : (line : Line) → (f line).row ≡ line.0) where
  none_named : (table : TableName) (x : Line) (xs : List Line) → AllByRecursion (λ (y : Line). (y.0.0 == x.0.0) ≡ false) xs → names_row table (f x).row (map f xs) ≡ false
  none_named table x [] all = refl
  none_named table x (y ∷ xs) all =
      ap₂ (λ (a b : Bool). a || b)
      (and_false (same_table (f y).table table) ((f y).row.0 == (f x).row.0) (ap₂ (λ (a b : RowNo). a.0 == b.0) (numbered y) (numbered x) ∙ all.0))
      (none_named table x xs all.1)

  changes_differ : (xs : List Line) → AreApart xs → rows_differ (map f xs) ≡ true
  changes_differ [] apart = refl
  changes_differ (x ∷ xs) apart =
      and_from (not (names_row (f x).table (f x).row (map f xs))) (rows_differ (map f xs)) (ap not (none_named (f x).table x xs apart.0)) (changes_differ xs apart.1)

pub of_table : (table : TableName) (f : Line → RowChange) → ((line : Line) → (f line).table ≡ table) → (xs : List Line) → AllByRecursion (λ (c : RowChange). c.table ≡ table) (map f xs)
of_table table f each [] = tt
of_table table f each (x ∷ xs) = (each x, of_table table f each xs)

-- the changes of an UPDATE are of different rows
pub updates_differ : (asked : Asked) → IsAsked asked → ((a b : TableName) → same_table a b ≡ true → a ≡ b)
    → IsTrue (are_in_order (laid_over asked.world.desk.now.rows (open_of asked.world.desk.now asked.client)))
    → rows_differ (updates (sight_in asked) asked.session.now asked.table.now asked.update.now) ≡ true
updates_differ asked is same ordered =
    let sight = sight_in asked in
    let laid = laid_over asked.world.desk.now.rows (open_of asked.world.desk.now asked.client) in
    let seen_apart : AreApart (rows_seen sight asked.table.now) =
    subst AreApart (sym (ap (rows_by sight asked.table.now) is.created))
    (rows_apart asked.table.now (rows_in asked.table.now laid)
    (passing_all (λ (r : Row). r.table ≡ asked.table.now) (is_in asked.table.now) laid (λ r in_it. same r.table asked.table.now in_it))
    (ordered_filter row_before (is_in asked.table.now) laid ordered)) in
    changes_differ (row_update asked.table.now asked.session.now (range_in sight asked.table.now) asked.update.now.assignments) (λ line. refl)
    (filter (λ (line : Line). passes asked.session.now (conditions_over (range_in sight asked.table.now) asked.update.now.condition) (line ∷ [])) (rows_seen sight asked.table.now))
    (apart_filter (λ (line : Line). passes asked.session.now (conditions_over (range_in sight asked.table.now) asked.update.now.condition) (line ∷ [])) (rows_seen sight asked.table.now) seen_apart)
