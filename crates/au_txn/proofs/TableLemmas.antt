-- What the tables that are kept say of names, with one more table and with one less.
use Rattle.std.proofs.Common.{◌≡◌, ◌≢◌, ◌∙◌, ◌⊎◌, inl, inr, ℕ, zero, suc, ◌+◌, ◌≤◌, ◌<◌, Bool, true, false, cond, ◌||◌, is_some, List, [], ◌∷◌, length, get_or, set, refl, sym, ap, subst, one-add, arith, Option, None, Some}
use Rattle.std.specs.Prelude.{◌==◌, ◌↔◌, IsTrue}
use Rattle.std.specs.List.{filter_map, position_or_len}
use Rattle.std.specs.Str.{bytes_eq}
use Rattle.std.specs.declared.cmp.Ordering.{Ordering}
use Rattle.std.specs.declared.cmp.Ordering.TheVariants.{Less, Equal, Greater}
use Rattle.std.specs.Ordering.{is_lt, nat_cmp, ordering_reverse}
use Rattle.std.specs.Cmp.Lexicographic.{slice_cmp}
use Rattle.std.proofs.lemmas.Bool.{and_from}
use Rattle.std.proofs.lemmas.Bool.Decides.{nat_tests}
use Rattle.std.proofs.lemmas.Slice.Eq.{bytes_eq-Decides}
use Rattle.au_base.specs.declared.table.TableName.{TableName}
use Rattle.au_base.specs.Order.{IsIrreflexive, IsTransitive, is_in_order, placed}
use Rattle.au_base.specs.OrderLaws.{fields_irreflexive, fields_transitive}
use Rattle.au_base.specs.Sameness.{same_table}
use Rattle.au_rows.specs.declared.table.Table.{Table}
use Rattle.au_rows.specs.Edits.{edited}
use Rattle.au_rows.specs.Held.{IsOpen, is_named, is_vacant, number_of}
use Rattle.au_rows.specs.Held as rows
use Rattle.au_txn.specs.Desks.{has_name, is_open, key_of, table_before}
use Rattle.au_txn.specs.Inside.{AreNamed, in_order_of, itself, open_tables}
use Rattle.au_txn.proofs.Ordered.{Has, placed-has, placed-new, placed-old, placed-ordered, same_sorted}
use Rattle.au_txn.proofs.RowOrder.{fields_total, same_table-is, same_table-self, texts-equal, then-equal}

get-later : (o : Option Table) (ts : List (Option Table)) (k : ℕ) → get_or (o ∷ ts) (1 + k) None ≡ get_or ts k None
get-later o ts k = rw one-add refl

-- a named element is at the first place that has the name
module _ (name : TableName) where
  at-first : (o : Option Table) (ts : List (Option Table)) → is_named name o ≡ true → number_of name (o ∷ ts) ≡ 0
  at-first o ts e = rw e refl

  at-later : (o : Option Table) (ts : List (Option Table)) → is_named name o ≡ false → number_of name (o ∷ ts) ≡ 1 + number_of name ts
  at-later o ts e = rw e refl

  names-it : (o : Option Table) → is_named name o ≡ true → (table : Table) × (o ≡ Some table) × (table.name ≡ name)
  names-it None e = absurd (let wrong : false ≡ true = e in cc)
  names-it (Some table) e = (table, refl, same_table-is table.name name e)

  open-step : (o : Option Table) (ts : List (Option Table)) (b : Bool) → is_named name o ≡ b
      → (IsOpen name ts → (table : Table) × (get_or ts (number_of name ts) None ≡ Some table) × (table.name ≡ name)) → IsOpen name (o ∷ ts)
      → (table : Table) × (get_or (o ∷ ts) (number_of name (o ∷ ts)) None ≡ Some table) × (table.name ≡ name)
  open-step o ts true e rest opened =
      let it = names-it o e in
      (it.0, subst (λ (k : ℕ). get_or (o ∷ ts) k None ≡ Some it.0) (sym (at-first o ts e)) it.1, it.2)
  open-step o ts false e rest opened =
      let later : number_of name (o ∷ ts) ≡ 1 + number_of name ts = at-later o ts e in
      let it = rest (omega arith) in
      (it.0, subst (λ (k : ℕ). get_or (o ∷ ts) k None ≡ Some it.0) (sym later) (get-later o ts (number_of name ts) ∙ it.1), it.2)

  -- a table that is open stands in its place
  pub name-open : (tables : List (Option Table)) → IsOpen name tables → (table : Table) × (get_or tables (number_of name tables) None ≡ Some table) × (table.name ≡ name)
  name-open [] opened = absurd (omega arith)
  name-open (o ∷ ts) opened = open-step o ts (is_named name o) refl (name-open ts) opened

-- a place with a table is one of the list's
pub within : (tables : List (Option Table)) (at : ℕ) (table : Table) → get_or tables at None ≡ Some table → at < length tables
within [] at table e = absurd (let wrong : None ≡ Some table = e in cc)
within (o ∷ ts) zero table e = omega arith
within (o ∷ ts) (suc at) table e = let rest = within ts at table e in omega arith

pub named-open : (tables : List (Option Table)) → AreNamed tables → (at : ℕ) (table : Table) → get_or tables at None ≡ Some table → IsOpen table.name tables
named-open tables names at table e = subst (λ (k : ℕ). k < length tables) (sym (names at table e)) (within tables at table e)

-- two names have one place exactly where they are the same
pub same-number : (a b : TableName) (tables : List (Option Table)) → IsOpen a tables → (number_of a tables == number_of b tables) ≡ same_table a b
same-number a b tables opened = go (same_table a b) refl
  where
    self : (n : ℕ) → (n == n) ≡ true
    self n = grind (arith, nat_tests)

    other : (n m : ℕ) → n ≢ m → (n == m) ≡ false
    other n m ne = grind (arith, nat_tests)

    go : (s : Bool) → same_table a b ≡ s → (number_of a tables == number_of b tables) ≡ s
    go true e = subst (λ (x : TableName). (number_of a tables == number_of x tables) ≡ true) (same_table-is a b e) (self (number_of a tables))
    go false e = other (number_of a tables) (number_of b tables) (λ same.
        let one = name-open a tables opened in
        let two = name-open b tables (subst (λ (k : ℕ). k < length tables) same opened) in
        let there : one.0 ≡ two.0 = let at : get_or tables (number_of a tables) None ≡ get_or tables (number_of b tables) None = ap (λ (k : ℕ). get_or tables k None) same in cc (one.1, two.1) in
        let names : a ≡ b = sym one.2 ∙ (ap (λ (t : Table). t.name) there ∙ two.2) in
        let wrong : true ≡ false = sym (subst (λ (x : TableName). same_table a x ≡ true) names (same_table-self a)) ∙ e in
        cc)

-- one more table
abbrev pub with_new : Table → List (Option Table) → List (Option Table)
with_new new tables = edited is_vacant is_vacant tables (Some new ∷ [])

new-number-at : (name : TableName) (new t : Table) (ts : List (Option Table)) (b : Bool) → is_named name (Some t) ≡ b
    → (IsOpen name ts → number_of name (with_new new ts) ≡ number_of name ts) → IsOpen name (Some t ∷ ts) → number_of name (Some t ∷ with_new new ts) ≡ number_of name (Some t ∷ ts)
new-number-at name new t ts true e rest opened = at-first name (Some t) (with_new new ts) e ∙ sym (at-first name (Some t) ts e)
new-number-at name new t ts false e rest opened =
    let later : number_of name (Some t ∷ ts) ≡ 1 + number_of name ts = at-later name (Some t) ts e in
    at-later name (Some t) (with_new new ts) e ∙ (ap (λ n. 1 + n) (rest (omega arith)) ∙ sym later)

-- a table that is open keeps its place
pub new-number : (name : TableName) (new : Table) → is_named name (Some new) ≡ false → (tables : List (Option Table)) → IsOpen name tables → number_of name (with_new new tables) ≡ number_of name tables
new-number name new other [] opened = absurd (omega arith)
new-number name new other (None ∷ ts) opened = at-later name (Some new) ts other ∙ sym (at-later name None ts refl)
new-number name new other (Some t ∷ ts) opened = new-number-at name new t ts (is_named name (Some t)) refl (new-number name new other ts) opened

pub new-length : (new : Table) (tables : List (Option Table)) → length tables ≤ length (with_new new tables)
new-length new [] = omega arith
new-length new (None ∷ ts) = omega arith
new-length new (Some t ∷ ts) = let rest = new-length new ts in omega arith

pub new-open : (name : TableName) (new : Table) → is_named name (Some new) ≡ false → (tables : List (Option Table)) → IsOpen name tables → IsOpen name (with_new new tables)
new-open name new other tables opened = let same = new-number name new other tables opened in let more = new-length new tables in omega arith

-- where the new table stands
abbrev pub vacancy : List (Option Table) → ℕ
vacancy tables = position_or_len is_vacant tables

pub new-at : (new : Table) (tables : List (Option Table)) (k : ℕ) → get_or (with_new new tables) k None ≡ cond (k == vacancy tables) (Some new) (get_or tables k None)
new-at new [] zero = refl
new-at new [] (suc k) = let other : (suc k == 0) ≡ false = grind (arith, nat_tests) in rw other refl
new-at new (None ∷ ts) zero = refl
new-at new (None ∷ ts) (suc k) = let other : (suc k == 0) ≡ false = grind (arith, nat_tests) in rw other refl
new-at new (Some t ∷ ts) zero = let other : (0 == 1 + vacancy ts) ≡ false = grind (arith, nat_tests) in rw other refl
new-at new (Some t ∷ ts) (suc k) = let same : (suc k == 1 + vacancy ts) ≡ (k == vacancy ts) = grind (arith, nat_tests) in rw same (new-at new ts k)

pub vacant-there : (tables : List (Option Table)) → get_or tables (vacancy tables) None ≡ None
vacant-there [] = refl
vacant-there (None ∷ ts) = refl
vacant-there (Some t ∷ ts) = rw one-add (vacant-there ts)

new-there-at : (new t : Table) (ts : List (Option Table)) (b : Bool) → is_named new.name (Some t) ≡ b
    → (length ts ≤ number_of new.name ts → number_of new.name (with_new new ts) ≡ vacancy ts) → length (Some t ∷ ts) ≤ number_of new.name (Some t ∷ ts)
    → number_of new.name (Some t ∷ with_new new ts) ≡ 1 + vacancy ts
new-there-at new t ts true e rest none = absurd (let z : number_of new.name (Some t ∷ ts) ≡ 0 = at-first new.name (Some t) ts e in omega arith)
new-there-at new t ts false e rest none =
    let later : number_of new.name (Some t ∷ ts) ≡ 1 + number_of new.name ts = at-later new.name (Some t) ts e in
    at-later new.name (Some t) (with_new new ts) e ∙ ap (λ n. 1 + n) (rest (omega arith))

pub own-name : (table : Table) → is_named table.name (Some table) ≡ true
own-name table = same_table-self table.name

pub new-there : (new : Table) (tables : List (Option Table)) → length tables ≤ number_of new.name tables → number_of new.name (with_new new tables) ≡ vacancy tables
new-there new [] none = at-first new.name (Some new) [] (own-name new)
new-there new (None ∷ ts) none = at-first new.name (Some new) ts (own-name new)
new-there new (Some t ∷ ts) none = new-there-at new t ts (is_named new.name (Some t)) refl (new-there new ts) none

-- a table that isn't open has no open table's name
pub new-other : (new table : Table) (tables : List (Option Table)) → length tables ≤ number_of new.name tables → IsOpen table.name tables → is_named table.name (Some new) ≡ false
new-other new table tables none opened = go (is_named table.name (Some new)) refl
  where
    go : (b : Bool) → is_named table.name (Some new) ≡ b → is_named table.name (Some new) ≡ false
    go false e = e
    go true e = absurd (let same : number_of new.name tables ≡ number_of table.name tables = ap (λ (x : TableName). number_of x tables) (same_table-is new.name table.name e) in omega arith)

pub new-names : (new : Table) (tables : List (Option Table)) → length tables ≤ number_of new.name tables → AreNamed tables → AreNamed (with_new new tables)
new-names new tables none names = λ at table is. go at table (at == vacancy tables) refl (sym (new-at new tables at) ∙ is)
  where
    go : (at : ℕ) (table : Table) (b : Bool) → (at == vacancy tables) ≡ b → cond b (Some new) (get_or tables at None) ≡ Some table → number_of table.name (with_new new tables) ≡ at
    go at table true e is =
        let same : new ≡ table = cc in
        let place : at ≡ vacancy tables = grind (arith, nat_tests) in
        subst (λ (t : Table). number_of t.name (with_new new tables) ≡ at) same (new-there new tables none ∙ sym place)
    go at table false e is =
        let opened = named-open tables names at table is in
        new-number table.name new (new-other new table tables none opened) tables opened ∙ names at table is

-- one table less
pub gone-at : (tables : List (Option Table)) (k j : ℕ) → get_or (set tables k None) j None ≡ cond (j == k) None (get_or tables j None)
gone-at [] k j = go (j == k)
  where
    go : (b : Bool) → None ≡ cond {A = Option Table} b None None
    go true = refl
    go false = refl
gone-at (o ∷ ts) zero zero = refl
gone-at (o ∷ ts) zero (suc j) = let other : (suc j == 0) ≡ false = grind (arith, nat_tests) in rw other refl
gone-at (o ∷ ts) (suc k) zero = let other : (0 == suc k) ≡ false = grind (arith, nat_tests) in rw other refl
gone-at (o ∷ ts) (suc k) (suc j) = let same : (suc j == suc k) ≡ (j == k) = grind (arith, nat_tests) in rw same (gone-at ts k j)

gone-step : (name : TableName) (o : Option Table) (ts : List (Option Table)) (k : ℕ) (b : Bool) → is_named name o ≡ b
    → (number_of name ts ≢ k → IsOpen name ts → number_of name (set ts k None) ≡ number_of name ts) → number_of name (o ∷ ts) ≢ suc k → IsOpen name (o ∷ ts)
    → number_of name (o ∷ set ts k None) ≡ number_of name (o ∷ ts)
gone-step name o ts k true e rest ne opened = at-first name o (set ts k None) e ∙ sym (at-first name o ts e)
gone-step name o ts k false e rest ne opened =
    let later : number_of name (o ∷ ts) ≡ 1 + number_of name ts = at-later name o ts e in
    at-later name o (set ts k None) e ∙ (ap (λ n. 1 + n) (rest (λ same. ne (omega arith)) (omega arith)) ∙ sym later)

-- a table of another place keeps its place
pub gone-number : (name : TableName) (tables : List (Option Table)) (k : ℕ) → number_of name tables ≢ k → IsOpen name tables → number_of name (set tables k None) ≡ number_of name tables
gone-number name [] k ne opened = absurd (omega arith)
gone-number name (o ∷ ts) zero ne opened = first (is_named name o) refl
  where
    first : (b : Bool) → is_named name o ≡ b → number_of name (None ∷ ts) ≡ number_of name (o ∷ ts)
    first true e = absurd (ne (at-first name o ts e))
    first false e = at-later name None ts refl ∙ sym (at-later name o ts e)
gone-number name (o ∷ ts) (suc k) ne opened = gone-step name o ts k (is_named name o) refl (gone-number name ts k) ne opened

pub gone-length : (tables : List (Option Table)) (k : ℕ) → length (set tables k None) ≡ length tables
gone-length [] k = refl
gone-length (o ∷ ts) zero = refl
gone-length (o ∷ ts) (suc k) = let rest = gone-length ts k in omega arith

pub gone-open : (name : TableName) (tables : List (Option Table)) (k : ℕ) → number_of name tables ≢ k → IsOpen name tables → IsOpen name (set tables k None)
gone-open name tables k ne opened = let same = gone-number name tables k ne opened in let long = gone-length tables k in omega arith

pub gone-names : (tables : List (Option Table)) (k : ℕ) → AreNamed tables → AreNamed (set tables k None)
gone-names tables k names = λ at table is. go at table (at == k) refl (sym (gone-at tables k at) ∙ is)
  where
    go : (at : ℕ) (table : Table) (b : Bool) → (at == k) ≡ b → cond b None (get_or tables at None) ≡ Some table → number_of table.name (set tables k None) ≡ at
    go at table true e is = absurd (let wrong : None ≡ Some table = is in cc)
    go at table false e is =
        let place = names at table is in
        let other : at ≢ k = grind (arith, nat_tests) in
        gone-number table.name tables k (λ same. other (sym place ∙ same)) (named-open tables names at table is) ∙ place

-- the open tables, in order
pub tables_transitive : IsTransitive table_before
tables_transitive = λ a b c. fields_transitive (a.name.owner ∷ a.name.name ∷ []) (b.name.owner ∷ b.name.name ∷ []) (c.name.owner ∷ c.name.name ∷ [])

pub tables_irreflexive : IsIrreflexive table_before
tables_irreflexive = λ a. fields_irreflexive (a.name.owner ∷ a.name.name ∷ [])

names-equal : (a b : TableName) → slice_cmp (slice_cmp nat_cmp) (a.owner ∷ a.name ∷ []) (b.owner ∷ b.name ∷ []) ≡ Equal → same_table a b ≡ true
names-equal a b e =
    let one = then-equal (slice_cmp nat_cmp a.owner b.owner) _ e in
    let two = then-equal (slice_cmp nat_cmp a.name b.name) _ one.1 in
    and_from (bytes_eq a.owner b.owner) (bytes_eq a.name b.name)
    ((bytes_eq-Decides a.owner b.owner).1 (texts-equal a.owner b.owner one.0)) ((bytes_eq-Decides a.name b.name).1 (texts-equal a.name b.name two.0))

tables-by_order : (a b : Table) (o : Ordering) → slice_cmp (slice_cmp nat_cmp) (a.name.owner ∷ a.name.name ∷ []) (b.name.owner ∷ b.name.name ∷ []) ≡ o → same_table a.name b.name ≡ false
    → (table_before b a ≡ true) ⊎ (table_before a b ≡ true)
tables-by_order a b Less e other = inr (ap is_lt e)
tables-by_order a b Equal e other = absurd (let wrong : true ≡ false = sym (names-equal a.name b.name e) ∙ other in cc)
tables-by_order a b Greater e other = inl (ap is_lt (fields_total.antisymm (b.name.owner ∷ b.name.name ∷ []) (a.name.owner ∷ a.name.name ∷ []) ∙ ap ordering_reverse e))

pub tables_apart : (a b : Table) → same_table a.name b.name ≡ false → (table_before b a ≡ true) ⊎ (table_before a b ≡ true)
tables_apart a b other = tables-by_order a b (slice_cmp (slice_cmp nat_cmp) (a.name.owner ∷ a.name.name ∷ []) (b.name.owner ∷ b.name.name ∷ [])) refl other

-- what stands in the sorted list
pub sorted-has : {X : Type 0} (before : X → X → Bool) (xs : List X) (x : X) → Has (in_order_of before xs) x → Has xs x
sorted-has before [] x has = has
sorted-has before (y ∷ ys) x has = elim (placed-has before y (in_order_of before ys) x has) [
  | inl same ↦ inl same
  | inr later ↦ inr (sorted-has before ys x later)
]

pub has-sorted : {X : Type 0} (before : X → X → Bool) (xs : List X) (x : X) → Has xs x → Has (in_order_of before xs) x
has-sorted before [] x has = has
has-sorted before (y ∷ ys) x (inl same) = subst (Has (placed before y (in_order_of before ys))) same (placed-new before y (in_order_of before ys))
has-sorted before (y ∷ ys) x (inr later) = placed-old before y (in_order_of before ys) x (has-sorted before ys x later)

pub has-at : (tables : List (Option Table)) (table : Table) → Has (filter_map itself tables) table → (at : ℕ) × (get_or tables at None ≡ Some table)
has-at [] table has = absurd has
has-at (None ∷ ts) table has = let it = has-at ts table has in (suc it.0, it.1)
has-at (Some t ∷ ts) table (inl same) = (0, ap Some same)
has-at (Some t ∷ ts) table (inr later) = let it = has-at ts table later in (suc it.0, it.1)

pub at-has : (tables : List (Option Table)) (table : Table) (at : ℕ) → get_or tables at None ≡ Some table → Has (filter_map itself tables) table
at-has [] table at e = absurd (let wrong : None ≡ Some table = e in cc)
at-has (None ∷ ts) table zero e = absurd (let wrong : None ≡ Some table = e in cc)
at-has (None ∷ ts) table (suc at) e = at-has ts table at e
at-has (Some t ∷ ts) table zero e = inl (let same : t ≡ table = cc in same)
at-has (Some t ∷ ts) table (suc at) e = inr (at-has ts table at e)

-- the rest of named tables is named
later-names : (o : Option Table) (ts : List (Option Table)) → AreNamed (o ∷ ts) → AreNamed ts
later-names o ts names = λ at table is. go at table (is_named table.name o) refl (names (suc at) table is)
  where
    go : (at : ℕ) (table : Table) (b : Bool) → is_named table.name o ≡ b → number_of table.name (o ∷ ts) ≡ suc at → number_of table.name ts ≡ at
    go at table true e place = absurd (let z = at-first table.name o ts e in omega arith)
    go at table false e place = let later = at-later table.name o ts e in omega arith

later-other : (t : Table) (ts : List (Option Table)) → AreNamed (Some t ∷ ts) → (table : Table) (at : ℕ) → get_or ts at None ≡ Some table → same_table t.name table.name ≡ false
later-other t ts names table at is = go (is_named table.name (Some t)) refl
  where
    go : (b : Bool) → is_named table.name (Some t) ≡ b → same_table t.name table.name ≡ false
    go false e = e
    go true e = absurd (let z = at-first table.name (Some t) ts e in let place = names (suc at) table is in omega arith)

sorted-tables : (tables : List (Option Table)) → AreNamed tables → is_in_order table_before (in_order_of table_before (filter_map itself tables)) ≡ true
sorted-tables [] names = refl
sorted-tables (None ∷ ts) names = sorted-tables ts (later-names None ts names)
sorted-tables (Some t ∷ ts) names =
    placed-ordered table_before tables_transitive t (in_order_of table_before (filter_map itself ts)) (sorted-tables ts (later-names (Some t) ts names))
    (λ y has. let it = has-at ts y (sorted-has table_before (filter_map itself ts) y has) in tables_apart t y (later-other t ts names y it.0 it.1))

pub tables-ordered : (tables : List (Option Table)) → AreNamed tables → is_in_order table_before (open_tables tables) ≡ true
unfolding open_tables
tables-ordered tables names = sorted-tables tables names

pub tables-has : (tables : List (Option Table)) (table : Table) → Has (open_tables tables) table → (at : ℕ) × (get_or tables at None ≡ Some table)
unfolding open_tables
tables-has tables table has = has-at tables table (sorted-has table_before (filter_map itself tables) table has)

pub has-tables : (tables : List (Option Table)) (table : Table) (at : ℕ) → get_or tables at None ≡ Some table → Has (open_tables tables) table
unfolding open_tables
has-tables tables table at e = has-sorted table_before (filter_map itself tables) table (at-has tables table at e)

-- one more table is placed among the open ones
pub tables-with : (new : Table) (tables : List (Option Table)) → length tables ≤ number_of new.name tables → AreNamed tables → open_tables (with_new new tables) ≡ placed table_before new (open_tables tables)
tables-with new tables none names = same_sorted table_before tables_transitive tables_irreflexive (open_tables (with_new new tables)) (placed table_before new (open_tables tables))
    (tables-ordered (with_new new tables) (new-names new tables none names))
    (placed-ordered table_before tables_transitive new (open_tables tables) (tables-ordered tables names)
    (λ y has. let it = tables-has tables y has in tables_apart new y (new-other new y tables none (named-open tables names it.0 y it.1))))
    (λ x has. let it = tables-has (with_new new tables) x has in one x it.0 (it.0 == vacancy tables) (sym (new-at new tables it.0) ∙ it.1))
    (λ x has. elim (placed-has table_before new (open_tables tables) x has) [
      | inl same ↦ subst (Has (open_tables (with_new new tables))) same (has-tables (with_new new tables) new (vacancy tables) (new-at new tables (vacancy tables) ∙ ap (λ b. cond b (Some new) (get_or tables (vacancy tables) None)) (self (vacancy tables))))
      | inr later ↦ let it = tables-has tables x later in two x it.0 it.1 (it.0 == vacancy tables) refl
    ])
  where
    self : (n : ℕ) → (n == n) ≡ true
    self n = grind (arith, nat_tests)

    one : (x : Table) (at : ℕ) (b : Bool) → cond b (Some new) (get_or tables at None) ≡ Some x → Has (placed table_before new (open_tables tables)) x
    one x at true is = let same : new ≡ x = cc in subst (Has (placed table_before new (open_tables tables))) same (placed-new table_before new (open_tables tables))
    one x at false is = placed-old table_before new (open_tables tables) x (has-tables tables x at is)

    vacant : (ts : List (Option Table)) (k : ℕ) (x : Table) → k ≡ vacancy ts → get_or ts k None ≡ Some x → ⊥
    vacant ts k x at is = let e : get_or ts (vacancy ts) None ≡ None = vacant-there ts in let wrong : Some x ≡ None = sym is ∙ (ap (λ (j : ℕ). get_or ts j None) at ∙ e) in cc

    two : (x : Table) (at : ℕ) → get_or tables at None ≡ Some x → (b : Bool) → (at == vacancy tables) ≡ b → Has (open_tables (with_new new tables)) x
    two x at is true e = absurd (vacant tables at x (grind (arith, nat_tests)) is)
    two x at is false e = has-tables (with_new new tables) x at (new-at new tables at ∙ (ap (λ b. cond b (Some new) (get_or tables at None)) e ∙ is))

-- the table with this name among tables
abbrev pub named_in : TableName → List Table → Option Table
named_in name [] = None
named_in name (table ∷ tables) = cond (has_name name table) (Some table) (named_in name tables)

any-named : (name : TableName) (tables : List Table) → is_open name tables ≡ is_some (named_in name tables)
any-named name [] = refl
any-named name (table ∷ tables) = go (has_name name table) (any-named name tables)
  where
    go : (b : Bool) → is_open name tables ≡ is_some (named_in name tables) → (b || is_open name tables) ≡ is_some (cond b (Some table) (named_in name tables))
    go true rest = refl
    go false rest = rest

-- the key of a table that may be there
abbrev pub key_in : Option Table → List ℕ
key_in None = []
key_in (Some table) = table.key

pub key-named : (name : TableName) (tables : List Table) → key_of name tables ≡ key_in (named_in name tables)
key-named name [] = refl
key-named name (table ∷ tables) = go (has_name name table) (key-named name tables)
  where
    go : (b : Bool) → key_of name tables ≡ key_in (named_in name tables) → cond b table.key (key_of name tables) ≡ key_in (cond b (Some table) (named_in name tables))
    go true rest = refl
    go false rest = rest

-- in a list with the table, and none other of its name
named-has : (name : TableName) (tables : List Table) (table : Table) → Has tables table → table.name ≡ name → ((x : Table) → Has tables x → x.name ≡ name → x ≡ table) → named_in name tables ≡ Some table
named-has name [] table has is alone = absurd has
named-has name (t ∷ ts) table has is alone = go (has_name name t) refl has (λ later. named-has name ts table later is (λ x h e. alone x (inr h) e))
  where
    go : (b : Bool) → has_name name t ≡ b → Has (t ∷ ts) table → (Has ts table → named_in name ts ≡ Some table) → cond b (Some t) (named_in name ts) ≡ Some table
    go true e has rest = ap Some (alone t (inl refl) (same_table-is t.name name e))
    go false e (inl same) rest = absurd (let wrong : true ≡ false = sym (subst (λ (x : TableName). has_name x t ≡ true) (ap (λ (x : Table). x.name) same ∙ is) (same_table-self t.name)) ∙ e in cc)
    go false e (inr later) rest = rest later

named-hasn't : (name : TableName) (tables : List Table) → ((x : Table) → Has tables x → x.name ≡ name → ⊥) → named_in name tables ≡ None
named-hasn't name [] none = refl
named-hasn't name (t ∷ ts) none = go (has_name name t) refl (named-hasn't name ts (λ x h e. none x (inr h) e))
  where
    go : (b : Bool) → has_name name t ≡ b → named_in name ts ≡ None → cond b (Some t) (named_in name ts) ≡ None
    go true e rest = absurd (none t (inl refl) (same_table-is t.name name e))
    go false e rest = rest

module _ (name : TableName) (tables : List (Option Table)) (names : AreNamed tables) where
  -- the open table of a name stands in the place of the name
  pub named-opened : IsOpen name tables → named_in name (open_tables tables) ≡ get_or tables (number_of name tables) None
  named-opened opened =
      let it = name-open name tables opened in
      named-has name (open_tables tables) it.0 (has-tables tables it.0 (number_of name tables) it.1) it.2
      (λ x has is. let at = tables-has tables x has in
      let place : at.0 ≡ number_of name tables = sym (names at.0 x at.1) ∙ ap (λ (y : TableName). number_of y tables) is in
      let both : Some x ≡ Some it.0 = sym at.1 ∙ (ap (λ (k : ℕ). get_or tables k None) place ∙ it.1) in cc)
      ∙ sym it.1

  pub named-shut : length tables ≤ number_of name tables → named_in name (open_tables tables) ≡ None
  named-shut shut = named-hasn't name (open_tables tables) (λ x has is. let at = tables-has tables x has in
      let inside = within tables at.0 x at.1 in
      let place : at.0 ≡ number_of name tables = sym (names at.0 x at.1) ∙ ap (λ (y : TableName). number_of y tables) is in
      let wrong : ⊥ = absurd (omega arith) in wrong)

-- a name that is open has a place
pub open-there : (name : TableName) (tables : List (Option Table)) → is_open name (open_tables tables) ≡ true → IsOpen name tables
open-there name tables opened =
    let it = any-has (open_tables tables) opened in
    let at = tables-has tables it.0 it.1 in
    let inside = within tables at.0 it.0 at.1 in
    first-place tables at.0 it.0 at.1 it.2
  where
    any-has : (ts : List Table) → is_open name ts ≡ true → (table : Table) × Has ts table × (has_name name table ≡ true)
    any-has ts is = go ts is
      where
        go : (xs : List Table) → is_open name xs ≡ true → (table : Table) × Has xs table × (has_name name table ≡ true)
        go [] is = absurd (let wrong : false ≡ true = is in cc)
        go (t ∷ xs) is = by_name (has_name name t) refl is (go xs)
          where
            by_name : (b : Bool) → has_name name t ≡ b → (b || is_open name xs) ≡ true → (is_open name xs ≡ true → (table : Table) × Has xs table × (has_name name table ≡ true))
                → (table : Table) × Has (t ∷ xs) table × (has_name name table ≡ true)
            by_name true e is rest = (t, inl refl, e)
            by_name false e is rest = let it = rest is in (it.0, inr it.1, it.2)

    first-place : (ts : List (Option Table)) (at : ℕ) (table : Table) → get_or ts at None ≡ Some table → has_name name table ≡ true → IsOpen name ts
    first-place [] at table e is = absurd (let wrong : None ≡ Some table = e in cc)
    first-place (o ∷ ts) zero table e is = let z = at-first name o ts (ap (is_named name) e ∙ is) in omega arith
    first-place (o ∷ ts) (suc at) table e is = go (is_named name o) refl (first-place ts at table e is)
      where
        go : (b : Bool) → is_named name o ≡ b → IsOpen name ts → IsOpen name (o ∷ ts)
        go true f rest = let z = at-first name o ts f in omega arith
        go false f rest = let z = at-later name o ts f in omega arith

pub there-opened : (name : TableName) (tables : List (Option Table)) → AreNamed tables → IsOpen name tables → is_open name (open_tables tables) ≡ true
there-opened name tables names opened = any-named name (open_tables tables) ∙ (ap is_some (named-opened name tables names opened) ∙ ap is_some (name-open name tables opened).1)

pub shut-there : (name : TableName) (tables : List (Option Table)) → AreNamed tables → length tables ≤ number_of name tables → is_open name (open_tables tables) ≡ false
shut-there name tables names shut = any-named name (open_tables tables) ∙ ap is_some (named-shut name tables names shut)

-- the key of a name is that of its place
pub key-there : (name : TableName) (tables : List (Option Table)) → AreNamed tables → IsOpen name tables → key_of name (open_tables tables) ≡ rows.key_of (number_of name tables) tables
key-there name tables names opened =
    let it = name-open name tables opened in
    key-named name (open_tables tables) ∙ (ap key_in (named-opened name tables names opened) ∙ (ap key_in it.1 ∙ sym (ap rows.key_in it.1)))

-- whether a name is open, both ways of saying it
pub open-same : (name : TableName) (tables : List (Option Table)) → AreNamed tables → (b : Bool) → (IsTrue b ↔ IsOpen name tables) → b ≡ is_open name (open_tables tables)
open-same name tables names true says = sym (there-opened name tables names (says.0 refl))
open-same name tables names false says = go (is_open name (open_tables tables)) refl
  where
    go : (x : Bool) → is_open name (open_tables tables) ≡ x → false ≡ is_open name (open_tables tables)
    go false e = sym e
    go true e = absurd (let wrong : false ≡ true = says.1 (open-there name tables e) in cc)

pub shut-is : (name : TableName) (tables : List (Option Table)) → AreNamed tables → is_open name (open_tables tables) ≡ false → IsOpen name tables → ⊥
shut-is name tables names shut opened = let wrong : true ≡ false = sym (there-opened name tables names opened) ∙ shut in cc

pub nothing-open : open_tables [] ≡ []
unfolding open_tables
nothing-open = refl
