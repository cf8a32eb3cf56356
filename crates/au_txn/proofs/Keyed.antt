-- A key is locked by the rows that are kept exactly where a change of another client has it.
use Rattle.std.proofs.Common.{◌≡◌, ◌≢◌, ◌<◌, ◌≤◌, ◌∙◌, ◌⊎◌, inl, inr, ℕ, zero, suc, Bool, true, false, not, cond, ◌||◌, List, [], ◌∷◌, get_or, length, refl, sym, ap, ap₂, subst, arith, Option, None, Some}
use Rattle.std.specs.Prelude.{◌==◌, ◌↔◌, IsTrue}
use Rattle.std.specs.List.{AllByRecursion, list_all}
use Rattle.std.proofs.lemmas.Bool.{and_parts, and_from, cases_lt}
use Rattle.std.proofs.lemmas.Bool.Decides.{nat_tests}
use Rattle.au_base.specs.declared.cell.Cell.{Cell}
use Rattle.au_base.specs.declared.numbers.ClientNo.{ClientNo}
use Rattle.au_base.specs.declared.numbers.RowNo.{RowNo}
use Rattle.au_base.specs.declared.table.TableName.{TableName}
use Rattle.au_base.specs.Sameness.{same_table}
use Rattle.au_rows.specs.declared.table.Table.{Table}
use Rattle.au_rows.specs.Held.{Change, Contents, HasKey, IsLocked, IsLocking, IsOpen, SomeLocks, is_of_other, is_others, number_of, settled_of}
use Rattle.au_rows.specs.Held as rows
use Rattle.au_txn.specs.declared.change.RowChange.{RowChange}
use Rattle.au_txn.specs.Desks.{key_of}
use Rattle.au_txn.specs.Inside.{Ties, committed, is_own, kept_change, open_tables}
use Rattle.au_txn.specs.Rows.{Row, row_at, with_content}
use Rattle.au_txn.specs.Transactions.{AreFrom, IsKeyLocked, IsUnder, IsUnderOther, laid_over, is_of_row, is_of_table, names_row, names_table}
use Rattle.au_txn.proofs.Numbered.{contains-has, has-contains, has-map, map-has}
use Rattle.au_txn.proofs.Ordered.{Has, all_to, all_from, kept as stays, was}
use Rattle.au_txn.proofs.Viewed.{row_in, seen-answer, seen-ordered, seen_rows}
use Rattle.au_txn.proofs.RowOrder.{answered, there, number-is, number-self, row_at-with, same_table-is, same_table-self}
use Rattle.au_txn.proofs.Standing.{seen-is, settled-is}
use Rattle.au_txn.proofs.TableLemmas.{key-named, key_in, key-there, named-shut, same-number}

pub each-of : {X : Type 0} (P : X → Type 0) (xs : List X) → AllByRecursion P xs → (x : X) → Has xs x → P x
each-of P [] all x has = absurd has
each-of P (y ∷ ys) all x (inl same) = subst P same all.0
each-of P (y ∷ ys) all x (inr later) = each-of P ys all.1 x later

module _ (places : List ℕ) (held : List rows.Held) (k : ℕ) (key : List Cell) (client : ClientNo) where
  locks-one : (changes : List Change) → SomeLocks places held k key client changes → (change : Change) × Has changes change × IsLocking places held k key client change
  locks-one [] locks = absurd locks
  locks-one (change ∷ changes) (inl here) = (change, inl refl, here)
  locks-one (change ∷ changes) (inr later) = let it = locks-one changes later in (it.0, inr it.1, it.2)

  one-locks : (changes : List Change) (change : Change) → Has changes change → IsLocking places held k key client change → SomeLocks places held k key client changes
  one-locks [] change has locks = absurd has
  one-locks (x ∷ changes) change (inl same) locks = inl (subst (IsLocking places held k key client) (sym same) locks)
  one-locks (x ∷ changes) change (inr later) locks = inr (one-locks changes change later locks)

own-row : (change : RowChange) → is_of_row change.table change.row change ≡ true
own-row change = and_from (same_table change.table change.table) (change.row.0 == change.row.0) (same_table-self change.table) (number-self change.row.0)

-- the first change of a row has what stood of it before
pub first-old : (t : TableName) (n : RowNo) (before : List Row) (changes : List RowChange) → AreFrom before changes → names_row t n changes ≡ true
    → (change : RowChange) × Has changes change × (change.table ≡ t) × (change.old ≡ row_at t n before)
first-old t n before [] from named = absurd (let wrong : false ≡ true = named in cc)
first-old t n before (change ∷ changes) from named = go (is_of_row t n change) refl named (first-old t n (with_content change.table change.row change.new before) changes from.1)
  where
    go : (b : Bool) → is_of_row t n change ≡ b → (b || names_row t n changes) ≡ true
        → (names_row t n changes ≡ true → (x : RowChange) × Has changes x × (x.table ≡ t) × (x.old ≡ row_at t n (with_content change.table change.row change.new before)))
        → (x : RowChange) × Has (change ∷ changes) x × (x.table ≡ t) × (x.old ≡ row_at t n before)
    go true e is rest =
        let parts = and_parts (same_table change.table t) (change.row.0 == n.0) e in
        let table : change.table ≡ t = same_table-is change.table t parts.0 in
        (change, inl refl, table, from.0 ∙ ap₂ (λ (u : TableName) (m : RowNo). row_at u m before) table (number-is change.row n parts.1))
    go false e is rest =
        let it = rest is in
        (it.0, inr it.1, it.2, it.3 ∙ (row_at-with t change.table n change.row change.new before ∙ ap (λ b. cond b change.new (row_at t n before)) e))

-- the old content of a change is what stood of its row, or what a change of it made
pub old-source : (before : List Row) (changes : List RowChange) (change : RowChange) → AreFrom before changes → Has changes change
    → (change.old ≡ row_at change.table change.row before) ⊎ ((x : RowChange) × Has changes x × (x.table ≡ change.table) × (change.old ≡ x.new))
old-source before [] change from has = absurd has
old-source before (first ∷ changes) change from (inl same) = inl (subst (λ (x : RowChange). x.old ≡ row_at x.table x.row before) same from.0)
old-source before (first ∷ changes) change from (inr later) = elim (old-source (with_content first.table first.row first.new before) changes change from.1 later) [
  | inl stood ↦ go (is_of_row change.table change.row first) refl stood
  | inr made ↦ inr (made.0, inr made.1, made.2, made.3)
]
  where
    go : (b : Bool) → is_of_row change.table change.row first ≡ b → change.old ≡ row_at change.table change.row (with_content first.table first.row first.new before)
        → (change.old ≡ row_at change.table change.row before) ⊎ ((x : RowChange) × Has (first ∷ changes) x × (x.table ≡ change.table) × (change.old ≡ x.new))
    go true e is =
        let parts = and_parts (same_table first.table change.table) (first.row.0 == change.row.0) e in
        inr (first, inl refl, same_table-is first.table change.table parts.0, is ∙ (row_at-with change.table first.table change.row first.row first.new before ∙ ap (λ b. cond b first.new (row_at change.table change.row before)) e))
    go false e is = inl (is ∙ (row_at-with change.table first.table change.row first.row first.new before ∙ ap (λ b. cond b first.new (row_at change.table change.row before)) e))

pub names-it : (changes : List RowChange) (change : RowChange) → Has changes change → names_row change.table change.row changes ≡ true
names-it [] change has = absurd has
names-it (x ∷ xs) change (inl same) = subst (λ (y : RowChange). (is_of_row y.table y.row x || names_row y.table y.row xs) ≡ true) same (ap (λ b. b || names_row x.table x.row xs) (own-row x))
names-it (x ∷ xs) change (inr later) = ap (λ b. is_of_row change.table change.row x || b) (names-it xs change later) ∙ right (is_of_row change.table change.row x)
  where
    right : (b : Bool) → (b || true) ≡ true
    right true = refl
    right false = refl

-- the key of a name, open or not
key-same : (kept : Contents) (transactions : ClientNo → List RowChange) → Ties kept transactions → (t : TableName) → rows.key_of (number_of t kept.tables) kept.tables ≡ key_of t (open_tables kept.tables)
key-same kept transactions ties t = go (cases_lt (number_of t kept.tables) (length kept.tables))
  where
    past : (tables : List (Option Table)) (k : ℕ) → length tables ≤ k → get_or tables k None ≡ None
    past [] k le = refl
    past (o ∷ ts) zero le = absurd (omega arith)
    past (o ∷ ts) (suc k) le = past ts k (omega arith)

    go : (number_of t kept.tables < length kept.tables) ⊎ (length kept.tables ≤ number_of t kept.tables) → rows.key_of (number_of t kept.tables) kept.tables ≡ key_of t (open_tables kept.tables)
    go (inl opened) = sym (key-there t kept.tables ties.names opened)
    go (inr shut) = ap rows.key_in (past kept.tables (number_of t kept.tables) shut) ∙ sym (key-named t (open_tables kept.tables) ∙ ap key_in (named-shut t kept.tables ties.names shut))

module _ (kept : Contents) (transactions : ClientNo → List RowChange) (ties : Ties kept transactions) where
  -- a change that is kept is one of its client's list
  source : (change : Change) → Has kept.changes change → (x : RowChange) × Has (transactions change.by) x × (kept_change kept.tables change.by x ≡ change)
  source change has = map-has (kept_change kept.tables change.by) (transactions change.by) change
      (subst (λ xs. Has xs change) (ties.logged change.by) (stays (is_own change.by) kept.changes change has (number-self change.by.0)))

  -- and the other way round
  logged-one : (c : ClientNo) (x : RowChange) → Has (transactions c) x → Has kept.changes (kept_change kept.tables c x)
  logged-one c x has = (was (is_own c) kept.changes (kept_change kept.tables c x)
      (subst (λ xs. Has xs (kept_change kept.tables c x)) (sym (ties.logged c)) (has-map (kept_change kept.tables c) (transactions c) x has))).0

  -- a change of the list of a table with the number is one of the table
  of-table : (c : ClientNo) (x : RowChange) (t : TableName) → Has (transactions c) x → number_of x.table kept.tables ≡ number_of t kept.tables → x.table ≡ t
  of-table c x t has place =
      let opened = each-of (λ (y : RowChange). IsOpen y.table kept.tables) (transactions c) (ties.there c) x has in
      let same : (number_of x.table kept.tables == number_of t kept.tables) ≡ true = grind (arith, nat_tests) in
      same_table-is x.table t (sym (same-number x.table t kept.tables opened) ∙ same)

  module _ (t : TableName) (key : List Cell) (client : ClientNo) where
    others-by : (change : Change) → is_others client change ≡ true → change.by.0 ≢ client.0
    others-by change other = let e : (change.by.0 == client.0) ≡ false = not-true (change.by.0 == client.0) other in grind (arith, nat_tests)
      where
        not-true : (b : Bool) → not b ≡ true → b ≡ false
        not-true true is = absurd (let wrong : false ≡ true = is in cc)
        not-true false is = refl

    other-is : (d : ClientNo) → d.0 ≢ client.0 → not (d.0 == client.0) ≡ true
    other-is d ne = ap not (let e : (d.0 == client.0) ≡ false = grind (arith, nat_tests) in e)

    locked-names : (places : List ℕ) → SomeLocks places kept.held (number_of t kept.tables) key client kept.changes → IsKeyLocked places transactions client t key
    locked-names places locks =
        let it = locks-one places kept.held (number_of t kept.tables) key client kept.changes locks in
        let x = source it.0 it.1 in
        let place : number_of x.0.table kept.tables ≡ number_of t kept.tables = ap (λ (y : Change). y.table) x.2 ∙ it.2.1 in
        let table = of-table it.0.by x.0 t x.1 place in (
          it.0.by,
          others-by it.0 it.2.0,
          elim it.2.2 [
            | inl new ↦ (x.0, has-contains (transactions it.0.by) x.0 x.1, table, inr (subst (HasKey places key) (sym (ap (λ (y : Change). y.content) x.2)) new))
            | inr settled ↦
                let number : x.0.row ≡ it.0.number = ap (λ (y : Change). y.number) x.2 in
                let first = first-old x.0.table x.0.row (committed kept.tables kept.held) (transactions it.0.by) (ties.from it.0.by) (names-it (transactions it.0.by) x.0 x.1) in
                let stood : settled_of it.0.table it.0.number kept.held ≡ first.0.old =
                ap₂ (λ (j : ℕ) (n : RowNo). settled_of j n kept.held) (sym (ap (λ (y : Change). y.table) x.2)) (sym number) ∙ (sym (settled-is kept transactions ties x.0.table x.0.row) ∙ sym first.3) in
                (first.0, has-contains (transactions it.0.by) first.0 first.1, first.2 ∙ table, inl (subst (HasKey places key) stood settled))
          ],
        )

    names-locked : (places : List ℕ) → IsKeyLocked places transactions client t key → SomeLocks places kept.held (number_of t kept.tables) key client kept.changes
    names-locked places locked =
        let change = locked.2.0 in
        let has = contains-has (transactions locked.0) change locked.2.1 in
        elim locked.2.3 [
          | inl old ↦ elim (old-source (committed kept.tables kept.held) (transactions locked.0) change (ties.from locked.0) has) [
            | inl stood ↦ by change has locked.2.2 (inr (subst (HasKey places key) (stood ∙ settled-is kept transactions ties change.table change.row) old))
            | inr made ↦ by made.0 made.1 (made.2 ∙ locked.2.2) (inl (subst (HasKey places key) made.3 old))
          ]
          | inr new ↦ by change has locked.2.2 (inl new)
        ]
      where
        by : (x : RowChange) → Has (transactions locked.0) x → x.table ≡ t → (HasKey places key x.new) ⊎ (HasKey places key (settled_of (number_of x.table kept.tables) x.row kept.held))
            → SomeLocks places kept.held (number_of t kept.tables) key client kept.changes
        by x has table either = one-locks places kept.held (number_of t kept.tables) key client kept.changes (kept_change kept.tables locked.0 x) (logged-one locked.0 x has)
            (other-is locked.0 locked.1, ap (λ (y : TableName). number_of y kept.tables) table, either)

    -- a key is locked exactly where another client has a change with it
    pub key-locked : IsLocked kept (number_of t kept.tables) key client ↔ IsKeyLocked (key_of t (open_tables kept.tables)) transactions client t key
    key-locked = (
      λ locks. locked-names (key_of t (open_tables kept.tables)) (subst (λ places. SomeLocks places kept.held (number_of t kept.tables) key client kept.changes) (key-same kept transactions ties t) locks),
      λ locked. subst (λ places. SomeLocks places kept.held (number_of t kept.tables) key client kept.changes) (sym (key-same kept transactions ties t)) (names-locked (key_of t (open_tables kept.tables)) locked),
    )

  -- a table is settled exactly where no list names it
  any-of-table : (t : TableName) (changes : List RowChange) → names_table t changes ≡ true → (x : RowChange) × Has changes x × (is_of_table t x ≡ true)
  any-of-table t [] named = absurd (let wrong : false ≡ true = named in cc)
  any-of-table t (x ∷ xs) named = go (is_of_table t x) refl named (any-of-table t xs)
    where
      go : (b : Bool) → is_of_table t x ≡ b → (b || names_table t xs) ≡ true → (names_table t xs ≡ true → (y : RowChange) × Has xs y × (is_of_table t y ≡ true)) → (y : RowChange) × Has (x ∷ xs) y × (is_of_table t y ≡ true)
      go true e is rest = (x, inl refl, e)
      go false e is rest = let it = rest is in (it.0, inr it.1, it.2)

  of-table-any : (t : TableName) (changes : List RowChange) (x : RowChange) → Has changes x → is_of_table t x ≡ true → names_table t changes ≡ true
  of-table-any t [] x has is = absurd has
  of-table-any t (y ∷ ys) x (inl same) is = ap (λ b. b || names_table t ys) (subst (λ (z : RowChange). is_of_table t z ≡ true) (sym same) is)
  of-table-any t (y ∷ ys) x (inr later) is = ap (λ b. is_of_table t y || b) (of-table-any t ys x later is) ∙ right (is_of_table t y)
    where
      right : (b : Bool) → (b || true) ≡ true
      right true = refl
      right false = refl

  pub settled-names : (t : TableName) → IsTrue (list_all (is_of_other (number_of t kept.tables)) kept.changes) ↔ ((c : ClientNo) → names_table t (transactions c) ≡ false)
  settled-names t = (
    λ all c. unnamed all c (names_table t (transactions c)) refl,
    λ none. all_to (is_of_other (number_of t kept.tables)) kept.changes (λ change has. ap not (other none change (source change has) (change.table == number_of t kept.tables) refl)),
  )
    where
      unnamed : IsTrue (list_all (is_of_other (number_of t kept.tables)) kept.changes) → (c : ClientNo) (b : Bool) → names_table t (transactions c) ≡ b → names_table t (transactions c) ≡ false
      unnamed all c false e = e
      unnamed all c true e =
          let it = any-of-table t (transactions c) e in
          let other = all_from (is_of_other (number_of t kept.tables)) kept.changes all (kept_change kept.tables c it.0) (logged-one c it.0 it.1) in
          let here : (number_of it.0.table kept.tables == number_of t kept.tables) ≡ true =
          subst (λ (m : ℕ). (number_of it.0.table kept.tables == m) ≡ true) (ap (λ (y : TableName). number_of y kept.tables) (same_table-is it.0.table t it.2)) (number-self (number_of it.0.table kept.tables)) in
          absurd (let wrong : false ≡ true = sym (ap not here) ∙ other in cc)

      other : ((c : ClientNo) → names_table t (transactions c) ≡ false) → (change : Change) → (x : RowChange) × Has (transactions change.by) x × (kept_change kept.tables change.by x ≡ change)
          → (b : Bool) → (change.table == number_of t kept.tables) ≡ b → (change.table == number_of t kept.tables) ≡ false
      other none change x false e = e
      other none change x true e =
          let place : number_of x.0.table kept.tables ≡ number_of t kept.tables = let p : change.table ≡ number_of t kept.tables = grind (arith, nat_tests) in ap (λ (y : Change). y.table) x.2 ∙ p in
          let table = of-table change.by x.0 t x.1 place in
          let named = of-table-any t (transactions change.by) x.0 x.1 (subst (λ (y : TableName). same_table x.0.table y ≡ true) table (same_table-self x.0.table)) in
          absurd (let wrong : true ≡ false = sym named ∙ none change.by in cc)

-- a row that is found under a key is one that is seen
module _ (kept : Contents) (transactions : ClientNo → List RowChange) (ties : Ties kept transactions) (t : TableName) (c : ClientNo) (key : List Cell) where
  pub found-under : (row : RowNo × List Cell) → rows.IsUnder kept (number_of t kept.tables) key c row
      → IsUnder (key_of t (open_tables kept.tables)) key t (laid_over (committed kept.tables kept.held) (transactions c)) row
  found-under row it = (
    sym (seen-is kept transactions ties t row.0 c)
        ∙ (sym (seen-answer t (number_of t kept.tables) c row.0 kept.held ties.order)
        ∙ answered (seen_rows t (number_of t kept.tables) c kept.held) (seen-ordered t (number_of t kept.tables) c kept.held ties.order) (row_in t row)
        (has-map (row_in t) (rows.view_of (number_of t kept.tables) c kept.held) row (contains-has (rows.view_of (number_of t kept.tables) c kept.held) row it.0))),
    subst (λ places. HasKey places key (Some row.1)) (key-same kept transactions ties t) it.1,
  )

  pub under-found : (row : RowNo × List Cell) → IsUnder (key_of t (open_tables kept.tables)) key t (laid_over (committed kept.tables kept.held) (transactions c)) row
      → rows.IsUnder kept (number_of t kept.tables) key c row
  under-found row it =
      let answer : row_at t row.0 (seen_rows t (number_of t kept.tables) c kept.held) ≡ Some row.1 =
      seen-answer t (number_of t kept.tables) c row.0 kept.held ties.order ∙ (seen-is kept transactions ties t row.0 c ∙ it.0) in
      let source' = map-has (row_in t) (rows.view_of (number_of t kept.tables) c kept.held) (record { table = t; number = row.0; cells = row.1 })
      (there t row.0 row.1 (seen_rows t (number_of t kept.tables) c kept.held) answer) in
      let same : source'.0 ≡ row = λ i. ((source'.2 i).number, (source'.2 i).cells) in (
        has-contains (rows.view_of (number_of t kept.tables) c kept.held) row (subst (Has (rows.view_of (number_of t kept.tables) c kept.held)) same source'.1),
        subst (λ places. HasKey places key (Some row.1)) (sym (key-same kept transactions ties t)) it.1,
      )

  -- and the same of another row than a given one
  pub found-other : (row other : RowNo) → rows.IsUnderOther kept (number_of t kept.tables) key row c other
      → IsUnderOther (key_of t (open_tables kept.tables)) key t (laid_over (committed kept.tables kept.held) (transactions c)) row other
  found-other row other it =
      let found = found-under (other, it.1) (it.2, it.3) in
      (it.0, subst (HasKey (key_of t (open_tables kept.tables)) key) (sym found.0) found.1)

  pub other-found : (row other : RowNo) → IsUnderOther (key_of t (open_tables kept.tables)) key t (laid_over (committed kept.tables kept.held) (transactions c)) row other
      → rows.IsUnderOther kept (number_of t kept.tables) key row c other
  other-found row other it = go (row_at t other (laid_over (committed kept.tables kept.held) (transactions c))) refl it.1
    where
      go : (o : Option (List Cell)) → row_at t other (laid_over (committed kept.tables kept.held) (transactions c)) ≡ o → HasKey (key_of t (open_tables kept.tables)) key o
          → rows.IsUnderOther kept (number_of t kept.tables) key row c other
      go None e has = absurd has
      go (Some cells) e has = let found = under-found (other, cells) (e, has) in (it.0, cells, found.0, found.1)
