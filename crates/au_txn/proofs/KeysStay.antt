-- What a client does keeps the discipline of keys.
use Rattle.std.proofs.Common.{◌≡◌, ◌≢◌, ◌∙◌, ◌⊎◌, inl, inr, ℕ, Bool, true, false, not, cond, ◌&&◌, ◌||◌, List, [], ◌∷◌, ◌++◌, filter, refl, sym, ap, ap₂, subst, arith, Option, None, Some}
use Rattle.std.specs.Prelude.{◌==◌}
use Rattle.std.proofs.lemmas.Bool.{and_from, and_parts}
use Rattle.std.proofs.lemmas.Bool.Decides.{nat_tests}
use Rattle.std.proofs.lemmas.List.Elements.{Contains-append_cases}
use Rattle.au_base.specs.declared.cell.Cell.{Cell}
use Rattle.au_base.specs.declared.numbers.ClientNo.{ClientNo}
use Rattle.au_base.specs.declared.numbers.RowNo.{RowNo}
use Rattle.au_base.specs.declared.table.TableName.{TableName}
use Rattle.au_base.specs.Sameness.{same_table}
use Rattle.au_rows.specs.Held.{HasKey, or_else}
use Rattle.au_txn.specs.declared.change.RowChange.{RowChange}
use Rattle.au_txn.specs.Keys.{ChangesOne, IsKeyed, KeysDiffer}
use Rattle.au_txn.specs.Rows.{Row, is_in, row_at}
use Rattle.au_txn.specs.Transactions.{AreFrom, IsKeyLocked, IsRowLocked, MakesKey, NamesKey, is_of_row, is_of_table, laid_over, names_row, names_table, rows_differ}
use Rattle.au_txn.proofs.Histories.{laid-untouched, laid_over-append, last_made, last_made-none, names-append, or_before, row_at-laid}
use Rattle.au_txn.proofs.Keyed.{names-it, old-source}
use Rattle.au_txn.proofs.Numbered.{contains-has, has-contains}
use Rattle.au_txn.proofs.Ordered.{Has}
use Rattle.au_txn.proofs.RowOrder.{client-is, is_row-is, number-self, row_at-filter, same_table-is, same_table-self}

-- two clients are one, or not
same-client : (a b : ClientNo) → (a ≡ b) ⊎ (a.0 ≢ b.0)
same-client a b = go (a.0 == b.0) refl
  where
    go : (x : Bool) → (a.0 == b.0) ≡ x → (a ≡ b) ⊎ (a.0 ≢ b.0)
    go true e = inl (client-is a b e)
    go false e = inr (λ same. (let is : (a.0 == b.0) ≡ true = grind (arith, nat_tests) in let wrong : true ≡ false = sym is ∙ e in cc))

own-row : (change : RowChange) → is_of_row change.table change.row change ≡ true
own-row change = and_from (same_table change.table change.table) (change.row.0 == change.row.0) (same_table-self change.table) (number-self change.row.0)

no-key : (places : List ℕ) (key : List Cell) → HasKey places key None → ⊥
no-key places key has = has

-- what the changes make of a row that they name is one of their new contents
made-has : (t : TableName) (n : RowNo) (changes : List RowChange) → names_row t n changes ≡ true
    → (content : Option (List Cell)) × (last_made t n changes ≡ Some content) × (change : RowChange) × Has changes change × (change.table ≡ t) × (change.new ≡ content)
made-has t n [] named = absurd (let wrong : false ≡ true = named in cc)
made-has t n (change ∷ changes) named = go (names_row t n changes) refl (is_of_row t n change) refl named (made-has t n changes)
  where
    last-none : (xs : List RowChange) → names_row t n xs ≡ false → last_made t n xs ≡ None
    last-none xs h = last_made-none t n xs h

    Made : List RowChange → Type 0
    Made xs = (content : Option (List Cell)) × (last_made t n xs ≡ Some content) × (x : RowChange) × Has xs x × (x.table ≡ t) × (x.new ≡ content)

    go : (b : Bool) → names_row t n changes ≡ b → (a : Bool) → is_of_row t n change ≡ a → (a || b) ≡ true
        → (names_row t n changes ≡ true → (content : Option (List Cell)) × (last_made t n changes ≡ Some content) × (x : RowChange) × Has changes x × (x.table ≡ t) × (x.new ≡ content))
        → (content : Option (List Cell)) × (last_made t n (change ∷ changes) ≡ Some content) × (x : RowChange) × Has (change ∷ changes) x × (x.table ≡ t) × (x.new ≡ content)
    go true f a e is rest =
        let it = rest f in
        (it.0, ap (λ o. or_else o (cond (is_of_row t n change) (Some change.new) None)) it.1, it.2, inr it.3, it.4, it.5)
    go false f true e is rest =
        (change.new, ap₂ or_else (last-none changes f) (ap (λ b. cond b (Some change.new) None) e), change, inl refl, same_table-is change.table t (and_parts (same_table change.table t) (change.row.0 == n.0) e).0, refl)
    go false f false e is rest = absurd (let wrong : false ≡ true = is in cc)

-- a key of a row that changes name is one of their keys
named-key : (places : List ℕ) (t : TableName) (n : RowNo) (key : List Cell) (rows : List Row) (changes : List RowChange) → names_row t n changes ≡ true
    → HasKey places key (row_at t n (laid_over rows changes)) → NamesKey places t key changes
named-key places t n key rows changes named has =
    let it = made-has t n changes named in
    let is : row_at t n (laid_over rows changes) ≡ it.0 = row_at-laid t n rows changes ∙ ap (λ o. or_before o (row_at t n rows)) it.1 in
    (it.2, has-contains changes it.2 it.3, it.4, inr (subst (HasKey places key) (is ∙ sym it.5) has))

-- what a client sees of a row that it names doesn't depend on the rows
named-same : (t : TableName) (n : RowNo) (a b : List Row) (changes : List RowChange) → names_row t n changes ≡ true → row_at t n (laid_over a changes) ≡ row_at t n (laid_over b changes)
named-same t n a b changes named =
    let it = made-has t n changes named in
    row_at-laid t n a changes ∙ (ap (λ o. or_before o (row_at t n a)) it.1 ∙ sym (row_at-laid t n b changes ∙ ap (λ o. or_before o (row_at t n b)) it.1))

-- two rows with one key are one
use-differ : (places : List ℕ) (t : TableName) (xs : List Row) → places ≢ [] → KeysDiffer places t xs → (m n : RowNo) (key : List Cell)
    → HasKey places key (row_at t m xs) → HasKey places key (row_at t n xs) → m ≡ n
use-differ [] t xs some differ m n key first second = absurd (some refl)
use-differ (p ∷ ps) t xs some differ m n key first second = differ m n key first second

-- a row is named by the one list or by the other
named-left : (t : TableName) (n : RowNo) (xs ys : List RowChange) → names_row t n xs ≡ true → names_row t n (xs ++ ys) ≡ true
named-left t n xs ys named = names-append t n xs ys ∙ ap (λ b. b || names_row t n ys) named

named-right : (t : TableName) (n : RowNo) (xs ys : List RowChange) → names_row t n ys ≡ true → names_row t n (xs ++ ys) ≡ true
named-right t n xs ys named = names-append t n xs ys ∙ (ap (λ b. names_row t n xs || b) named ∙ right (names_row t n xs))
  where
    right : (b : Bool) → (b || true) ≡ true
    right true = refl
    right false = refl

-- where no two changes are of one row, each makes what is left of its row
made-once : (changes : List RowChange) (change : RowChange) → rows_differ changes ≡ true → Has changes change → last_made change.table change.row changes ≡ Some change.new
made-once [] change once has = absurd has
made-once (x ∷ xs) change once (inl same) =
    subst (λ (y : RowChange). last_made y.table y.row (x ∷ xs) ≡ Some y.new) same (own (last_made-none x.table x.row xs (not-true (names_row x.table x.row xs) (and_parts (not (names_row x.table x.row xs)) (rows_differ xs) once).0)))
  where
    not-true : (b : Bool) → not b ≡ true → b ≡ false
    not-true true is = absurd (let wrong : false ≡ true = is in cc)
    not-true false is = refl

    own : last_made x.table x.row xs ≡ None → last_made x.table x.row (x ∷ xs) ≡ Some x.new
    own none = ap₂ or_else none (ap (λ b. cond b (Some x.new) None) (own-row x))
made-once (x ∷ xs) change once (inr later) =
    ap (λ o. or_else o (cond (is_of_row change.table change.row x) (Some x.new) None)) (made-once xs change (and_parts (not (names_row x.table x.row xs)) (rows_differ xs) once).1 later)

-- what is left of the row of such a change, once it and others are laid over rows
pub left-once : (rows : List Row) (xs changes : List RowChange) (change : RowChange) → rows_differ changes ≡ true → Has changes change
    → row_at change.table change.row (laid_over rows (xs ++ changes)) ≡ change.new
left-once rows xs changes change once has =
    ap (row_at change.table change.row) (laid_over-append rows xs changes)
    ∙ (row_at-laid change.table change.row (laid_over rows xs) changes
    ∙ ap (λ o. or_before o (row_at change.table change.row (laid_over rows xs))) (made-once changes change once has))

pub keyed-nothing : (keys : TableName → List ℕ) → IsKeyed keys [] (λ client. [])
keyed-nothing keys = record {
  committed = λ t. none (keys t) t;
  seen = λ c t. none (keys t) t;
  apart = λ a b t key ne keyed one two. contains-has [] one.0 one.1;
  owned = λ a b t n ne one two. (let wrong : false ≡ true = one in cc);
  held = λ c t key n has named stands. absurd stands;
}
  where
    none : (places : List ℕ) (t : TableName) → KeysDiffer places t []
    none [] t = tt
    none (p ∷ ps) t = λ m n key one two. absurd one

module _ (keys : TableName → List ℕ) (rows : List Row) (before after : ClientNo → List RowChange) (client : ClientNo) (keyed : IsKeyed keys rows before) where
  -- changes that name what other lists name are of one client
  changes-split : (places : List ℕ) (t : TableName) (key : List Cell) (xs ys : List RowChange) → NamesKey places t key (xs ++ ys) → NamesKey places t key xs ⊎ NamesKey places t key ys
  changes-split places t key xs ys it = elim (Contains-append_cases xs ys it.0 it.1) [
    | inl one ↦ inl (it.0, one, it.2, it.3)
    | inr two ↦ inr (it.0, two, it.2, it.3)
  ]

  module _ (changes : List RowChange) (one : ChangesOne client (before client ++ changes) before after)
      (from : AreFrom (laid_over rows (before client)) changes) (once : rows_differ changes ≡ true)
      (differ : (t : TableName) → KeysDiffer (keys t) t (laid_over rows (before client ++ changes)))
      (unlocked : (t : TableName) (key : List Cell) → keys t ≢ [] → MakesKey (keys t) t key changes → IsKeyLocked (keys t) before client t key → ⊥)
      (free : (t : TableName) (n : RowNo) → names_row t n changes ≡ true → IsRowLocked before client t n → ⊥) where
    -- a key of the changes is a new one of theirs, or one that the client has named, or that of a committed row that they name
    abbrev Stems : TableName → List Cell → Type 0
    Stems t key = MakesKey (keys t) t key changes
        ⊎ (NamesKey (keys t) t key (before client) ⊎ ((n : RowNo) × (names_row t n changes ≡ true) × HasKey (keys t) key (row_at t n rows)))

    stood : (t : TableName) (key : List Cell) (change : RowChange) → Has changes change → change.table ≡ t
        → HasKey (keys t) key (row_at change.table change.row (laid_over rows (before client))) → Stems t key
    stood t key change has table is =
        let here : HasKey (keys t) key (row_at t change.row (laid_over rows (before client))) = subst (λ u. HasKey (keys t) key (row_at u change.row (laid_over rows (before client)))) table is in
        go (names_row t change.row (before client)) refl here
      where
        go : (b : Bool) → names_row t change.row (before client) ≡ b → HasKey (keys t) key (row_at t change.row (laid_over rows (before client))) → Stems t key
        go true e here = inr (inl (named-key (keys t) t change.row key rows (before client) e here))
        go false e here = inr (inr (
          change.row,
          subst (λ u. names_row u change.row changes ≡ true) table (names-it changes change has),
          subst (HasKey (keys t) key) (laid-untouched t change.row rows (before client) e) here,
        ))

    stems : (t : TableName) (key : List Cell) → NamesKey (keys t) t key changes → Stems t key
    stems t key it = elim it.3 [
      | inl old ↦ elim (old-source (laid_over rows (before client)) changes it.0 from (contains-has changes it.0 it.1)) [
        | inl is ↦ stood t key it.0 (contains-has changes it.0 it.1) it.2 (subst (HasKey (keys t) key) is old)
        | inr made ↦ inl (made.0, has-contains changes made.0 made.1, made.2 ∙ it.2, subst (HasKey (keys t) key) made.3 old)
      ]
      | inr new ↦ inl (it.0, it.1, it.2, new)
    ]

    key-with : (b : ClientNo) (t : TableName) (key : List Cell) → client.0 ≢ b.0 → keys t ≢ [] → NamesKey (keys t) t key (before client ++ changes) → NamesKey (keys t) t key (before b) → ⊥
    key-with b t key ne has mine theirs = elim (changes-split (keys t) t key (before client) changes mine) [
      | inl old ↦ keyed.apart client b t key ne has old theirs
      | inr new ↦ elim (stems t key new) [
        | inl makes ↦ unlocked t key has makes (b, (λ same. ne (sym same)), theirs)
        | inr (inl named) ↦ keyed.apart client b t key ne has named theirs
        | inr (inr row) ↦ free t row.0 row.1 (b, (λ same. ne (sym same)), keyed.held b t key row.0 has theirs row.2)
      ]
    ]

    -- a committed row with a key of the client's is one that the client names
    key-held : (t : TableName) (key : List Cell) (n : RowNo) → keys t ≢ [] → NamesKey (keys t) t key (before client ++ changes) → HasKey (keys t) key (row_at t n rows)
        → names_row t n (before client ++ changes) ≡ true
    key-held t key n has mine stands = elim (changes-split (keys t) t key (before client) changes mine) [
      | inl old ↦ named-left t n (before client) changes (keyed.held client t key n has old stands)
      | inr new ↦ elim (stems t key new) [
        | inl makes ↦ go makes (names_row t n (before client ++ changes)) refl
        | inr (inl named) ↦ named-left t n (before client) changes (keyed.held client t key n has named stands)
        | inr (inr row) ↦ named-right t n (before client) changes (subst (λ m. names_row t m changes ≡ true) (use-differ (keys t) t rows has (keyed.committed t) row.0 n key row.2 stands) row.1)
      ]
    ]
      where
        go : MakesKey (keys t) t key changes → (b : Bool) → names_row t n (before client ++ changes) ≡ b → names_row t n (before client ++ changes) ≡ true
        go makes true e = e
        go makes false e =
            let owns = contains-has changes makes.0 makes.1 in
            let mine' : HasKey (keys t) key (row_at t makes.0.row (laid_over rows (before client ++ changes))) =
            subst (λ u. HasKey (keys t) key (row_at u makes.0.row (laid_over rows (before client ++ changes)))) makes.2 (subst (HasKey (keys t) key) (sym (left-once rows (before client) changes makes.0 once owns)) makes.3) in
            let theirs : HasKey (keys t) key (row_at t n (laid_over rows (before client ++ changes))) = subst (HasKey (keys t) key) (sym (laid-untouched t n rows (before client ++ changes) e)) stands in
            let same : makes.0.row ≡ n = use-differ (keys t) t (laid_over rows (before client ++ changes)) has (differ t) makes.0.row n key mine' theirs in
            named-right t n (before client) changes (subst (λ m. names_row t m changes ≡ true) same (subst (λ u. names_row u makes.0.row changes ≡ true) makes.2 (names-it changes makes.0 owns)))

    row-with : (b : ClientNo) (t : TableName) (n : RowNo) → client.0 ≢ b.0 → names_row t n (before client ++ changes) ≡ true → names_row t n (before b) ≡ true → ⊥
    row-with b t n ne mine theirs = go (names_row t n (before client)) refl (sym (names-append t n (before client) changes) ∙ mine)
      where
        go : (x : Bool) → names_row t n (before client) ≡ x → (x || names_row t n changes) ≡ true → ⊥
        go true e is = keyed.owned client b t n ne e theirs
        go false e is = free t n is (b, (λ same. ne (sym same)), theirs)

    pub keyed-written : IsKeyed keys rows after
    keyed-written = record {
      committed = keyed.committed;
      seen = λ c t. elim (same-client c client) [
        | inl same ↦ subst (λ xs. KeysDiffer (keys t) t (laid_over rows xs)) (sym (ap after same ∙ one.own_are)) (differ t)
        | inr ne ↦ subst (λ xs. KeysDiffer (keys t) t (laid_over rows xs)) (sym (one.others_are c ne)) (keyed.seen c t)
      ];
      apart = λ a b t key ne has first second. keys-apart a b t key ne has first second (same-client a client) (same-client b client);
      owned = λ a b t n ne first second. rows-apart a b t n ne first second (same-client a client) (same-client b client);
      held = λ c t key n has named stands. elim (same-client c client) [
        | inl same ↦ (let are = ap after same ∙ one.own_are in ap (names_row t n) are ∙ key-held t key n has (subst (NamesKey (keys t) t key) are named) stands)
        | inr ne ↦ (let are = one.others_are c ne in ap (names_row t n) are ∙ keyed.held c t key n has (subst (NamesKey (keys t) t key) are named) stands)
      ];
    }
      where
        keys-apart : (a b : ClientNo) (t : TableName) (key : List Cell) → a.0 ≢ b.0 → keys t ≢ [] → NamesKey (keys t) t key (after a) → NamesKey (keys t) t key (after b)
            → (a ≡ client) ⊎ (a.0 ≢ client.0) → (b ≡ client) ⊎ (b.0 ≢ client.0) → ⊥
        keys-apart a b t key ne has first second (inl x) (inl y) = ne (ap (λ (c : ClientNo). c.0) (x ∙ sym y))
        keys-apart a b t key ne has first second (inl x) (inr y) =
            key-with b t key (λ same. y (sym same)) has (subst (NamesKey (keys t) t key) (ap after x ∙ one.own_are) first) (subst (NamesKey (keys t) t key) (one.others_are b y) second)
        keys-apart a b t key ne has first second (inr x) (inl y) =
            key-with a t key (λ same. x (sym same)) has (subst (NamesKey (keys t) t key) (ap after y ∙ one.own_are) second) (subst (NamesKey (keys t) t key) (one.others_are a x) first)
        keys-apart a b t key ne has first second (inr x) (inr y) =
            keyed.apart a b t key ne has (subst (NamesKey (keys t) t key) (one.others_are a x) first) (subst (NamesKey (keys t) t key) (one.others_are b y) second)

        rows-apart : (a b : ClientNo) (t : TableName) (n : RowNo) → a.0 ≢ b.0 → names_row t n (after a) ≡ true → names_row t n (after b) ≡ true
            → (a ≡ client) ⊎ (a.0 ≢ client.0) → (b ≡ client) ⊎ (b.0 ≢ client.0) → ⊥
        rows-apart a b t n ne first second (inl x) (inl y) = ne (ap (λ (c : ClientNo). c.0) (x ∙ sym y))
        rows-apart a b t n ne first second (inl x) (inr y) =
            row-with b t n (λ same. y (sym same)) (ap (names_row t n) (sym (ap after x ∙ one.own_are)) ∙ first) (ap (names_row t n) (sym (one.others_are b y)) ∙ second)
        rows-apart a b t n ne first second (inr x) (inl y) =
            row-with a t n (λ same. x (sym same)) (ap (names_row t n) (sym (ap after y ∙ one.own_are)) ∙ second) (ap (names_row t n) (sym (one.others_are a x)) ∙ first)
        rows-apart a b t n ne first second (inr x) (inr y) =
            keyed.owned a b t n ne (ap (names_row t n) (sym (one.others_are a x)) ∙ first) (ap (names_row t n) (sym (one.others_are b y)) ∙ second)

  module _ (one : ChangesOne client [] before after) where
    -- no key and no row of a client that has ended
    ended-key : (a : ClientNo) (t : TableName) (key : List Cell) → NamesKey (keys t) t key (after a) → (a.0 ≢ client.0) × NamesKey (keys t) t key (before a)
    ended-key a t key it = elim (same-client a client) [
      | inl x ↦ absurd (let none : NamesKey (keys t) t key [] = subst (NamesKey (keys t) t key) (ap after x ∙ one.own_are) it in contains-has [] none.0 none.1)
      | inr ne ↦ (ne, subst (NamesKey (keys t) t key) (one.others_are a ne) it)
    ]

    ended-row : (a : ClientNo) (t : TableName) (n : RowNo) → names_row t n (after a) ≡ true → (a.0 ≢ client.0) × (names_row t n (before a) ≡ true)
    ended-row a t n it = elim (same-client a client) [
      | inl x ↦ absurd (let wrong : false ≡ true = ap (names_row t n) (sym (ap after x ∙ one.own_are)) ∙ it in cc)
      | inr ne ↦ (ne, ap (names_row t n) (sym (one.others_are a ne)) ∙ it)
    ]

    ended-apart : (a b : ClientNo) (t : TableName) (key : List Cell) → a.0 ≢ b.0 → keys t ≢ [] → NamesKey (keys t) t key (after a) → NamesKey (keys t) t key (after b) → ⊥
    ended-apart a b t key ne has first second = keyed.apart a b t key ne has (ended-key a t key first).1 (ended-key b t key second).1

    ended-owned : (a b : ClientNo) (t : TableName) (n : RowNo) → a.0 ≢ b.0 → names_row t n (after a) ≡ true → names_row t n (after b) ≡ true → ⊥
    ended-owned a b t n ne first second = keyed.owned a b t n ne (ended-row a t n first).1 (ended-row b t n second).1

    pub keyed-undone : IsKeyed keys rows after
    keyed-undone = record {
      committed = keyed.committed;
      seen = λ c t. elim (same-client c client) [
        | inl x ↦ subst (λ xs. KeysDiffer (keys t) t (laid_over rows xs)) (sym (ap after x ∙ one.own_are)) (keyed.committed t)
        | inr ne ↦ subst (λ xs. KeysDiffer (keys t) t (laid_over rows xs)) (sym (one.others_are c ne)) (keyed.seen c t)
      ];
      apart = ended-apart;
      owned = ended-owned;
      held = λ c t key n has named stands. (let was = ended-key c t key named in ap (names_row t n) (one.others_are c was.0) ∙ keyed.held c t key n has was.1 stands);
    }

    -- what another client sees once the client has committed
    module _ (d : ClientNo) (ne : d.0 ≢ client.0) (t : TableName) (p : ℕ) (ps : List ℕ) (places : keys t ≡ p ∷ ps) (key : List Cell) where
      abbrev sees : RowNo → Type 0
      sees n = HasKey (p ∷ ps) key (row_at t n (laid_over (laid_over rows (before client)) (before d)))

      -- it is what it saw, or what the client has committed, and then the client has named the key
      abbrev IsOld : RowNo → Type 0
      IsOld n = HasKey (p ∷ ps) key (row_at t n (laid_over rows (before d))) × ((names_row t n (before d) ≡ true) ⊎ HasKey (p ∷ ps) key (row_at t n (laid_over rows (before client))))

      abbrev IsNew : RowNo → Type 0
      IsNew n = HasKey (p ∷ ps) key (row_at t n (laid_over rows (before client))) × NamesKey (p ∷ ps) t key (before client)

      which : (n : RowNo) → sees n → IsOld n ⊎ IsNew n
      which n has = go (names_row t n (before d)) refl (names_row t n (before client)) refl
        where
          go : (x : Bool) → names_row t n (before d) ≡ x → (y : Bool) → names_row t n (before client) ≡ y → IsOld n ⊎ IsNew n
          go true e y f = inl (subst (HasKey (p ∷ ps) key) (named-same t n (laid_over rows (before client)) rows (before d) e) has, inl e)
          go false e true f =
              let now : HasKey (p ∷ ps) key (row_at t n (laid_over rows (before client))) = subst (HasKey (p ∷ ps) key) (laid-untouched t n (laid_over rows (before client)) (before d) e) has in
              inr (now, named-key (p ∷ ps) t n key rows (before client) f now)
          go false e false f =
              let now : HasKey (p ∷ ps) key (row_at t n (laid_over rows (before client))) = subst (HasKey (p ∷ ps) key) (laid-untouched t n (laid_over rows (before client)) (before d) e) has in
              inl (subst (HasKey (p ∷ ps) key) (laid-untouched t n rows (before client) f ∙ sym (laid-untouched t n rows (before d) e)) now, inr now)

      some-key : keys t ≢ []
      some-key = λ none. (let wrong : p ∷ ps ≡ [] = sym places ∙ none in cc)

      differs : (c : ClientNo) (m n : RowNo) → HasKey (p ∷ ps) key (row_at t m (laid_over rows (before c))) → HasKey (p ∷ ps) key (row_at t n (laid_over rows (before c))) → m ≡ n
      differs c m n first second = (subst (λ xs. KeysDiffer xs t (laid_over rows (before c))) places (keyed.seen c t)) m n key first second

      never : (n : RowNo) → HasKey (p ∷ ps) key (row_at t n (laid_over rows (before d))) → names_row t n (before d) ≡ true → NamesKey (p ∷ ps) t key (before client) → ⊥
      never n has named theirs =
          let mine = named-key (p ∷ ps) t n key rows (before d) named has in
          keyed.apart d client t key ne some-key (subst (λ xs. NamesKey xs t key (before d)) (sym places) mine) (subst (λ xs. NamesKey xs t key (before client)) (sym places) theirs)

      one-row : (m n : RowNo) → IsOld m ⊎ IsNew m → IsOld n ⊎ IsNew n → m ≡ n
      one-row m n (inl first) (inl second) = differs d m n first.0 second.0
      one-row m n (inr first) (inr second) = differs client m n first.0 second.0
      one-row m n (inl first) (inr second) = elim first.1 [
        | inl named ↦ absurd (never m first.0 named second.1)
        | inr also ↦ differs client m n also second.0
      ]
      one-row m n (inr first) (inl second) = elim second.1 [
        | inl named ↦ absurd (never n second.0 named first.1)
        | inr also ↦ differs client m n first.0 also
      ]

    seen-then : (d : ClientNo) → d.0 ≢ client.0 → (t : TableName) (places : List ℕ) → keys t ≡ places → KeysDiffer places t (laid_over (laid_over rows (before client)) (before d))
    seen-then d ne t [] e = tt
    seen-then d ne t (p ∷ ps) e = λ m n key first second. one-row d ne t p ps e key m n (which d ne t p ps e key m first) (which d ne t p ps e key n second)

    pub keyed-settled : IsKeyed keys (laid_over rows (before client)) after
    keyed-settled = record {
      committed = λ t. keyed.seen client t;
      seen = λ c t. elim (same-client c client) [
        | inl x ↦ subst (λ xs. KeysDiffer (keys t) t (laid_over (laid_over rows (before client)) xs)) (sym (ap after x ∙ one.own_are)) (keyed.seen client t)
        | inr ne ↦ subst (λ xs. KeysDiffer (keys t) t (laid_over (laid_over rows (before client)) xs)) (sym (one.others_are c ne)) (seen-then c ne t (keys t) refl)
      ];
      apart = ended-apart;
      owned = ended-owned;
      held = λ c t key n has named stands. (let was = ended-key c t key named in ap (names_row t n) (one.others_are c was.0) ∙ go c t key n has was.0 was.1 (names_row t n (before client)) refl stands);
    }
      where
        go : (c : ClientNo) (t : TableName) (key : List Cell) (n : RowNo) → keys t ≢ [] → c.0 ≢ client.0 → NamesKey (keys t) t key (before c) → (b : Bool) → names_row t n (before client) ≡ b
            → HasKey (keys t) key (row_at t n (laid_over rows (before client))) → names_row t n (before c) ≡ true
        go c t key n has ne named true e stands = absurd (keyed.apart c client t key ne has named (named-key (keys t) t n key rows (before client) e stands))
        go c t key n has ne named false e stands = keyed.held c t key n has named (subst (HasKey (keys t) key) (laid-untouched t n rows (before client) e) stands)

-- where no client has changes, the discipline is that keys differ among the committed rows
pub keyed-quiet : (keys : TableName → List ℕ) (rows : List Row) (transactions : ClientNo → List RowChange) → ((c : ClientNo) → transactions c ≡ [])
    → ((t : TableName) → KeysDiffer (keys t) t rows) → IsKeyed keys rows transactions
keyed-quiet keys rows transactions none differ = record {
  committed = differ;
  seen = λ c t. subst (λ xs. KeysDiffer (keys t) t (laid_over rows xs)) (sym (none c)) (differ t);
  apart = λ a b t key ne has first second. no-name a t key first;
  owned = λ a b t n ne first second. (let wrong : false ≡ true = ap (names_row t n) (sym (none a)) ∙ first in cc);
  held = λ c t key n has named stands. absurd (no-name c t key named);
}
  where
    no-name : (c : ClientNo) (t : TableName) (key : List Cell) → NamesKey (keys t) t key (transactions c) → ⊥
    no-name c t key it = let named : NamesKey (keys t) t key [] = subst (NamesKey (keys t) t key) (none c) it in contains-has [] named.0 named.1

-- changes that name no row of a table leave it
unnamed-row : (t : TableName) (n : RowNo) (changes : List RowChange) → names_table t changes ≡ false → names_row t n changes ≡ false
unnamed-row t n [] none = refl
unnamed-row t n (x ∷ xs) none = go (is_of_table t x) (names_table t xs) refl refl none (unnamed-row t n xs)
  where
    go : (a b : Bool) → is_of_table t x ≡ a → names_table t xs ≡ b → (a || b) ≡ false → (names_table t xs ≡ false → names_row t n xs ≡ false) → (is_of_row t n x || names_row t n xs) ≡ false
    go true b f g is rest = absurd (let wrong : true ≡ false = is in cc)
    go false true f g is rest = absurd (let wrong : true ≡ false = is in cc)
    go false false f g is rest = ap₂ (λ a b. (a && (x.row.0 == n.0)) || b) f (rest g)

unnamed-key : (places : List ℕ) (t : TableName) (key : List Cell) (changes : List RowChange) → names_table t changes ≡ false → NamesKey places t key changes → ⊥
unnamed-key places t key changes none it = go changes (contains-has changes it.0 it.1) none
  where
    go : (xs : List RowChange) → Has xs it.0 → names_table t xs ≡ false → ⊥
    go [] has e = has
    go (x ∷ xs) has e = by_first (is_of_table t x) (names_table t xs) refl refl e has (go xs)
      where
        by_first : (a b : Bool) → is_of_table t x ≡ a → names_table t xs ≡ b → (a || b) ≡ false → Has (x ∷ xs) it.0 → (Has xs it.0 → names_table t xs ≡ false → ⊥) → ⊥
        by_first true b f g is has rest = let wrong : true ≡ false = is in cc
        by_first false true f g is has rest = let wrong : true ≡ false = is in cc
        by_first false false f g is (inl same) rest =
            let here : is_of_table t x ≡ true = subst (λ (y : TableName). same_table x.table y ≡ true) (ap (λ (y : RowChange). y.table) same ∙ it.2) (same_table-self x.table) in
            let wrong : true ≡ false = sym here ∙ f in
            cc
        by_first false false f g is (inr later) rest = rest later g

pub keyed-opened : (before after : TableName → List ℕ) (rows : List Row) (transactions : ClientNo → List RowChange)
    → ((t : TableName) → (after t ≡ before t) ⊎ (((n : RowNo) → row_at t n rows ≡ None) × ((c : ClientNo) → names_table t (transactions c) ≡ false)))
    → IsKeyed before rows transactions → IsKeyed after rows transactions
keyed-opened before after rows transactions same keyed = record {
  committed = λ t. elim (same t) [
    | inl is ↦ subst (λ places. KeysDiffer places t rows) (sym is) (keyed.committed t)
    | inr none ↦ empty (after t) t rows none.0
  ];
  seen = λ c t. elim (same t) [
    | inl is ↦ subst (λ places. KeysDiffer places t (laid_over rows (transactions c))) (sym is) (keyed.seen c t)
    | inr none ↦ empty (after t) t (laid_over rows (transactions c)) (λ n. laid-untouched t n rows (transactions c) (unnamed-row t n (transactions c) (none.1 c)) ∙ none.0 n)
  ];
  apart = λ a b t key ne has first second. elim (same t) [
    | inl is ↦ keyed.apart a b t key ne (λ e. has (is ∙ e)) (subst (λ places. NamesKey places t key (transactions a)) is first) (subst (λ places. NamesKey places t key (transactions b)) is second)
    | inr none ↦ unnamed-key (after t) t key (transactions a) (none.1 a) first
  ];
  owned = keyed.owned;
  held = λ c t key n has named stands. elim (same t) [
    | inl is ↦ keyed.held c t key n (λ e. has (is ∙ e)) (subst (λ places. NamesKey places t key (transactions c)) is named) (subst (λ places. HasKey places key (row_at t n rows)) is stands)
    | inr none ↦ absurd (unnamed-key (after t) t key (transactions c) (none.1 c) named)
  ];
}
  where
    empty : (places : List ℕ) (t : TableName) (xs : List Row) → ((n : RowNo) → row_at t n xs ≡ None) → KeysDiffer places t xs
    empty [] t xs none = tt
    empty (p ∷ ps) t xs none = λ m n key first second. absurd (subst (HasKey (p ∷ ps) key) (none m) first)

pub keyed-dropped : (keys : TableName → List ℕ) (rows : List Row) (transactions : ClientNo → List RowChange) (t : TableName) → ((c : ClientNo) → names_table t (transactions c) ≡ false)
    → IsKeyed keys rows transactions → IsKeyed keys (filter (λ row. not (is_in t row)) rows) transactions
keyed-dropped keys rows transactions t none keyed = record {
  committed = λ u. fewer (keys u) u rows (filter (λ row. not (is_in t row)) rows) (λ n. at u n) (keyed.committed u);
  seen = λ c u. fewer (keys u) u (laid_over rows (transactions c)) (laid_over (filter (λ row. not (is_in t row)) rows) (transactions c)) (λ n. after c u n) (keyed.seen c u);
  apart = keyed.apart;
  owned = keyed.owned;
  held = λ c u key n has named stands. elim (at u n) [
    | inl same ↦ keyed.held c u key n has named (subst (HasKey (keys u) key) same stands)
    | inr gone ↦ absurd (subst (HasKey (keys u) key) gone stands)
  ];
}
  where
    at-once : (u : TableName) (n : RowNo) → row_at u n (filter (λ row. not (is_in t row)) rows) ≡ cond (not (same_table u t)) (row_at u n rows) None
    at-once u n = row_at-filter u n (λ row. not (is_in t row)) (not (same_table u t)) (λ r is. ap (λ (x : TableName). not (same_table x t)) (is_row-is u n r is).0) rows

    at : (u : TableName) (n : RowNo) → (row_at u n (filter (λ row. not (is_in t row)) rows) ≡ row_at u n rows) ⊎ (row_at u n (filter (λ row. not (is_in t row)) rows) ≡ None)
    at u n = go (same_table u t) (at-once u n)
      where
        go : (b : Bool) → row_at u n (filter (λ row. not (is_in t row)) rows) ≡ cond (not b) (row_at u n rows) None
            → (row_at u n (filter (λ row. not (is_in t row)) rows) ≡ row_at u n rows) ⊎ (row_at u n (filter (λ row. not (is_in t row)) rows) ≡ None)
        go true e = inr e
        go false e = inl e

    after : (c : ClientNo) (u : TableName) (n : RowNo) → (row_at u n (laid_over (filter (λ row. not (is_in t row)) rows) (transactions c)) ≡ row_at u n (laid_over rows (transactions c)))
        ⊎ (row_at u n (laid_over (filter (λ row. not (is_in t row)) rows) (transactions c)) ≡ None)
    after c u n = go (names_row u n (transactions c)) refl
      where
        go : (b : Bool) → names_row u n (transactions c) ≡ b → (row_at u n (laid_over (filter (λ row. not (is_in t row)) rows) (transactions c)) ≡ row_at u n (laid_over rows (transactions c)))
            ⊎ (row_at u n (laid_over (filter (λ row. not (is_in t row)) rows) (transactions c)) ≡ None)
        go true e = inl (named-same u n (filter (λ row. not (is_in t row)) rows) rows (transactions c) e)
        go false e = elim (at u n) [
          | inl same ↦ inl (laid-untouched u n (filter (λ row. not (is_in t row)) rows) (transactions c) e ∙ (same ∙ sym (laid-untouched u n rows (transactions c) e)))
          | inr gone ↦ inr (laid-untouched u n (filter (λ row. not (is_in t row)) rows) (transactions c) e ∙ gone)
        ]

    fewer : (places : List ℕ) (u : TableName) (xs ys : List Row) → ((n : RowNo) → (row_at u n ys ≡ row_at u n xs) ⊎ (row_at u n ys ≡ None)) → KeysDiffer places u xs → KeysDiffer places u ys
    fewer [] u xs ys each differ = tt
    fewer (p ∷ ps) u xs ys each differ = λ m n key first second. differ m n key (was m key first (each m)) (was n key second (each n))
      where
        was : (n : RowNo) (key : List Cell) → HasKey (p ∷ ps) key (row_at u n ys) → (row_at u n ys ≡ row_at u n xs) ⊎ (row_at u n ys ≡ None) → HasKey (p ∷ ps) key (row_at u n xs)
        was n key has (inl same) = subst (HasKey (p ∷ ps) key) same has
        was n key has (inr none) = absurd (subst (HasKey (p ∷ ps) key) none has)
