-- What one more table, and one less, leaves of how the rows that are kept stand to the open changes.
use Rattle.std.proofs.Common.{◌≡◌, ◌≢◌, ◌≤◌, ◌∙◌, inl, inr, ℕ, Bool, true, false, not, cond, ◌||◌, is_some, List, [], ◌∷◌, filter, get_or, length, map, set, refl, sym, ap, ap₂, subst, arith, Option, None, Some}
use Rattle.std.specs.Prelude.{◌==◌}
use Rattle.std.specs.List.{AllByRecursion, cons_option, filter_map, list_all}
use Rattle.std.specs.Option.{option_and_then, option_map}
use Rattle.std.proofs.lemmas.Bool.{and_parts}
use Rattle.std.proofs.lemmas.Bool.Decides.{nat_tests}
use Rattle.au_base.specs.declared.cell.Cell.{Cell}
use Rattle.au_base.specs.declared.numbers.ClientNo.{ClientNo}
use Rattle.au_base.specs.declared.numbers.RowNo.{RowNo}
use Rattle.au_base.specs.declared.table.TableName.{TableName}
use Rattle.au_base.specs.Sameness.{same_table}
use Rattle.au_rows.specs.declared.table.Table.{Table}
use Rattle.au_rows.specs.Held.{Change, Contents, Held, IsOpen, held_at, is_elsewhere, is_left, is_named, last_change, number_of, owned, owner_of, row_at as kept_at}
use Rattle.au_txn.specs.declared.change.RowChange.{RowChange}
use Rattle.au_txn.specs.Desks.{has_name, table_before}
use Rattle.au_txn.specs.Inside.{Ties, committed, held_in_order, held_numbered, held_open, in_order_of, kept_change, named, open_tables, row_of}
use Rattle.au_txn.specs.Rows.{Row, is_in, row_at, row_before}
use Rattle.au_txn.specs.Transactions.{AreFrom, is_of_row, is_of_table, names_row, names_table}
use Rattle.au_txn.proofs.ChangeLemmas.{kept-names, last-own, under}
use Rattle.au_txn.proofs.Committed.{committed-ordered, named-none, named-some, row_with, sorted-at, there-open}
use Rattle.au_txn.proofs.HeldLemmas.{found-there, if_passes, kept-found, kept-order}
use Rattle.au_txn.proofs.Histories.{from-same}
use Rattle.au_txn.proofs.Ordered.{Has, all_from, all_to, filter-ordered, kept as stays, same_sorted, was}
use Rattle.au_txn.proofs.RowOrder.{is_row-is, number-self, row_at-filter, same_rows, same_table-is, same_table-self}
use Rattle.au_txn.proofs.TableLemmas.{gone-at, gone-names, gone-number, gone-open, has-tables, name-open, new-at, new-names, new-number, new-open, new-other, same-number, tables-has, tables-ordered, tables_irreflexive, tables_transitive, vacancy, vacant-there, with_new}

map-same : {X Y : Type 0} (P : X → Type 0) (f g : X → Y) → ((x : X) → P x → f x ≡ g x) → (xs : List X) → AllByRecursion P xs → map f xs ≡ map g xs
map-same P f g same [] all = refl
map-same P f g same (x ∷ xs) all = ap₂ (λ y ys. y ∷ ys) (same x all.0) (map-same P f g same xs all.1)

pub all-weaker : {X : Type 0} (P Q : X → Type 0) → ((x : X) → P x → Q x) → (xs : List X) → AllByRecursion P xs → AllByRecursion Q xs
all-weaker P Q more [] all = tt
all-weaker P Q more (x ∷ xs) all = (more x all.0, all-weaker P Q more xs all.1)

all-both : {X : Type 0} (P Q : X → Type 0) (xs : List X) → AllByRecursion P xs → AllByRecursion Q xs → AllByRecursion (λ x. P x × Q x) xs
all-both P Q [] one two = tt
all-both P Q (x ∷ xs) one two = ((one.0, two.0), all-both P Q xs one.1 two.1)

-- rows under names that are read alike
filter_map-same : (a b : List (Option Table)) (hs : List Held) → ((h : Held) → Has hs h → named a h ≡ named b h) → filter_map (named a) hs ≡ filter_map (named b) hs
filter_map-same a b [] same = refl
filter_map-same a b (h ∷ hs) same = ap₂ cons_option (same h (inl refl)) (filter_map-same a b hs (λ x has. same x (inr has)))

module _ (new : Table) (kept : Contents) (transactions : ClientNo → List RowChange) (ties : Ties kept transactions) (shut : length kept.tables ≤ number_of new.name kept.tables) where
  apart-name : (name : TableName) → IsOpen name kept.tables → is_named name (Some new) ≡ false
  apart-name name opened = new-other new (record { name = name; key = [] }) kept.tables shut opened

  still-some : (k : ℕ) → is_some (get_or kept.tables k None) ≡ true → (k == vacancy kept.tables) ≡ false
  still-some k some = go (k == vacancy kept.tables) refl
    where
      go : (b : Bool) → (k == vacancy kept.tables) ≡ b → (k == vacancy kept.tables) ≡ false
      go false e = e
      go true e =
          let same : k ≡ vacancy kept.tables = grind (arith, nat_tests) in
          absurd (let wrong : true ≡ false = sym some ∙ (ap (λ (j : ℕ). is_some (get_or kept.tables j None)) same ∙ ap is_some (vacant-there kept.tables)) in cc)

  at-same : (k : ℕ) → is_some (get_or kept.tables k None) ≡ true → get_or (with_new new kept.tables) k None ≡ get_or kept.tables k None
  at-same k some = new-at new kept.tables k ∙ ap (λ b. cond b (Some new) (get_or kept.tables k None)) (still-some k some)

  opens-with : list_all (held_open (with_new new kept.tables)) kept.held ≡ true
  opens-with = all_to (held_open (with_new new kept.tables)) kept.held (λ h has.
      let some = all_from (held_open kept.tables) kept.held ties.open_tables h has in
      ap is_some (at-same h.table some) ∙ some)

  -- one more table leaves the committed rows
  pub committed-with : committed (with_new new kept.tables) kept.held ≡ committed kept.tables kept.held
  unfolding committed
  committed-with = ap (in_order_of row_before) (filter_map-same (with_new new kept.tables) kept.tables kept.held (λ h has.
      ap (λ o. row_of o h) (at-same h.table (all_from (held_open kept.tables) kept.held ties.open_tables h has))))

  pub ties-opened : (spare : ℕ) → Ties (record { tables = with_new new kept.tables; held = kept.held; changes = kept.changes; spare = spare }) transactions
  ties-opened spare = record {
    order = ties.order;
    left = ties.left;
    open_tables = opens-with;
    rows_numbered = ties.rows_numbered;
    names = new-names new kept.tables shut ties.names;
    agrees = ties.agrees;
    logged = λ q. ties.logged q ∙ map-same (λ (x : RowChange). IsOpen x.table kept.tables) (kept_change kept.tables q) (kept_change (with_new new kept.tables) q)
        (λ x opened. ap (λ (k : ℕ). let y : Change = record { by = q; table = k; number = x.row; content = x.new } in y) (sym (new-number x.table new (apart-name x.table opened) kept.tables opened)))
        (transactions q) (ties.there q);
    there = λ q. all-weaker (λ (x : RowChange). IsOpen x.table kept.tables) (λ (x : RowChange). IsOpen x.table (with_new new kept.tables))
        (λ x opened. new-open x.table new (apart-name x.table opened) kept.tables opened) (transactions q) (ties.there q);
    numbered = ties.numbered;
    apart = ties.apart;
    from = λ q. subst (λ rows. AreFrom rows (transactions q)) (sym committed-with) (ties.from q);
  }

-- changes of other tables
others-of : (t : TableName) (changes : List RowChange) → names_table t changes ≡ false → AllByRecursion (λ (x : RowChange). same_table x.table t ≡ false) changes
others-of t [] none = tt
others-of t (x ∷ xs) none = go (is_of_table t x) (names_table t xs) refl refl none (others-of t xs)
  where
    go : (a b : Bool) → is_of_table t x ≡ a → names_table t xs ≡ b → (a || b) ≡ false → (names_table t xs ≡ false → AllByRecursion (λ (y : RowChange). same_table y.table t ≡ false) xs)
        → AllByRecursion (λ (y : RowChange). same_table y.table t ≡ false) (x ∷ xs)
    go true b f g is rest = absurd (let wrong : true ≡ false = is in cc)
    go false true f g is rest = absurd (let wrong : true ≡ false = is in cc)
    go false false f g is rest = (f, rest g)

row-of-table : (t : TableName) (n : RowNo) (changes : List RowChange) → names_row t n changes ≡ true → names_table t changes ≡ true
row-of-table t n [] named = absurd (let wrong : false ≡ true = named in cc)
row-of-table t n (x ∷ xs) named = go (is_of_row t n x) refl named (row-of-table t n xs)
  where
    right : (b : Bool) → (b || true) ≡ true
    right true = refl
    right false = refl

    go : (b : Bool) → is_of_row t n x ≡ b → (b || names_row t n xs) ≡ true → (names_row t n xs ≡ true → names_table t xs ≡ true) → (is_of_table t x || names_table t xs) ≡ true
    go true e is rest = ap (λ b. b || names_table t xs) (and_parts (same_table x.table t) (x.row.0 == n.0) e).0
    go false e is rest = ap (λ b. is_of_table t x || b) (rest is) ∙ right (is_of_table t x)

module _ (t : TableName) (kept : Contents) (transactions : ClientNo → List RowChange) (ties : Ties kept transactions) (opened : IsOpen t kept.tables) where
  k : ℕ
  k = number_of t kept.tables

  abbrev less_tables : List (Option Table)
  less_tables = set kept.tables (number_of t kept.tables) None

  abbrev less_held : List Held
  less_held = filter (is_elsewhere (number_of t kept.tables)) kept.held

  at-other : (j : ℕ) → (j == number_of t kept.tables) ≡ false → get_or less_tables j None ≡ get_or kept.tables j None
  at-other j e = gone-at kept.tables (number_of t kept.tables) j ∙ ap (λ b. cond b None (get_or kept.tables j None)) e

  not-false : (b : Bool) → not b ≡ true → b ≡ false
  not-false true is = absurd (let wrong : false ≡ true = is in cc)
  not-false false is = refl

  order-less : held_in_order less_held ≡ true
  order-less = kept-order (is_elsewhere (number_of t kept.tables)) kept.held ties.order

  opens-less : list_all (held_open less_tables) less_held ≡ true
  opens-less = all_to (held_open less_tables) less_held (λ h has.
      let it = was (is_elsewhere (number_of t kept.tables)) kept.held h has in
      ap is_some (at-other h.table (not-false (h.table == number_of t kept.tables) it.1)) ∙ all_from (held_open kept.tables) kept.held ties.open_tables h it.0)

  -- a row of the table
  in-table : (h : Held) (table : Table) (cells : List Cell) → get_or kept.tables h.table None ≡ Some table → (h.table == number_of t kept.tables) ≡ true → is_in t (row_with table h cells) ≡ true
  in-table h table cells e here =
      let it = name-open t kept.tables opened in
      let place : h.table ≡ number_of t kept.tables = grind (arith, nat_tests) in
      let both : Some table ≡ Some it.0 = sym e ∙ (ap (λ (j : ℕ). get_or kept.tables j None) place ∙ it.1) in
      let same : table ≡ it.0 = cc in
      let name : table.name ≡ t = ap (λ (x : Table). x.name) same ∙ it.2 in
      subst (λ (x : TableName). same_table table.name x ≡ true) name (same_table-self table.name)

  out-of-table : (h : Held) (table : Table) (cells : List Cell) → get_or kept.tables h.table None ≡ Some table → (h.table == number_of t kept.tables) ≡ false → is_in t (row_with table h cells) ≡ false
  out-of-table h table cells e away = go (same_table table.name t) refl
    where
      go : (b : Bool) → same_table table.name t ≡ b → same_table table.name t ≡ false
      go false f = f
      go true f =
          let place : h.table ≡ number_of t kept.tables = sym (ties.names h.table table e) ∙ ap (λ (x : TableName). number_of x kept.tables) (same_table-is table.name t f) in
          absurd (let wrong : true ≡ false = sym (subst (λ (m : ℕ). (h.table == m) ≡ true) place (number-self h.table)) ∙ away in cc)

  less-step : (h : Held) (hs : List Held) (table : Table) (b : Bool) (s : Option (List Cell)) → get_or kept.tables h.table None ≡ Some table → (h.table == number_of t kept.tables) ≡ b → h.settled ≡ s
      → filter_map (named less_tables) (filter (is_elsewhere (number_of t kept.tables)) hs) ≡ filter (λ row. not (is_in t row)) (filter_map (named kept.tables) hs)
      → filter_map (named less_tables) (cond (not b) (h ∷ filter (is_elsewhere (number_of t kept.tables)) hs) (filter (is_elsewhere (number_of t kept.tables)) hs))
      ≡ filter (λ row. not (is_in t row)) (cons_option (named kept.tables h) (filter_map (named kept.tables) hs))
  less-step h hs table true None e here s rest = rest ∙ sym (ap (λ o. filter (λ row. not (is_in t row)) (cons_option o (filter_map (named kept.tables) hs))) (named-none kept.tables h table e s))
  less-step h hs table true (Some cells) e here s rest =
      rest
      ∙ (sym (ap (λ b. cond (not b) (row_with table h cells ∷ filter (λ row. not (is_in t row)) (filter_map (named kept.tables) hs)) (filter (λ row. not (is_in t row)) (filter_map (named kept.tables) hs))) (in-table h table cells e here))
      ∙ sym (ap (λ o. filter (λ row. not (is_in t row)) (cons_option o (filter_map (named kept.tables) hs))) (named-some kept.tables h table cells e s)))
  less-step h hs table false None e away s rest =
      ap (λ o. cons_option o (filter_map (named less_tables) (filter (is_elsewhere (number_of t kept.tables)) hs))) (named-none less_tables h table (at-other h.table away ∙ e) s)
      ∙ (rest ∙ sym (ap (λ o. filter (λ row. not (is_in t row)) (cons_option o (filter_map (named kept.tables) hs))) (named-none kept.tables h table e s)))
  less-step h hs table false (Some cells) e away s rest =
      ap (λ o. cons_option o (filter_map (named less_tables) (filter (is_elsewhere (number_of t kept.tables)) hs))) (named-some less_tables h table cells (at-other h.table away ∙ e) s)
      ∙ (ap (λ rows. row_with table h cells ∷ rows) rest
      ∙ (sym (ap (λ b. cond (not b) (row_with table h cells ∷ filter (λ row. not (is_in t row)) (filter_map (named kept.tables) hs)) (filter (λ row. not (is_in t row)) (filter_map (named kept.tables) hs))) (out-of-table h table cells e away))
      ∙ sym (ap (λ o. filter (λ row. not (is_in t row)) (cons_option o (filter_map (named kept.tables) hs))) (named-some kept.tables h table cells e s))))

  named-less : (hs : List Held) → list_all (held_open kept.tables) hs ≡ true → filter_map (named less_tables) (filter (is_elsewhere (number_of t kept.tables)) hs) ≡ filter (λ row. not (is_in t row)) (filter_map (named kept.tables) hs)
  named-less [] all = refl
  named-less (h ∷ hs) all =
      let parts = and_parts (held_open kept.tables h) (list_all (held_open kept.tables) hs) all in
      let table = there-open kept.tables h.table parts.0 in
      less-step h hs table.0 (h.table == number_of t kept.tables) h.settled table.1 refl refl (named-less hs parts.1)

  outside : (u : TableName) (n : RowNo) (rows : List Row) → row_at u n (filter (λ row. not (is_in t row)) rows) ≡ cond (not (same_table u t)) (row_at u n rows) None
  outside u n rows = row_at-filter u n (λ row. not (is_in t row)) (not (same_table u t)) (λ r is. ap (λ (x : TableName). not (same_table x t)) (is_row-is u n r is).0) rows

  less-at : (u : TableName) (n : RowNo) → row_at u n (committed less_tables less_held) ≡ cond (not (same_table u t)) (row_at u n (committed kept.tables kept.held)) None
  unfolding committed
  less-at u n =
      sorted-at u n (filter_map (named less_tables) less_held)
      ∙ (ap (row_at u n) (named-less kept.held ties.open_tables)
      ∙ (outside u n (filter_map (named kept.tables) kept.held)
      ∙ ap (λ o. cond (not (same_table u t)) o None) (sym (sorted-at u n (filter_map (named kept.tables) kept.held)))))

  -- a table that goes takes its rows along
  pub committed-less : committed less_tables less_held ≡ filter (λ row. not (is_in t row)) (committed kept.tables kept.held)
  committed-less = same_rows (committed less_tables less_held) (filter (λ row. not (is_in t row)) (committed kept.tables kept.held))
      (committed-ordered less_tables less_held (gone-names kept.tables (number_of t kept.tables) ties.names) order-less opens-less)
      (filter-ordered row_before (λ row. not (is_in t row)) (committed kept.tables kept.held) (committed-ordered kept.tables kept.held ties.names ties.order ties.open_tables))
      (λ u n. less-at u n ∙ sym (outside u n (committed kept.tables kept.held)))

  -- and itself
  pub tables-less : open_tables less_tables ≡ filter (λ other. not (has_name t other)) (open_tables kept.tables)
  tables-less = same_sorted table_before tables_transitive tables_irreflexive (open_tables less_tables) (filter (λ other. not (has_name t other)) (open_tables kept.tables))
      (tables-ordered less_tables (gone-names kept.tables (number_of t kept.tables) ties.names))
      (filter-ordered table_before (λ other. not (has_name t other)) (open_tables kept.tables) (tables-ordered kept.tables ties.names))
      (λ x has. let it = tables-has less_tables x has in one x it.0 (it.0 == number_of t kept.tables) refl (sym (gone-at kept.tables (number_of t kept.tables) it.0) ∙ it.1))
      (λ x has. let it = was (λ other. not (has_name t other)) (open_tables kept.tables) x has in
      let at = tables-has kept.tables x it.0 in two x at.0 at.1 (not-false (has_name t x) it.1) (at.0 == number_of t kept.tables) refl)
    where
      one : (x : Table) (at : ℕ) (b : Bool) → (at == number_of t kept.tables) ≡ b → cond b None (get_or kept.tables at None) ≡ Some x → Has (filter (λ other. not (has_name t other)) (open_tables kept.tables)) x
      one x at true e is = absurd (let wrong : None ≡ Some x = is in cc)
      one x at false e is = stays (λ other. not (has_name t other)) (open_tables kept.tables) x (has-tables kept.tables x at is) (ap not (other-name (same_table x.name t) refl))
        where
          other-name : (b : Bool) → same_table x.name t ≡ b → same_table x.name t ≡ false
          other-name false f = f
          other-name true f =
              let place : at ≡ number_of t kept.tables = sym (ties.names at x is) ∙ ap (λ (y : TableName). number_of y kept.tables) (same_table-is x.name t f) in
              absurd (let wrong : true ≡ false = sym (subst (λ (m : ℕ). (at == m) ≡ true) place (number-self at)) ∙ e in cc)

      two : (x : Table) (at : ℕ) → get_or kept.tables at None ≡ Some x → has_name t x ≡ false → (b : Bool) → (at == number_of t kept.tables) ≡ b → Has (open_tables less_tables) x
      two x at is other false e = has-tables less_tables x at (at-other at e ∙ is)
      two x at is other true e =
          let it = name-open t kept.tables opened in
          let place : at ≡ number_of t kept.tables = grind (arith, nat_tests) in
          let both : Some x ≡ Some it.0 = sym is ∙ (ap (λ (j : ℕ). get_or kept.tables j None) place ∙ it.1) in
          let same : x ≡ it.0 = cc in
          absurd (let wrong : true ≡ false = sym (subst (λ (y : TableName). same_table x.name y ≡ true) (ap (λ (y : Table). y.name) same ∙ it.2) (same_table-self x.name)) ∙ other in cc)

  module _ (settled : (q : ClientNo) → names_table t (transactions q) ≡ false) where
    no-last : (n : RowNo) → last_change (number_of t kept.tables) n kept.changes ≡ None
    no-last n = go (last_change (number_of t kept.tables) n kept.changes) refl
      where
        go : (o : Option (ClientNo × Option (List Cell))) → last_change (number_of t kept.tables) n kept.changes ≡ o → last_change (number_of t kept.tables) n kept.changes ≡ None
        go None e = e
        go (Some x) e =
            let it = kept-names kept.tables (number_of t kept.tables) n x.0 (transactions x.0) x (ties.there x.0)
            (ap (last_change (number_of t kept.tables) n) (sym (ties.logged x.0)) ∙ last-own (number_of t kept.tables) n x.0 x.1 kept.changes e) in
            let places : (number_of it.0 kept.tables == number_of t kept.tables) ≡ true = let p = it.1 in grind (arith, nat_tests) in
            let same : it.0 ≡ t = same_table-is it.0 t (sym (same-number it.0 t kept.tables it.2) ∙ places) in
            absurd (let wrong : true ≡ false = sym (row-of-table t n (transactions x.0) (ap (λ (y : TableName). names_row y n (transactions x.0)) (sym same) ∙ it.3)) ∙ settled x.0 in cc)

    -- no client has changes of the table's rows
    pub no-owner : (n : RowNo) → owner_of (number_of t kept.tables) n kept.held ≡ None
    no-owner n = none (kept_at (number_of t kept.tables) n kept.held) (ties.agrees (number_of t kept.tables) n ∙ no-last n)
      where
        none : (o : Option Held) → option_and_then owned o ≡ None → option_and_then (λ (row : Held). row.owner) o ≡ None
        none None e = refl
        none (Some h) e = go h.owner refl e
          where
            go : (w : Option ClientNo) → h.owner ≡ w → option_map (λ (by : ClientNo). under by h.newest) w ≡ None → h.owner ≡ None
            go None f is = f
            go (Some by) f is = absurd (let wrong : Some (under by h.newest) ≡ None = is in cc)

    agree-less : (u : ℕ) (n : RowNo) → option_and_then owned (kept_at u n less_held) ≡ last_change u n kept.changes
    agree-less u n = ap (option_and_then owned) (kept-found (is_elsewhere (number_of t kept.tables)) u n kept.held ties.order) ∙ go (kept_at u n kept.held) refl (ties.agrees u n)
      where
        by_table : (h : Held) (b : Bool) → (h.table == number_of t kept.tables) ≡ b → held_at u n h ≡ true → option_and_then owned (Some h) ≡ last_change u n kept.changes
            → option_and_then owned (cond (not b) (Some h) None) ≡ last_change u n kept.changes
        by_table h false e at is = is
        by_table h true e at is =
            let parts = and_parts (h.table == u) (h.number.0 == n.0) at in
            let same : u ≡ number_of t kept.tables = grind (arith, nat_tests) in
            sym (ap (λ (j : ℕ). last_change j n kept.changes) same ∙ no-last n)

        go : (o : Option Held) → kept_at u n kept.held ≡ o → option_and_then owned o ≡ last_change u n kept.changes
            → option_and_then owned (option_and_then (if_passes (is_elsewhere (number_of t kept.tables))) o) ≡ last_change u n kept.changes
        go None e is = is
        go (Some h) e is = by_table h (h.table == number_of t kept.tables) refl (found-there u n kept.held h ties.order e).1 is

    still-there : (q : ClientNo) → AllByRecursion (λ (x : RowChange). IsOpen x.table kept.tables × (same_table x.table t ≡ false)) (transactions q)
    still-there q = all-both (λ (x : RowChange). IsOpen x.table kept.tables) (λ (x : RowChange). same_table x.table t ≡ false) (transactions q) (ties.there q) (others-of t (transactions q) (settled q))

    place-other : (x : RowChange) → IsOpen x.table kept.tables → same_table x.table t ≡ false → number_of x.table kept.tables ≢ number_of t kept.tables
    place-other x open_it other same =
        let yes' : (number_of x.table kept.tables == number_of t kept.tables) ≡ true = grind (arith, nat_tests) in
        let wrong : true ≡ false = sym yes' ∙ (same-number x.table t kept.tables open_it ∙ other) in
        cc

    pub ties-less : (spare : ℕ) → Ties (record { tables = less_tables; held = less_held; changes = kept.changes; spare = spare }) transactions
    ties-less spare = record {
      order = order-less;
      left = all_to is_left less_held (λ h has. all_from is_left kept.held ties.left h (was (is_elsewhere (number_of t kept.tables)) kept.held h has).0);
      open_tables = opens-less;
      rows_numbered = all_to held_numbered less_held (λ h has. all_from held_numbered kept.held ties.rows_numbered h (was (is_elsewhere (number_of t kept.tables)) kept.held h has).0);
      names = gone-names kept.tables (number_of t kept.tables) ties.names;
      agrees = agree-less;
      logged = λ q. ties.logged q ∙ map-same (λ (x : RowChange). IsOpen x.table kept.tables × (same_table x.table t ≡ false)) (kept_change kept.tables q) (kept_change less_tables q)
          (λ x facts. ap (λ (j : ℕ). let y : Change = record { by = q; table = j; number = x.row; content = x.new } in y)
          (sym (gone-number x.table kept.tables (number_of t kept.tables) (place-other x facts.0 facts.1) facts.0)))
          (transactions q) (still-there q);
      there = λ q. all-weaker (λ (x : RowChange). IsOpen x.table kept.tables × (same_table x.table t ≡ false)) (λ (x : RowChange). IsOpen x.table less_tables)
          (λ x facts. gone-open x.table kept.tables (number_of t kept.tables) (place-other x facts.0 facts.1) facts.0) (transactions q) (still-there q);
      numbered = ties.numbered;
      apart = ties.apart;
      from = λ q. from-same (committed kept.tables kept.held) (committed less_tables less_held) (transactions q)
          (λ u n named. sym (less-at u n ∙ ap (λ b. cond (not b) (row_at u n (committed kept.tables kept.held)) None) (other-table q u n named))) (ties.from q);
    }
      where
        other-table : (q : ClientNo) (u : TableName) (n : RowNo) → names_row u n (transactions q) ≡ true → same_table u t ≡ false
        other-table q u n named = go (same_table u t) refl
          where
            go : (b : Bool) → same_table u t ≡ b → same_table u t ≡ false
            go false e = e
            go true e = absurd (let wrong : true ≡ false = sym (row-of-table t n (transactions q) (ap (λ (y : TableName). names_row y n (transactions q)) (sym (same_table-is u t e)) ∙ named)) ∙ settled q in cc)
