-- The committed rows answer what is settled.
use Rattle.std.proofs.Common.{◌≡◌, ◌<◌, ◌∙◌, ℕ, Bool, true, false, cond, is_some, List, [], ◌∷◌, get_or, length, refl, sym, ap, ap₂, subst, arith, Option, None, Some}
use Rattle.std.specs.Prelude.{◌==◌}
use Rattle.std.specs.List.{cons_option, filter_map, list_all}
use Rattle.std.specs.Option.{option_and_then, option_map}
use Rattle.std.proofs.lemmas.Bool.{and_parts, and_from}
use Rattle.std.proofs.lemmas.Bool.Decides.{nat_tests}
use Rattle.au_base.specs.declared.cell.Cell.{Cell}
use Rattle.au_base.specs.declared.numbers.RowNo.{RowNo}
use Rattle.au_base.specs.declared.table.TableName.{TableName}
use Rattle.au_base.specs.Sameness.{same_table}
use Rattle.au_rows.specs.declared.table.Table.{Table}
use Rattle.au_rows.specs.Held.{Held, held_at, number_of, row_at as kept_at, settled_of}
use Rattle.au_txn.specs.Inside.{AreNamed, committed, held_in_order, held_open, in_order_of, named, row_of}
use Rattle.au_txn.specs.Rows.{Row, are_in_order, is_row, row_at, row_before}
use Rattle.au_txn.proofs.HeldLemmas.{behind-none, find-step, rest-of}
use Rattle.au_txn.proofs.RowOrder.{is_row-is, number-is, number-self, placed-in, row_at-placed, same_table-self}
use Rattle.au_txn.proofs.TableLemmas.{name-open, within}

-- sorted rows answer what they answer unsorted
pub sorted-at : (t : TableName) (n : RowNo) (xs : List Row) → row_at t n (in_order_of row_before xs) ≡ row_at t n xs
sorted-at t n [] = refl
sorted-at t n (x ∷ xs) = row_at-placed t n x (in_order_of row_before xs) ∙ ap (cond (is_row t n x) (Some x.cells)) (sorted-at t n xs)

-- the row that is held of a table
abbrev pub row_with : Table → Held → List Cell → Row
row_with table h cells = record { table = table.name; number = h.number; cells = cells }

pub named-some : (tables : List (Option Table)) (h : Held) (table : Table) (cells : List Cell) → get_or tables h.table None ≡ Some table → h.settled ≡ Some cells
    → named tables h ≡ Some (row_with table h cells)
named-some tables h table cells e s = ap (λ o. row_of o h) e ∙ ap (option_map (row_with table h)) s

pub named-none : (tables : List (Option Table)) (h : Held) (table : Table) → get_or tables h.table None ≡ Some table → h.settled ≡ None → named tables h ≡ None
named-none tables h table e s = ap (λ o. row_of o h) e ∙ ap (option_map (row_with table h)) s

-- a table that is open is there
pub there-open : (tables : List (Option Table)) (k : ℕ) → is_some (get_or tables k None) ≡ true → (table : Table) × (get_or tables k None ≡ Some table)
there-open tables k h = go (get_or tables k None) refl h
  where
    go : (o : Option Table) → get_or tables k None ≡ o → is_some o ≡ true → (table : Table) × (get_or tables k None ≡ Some table)
    go None e some = absurd (let wrong : false ≡ true = some in cc)
    go (Some table) e some = (table, e)

module _ (tables : List (Option Table)) (names : AreNamed tables) (t : TableName) (n : RowNo) where
  -- the table of the row that is found has the name
  name-here : (h : Held) (table : Table) → get_or tables h.table None ≡ Some table → h.table ≡ number_of t tables → table.name ≡ t
  name-here h table e place =
      let inside : number_of t tables < length tables = let w = within tables h.table table e in omega arith in
      let it = name-open t tables inside in
      let at : get_or tables (number_of t tables) None ≡ Some table = ap (λ (k : ℕ). get_or tables k None) (sym place) ∙ e in
      let same : table ≡ it.0 = let both : Some table ≡ Some it.0 = sym at ∙ it.1 in cc in
      ap (λ (x : Table). x.name) same ∙ it.2

  here : (h : Held) (table : Table) (cells : List Cell) → get_or tables h.table None ≡ Some table → held_at (number_of t tables) n h ≡ true → is_row t n (row_with table h cells) ≡ true
  here h table cells e at =
      let parts = and_parts (h.table == number_of t tables) (h.number.0 == n.0) at in
      let place : h.table ≡ number_of t tables = grind (arith, nat_tests) in
      and_from (same_table table.name t) (h.number.0 == n.0) (subst (λ (x : TableName). same_table table.name x ≡ true) (name-here h table e place) (same_table-self table.name)) parts.1

  elsewhere : (h : Held) (table : Table) (cells : List Cell) → get_or tables h.table None ≡ Some table → held_at (number_of t tables) n h ≡ false → is_row t n (row_with table h cells) ≡ false
  elsewhere h table cells e away = go (is_row t n (row_with table h cells)) refl
    where
      self : (m : ℕ) → (m == m) ≡ true
      self m = number-self m

      go : (b : Bool) → is_row t n (row_with table h cells) ≡ b → is_row t n (row_with table h cells) ≡ false
      go false f = f
      go true f =
          let same = is_row-is t n (row_with table h cells) f in
          let place : h.table ≡ number_of t tables = sym (names h.table table e) ∙ ap (λ (x : TableName). number_of x tables) same.0 in
          let number : h.number.0 ≡ n.0 = ap (λ (x : RowNo). x.0) same.1 in
          let at : held_at (number_of t tables) n h ≡ true = and_from (h.table == number_of t tables) (h.number.0 == n.0) (subst (λ (m : ℕ). (h.table == m) ≡ true) place (self h.table)) (subst (λ (m : ℕ). (h.number.0 == m) ≡ true) number (self h.number.0)) in
          absurd (let wrong : true ≡ false = sym at ∙ away in cc)

  step : (h : Held) (hs : List Held) (table : Table) (a : Bool) (s : Option (List Cell)) → held_in_order (h ∷ hs) ≡ true → get_or tables h.table None ≡ Some table
      → held_at (number_of t tables) n h ≡ a → h.settled ≡ s → row_at t n (filter_map (named tables) hs) ≡ settled_of (number_of t tables) n hs
      → row_at t n (cons_option (named tables h) (filter_map (named tables) hs)) ≡ option_and_then (λ (row : Held). row.settled) (cond a (Some h) (kept_at (number_of t tables) n hs))
  step h hs table true (Some cells) o e at s rest =
      ap (λ (x : Option Row). row_at t n (cons_option x (filter_map (named tables) hs))) (named-some tables h table cells e s)
      ∙ (ap (λ b. cond b (Some cells) (row_at t n (filter_map (named tables) hs))) (here h table cells e at) ∙ sym s)
  step h hs table true None o e at s rest =
      ap (λ (x : Option Row). row_at t n (cons_option x (filter_map (named tables) hs))) (named-none tables h table e s)
      ∙ (rest ∙ (ap (option_and_then (λ (row : Held). row.settled)) none ∙ sym s))
    where
      place : h.table ≡ number_of t tables
      place = let parts = and_parts (h.table == number_of t tables) (h.number.0 == n.0) at in grind (arith, nat_tests)

      number : h.number ≡ n
      number = number-is h.number n (and_parts (h.table == number_of t tables) (h.number.0 == n.0) at).1

      none : kept_at (number_of t tables) n hs ≡ None
      none = ap₂ (λ (k : ℕ) (m : RowNo). kept_at k m hs) (sym place) (sym number) ∙ behind-none h hs o
  step h hs table false (Some cells) o e away s rest =
      ap (λ (x : Option Row). row_at t n (cons_option x (filter_map (named tables) hs))) (named-some tables h table cells e s)
      ∙ (ap (λ b. cond b (Some cells) (row_at t n (filter_map (named tables) hs))) (elsewhere h table cells e away) ∙ rest)
  step h hs table false None o e away s rest =
      ap (λ (x : Option Row). row_at t n (cons_option x (filter_map (named tables) hs))) (named-none tables h table e s) ∙ rest

  pub named-at : (hs : List Held) → held_in_order hs ≡ true → list_all (held_open tables) hs ≡ true → row_at t n (filter_map (named tables) hs) ≡ settled_of (number_of t tables) n hs
  named-at [] o all = refl
  named-at (h ∷ hs) o all =
      let parts = and_parts (held_open tables h) (list_all (held_open tables) hs) all in
      let table = there-open tables h.table parts.0 in
      step h hs table.0 (held_at (number_of t tables) n h) h.settled o table.1 refl refl (named-at hs (rest-of h hs o) parts.1)
      ∙ sym (ap (option_and_then (λ (row : Held). row.settled)) (find-step (number_of t tables) n h hs o))

-- the committed content of a row is what is settled of it
pub committed-at : (tables : List (Option Table)) (hs : List Held) → AreNamed tables → held_in_order hs ≡ true → list_all (held_open tables) hs ≡ true → (t : TableName) (n : RowNo)
    → row_at t n (committed tables hs) ≡ settled_of (number_of t tables) n hs
unfolding committed
committed-at tables hs names o all t n = sorted-at t n (filter_map (named tables) hs) ∙ named-at tables names t n hs o all

sorted-step : (tables : List (Option Table)) → AreNamed tables → (h : Held) (hs : List Held) (table : Table) (s : Option (List Cell)) → held_in_order (h ∷ hs) ≡ true → list_all (held_open tables) hs ≡ true
    → get_or tables h.table None ≡ Some table → h.settled ≡ s → are_in_order (in_order_of row_before (filter_map (named tables) hs)) ≡ true
    → are_in_order (in_order_of row_before (cons_option (named tables h) (filter_map (named tables) hs))) ≡ true
sorted-step tables names h hs table None o all e s rest =
    ap (λ (x : Option Row). are_in_order (in_order_of row_before (cons_option x (filter_map (named tables) hs)))) (named-none tables h table e s) ∙ rest
sorted-step tables names h hs table (Some cells) o all e s rest =
    ap (λ (x : Option Row). are_in_order (in_order_of row_before (cons_option x (filter_map (named tables) hs)))) (named-some tables h table cells e s)
    ∙ placed-in (row_with table h cells) (in_order_of row_before (filter_map (named tables) hs)) rest none
  where
    none : row_at table.name h.number (in_order_of row_before (filter_map (named tables) hs)) ≡ None
    none = sorted-at table.name h.number (filter_map (named tables) hs)
        ∙ (named-at tables names table.name h.number hs (rest-of h hs o) all
        ∙ (ap (λ (k : ℕ). settled_of k h.number hs) (names h.table table e)
        ∙ ap (option_and_then (λ (row : Held). row.settled)) (behind-none h hs o)))

sorted-committed : (tables : List (Option Table)) → AreNamed tables → (hs : List Held) → held_in_order hs ≡ true → list_all (held_open tables) hs ≡ true
    → are_in_order (in_order_of row_before (filter_map (named tables) hs)) ≡ true
sorted-committed tables names [] o all = refl
sorted-committed tables names (h ∷ hs) o all =
    let parts = and_parts (held_open tables h) (list_all (held_open tables) hs) all in
    let table = there-open tables h.table parts.0 in
    sorted-step tables names h hs table.0 h.settled o parts.1 table.1 refl (sorted-committed tables names hs (rest-of h hs o) parts.1)

-- the committed rows stand in order
pub committed-ordered : (tables : List (Option Table)) (hs : List Held) → AreNamed tables → held_in_order hs ≡ true → list_all (held_open tables) hs ≡ true → are_in_order (committed tables hs) ≡ true
unfolding committed
committed-ordered tables hs names o all = sorted-committed tables names hs o all

pub nothing-committed : committed [] [] ≡ []
unfolding committed
nothing-committed = refl
