-- Whether another client locks the key of some cells, or a row has it.
use Rattle.std.proofs.Common.{◌≡◌, ◌≢◌, ◌<◌, ◌∙◌, ℕ, zero, suc, Bool, true, false, cond, List, [], ◌∷◌, length, refl, sym, ap, subst, arith}
use Rattle.std.specs.Prelude.{◌↔◌, IfNone, IfSome, Option, Some, None, IsTrue, is_some}
use Rattle.std.specs.List.{AllByRecursion, AllZip, slice_get, slice_index}
use Rattle.au_base.specs.declared.cell.Cell.{Cell}
use Rattle.au_base.specs.declared.table.TableName.{TableName}
use Rattle.au_base.specs.Sameness.{same_table}
use Rattle.au_entries.specs.declared.table.Table.{Table}
use Rattle.au_modify.specs.Keys.{key_in, key_of}
use Rattle.au_rows.specs.Held.{HasKey}
use Rattle.au_txn.specs.Desks as desks
use Rattle.au_txn.specs.Desks.{Contents}
use Rattle.au_world.specs.Sights.{table_named}
use Rattle.au_world.specs.Sound.{IsOpenTable}

-- ---- the key of a table of the catalogue is that of the open table

named_at : (desk : Contents) (table : Table) (found : Option Table) (name : TableName) → (same_table table.name name ≡ true → table.name ≡ name) → IsOpenTable desk table
    → (key_of found ≢ [] → desks.key_of name desk.tables ≡ key_of found)
    → (b : Bool) → same_table table.name name ≡ b → key_of (cond b (Some table) found) ≢ [] → desks.key_of name desk.tables ≡ key_of (cond b (Some table) found)
named_at desk table found name same opened later true is some = ap (λ (n : TableName). desks.key_of n desk.tables) (sym (same is)) ∙ opened.key
named_at desk table found name same opened later false is some = later some

pub same_key : ((a b : TableName) → same_table a b ≡ true → a ≡ b) → (desk : Contents) (tables : List Table) (name : TableName) → AllByRecursion (IsOpenTable desk) tables
    → key_in tables name ≢ [] → desks.key_of name desk.tables ≡ key_in tables name
same_key same desk [] name opened some = absurd (some refl)
same_key same desk (table ∷ tables) name opened some =
    named_at desk table (table_named tables name) name (same table.name name) opened.0 (same_key same desk tables name opened.1) (same_table table.name name) refl some

-- ---- a key of cells

some_cell : (key : List Cell) (at : ℕ) → at < length key → slice_get key at ≡ None → ⊥
some_cell [] at within is = omega arith
some_cell (c ∷ key) zero within is = cc
some_cell (c ∷ key) (suc at) within is = some_cell key at (omega arith) is

-- where a place has no cell, the cells have no key
pub no_key : (cells : List Cell) (places : List ℕ) (at : ℕ) → at < length places → slice_get cells (slice_index places at) ≡ None → (key : List Cell) → ¬ HasKey places key (Some cells)
no_key cells places at within is key has = some_cell key at (let e = has.0 in omega arith) (sym (has.1 at within) ∙ is)

key_at : (cells : List Cell) (place : ℕ) (places : List ℕ) (c : Cell) (key : List Cell) → slice_get cells place ≡ Some c
    → ((at : ℕ) → at < length places → slice_get cells (slice_index places at) ≡ slice_get key at)
    → (at : ℕ) → at < length (place ∷ places) → slice_get cells (slice_index (place ∷ places) at) ≡ slice_get (c ∷ key) at
key_at cells place places c key first rest zero within = first
key_at cells place places c key first rest (suc at) within = rest at (omega (arith, within))

pub has_key : (cells : List Cell) (places : List ℕ) (key : List Cell) → AllZip (λ (place : ℕ) (c : Cell). slice_get cells place ≡ Some c) places key → HasKey places key (Some cells)
has_key cells [] [] all = (refl, λ at within. absurd (omega (arith, within)))
has_key cells [] (c ∷ key) all = absurd all
has_key cells (place ∷ places) [] all = absurd all
has_key cells (place ∷ places) (c ∷ key) all =
    let rest = has_key cells places key all.1 in
    (ap suc rest.0, key_at cells place places c key all.0 rest.1)

-- ---- what is told of the key of cells is told of the cells

module _ (P : List ℕ → List Cell → Type 0) (places : List ℕ) (cells : List Cell) where
  abbrev pub HasSuch : Type 0
  HasSuch = (places ≢ []) × ((key : List Cell) × HasKey places key (Some cells) × P places key)

  pub by_key : ((key other : List Cell) → HasKey places key (Some cells) → HasKey places other (Some cells) → key ≡ other)
      → (opened : List ℕ) → (places ≢ [] → opened ≡ places) → places ≢ [] → (key : List Cell) → HasKey places key (Some cells)
      → (answer : Bool) → IsTrue answer ↔ P opened key → IsTrue answer ↔ HasSuch
  by_key one opened same some key has answer told = (
    λ is. (some, (key, has, subst (λ (q : List ℕ). P q key) (same some) (told.0 is))),
    λ such. told.1 (subst (λ (q : List ℕ). P q key) (sym (same some)) (subst (P places) (one such.1.0 key such.1.1 has) such.1.2)),
  )

-- whether something is found tells whether there is something
pub told_by_search : {X Y : Type 0} (g : X → Y) (P : Y → Type 0) (found : Option X) → IfSome found (λ x. P (g x)) → IfNone found ((y : Y) → ¬ P y) → IsTrue (is_some found) ↔ ((y : Y) × P y)
told_by_search g P None some none = (λ is. absurd (let e : false ≡ true = is in cc), λ has. absurd (none has.0 has.1))
told_by_search g P (Some x) some none = (λ is. (g x, some), λ has. refl)
