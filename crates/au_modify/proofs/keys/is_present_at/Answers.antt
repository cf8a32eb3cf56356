use Rattle.std.proofs.Common.{◌≡◌, ◌≢◌, ◌∙◌, ◌==◌, ℕ, Bool, true, false, List, [], length, ap, sym, subst}
use Rattle.std.specs.Prelude.{◌↔◌, IsTrue, Some}
use Rattle.au_base.specs.declared.cell.Cell.{Cell}
use Rattle.au_base.specs.declared.numbers.RowNo.{RowNo}
use Rattle.au_modify.specs.Keys.{key_in}
use Rattle.au_rows.specs.Held.{HasKey, lent}
use Rattle.au_txn.specs.Desks as desks
use Rattle.au_txn.specs.Desks.{open_of}
use Rattle.au_txn.specs.Transactions.{IsUnder, laid_over}
use Rattle.au_modify.proofs.Keyed.{by_key, same_key, told_by_search}
use Rattle.au_modify.proofs.keys.is_present_at.Goals as goal

pub returns-in-Some : goal.returns-in-Some
returns-in-Some c =
    let desk = c.args.world.now.desk.now in
    let tables = c.args.world.now.catalog.now.tables in
    let table = c.args.table.now in
    let cells = c.args.cells.now in
    let places = key_in tables table in
    let opened = desks.key_of table desk.tables in
    let key = c.as_slice.result.now in
    let seen = laid_over desk.rows (open_of desk c.args.client) in
    let under = λ (q : List ℕ) (k : List Cell). (row : RowNo × List Cell) × IsUnder q k table seen row in
    let some : places ≢ [] = λ none. (
    let e : true ≡ false = sym (ap (λ (q : List ℕ). length q == 0) (c.requires.places ∙ none)) ∙ sym c.is_empty.ensures ∙ c.if-is_empty.false in cc
    ) in
    let found : HasKey c.args.places.now c.in-Some.key.items (Some cells) = rw c.in-Some.is at c.in_ok-key.ensures in
    let has : HasKey places key (Some cells) =
    subst (λ (q : List ℕ). HasKey q key (Some cells)) c.requires.places
    (subst (λ (k : List Cell). HasKey c.args.places.now k (Some cells)) (sym c.as_slice.ensures.value) found) in
    let told : IsTrue c.is_some.result ↔ under opened key =
    subst (λ (b : Bool). IsTrue b ↔ under opened key) (sym c.is_some.ensures)
    (told_by_search lent (λ (row : RowNo × List Cell). IsUnder opened key table seen row) c.under.result c.under.ensures.some c.under.ensures.none) in
    by_key under places cells (λ one other. c.contents_have_one_key.ensures places one other (Some cells)) opened
    (same_key (λ a b. (c.same_is_equal.ensures.table a b).0) desk tables table c.requires.tables) some key has c.is_some.result told
