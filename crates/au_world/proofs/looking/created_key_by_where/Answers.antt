use Rattle.std.proofs.Common.{◌∙◌, ◌∷◌, [], ℕ, List, ap, sym, subst}
use Rattle.std.specs.Prelude.{IfSome}
use Rattle.au_base.specs.declared.cell.Cell.{Cell}
use Rattle.au_world.specs.Inside.{IsFixedAlone, IsKeyFixed, where_asked}
use Rattle.au_world.specs.Sights.{table_named}
use Rattle.au_world.proofs.LookUps.{if_ok, if_some, same_key}
use Rattle.au_world.proofs.looking.created_key_by_where.Goals as goal

pub returns-in-Some : goal.returns-in-Some
returns-in-Some c =
    let desk = c.args.world.now.desk.now in
    let asked = c.args.asked.now in
    let table = asked.table.now in
    let found = c.in-Some.found.now in
    let columns = same_key (λ a b. (c.same_is_equal.ensures.table a b).0) desk c.args.world.now.catalog.now.tables table found c.requires.sound.tables (ap (λ tables. table_named tables table) (sym c.as_slice.ensures) ∙ c.in-Some.ensures) in
    let alone = λ (columns : List ℕ) (key : List Cell). IsFixedAlone asked.session.now (where_asked asked) (table ∷ []) 0 table columns key in
    let fixed = alone c.as_slice-in-Some.result.now in
    if_ok (λ answer. IfSome answer (λ key. fixed key.items)) (λ answer. IfSome answer (λ key. IsKeyFixed asked.session.now (where_asked asked) (table ∷ []) 0 desk.tables table key.items))
    (λ answer. if_some (λ key. fixed key.items) (λ key. IsKeyFixed asked.session.now (where_asked asked) (table ∷ []) 0 desk.tables table key.items)
    (λ key is. record { created = c.requires.created; alone = subst (λ (places : List ℕ). alone places key.items) (c.as_slice-in-Some.ensures ∙ sym columns) is }) answer)
    c.columns_by_where.result c.columns_by_where.ensures
