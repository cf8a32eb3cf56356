use Rattle.std.proofs.Common.{◌≡◌, ◌∙◌, ℕ, List, Some, ap, subst, map}
use Rattle.std.specs.List.{Contains}
use Rattle.std.specs.Prelude.{IfNone, IfSome}
use Rattle.std.specs.Borrow.{Bor}
use Rattle.au_base.specs.declared.cell.Cell.{Cell}
use Rattle.au_base.specs.declared.numbers.RowNo.{RowNo}
use Rattle.au_rows.specs.declared.place.Place.{Place}
use Rattle.au_rows.specs.Held.{HasKey, key_of, lent, number_of, view_of}
use Rattle.au_rows.specs.Kept.{held_of}
use Rattle.au_rows.proofs.UnderLemmas.{uncurried}
use Rattle.au_rows.proofs.rows.Rows.under.Goals as goal

pub returns-clause-some : goal.returns-clause-some
returns-clause-some c =
    let tables = c.self.inside.tables.items in
    let slots = c.self.inside.versions.slots in
    let is : c.number_of-table.result ≡ number_of c.args.table.now tables = c.number_of-table.ensures.number ∙ ap (number_of c.args.table.now) c.deref.ensures.value in
    let keys : c.key_of.result.now ≡ key_of c.number_of-table.result tables = c.key_of.ensures ∙ ap (key_of c.number_of-table.result) c.deref-2.ensures.value in
    let P : ℕ → List ℕ → List Place → Type 0 = λ t key places. IfSome c.under_in.result (λ (row : RowNo × Bor (List Cell)). Contains (view_of t c.args.by (map (held_of slots) places)) (lent row) × HasKey key c.args.key.now (Some row.1.now)) in
    rw (← c.self.view_is)
    (subst (λ (t : ℕ). P t (key_of t tables) c.self.inside.places.listed) is
    (subst (λ (key : List ℕ). P c.number_of-table.result key c.self.inside.places.listed) keys
    c.under_in.ensures.some))

pub returns-clause-none : goal.returns-clause-none
returns-clause-none c =
    let tables = c.self.inside.tables.items in
    let slots = c.self.inside.versions.slots in
    let is : c.number_of-table.result ≡ number_of c.args.table.now tables = c.number_of-table.ensures.number ∙ ap (number_of c.args.table.now) c.deref.ensures.value in
    let keys : c.key_of.result.now ≡ key_of c.number_of-table.result tables = c.key_of.ensures ∙ ap (key_of c.number_of-table.result) c.deref-2.ensures.value in
    let P : ℕ → List ℕ → List Place → Type 0 = λ t key places. IfNone c.under_in.result ((row : RowNo × List Cell) → Contains (view_of t c.args.by (map (held_of slots) places)) row → HasKey key c.args.key.now (Some row.1) → ⊥) in
    rw (← c.self.view_is) (uncurried (λ (row : RowNo × List Cell). Contains (view_of (number_of c.args.table.now tables) c.args.by (map (held_of slots) c.self.inside.places.listed)) row) (λ (row : RowNo × List Cell). HasKey (key_of (number_of c.args.table.now tables) tables) c.args.key.now (Some row.1)) c.under_in.result
    (subst (λ (t : ℕ). P t (key_of t tables) c.self.inside.places.listed) is
    (subst (λ (key : List ℕ). P c.number_of-table.result key c.self.inside.places.listed) keys
    c.under_in.ensures.none)))
