use Rattle.std.proofs.Common.{◌≡◌, ◌∙◌, ℕ, ap, sym, map, true}
use Rattle.std.specs.List.{list_all}
use Rattle.au_rows.specs.Held.{is_of_other, number_of, owner_of}
use Rattle.au_rows.specs.Kept.{change_of, held_of, unsettled_elsewhere}
use Rattle.au_rows.proofs.LinkLemmas.{live-elsewhere}
use Rattle.au_rows.proofs.UnderLemmas.{changes-elsewhere, settled-owners}
use Rattle.au_rows.proofs.rows.Rows.is_settled.Goals as goal

pub returns-clause-changes : goal.returns-clause-changes
returns-clause-changes c =
    let changes = c.self.inside.unsettled.listed in
    let is : c.number_of-table.result ≡ number_of c.args.table.now c.self.inside.tables.items = c.number_of-table.ensures.number ∙ ap (number_of c.args.table.now) c.deref.ensures.value in
    rw (← c.self.view_is)
    (c.is_settled_in.ensures
    ∙ (live-elsewhere c.number_of-table.result c.entries.result.now
    ∙ (ap (list_all (unsettled_elsewhere c.number_of-table.result)) c.entries.ensures
    ∙ (changes-elsewhere c.self.inside.versions.slots c.number_of-table.result changes
    ∙ ap (λ (t : ℕ). list_all (is_of_other t) (map (change_of c.self.inside.versions.slots) changes)) is))))

pub returns-clause-owners : goal.returns-clause-owners
returns-clause-owners c =
    let places = c.self.inside.places.listed in
    let is : c.number_of-table.result ≡ number_of c.args.table.now c.self.inside.tables.items = c.number_of-table.ensures.number ∙ ap (number_of c.args.table.now) c.deref.ensures.value in
    rw (← c.self.view_is) (λ yes row.
    let all : list_all (unsettled_elsewhere c.number_of-table.result) c.self.inside.unsettled.listed ≡ true =
    sym (c.is_settled_in.ensures ∙ (live-elsewhere c.number_of-table.result c.entries.result.now ∙ ap (list_all (unsettled_elsewhere c.number_of-table.result)) c.entries.ensures)) ∙ yes in
    ap (λ (t : ℕ). owner_of t row (map (held_of c.self.inside.versions.slots) places)) (sym is)
    ∙ settled-owners c.self.inside.versions.slots places c.self.inside.unsettled.listed c.self.invariant.0 c.number_of-table.result all row)
