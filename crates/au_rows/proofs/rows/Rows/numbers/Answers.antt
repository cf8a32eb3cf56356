use Rattle.std.proofs.Common.{◌≡◌, ◌∙◌, ℕ, ap, sym}
use Rattle.std.specs.List.{count_by}
use Rattle.au_rows.specs.Held.{number_of}
use Rattle.au_rows.specs.Kept.{place_of, largest_in}
use Rattle.au_rows.proofs.NumberLemmas.{count-rows, largest-rows}
use Rattle.au_rows.proofs.rows.Rows.numbers.Goals as goal

pub returns-clause-count : goal.returns-clause-count
returns-clause-count c =
    let places = c.self.inside.places.listed in
    let is : c.number_of-table.result ≡ number_of c.args.table.now c.self.inside.tables.items = c.number_of-table.ensures.number ∙ ap (number_of c.args.table.now) c.deref.ensures.value in
    rw (← c.self.view_is)
    (c.numbers.ensures.count
    ∙ (ap (λ (t : ℕ). count_by (place_of t) places) is
    ∙ sym (count-rows (number_of c.args.table.now c.self.inside.tables.items) c.self.inside.versions.slots places)))

pub returns-clause-largest : goal.returns-clause-largest
returns-clause-largest c =
    let places = c.self.inside.places.listed in
    let is : c.number_of-table.result ≡ number_of c.args.table.now c.self.inside.tables.items = c.number_of-table.ensures.number ∙ ap (number_of c.args.table.now) c.deref.ensures.value in
    rw (← c.self.view_is)
    (c.numbers.ensures.largest
    ∙ (ap (λ (t : ℕ). largest_in t places) is
    ∙ sym (largest-rows (number_of c.args.table.now c.self.inside.tables.items) c.self.inside.versions.slots places)))
