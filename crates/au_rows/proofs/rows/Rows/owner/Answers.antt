use Rattle.std.proofs.Common.{◌≡◌, ◌∙◌, ℕ, ap, sym}
use Rattle.au_rows.specs.Held.{number_of}
use Rattle.au_rows.specs.Kept.{owner_in}
use Rattle.au_rows.proofs.PutLemmas.{owner_of-map}
use Rattle.au_rows.proofs.rows.Rows.owner.Goals as goal

pub returns : goal.returns
returns c =
    let places = c.self.inside.places.listed in
    let is : c.number_of-table.result ≡ number_of c.args.table.now c.self.inside.tables.items = c.number_of-table.ensures.number ∙ ap (number_of c.args.table.now) c.deref.ensures.value in
    rw (← c.self.view_is)
    (c.owner.ensures
    ∙ (ap (λ (t : ℕ). owner_in t c.args.row places) is
    ∙ sym (owner_of-map c.self.inside.versions.slots (number_of c.args.table.now c.self.inside.tables.items) c.args.row places)))
