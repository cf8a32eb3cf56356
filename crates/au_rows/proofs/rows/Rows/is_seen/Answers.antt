use Rattle.std.proofs.Common.{◌≡◌, ◌∙◌, ℕ, ap, map, is_some}
use Rattle.au_rows.specs.Held.{number_of, seen_at}
use Rattle.au_rows.specs.Kept.{held_of}
use Rattle.au_rows.proofs.UnderLemmas.{seen-here}
use Rattle.au_rows.proofs.rows.Rows.is_seen.Goals as goal

pub returns : goal.returns
returns c =
    let places = c.self.inside.places.listed in
    let sound = c.self.invariant.0 in
    let is : c.number_of-table.result ≡ number_of c.args.table.now c.self.inside.tables.items = c.number_of-table.ensures.number ∙ ap (number_of c.args.table.now) c.deref.ensures.value in
    rw (← c.self.view_is)
    (c.is_seen_in.ensures
    ∙ (seen-here c.self.inside.versions.slots c.number_of-table.result c.args.by c.args.row places sound.whole
    ∙ ap (λ (t : ℕ). is_some (seen_at t c.args.row c.args.by (map (held_of c.self.inside.versions.slots) places))) is))
