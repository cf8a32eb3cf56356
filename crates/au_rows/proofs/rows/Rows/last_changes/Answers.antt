use Rattle.au_rows.proofs.AgreeLemmas.{agreed}
use Rattle.au_rows.proofs.rows.Rows.last_changes.Goals as goal

pub returns : goal.returns
returns c = rw (← c.self.view_is) (λ t n. agreed c.self.inside.versions.slots c.self.inside.places.listed c.self.inside.unsettled.listed c.self.invariant.0 t n)
