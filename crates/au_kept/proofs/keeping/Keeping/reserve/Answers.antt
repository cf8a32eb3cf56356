use Rattle.std.proofs.Common.{List, map, sym, ap}
use Rattle.au_image.specs.Image.{kept_of}
use Rattle.au_kept.proofs.Written.{same_holds}
use Rattle.au_txn.specs.Rows.{Row, triple_of}
use Rattle.au_kept.proofs.keeping.Keeping.reserve.Goals as goal

pub invariant_of-self : goal.invariant_of-self
invariant_of-self c =
    same_holds c.desks_stay_keyed.ensures.same _ _ c.self.inside.desk c.reserve.new.self c.self.invariant
    (ap (λ (rows : List Row). kept_of c.self.inside.catalog c.self.inside.grants (map triple_of rows) c.self.inside.trail.items c.self.inside.last c.self.inside.instance) (sym c.reserve.ensures.rows))
    c.reserve.ensures.tables c.reserve.ensures.rows c.reserve.ensures.changes
