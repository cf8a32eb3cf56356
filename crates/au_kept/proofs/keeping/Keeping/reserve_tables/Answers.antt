use Rattle.std.proofs.Common.{List, map, sym, ap}
use Rattle.au_image.specs.Image.{kept_of}
use Rattle.au_kept.proofs.Made.{roomier}
use Rattle.au_txn.specs.Rows.{Row, triple_of}
use Rattle.au_kept.proofs.keeping.Keeping.reserve_tables.Goals as goal

pub invariant_of-self : goal.invariant_of-self
invariant_of-self c =
    roomier _ _ c.self.inside.desk c.reserve_rows.new.self c.self.invariant
    (ap (λ (rows : List Row). kept_of c.self.inside.catalog c.self.inside.grants (map triple_of rows) c.self.inside.trail.items c.self.inside.last c.self.inside.instance) (sym c.reserve_rows.ensures.rows))
    c.reserve_rows.ensures.tables c.reserve_rows.ensures.rows c.reserve_rows.ensures.lists c.reserve_rows.ensures.laid c.desks_stay_keyed.ensures.same
