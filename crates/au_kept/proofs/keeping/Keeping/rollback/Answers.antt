use Rattle.std.proofs.Common.{List, map, sym, ap}
use Rattle.au_image.specs.Image.{kept_of}
use Rattle.au_kept.proofs.Written.{back_holds}
use Rattle.au_txn.specs.Rows.{Row, triple_of}
use Rattle.au_kept.proofs.keeping.Keeping.rollback.Goals as goal

pub invariant_of-self : goal.invariant_of-self
invariant_of-self c =
    back_holds c.desks_stay_keyed.ensures.rolled_back _ _ c.self.inside.desk c.rollback.new.self c.args.client c.self.invariant
    (ap (λ (rows : List Row). kept_of c.self.inside.catalog c.self.inside.grants (map triple_of rows) c.self.inside.trail.items c.self.inside.last c.self.inside.instance) (sym c.rollback.ensures.rows))
    c.rollback.ensures.tables c.rollback.ensures.rows c.rollback.ensures.own c.rollback.ensures.others
