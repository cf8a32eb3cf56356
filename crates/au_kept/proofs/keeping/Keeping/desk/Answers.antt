use Rattle.std.proofs.Common.{refl}
use Rattle.au_kept.proofs.Held.{desk_seen}
use Rattle.au_kept.proofs.keeping.Keeping.desk.Goals as goal

pub returns : goal.returns
returns c = rw (← c.self.view_is) (desk_seen c.rows_are_triples.ensures.back _ _ 0 refl c.self.invariant)
