use Rattle.au_store.proofs.Doubted.{list_leaves}
use Rattle.au_store.proofs.store.Store.at_rest.Goals as goal

pub returns-clause-list : goal.returns-clause-list
returns-clause-list g c = rw (← c.self.view_is) (λ told entries stands apart. list_leaves g.D.Disk.told g.D.Disk.meaning g.D.Disk.faults _ entries told (c.self.invariant.stands told) stands apart)
