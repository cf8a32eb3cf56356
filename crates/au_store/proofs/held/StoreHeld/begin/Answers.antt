use Rattle.au_store.proofs.Going.{first_stands}
use Rattle.au_store.proofs.held.StoreHeld.begin.Goals as goal

pub returns : goal.returns
returns g c = first_stands g.D.Disk.told g.D.Disk.meaning g.D.Disk.faults c.args.self.now
