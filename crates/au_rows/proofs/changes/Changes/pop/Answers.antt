use Rattle.std.proofs.Common.{arith}
use Rattle.au_rows.proofs.LinkLemmas.{live-length}
use Rattle.au_rows.proofs.changes.Changes.pop.Goals as goal

pub returns-clause-room : goal.returns-clause-room
returns-clause-room c =
    let most = live-length c.self.inside.entries.items in
    let fits = c.self.invariant.1 in
    rw (← c.self.view_is) (omega arith)
