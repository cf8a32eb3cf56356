use Rattle.std.proofs.Common.{arith}
use Rattle.au_rows.proofs.LinkLemmas.{live-length}
use Rattle.au_rows.proofs.links.make_room.Goals as goal

pub returns-then-has_room-clause-ok : goal.returns-then-has_room-clause-ok
returns-then-has_room-clause-ok c =
    let most = live-length c.args.entries.now.items in
    let all = c.has_room.ensures c.if-has_room.true in
    omega arith
