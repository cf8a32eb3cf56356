use Rattle.std.proofs.Common.{◌≢◌, ◌<◌, rules}
use Rattle.std.proofs.Math.Logic.{∥∥₁_map, ∥∥₁_elim}
use Rattle.au_session.specs.declared.ended.Ended.TheVariants.{Memory}
use Rattle.au_session.specs.Session.{told_of}
use Rattle.au_session.proofs.Backing.{backed_back, has_out, has_out-prop}
use Rattle.au_session.proofs.door.Door.take_back.Goals as goal

pub finish-requires : goal.finish-requires
finish-requires g c =
    let lt : c.args.self.now.back < c.args.self.now.drawn = search rules in
    ∥∥₁_elim c.args.self.now.kept (has_out-prop (g.L.Lobby.visits c.args.self.now.lobby)) (has_out (g.L.Lobby.visits c.args.self.now.lobby) c.args.self.now.drawn c.args.self.now.back lt)

pub invariant_of-self-clause-kept : goal.invariant_of-self-clause-kept
invariant_of-self-clause-kept g c =
    let other : c.args.ended.now ≢ Memory = search rules in
    let s = g.L.Link.Stream in
    ∥∥₁_map c.args.self.now.kept (backed_back (g.L.Lobby.visits c.args.self.now.lobby) (g.L.Lobby.visits c.finish.new.self) (told_of s.left s.taken s.given s.faults c.args.link) c.args.self.now.drawn c.args.self.now.back
    c.finish.ensures.visits (c.requires other))
