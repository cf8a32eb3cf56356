use Rattle.std.proofs.Math.Logic.{∥∥₁_map}
use Rattle.au_session.specs.Session.{told_of}
use Rattle.au_session.proofs.Backing.{backed_drawn, stands_drawn}
use Rattle.au_session.proofs.door.Door.draw.Goals as goal

pub invariant_of-self-clause-kept : goal.invariant_of-self-clause-kept
invariant_of-self-clause-kept g c =
    let s = g.L.Link.Stream in
    ∥∥₁_map c.args.self.now.kept (backed_drawn (g.L.Lobby.visits c.args.self.now.lobby) (g.L.Lobby.visits c.next.new.self) (told_of s.left s.taken s.given s.faults) c.in-Link.link c.args.self.now.drawn c.args.self.now.back c.in-Link.ensures.visits)

pub returns-in-Link-clause-history : goal.returns-in-Link-clause-history
returns-in-Link-clause-history g c = λ history stands.
    let s = g.L.Link.Stream in
    stands_drawn (g.L.Lobby.visits c.args.self.now.lobby) (g.L.Lobby.visits c.next.new.self) (told_of s.left s.taken s.given s.faults) c.in-Link.link (g.L.Lobby.faults c.args.self.now.lobby) (g.L.Lobby.faults c.next.new.self)
    c.args.self.now.drawn c.args.self.now.back c.args.self.now.failed history c.in-Link.ensures.visits c.in-Link.ensures.cause stands
