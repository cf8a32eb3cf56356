use Rattle.au_session.proofs.Backing.{backed_start}
use Rattle.au_session.proofs.door.Door.new.Goals as goal

pub invariant_of-result-clause-kept : goal.invariant_of-result-clause-kept
invariant_of-result-clause-kept g c =
    let laws = g.met.L.Lobby g.world.𝓛 g.world.𝓜 g.world.𝓡 ((λ s x. x), (λ x. x), (λ x. x), λ x. x) in
    ∣ backed_start (g.L.Lobby.visits c.args.lobby) (laws.within c.args.lobby) ∣₁
