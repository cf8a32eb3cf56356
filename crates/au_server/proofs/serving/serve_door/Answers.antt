use Rattle.std.proofs.Common.{◌≡◌, false, List, subst, inl, inr, ⊎_elim}
use mathlib.Core.List.{IsPrefix}
use Rattle.au_turn.specs.Pass.{seen}
use Rattle.au_session.specs.declared.drawn.DoorEntry.{DoorEntry}
use Rattle.au_session.specs.Stands.{first_of}
use Rattle.au_server.proofs.Returning.{ends_by}
use Rattle.au_server.proofs.serving.serve_door.Goals as goal

pub returns-in-Ok-clause-ends : goal.returns-in-Ok-clause-ends
returns-in-Ok-clause-ends g c =
    let lobby = g.L.Lobby in
    let door = c.args.door in
    let out = c.serve_turns-door.ensures.door in
    let first : seen c.in-Ok.at_door ≡ first_of (lobby.visits door.lobby) (lobby.faults door.lobby) 0 0 false =
    rw (c.requires.0, c.requires.1, c.requires.2) at c.in-Ok.ensures.seen in
    ends_by (lobby.faults door.lobby) (lobby.faults c.close-end.result.1) c.args.asked out.0 (lobby.visits door.lobby) (lobby.visits c.close-end.result.1)
    (subst (λ (l : List DoorEntry). IsPrefix l out.0) first out.1) c.close-end.result.0 (c.close-end.ensures.closes out.0 out.2)

pub returns-in-Ok-clause-store : goal.returns-in-Ok-clause-store
returns-in-Ok-clause-store g c = ⊎_elim (λ same. inl (same.0, c.close-end.ensures.hired same.1)) (λ turned. inr turned) c.serve_turns-door.ensures.store
