use Rattle.std.proofs.Common.{inl, inr, ℕ, ⊎_elim, subst}
use Rattle.std.specs.Prelude.{Option}
use Rattle.au_server.specs.Ends.{EndsTo}
use Rattle.au_main.specs.Means.{means_of}
use Rattle.au_main.proofs.Served.{came_out, was_unasked}
use Rattle.au_main.proofs.serve.serve.Goals as goal

pub returns-in-Ok : goal.returns-in-Ok
returns-in-Ok g c =
    let means = means_of g.D.Disk.told g.D.Disk.meaning g.D.Disk.faults g.C.Clock.ticking in
    let opened = c.in-Ok.store in
    let closed = c.serve-end.result.1 in
    let lobby = g.L.Lobby in
    record {
      serves = inl (record {
        opened = opened;
        begun = record { starts = c.in-Ok.ensures.started; begins = c.in-Ok.ensures.opened; seated = c.in-Ok.ensures.seated; read = c.in-Ok.ensures.read; settled = c.in-Ok.ensures.settled; well = c.in-Ok.ensures.cause };
        went = ⊎_elim
            (λ same. inr ((was_unasked means c.args.disk c.shut-disk.result.0 c.shut-disk.result.1 opened closed c.shut-disk.ensures.disk c.shut-disk.ensures.clock same.0 c.in-Ok.ensures.any_moment c.in-Ok.ensures.kept), same.1))
            (λ turned. inl (came_out means c.args.disk c.shut-disk.result.0 c.shut-disk.result.1 opened closed c.shut-disk.ensures.disk c.shut-disk.ensures.clock c.in-Ok.ensures.settled turned.0 turned.1 c.at_rest.ensures.list c.at_rest.ensures.rests))
            c.serve-end.ensures.store;
        end = c.serve-end.result.0;
        ends = subst (λ (asked : Option ℕ). EndsTo c.serve-end.result.0 asked (lobby.visits c.args.lobby) (lobby.visits c.serve-end.result.2) (lobby.faults c.args.lobby) (lobby.faults c.serve-end.result.2))
            c.asked_of-asked.ensures c.serve-end.ensures.ends;
        status_is = c.status_at.ensures;
      });
    }
