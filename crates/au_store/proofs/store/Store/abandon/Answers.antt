use Rattle.std.proofs.Common.{sym, subst, refl}
use Rattle.au_step.specs.State.{State}
use Rattle.au_store.specs.Stored.{IsSound}
use Rattle.au_store.proofs.Going.{ended_on}
use Rattle.au_store.proofs.Sound.{abandoned_sound}
use Rattle.au_store.proofs.store.Store.abandon.Goals as goal

pub invariant_of-self : goal.invariant_of-self
invariant_of-self g c =
    let j = c.self.inside.journal in
    let told = g.D.Disk.told in
    let m = g.D.Disk.meaning j.disk in
    let state = c.self.inside.engine.state in
    subst (λ (s : State). IsSound told m j.seat s) (sym c.abandon.ensures) (abandoned_sound told m j.seat state c.args.client c.self.invariant)

pub returns-clause-history : goal.returns-clause-history
returns-clause-history g c = rw (← c.self.view_is) (λ entries stands. ended_on g.D.Disk.told g.D.Disk.meaning g.D.Disk.faults _ _ c.args.client entries c.abandon.ensures refl refl stands)
