use Rattle.std.proofs.Common.{◌≡◌, sym, subst}
use Rattle.au_journal.specs.declared.appended.Appended.TheVariants as answer
use Rattle.au_engine.specs.Prepared.{after}
use Rattle.au_step.specs.State.{State}
use Rattle.au_store.specs.Recovery.{ReplayedTo}
use Rattle.au_store.specs.Stored.{IsKeptOn, IsSound}
use Rattle.au_store.specs.descent.Making.{written_in}
use Rattle.au_store.proofs.Frames.{is_framed_in}
use Rattle.au_store.proofs.Keeping.{settled_stands}
use Rattle.au_store.proofs.Sound.{settled_sound}
use Rattle.au_store.proofs.store.Store.make.Goals as goal

pub write-requires-clause-framed : goal.write-requires-clause-framed
write-requires-clause-framed g c =
    let j = c.self.inside.journal in
    let m = c.self.inside.engine.state in
    let sound = c.self.invariant in
    let settled = rw (← c.self.view_is) at c.requires.settled in
    let carries = rw (← c.self.view_is) at c.requires.carries in
    let next = (after c.args.ready.prepared m).kept in
    λ _ _. is_framed_in m.kept next (written_in c.args.ready) carries

pub invariant_of-self : goal.invariant_of-self
invariant_of-self g c =
    let j = c.self.inside.journal in
    let m = c.self.inside.engine.state in
    let sound = c.self.invariant in
    let settled = rw (← c.self.view_is) at c.requires.settled in
    let carries = rw (← c.self.view_is) at c.requires.carries in
    let next = (after c.args.ready.prepared m).kept in
    subst (λ (s : State). IsSound g.D.Disk.told (g.D.Disk.meaning c.write.new.journal.disk) c.write.new.journal.seat s) (sym c.apply.ensures.next)
    (settled_sound g.D.Disk.told (g.D.Disk.meaning c.write.new.journal.disk) c.write.new.journal.seat (after c.args.ready.prepared m) c.write.ensures.ended c.write.ensures.gated (c.write.ensures.settled c.in-Done.is) (rw (← c.self.view_is) at c.requires.ends)
    (λ told. c.write.ensures.kept told m.kept next (settled_stands (ReplayedTo m.kept) (ReplayedTo (sound.stands told).doubted) j.seat j.seat sound.gated (g.D.Disk.meaning j.disk) settled (sound.stands told).stood) carries c.in-Done.is))

pub invariant_of-self-in-Disk : goal.invariant_of-self-in-Disk
invariant_of-self-in-Disk g c =
    let j = c.self.inside.journal in
    let m = c.self.inside.engine.state in
    let sound = c.self.invariant in
    let settled = rw (← c.self.view_is) at c.requires.settled in
    let carries = rw (← c.self.view_is) at c.requires.carries in
    let next = (after c.args.ready.prepared m).kept in
    let left = rw (← c.self.view_is) at c.requires.left in
    record { ended = c.write.ensures.ended; gated = c.write.ensures.gated; ends = sound.ends; stands = λ told. record { doubted = next; left = λ unsettled. left (c.write.ensures.wrote c.in-Disk.is); stood = c.write.ensures.doubted told m.kept next (settled_stands (ReplayedTo m.kept) (ReplayedTo (sound.stands told).doubted) j.seat j.seat sound.gated (g.D.Disk.meaning j.disk) settled (sound.stands told).stood) carries c.in-Disk.is } }

pub returns-in-Done-clause-within : goal.returns-in-Done-clause-within
returns-in-Done-clause-within g c =
    let j = c.self.inside.journal in
    let m = c.self.inside.engine.state in
    let sound = c.self.invariant in
    let settled = rw (← c.self.view_is) at c.requires.settled in
    rw (← c.self.view_is) (λ reply is. c.write.ensures.within c.in-Done.is)

pub returns-in-Done-clause-kept : goal.returns-in-Done-clause-kept
returns-in-Done-clause-kept g c =
    let j = c.self.inside.journal in
    let m = c.self.inside.engine.state in
    let sound = c.self.invariant in
    let settled = rw (← c.self.view_is) at c.requires.settled in
    let carries = rw (← c.self.view_is) at c.requires.carries in
    let next = (after c.args.ready.prepared m).kept in
    λ told no_fault. subst (λ (s : State). IsKeptOn s.kept (g.D.Disk.meaning c.write.new.journal.disk) c.write.new.journal.seat) (sym c.apply.ensures.next)
    (c.write.ensures.kept told m.kept next (settled_stands (ReplayedTo m.kept) (ReplayedTo (sound.stands told).doubted) j.seat j.seat sound.gated (g.D.Disk.meaning j.disk) settled (sound.stands told).stood) carries c.in-Done.is)

pub returns-in-Done-clause-any_moment : goal.returns-in-Done-clause-any_moment
returns-in-Done-clause-any_moment g c =
    let j = c.self.inside.journal in
    let m = c.self.inside.engine.state in
    let sound = c.self.invariant in
    let settled = rw (← c.self.view_is) at c.requires.settled in
    let carries = rw (← c.self.view_is) at c.requires.carries in
    let next = (after c.args.ready.prepared m).kept in
    rw (← c.self.view_is) (λ told. c.write.ensures.any_moment told m.kept next (settled_stands (ReplayedTo m.kept) (ReplayedTo (sound.stands told).doubted) j.seat j.seat sound.gated (g.D.Disk.meaning j.disk) settled (sound.stands told).stood) carries)

pub returns-in-Disk-clause-any_moment : goal.returns-in-Disk-clause-any_moment
returns-in-Disk-clause-any_moment g c =
    let j = c.self.inside.journal in
    let m = c.self.inside.engine.state in
    let sound = c.self.invariant in
    let settled = rw (← c.self.view_is) at c.requires.settled in
    let carries = rw (← c.self.view_is) at c.requires.carries in
    let next = (after c.args.ready.prepared m).kept in
    rw (← c.self.view_is) (λ told. c.write.ensures.any_moment told m.kept next (settled_stands (ReplayedTo m.kept) (ReplayedTo (sound.stands told).doubted) j.seat j.seat sound.gated (g.D.Disk.meaning j.disk) settled (sound.stands told).stood) carries)

pub returns-in-Full-clause-any_moment : goal.returns-in-Full-clause-any_moment
returns-in-Full-clause-any_moment g c =
    let j = c.self.inside.journal in
    let m = c.self.inside.engine.state in
    let sound = c.self.invariant in
    let settled = rw (← c.self.view_is) at c.requires.settled in
    let carries = rw (← c.self.view_is) at c.requires.carries in
    let next = (after c.args.ready.prepared m).kept in
    rw (← c.self.view_is) (λ told. c.write.ensures.any_moment told m.kept next (settled_stands (ReplayedTo m.kept) (ReplayedTo (sound.stands told).doubted) j.seat j.seat sound.gated (g.D.Disk.meaning j.disk) settled (sound.stands told).stood) carries)

pub returns-in-Disk-clause-doubted : goal.returns-in-Disk-clause-doubted
returns-in-Disk-clause-doubted g c =
    let j = c.self.inside.journal in
    let m = c.self.inside.engine.state in
    let sound = c.self.invariant in
    let settled = rw (← c.self.view_is) at c.requires.settled in
    let carries = rw (← c.self.view_is) at c.requires.carries in
    let next = (after c.args.ready.prepared m).kept in
    rw (← c.self.view_is) (λ told is. c.write.ensures.doubted told m.kept next (settled_stands (ReplayedTo m.kept) (ReplayedTo (sound.stands told).doubted) j.seat j.seat sound.gated (g.D.Disk.meaning j.disk) settled (sound.stands told).stood) carries c.in-Disk.is)

pub returns-in-Full-clause-full : goal.returns-in-Full-clause-full
returns-in-Full-clause-full g c =
    let j = c.self.inside.journal in
    let m = c.self.inside.engine.state in
    let sound = c.self.invariant in
    let settled = rw (← c.self.view_is) at c.requires.settled in
    rw (← c.self.view_is) (λ needed limit is. let here : c.write.result ≡ answer.Full needed limit = cc in c.write.ensures.full needed limit here)

pub returns-in-Full-clause-kept : goal.returns-in-Full-clause-kept
returns-in-Full-clause-kept g c =
    let j = c.self.inside.journal in
    let m = c.self.inside.engine.state in
    let sound = c.self.invariant in
    let settled = rw (← c.self.view_is) at c.requires.settled in
    λ told no_fault. rw (c.write.ensures.untouched c.in-Full.needed c.in-Full.limit c.in-Full.is) (settled_stands (ReplayedTo m.kept) (ReplayedTo (sound.stands told).doubted) j.seat j.seat sound.gated (g.D.Disk.meaning j.disk) settled (sound.stands told).stood)

pub returns-in-Disk-clause-in_doubt : goal.returns-in-Disk-clause-in_doubt
returns-in-Disk-clause-in_doubt g c = λ is. c.write.ensures.in_doubt c.in-Disk.is

pub returns-in-Disk-clause-wrote : goal.returns-in-Disk-clause-wrote
returns-in-Disk-clause-wrote g c = λ is. c.write.ensures.wrote c.in-Disk.is

pub returns-in-Disk-clause-fits : goal.returns-in-Disk-clause-fits
returns-in-Disk-clause-fits g c = rw (← c.self.view_is) (λ is. c.write.ensures.fits c.in-Disk.is)
