use Rattle.au_store.specs.Recovery.{ReplayedTo}
use Rattle.au_store.proofs.Keeping.{mended_kept, mending_since, still_stands}
use Rattle.au_store.proofs.Sound.{mend_sound}
use Rattle.au_store.proofs.store.Store.mend.Goals as goal

pub invariant_of-self : goal.invariant_of-self
invariant_of-self g c =
    let laws = g.met.D.Disk g.world.𝓛 g.world.𝓜 g.world.𝓡 ((λ s x. x), (λ x. x), (λ x. x), λ x. x) in
    let j = c.self.inside.journal in
    let new = c.mend.new.self in
    let kept = c.self.inside.engine.state.kept in
    let sound = c.self.invariant in
    mend_sound g.D.Disk.told (g.D.Disk.meaning j.disk) (g.D.Disk.meaning new.disk) j.seat new.seat c.self.inside.engine.state c.mend.result sound c.mend.ensures.mends c.mend.ensures.rests
    (λ told done. mended_kept (ReplayedTo kept) (ReplayedTo (sound.stands told).doubted) j.seat new.seat sound.gated (g.D.Disk.meaning j.disk) (g.D.Disk.meaning new.disk)
    (c.mend.ensures.mends done) (sound.stands told).stood (λ bodies others doubted. c.mend.ensures.mended told bodies others doubted done))
    (λ told doubted stands failed. still_stands (ReplayedTo kept) (ReplayedTo doubted) j.seat new.seat sound.gated g.D.Disk.meaning j.disk new.disk c.mend.ensures.still
    (laws.counts_now new.disk) c.mend.ensures.time (c.mend.ensures.rests failed) stands (λ bodies others was. c.mend.ensures.doubted bodies others was failed)
    (mending_since (ReplayedTo kept) (ReplayedTo doubted) j.seat new.seat sound.gated g.D.Disk.meaning j.disk new.disk c.mend.ensures.still (laws.only_now j.disk) stands
    (λ bodies others was. c.mend.ensures.any_moment bodies others was)))

pub returns-clause-kept : goal.returns-clause-kept
returns-clause-kept g c =
    let j = c.self.inside.journal in
    let new = c.mend.new.self in
    let kept = c.self.inside.engine.state.kept in
    let sound = c.self.invariant in
    rw (← c.self.view_is) (λ told done. mended_kept (ReplayedTo kept) (ReplayedTo (sound.stands told).doubted) j.seat new.seat sound.gated (g.D.Disk.meaning j.disk) (g.D.Disk.meaning new.disk)
    (c.mend.ensures.mends done) (sound.stands told).stood (λ bodies others doubted. c.mend.ensures.mended told bodies others doubted done))

pub returns-clause-doubted : goal.returns-clause-doubted
returns-clause-doubted g c =
    let laws = g.met.D.Disk g.world.𝓛 g.world.𝓜 g.world.𝓡 ((λ s x. x), (λ x. x), (λ x. x), λ x. x) in
    let j = c.self.inside.journal in
    let new = c.mend.new.self in
    let kept = c.self.inside.engine.state.kept in
    let sound = c.self.invariant in
    rw (← c.self.view_is)
    (λ told doubted stands failed. still_stands (ReplayedTo kept) (ReplayedTo doubted) j.seat new.seat sound.gated g.D.Disk.meaning j.disk new.disk c.mend.ensures.still
    (laws.counts_now new.disk) c.mend.ensures.time (c.mend.ensures.rests failed) stands (λ bodies others was. c.mend.ensures.doubted bodies others was failed)
    (mending_since (ReplayedTo kept) (ReplayedTo doubted) j.seat new.seat sound.gated g.D.Disk.meaning j.disk new.disk c.mend.ensures.still (laws.only_now j.disk) stands
    (λ bodies others was. c.mend.ensures.any_moment bodies others was)))

pub returns-clause-any_moment : goal.returns-clause-any_moment
returns-clause-any_moment g c =
    let laws = g.met.D.Disk g.world.𝓛 g.world.𝓜 g.world.𝓡 ((λ s x. x), (λ x. x), (λ x. x), λ x. x) in
    let j = c.self.inside.journal in
    let new = c.mend.new.self in
    let kept = c.self.inside.engine.state.kept in
    let sound = c.self.invariant in
    rw (← c.self.view_is)
    (λ told doubted stands. mending_since (ReplayedTo kept) (ReplayedTo doubted) j.seat new.seat sound.gated g.D.Disk.meaning j.disk new.disk c.mend.ensures.still (laws.only_now j.disk) stands
    (λ bodies others was. c.mend.ensures.any_moment bodies others was))

pub returns-clause-cost : goal.returns-clause-cost
returns-clause-cost g c = rw (← c.self.view_is) c.mend.ensures.cost

pub returns-clause-stood : goal.returns-clause-stood
returns-clause-stood g c = rw (← c.self.view_is) c.mend.ensures.stood

pub returns-clause-still : goal.returns-clause-still
returns-clause-still g c = rw (← c.self.view_is) c.mend.ensures.still

pub returns-clause-reads : goal.returns-clause-reads
returns-clause-reads g c = rw (← c.self.view_is) c.mend.ensures.reads
