use Rattle.au_main.proofs.Sampled.{kept_is}
use Rattle.au_main.proofs.sampling.kept_in.Goals as goal

pub returns-in-Ok : goal.returns-in-Ok
returns-in-Ok g c =
    let laws = g.met.D.Disk g.world.𝓛 g.world.𝓜 g.world.𝓡 ((λ s x. x), (λ x. x), (λ x. x), λ x. x) in
    let m = g.D.Disk.meaning c.args.store.disk in
    let image = laws.reads_is_image c.args.store.disk c.requires.told in
    let looked = rw (c.in-Ok.is, c.shut-disk.ensures.disk) at (c.look-disk.ensures.found c.requires.told) in
    kept_is c.args.store.state.kept c.in-Ok.kept c.in-Ok._used m c.args.store.seat c.one_recovery.ensures.one c.one_recovery.ensures.reads (laws.bounded c.args.store.disk m.reads image) image c.requires.kept looked
