use Rattle.std.proofs.Common.{◌+◌, ◌-◌, ◌≤◌, ◌^◌, arith}
use Rattle.au_base.specs.Limits.{JOURNAL_LIMIT_DEFAULT as default_limit}
use Rattle.au_main.specs.Samples.{first_reading}
use Rattle.au_main.proofs.Sampled.{start_is, ticked}
use Rattle.au_main.proofs.sampling.opened.Goals as goal

pub returns-in-Ok-clause-state : goal.returns-in-Ok-clause-state
returns-in-Ok-clause-state g c =
    let laws = g.met.D.Disk g.world.𝓛 g.world.𝓜 g.world.𝓡 ((λ s x. x), (λ x. x), (λ x. x), λ x. x) in
    let m = g.D.Disk.meaning c.args.disk in
    let image = laws.reads_is_image c.args.disk c.requires.told in
    let fits : first_reading + 1 ≤ 2 ^ 64 - 1 = omega arith in
    let read = ticked (g.C.Clock.ticking c.args.clock) (g.C.Clock.ticking c.in-Ok.store.clock) c.in-Ok.store.reading first_reading c.requires.ticks c.in-Ok.ensures.read fits in
    start_is default_limit c.in-Ok.store.reading m c.in-Ok.store.state c.reopened.ensures (laws.bounded c.args.disk m.reads image) image c.requires.made (c.in-Ok.ensures.opened c.requires.told) read.0
