use Rattle.std.proofs.Common.{refl}
use Rattle.au_main.specs.Means.{means_of}
use Rattle.au_main.proofs.Runs.{RanToFront-opened}
use Rattle.au_main.proofs.run.do_lines.Goals as goal

pub returns-in_default-clause-ran : goal.returns-in_default-clause-ran
returns-in_default-clause-ran g c =
    let means = means_of g.D.Disk.told g.D.Disk.meaning g.D.Disk.faults g.C.Clock.ticking in
    let laws = g.met.D.Disk g.world.𝓛 g.world.𝓜 g.world.𝓡 ((λ s x. x), (λ x. x), (λ x. x), λ x. x) in
    RanToFront-opened means _ _ _ (laws.counts_now c.args.store.now.disk) (laws.only_now c.args.store.now.disk) c.requires.settled c.requires.kept

pub returns-in_default-clause-read : goal.returns-in_default-clause-read
returns-in_default-clause-read g c = refl

pub returns-in_default-clause-write : goal.returns-in_default-clause-write
returns-in_default-clause-write g c = refl
