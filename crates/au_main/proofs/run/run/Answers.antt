use Rattle.std.proofs.Common.{inl}
use Rattle.au_main.specs.Means.{means_of}
use Rattle.au_main.proofs.Running.{has_run}
use Rattle.au_main.proofs.run.run.Goals as goal

pub returns-in-Ok-clause-run : goal.returns-in-Ok-clause-run
returns-in-Ok-clause-run g c =
    let means = means_of g.D.Disk.told g.D.Disk.meaning g.D.Disk.faults g.C.Clock.ticking in
    inl (has_run means _ _ _ _ _ _ _ _ _ _ _ c.in-Ok.ensures.started c.in-Ok.ensures.opened c.in-Ok.ensures.seated c.in-Ok.ensures.read c.in-Ok.ensures.cause c.in-Ok.ensures.time c.in-Ok.ensures.any_moment c.do_lines-status.ensures.ran c.shut-disk.ensures.disk c.shut-disk.ensures.clock)
