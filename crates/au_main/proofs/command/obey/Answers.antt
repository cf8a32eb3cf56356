use Rattle.std.proofs.Common.{inl, inr, ⊎_elim, ℕ, List, refl, sym, ◌∙◌, subst}
use Rattle.au_main.specs.declared.export.Export.{Export}
use Rattle.au_main.specs.Exports.{HasExport}
use Rattle.au_main.specs.Init.{HasInit}
use Rattle.au_main.specs.Means.{means_of}
use Rattle.au_main.specs.Samples.{SampleTo}
use Rattle.au_main.proofs.Commands.{check_alone, init_alone, sample_alone, trail_alone}
use Rattle.au_main.proofs.Ends.{run_says}
use Rattle.au_main.proofs.command.obey.Goals as goal

pub init-status-requires-clause-limit : goal.init-status-requires-clause-limit
init-status-requires-clause-limit g c κs within = c.requires.limit _ _ c.in-Init.is

pub returns-in-Run-clause-says : goal.returns-in-Run-clause-says
returns-in-Run-clause-says g c =
    let means = means_of g.D.Disk.told g.D.Disk.meaning g.D.Disk.faults g.C.Clock.ticking in
    run_says means _ _ _ _ _ _ _ _ _ (⊎_elim (λ run. inl run) (λ not. inr not.0) c.run.ensures.run)

pub returns-in-Init-clause-init : goal.returns-in-Init-clause-init
returns-in-Init-clause-init g c = λ password limit is.
    let made = λ (p : List ℕ) (n : ℕ). HasInit g.D.Disk.told g.D.Disk.meaning g.D.Disk.faults c.init-status.result p n c.args.disk c.init-status.new.disk in
    (init_alone made c.in-Init.password c.in-Init.limit (subst (λ (p : List ℕ). made p c.in-Init.limit) c.as_str.ensures c.init-status.ensures) password limit (sym c.in-Init.is ∙ is), refl, refl, refl)

pub returns-in-Trail-clause-exports : goal.returns-in-Trail-clause-exports
returns-in-Trail-clause-exports g c = λ what is.
    let done = λ (e : Export). HasExport g.D.Disk.told g.D.Disk.meaning g.D.Disk.faults e c.export-status.result.0 c.args.disk c.export-status.result.1 (g.W.Stream.given c.args.sink.now) (g.W.Stream.given c.export-status.new.sink) in
    (trail_alone done c.export-status.ensures.exports what (sym c.in-Trail.is ∙ is), refl, refl)

pub returns-in-Check-clause-exports : goal.returns-in-Check-clause-exports
returns-in-Check-clause-exports g c = λ what is.
    let done = λ (e : Export). HasExport g.D.Disk.told g.D.Disk.meaning g.D.Disk.faults e c.export-status-in-Check.result.0 c.args.disk c.export-status-in-Check.result.1 (g.W.Stream.given c.args.sink.now) (g.W.Stream.given c.export-status-in-Check.new.sink) in
    (check_alone done c.export-status-in-Check.ensures.exports what (sym c.in-Check.is ∙ is), refl, refl)

pub returns-in-Sample-clause-sample : goal.returns-in-Sample-clause-sample
returns-in-Sample-clause-sample g c = λ seed rows is.
    let done = λ (s r : ℕ). SampleTo c.sample.result s r (g.W.Stream.given c.args.sink.now) (g.W.Stream.given c.sample.new.sink) in
    (sample_alone done _ _ c.sample.ensures.ends seed rows (sym c.in-Sample.is ∙ is), refl, refl, refl)
