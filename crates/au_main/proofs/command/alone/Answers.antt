use Rattle.std.proofs.Common.{inl, inr, ⊎_elim, refl, subst}
use Rattle.au_words.specs.declared.command.Command.{Command}
use Rattle.au_words.specs.declared.command.Command.TheVariants as word
use Rattle.au_words.specs.Words.{IsCommand}
use Rattle.au_main.specs.Exports.{as_command}
use Rattle.au_main.specs.Means.{means_of}
use Rattle.au_main.proofs.Commands.{named_limit}
use Rattle.au_main.proofs.Ends.{init_completes, init_over, run_completes, run_over}
use Rattle.au_main.proofs.Exported.{export_completes, export_over}
use Rattle.au_main.proofs.Nothing.{nothing_exported, nothing_made, nothing_run}
use Rattle.au_main.proofs.Sampled.{sample_completes}
use Rattle.au_main.proofs.command.alone.Goals as goal

pub obey-requires-clause-limit : goal.obey-requires-clause-limit
obey-requires-clause-limit g c κs within = λ password limit same.
    let is = rw c.in-Ok-Some.field-0-is at c.in-Ok-Some.ensures in
    named_limit c.args.words.now password limit (subst (λ (command : Command). IsCommand c.args.words.now command) same is)

pub returns-in-Ok-Some-clause-run : goal.returns-in-Ok-Some-clause-run
returns-in-Ok-Some-clause-run g c =
    λ run.
    let is = rw c.in-Ok-Some.field-0-is at c.in-Ok-Some.ensures in
    c.obey.ensures.run (c.one_command.ensures c.args.words.now c.in-Ok-Some.command word.Run is run)

pub returns-in-Ok-Some-clause-init : goal.returns-in-Ok-Some-clause-init
returns-in-Ok-Some-clause-init g c =
    λ password limit init.
    let is = rw c.in-Ok-Some.field-0-is at c.in-Ok-Some.ensures in
    c.obey.ensures.init password limit (c.one_command.ensures c.args.words.now c.in-Ok-Some.command (word.Init password limit) is init)

pub returns-in-Ok-Some-clause-exports : goal.returns-in-Ok-Some-clause-exports
returns-in-Ok-Some-clause-exports g c =
    λ what of.
    let is = rw c.in-Ok-Some.field-0-is at c.in-Ok-Some.ensures in
    c.obey.ensures.exports what (c.one_command.ensures c.args.words.now c.in-Ok-Some.command (as_command what) is of)

pub returns-in-Ok-Some-clause-sample : goal.returns-in-Ok-Some-clause-sample
returns-in-Ok-Some-clause-sample g c =
    λ seed rows sample.
    let is = rw c.in-Ok-Some.field-0-is at c.in-Ok-Some.ensures in
    c.obey.ensures.sample seed rows (c.one_command.ensures c.args.words.now c.in-Ok-Some.command (word.Sample seed rows) is sample)

pub returns-in-Ok-Some-clause-usage : goal.returns-in-Ok-Some-clause-usage
returns-in-Ok-Some-clause-usage g c =
    λ usage command of. c.obey.ensures.no_usage usage

pub returns-in-Ok-Some-clause-no_command : goal.returns-in-Ok-Some-clause-no_command
returns-in-Ok-Some-clause-no_command g c =
    λ none.
    let is = rw c.in-Ok-Some.field-0-is at c.in-Ok-Some.ensures in
    absurd (none c.in-Ok-Some.command is)

pub returns-in-Ok-Some-clause-no_command_keeps : goal.returns-in-Ok-Some-clause-no_command_keeps
returns-in-Ok-Some-clause-no_command_keeps g c =
    λ none.
    let is = rw c.in-Ok-Some.field-0-is at c.in-Ok-Some.ensures in
    absurd (none c.in-Ok-Some.command is)

pub returns-in-Ok-Some-clause-run_over : goal.returns-in-Ok-Some-clause-run_over
returns-in-Ok-Some-clause-run_over g c =
    λ run told.
    let is = rw c.in-Ok-Some.field-0-is at c.in-Ok-Some.ensures in
    let laws = g.met.D.Disk g.world.𝓛 g.world.𝓜 g.world.𝓡 ((λ s x. x), (λ x. x), (λ x. x), λ x. x) in
    let means = means_of g.D.Disk.told g.D.Disk.meaning g.D.Disk.faults g.C.Clock.ticking in
    let reads = (g.D.Disk.meaning c.args.disk).reads in
    let bounded = laws.bounded c.args.disk reads (laws.reads_is_image c.args.disk told) in
    run_over means _ _ _ _ _ _ _ _ _ (⊎_elim (λ run. inl run) (λ not. inr not.0) (c.obey.ensures.run (c.one_command.ensures c.args.words.now c.in-Ok-Some.command word.Run is run)))
    (λ why other. c.one_cause.ensures.one reads why other bounded) (λ why reading m. c.one_cause.ensures.opened reads why reading m bounded) told

pub returns-in-Ok-Some-clause-run_completes : goal.returns-in-Ok-Some-clause-run_completes
returns-in-Ok-Some-clause-run_completes g c =
    λ run told ready bytes is_left script no_read no_write no_disk.
    let is = rw c.in-Ok-Some.field-0-is at c.in-Ok-Some.ensures in
    let means = means_of g.D.Disk.told g.D.Disk.meaning g.D.Disk.faults g.C.Clock.ticking in
    run_completes means _ _ _ _ _ _ _ _ _ (⊎_elim (λ run. inl run) (λ not. inr not.0) (c.obey.ensures.run (c.one_command.ensures c.args.words.now c.in-Ok-Some.command word.Run is run)))
    _ _ _ _ c.obey.ensures.read c.obey.ensures.write told ready bytes is_left script no_read no_write no_disk

pub returns-in-Ok-Some-clause-init_over : goal.returns-in-Ok-Some-clause-init_over
returns-in-Ok-Some-clause-init_over g c =
    λ password limit init told formatted.
    let is = rw c.in-Ok-Some.field-0-is at c.in-Ok-Some.ensures in
    let made = c.obey.ensures.init password limit (c.one_command.ensures c.args.words.now c.in-Ok-Some.command (word.Init password limit) is init) in
    init_over g.D.Disk.told password limit _ _ _ _ _ made.0.ends told formatted

pub returns-in-Ok-Some-clause-init_completes : goal.returns-in-Ok-Some-clause-init_completes
returns-in-Ok-Some-clause-init_completes g c =
    λ password limit init told blank no_disk.
    let is = rw c.in-Ok-Some.field-0-is at c.in-Ok-Some.ensures in
    let made = c.obey.ensures.init password limit (c.one_command.ensures c.args.words.now c.in-Ok-Some.command (word.Init password limit) is init) in
    init_completes g.D.Disk.told password limit _ _ _ _ _ made.0.ends told blank no_disk

pub returns-in-Ok-Some-clause-exports_over : goal.returns-in-Ok-Some-clause-exports_over
returns-in-Ok-Some-clause-exports_over g c =
    λ what of told why of_bytes says.
    let is = rw c.in-Ok-Some.field-0-is at c.in-Ok-Some.ensures in
    let laws = g.met.D.Disk g.world.𝓛 g.world.𝓜 g.world.𝓡 ((λ s x. x), (λ x. x), (λ x. x), λ x. x) in
    let reads = (g.D.Disk.meaning c.args.disk).reads in
    let bounded = laws.bounded c.args.disk reads (laws.reads_is_image c.args.disk told) in
    let done = c.obey.ensures.exports what (c.one_command.ensures c.args.words.now c.in-Ok-Some.command (as_command what) is of) in
    export_over what g.D.Disk.told reads _ _ _ _ told
    (record {
      one = λ why other. c.one_cause.ensures.one reads why other bounded;
      whole = λ kept area at. c.never_damaged.ensures.whole reads kept area at bounded;
      formatted = λ kept. c.never_damaged.ensures.formatted reads kept;
    })
    why of_bytes says _ done.0.ends

pub returns-in-Ok-Some-clause-exports_complete : goal.returns-in-Ok-Some-clause-exports_complete
returns-in-Ok-Some-clause-exports_complete g c =
    λ what of told can no_write no_disk.
    let is = rw c.in-Ok-Some.field-0-is at c.in-Ok-Some.ensures in
    let done = c.obey.ensures.exports what (c.one_command.ensures c.args.words.now c.in-Ok-Some.command (as_command what) is of) in
    export_completes what g.D.Disk.told (g.D.Disk.meaning c.args.disk).reads _ _ _ _ _ _ _ done.0.ends c.obey.ensures.write told can no_write no_disk

pub returns-in-Ok-Some-clause-sample_completes : goal.returns-in-Ok-Some-clause-sample_completes
returns-in-Ok-Some-clause-sample_completes g c =
    λ seed rows sample.
    let is = rw c.in-Ok-Some.field-0-is at c.in-Ok-Some.ensures in
    let done = c.obey.ensures.sample seed rows (c.one_command.ensures c.args.words.now c.in-Ok-Some.command (word.Sample seed rows) is sample) in
    sample_completes seed rows _ _ _ _ _ done.0 c.obey.ensures.write

pub returns-in-Ok-None-clause-run : goal.returns-in-Ok-None-clause-run
returns-in-Ok-None-clause-run g c =
    λ run.
    let none = rw c.in-Ok-None.field-0-is at c.in-Ok-None.ensures in
    absurd (none word.Run run)

pub returns-in-Ok-None-clause-init : goal.returns-in-Ok-None-clause-init
returns-in-Ok-None-clause-init g c =
    λ password limit init.
    let none = rw c.in-Ok-None.field-0-is at c.in-Ok-None.ensures in
    absurd (none (word.Init password limit) init)

pub returns-in-Ok-None-clause-exports : goal.returns-in-Ok-None-clause-exports
returns-in-Ok-None-clause-exports g c =
    λ what of.
    let none = rw c.in-Ok-None.field-0-is at c.in-Ok-None.ensures in
    absurd (none (as_command what) of)

pub returns-in-Ok-None-clause-sample : goal.returns-in-Ok-None-clause-sample
returns-in-Ok-None-clause-sample g c =
    λ seed rows sample.
    let none = rw c.in-Ok-None.field-0-is at c.in-Ok-None.ensures in
    absurd (none (word.Sample seed rows) sample)

pub returns-in-Ok-None-clause-run_over : goal.returns-in-Ok-None-clause-run_over
returns-in-Ok-None-clause-run_over g c =
    λ run.
    let none = rw c.in-Ok-None.field-0-is at c.in-Ok-None.ensures in
    absurd (none word.Run run)

pub returns-in-Ok-None-clause-run_completes : goal.returns-in-Ok-None-clause-run_completes
returns-in-Ok-None-clause-run_completes g c =
    λ run.
    let none = rw c.in-Ok-None.field-0-is at c.in-Ok-None.ensures in
    absurd (none word.Run run)

pub returns-in-Ok-None-clause-init_over : goal.returns-in-Ok-None-clause-init_over
returns-in-Ok-None-clause-init_over g c =
    λ password limit init.
    let none = rw c.in-Ok-None.field-0-is at c.in-Ok-None.ensures in
    absurd (none (word.Init password limit) init)

pub returns-in-Ok-None-clause-init_completes : goal.returns-in-Ok-None-clause-init_completes
returns-in-Ok-None-clause-init_completes g c =
    λ password limit init.
    let none = rw c.in-Ok-None.field-0-is at c.in-Ok-None.ensures in
    absurd (none (word.Init password limit) init)

pub returns-in-Ok-None-clause-exports_over : goal.returns-in-Ok-None-clause-exports_over
returns-in-Ok-None-clause-exports_over g c =
    λ what of.
    let none = rw c.in-Ok-None.field-0-is at c.in-Ok-None.ensures in
    absurd (none (as_command what) of)

pub returns-in-Ok-None-clause-exports_complete : goal.returns-in-Ok-None-clause-exports_complete
returns-in-Ok-None-clause-exports_complete g c =
    λ what of.
    let none = rw c.in-Ok-None.field-0-is at c.in-Ok-None.ensures in
    absurd (none (as_command what) of)

pub returns-in-Ok-None-clause-sample_completes : goal.returns-in-Ok-None-clause-sample_completes
returns-in-Ok-None-clause-sample_completes g c =
    λ seed rows sample.
    let none = rw c.in-Ok-None.field-0-is at c.in-Ok-None.ensures in
    absurd (none (word.Sample seed rows) sample)

pub returns-in-Ok-None-clause-usage : goal.returns-in-Ok-None-clause-usage
returns-in-Ok-None-clause-usage g c =
    λ usage command.
    let none = rw c.in-Ok-None.field-0-is at c.in-Ok-None.ensures in
    none command

pub returns-in-Err-clause-run : goal.returns-in-Err-clause-run
returns-in-Err-clause-run g c =
    let laws = g.met.D.Disk g.world.𝓛 g.world.𝓜 g.world.𝓡 ((λ s x. x), (λ x. x), (λ x. x), λ x. x) in
    let means = means_of g.D.Disk.told g.D.Disk.meaning g.D.Disk.faults g.C.Clock.ticking in
    λ run. inr (nothing_run means c.args.disk c.args.clock (laws.counts_now c.args.disk) (laws.only_now c.args.disk), refl, refl)

pub returns-in-Err-clause-init : goal.returns-in-Err-clause-init
returns-in-Err-clause-init g c =
    let laws = g.met.D.Disk g.world.𝓛 g.world.𝓜 g.world.𝓡 ((λ s x. x), (λ x. x), (λ x. x), λ x. x) in
    let means = means_of g.D.Disk.told g.D.Disk.meaning g.D.Disk.faults g.C.Clock.ticking in
    λ password limit init. (nothing_made means c.args.disk c.args.clock (laws.counts_now c.args.disk) (laws.only_now c.args.disk) password limit, refl, refl, refl)

pub returns-in-Err-clause-exports : goal.returns-in-Err-clause-exports
returns-in-Err-clause-exports g c =
    let laws = g.met.D.Disk g.world.𝓛 g.world.𝓜 g.world.𝓡 ((λ s x. x), (λ x. x), (λ x. x), λ x. x) in
    let means = means_of g.D.Disk.told g.D.Disk.meaning g.D.Disk.faults g.C.Clock.ticking in
    λ what of. (nothing_exported means c.args.disk c.args.clock (laws.counts_now c.args.disk) (laws.only_now c.args.disk) what _, refl, refl)
