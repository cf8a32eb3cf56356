use Rattle.std.proofs.Common.{◌≡◌, ◌+◌, ◌-◌, ◌≤◌, ◌<◌, ◌^◌, length, sym, ◌∙◌, arith}
use Rattle.std.specs.Prelude.{Some}
use Rattle.std.specs.List.{slice_get}
use Rattle.au_gen.specs.Sample.{sample}
use Rattle.au_main.specs.Means.{means_of}
use Rattle.au_main.specs.Samples.{first_reading}
use Rattle.au_main.proofs.Sampled.{SoFar-none, SoFar-more, SoFar-all, within_sample}
use Rattle.au_main.proofs.sampling.ask_all.Goals as goal

pub loop-ask-init : goal.loop-ask-init
loop-ask-init g c =
    let means = means_of g.D.Disk.told g.D.Disk.meaning g.D.Disk.faults g.C.Clock.ticking in
    SoFar-none means c.args.seed c.args.rows c.args.store.now c.requires.ticks c.requires.kept

pub loop-ask-preserved-in_ok-reply-in-Some : goal.loop-ask-preserved-in_ok-reply-in-Some
loop-ask-preserved-in_ok-reply-in-Some g c =
    let means = means_of g.D.Disk.told g.D.Disk.meaning g.D.Disk.faults g.C.Clock.ticking in
    let is : Some c.in-Some.ask ≡ slice_get (sample c.args.seed c.args.rows) c.loop-ask.place = sym c.in-Some.is ∙ c.in_ok-ask.ensures in
    let size = c.samples_are_so_long.ensures c.args.seed c.args.rows in
    let few = c.ranges.rows.fits in
    let least : c.loop-ask.place < length (sample c.args.seed c.args.rows) = within_sample means c.args.seed c.args.rows c.args.store.now c.loop-ask.place c.in-Some.ask is in
    let fits : first_reading + 1 + c.loop-ask.place + 1 ≤ 2 ^ 64 - 1 = omega (arith, size, few, least) in
    SoFar-more means c.args.seed c.args.rows c.args.store.now c.loop-ask.store c.reply_to.new.store c.loop-ask.place c.loop-ask.high c.number_in-high.result c.in-Some.ask c.in_ok-reply-in-Some.reply
    c.requires.told c.loop-ask.invariant is fits c.in_ok-reply-in-Some.ensures c.number_in-high.ensures

pub loop-ask-preserved-in_ok-reply-in-Some-2 : goal.loop-ask-preserved-in_ok-reply-in-Some-2
loop-ask-preserved-in_ok-reply-in-Some-2 g c =
    let means = means_of g.D.Disk.told g.D.Disk.meaning g.D.Disk.faults g.C.Clock.ticking in
    let is : Some c.in-Some.ask ≡ slice_get (sample c.args.seed c.args.rows) c.loop-ask.place = sym c.in-Some.is ∙ c.in_ok-ask.ensures in
    let size = c.samples_are_so_long.ensures c.args.seed c.args.rows in
    let few = c.ranges.rows.fits in
    let least : c.loop-ask.place < length (sample c.args.seed c.args.rows) = within_sample means c.args.seed c.args.rows c.args.store.now c.loop-ask.place c.in-Some.ask is in
    let fits : first_reading + 1 + c.loop-ask.place + 1 ≤ 2 ^ 64 - 1 = omega (arith, size, few, least) in
    SoFar-more means c.args.seed c.args.rows c.args.store.now c.loop-ask.store c.reply_to.new.store c.loop-ask.place c.loop-ask.high c.number_in-high.result c.in-Some.ask c.in_ok-reply-in-Some.reply
    c.requires.told c.loop-ask.invariant is fits c.in_ok-reply-in-Some.ensures c.number_in-high.ensures

pub loop-ask-preserved : goal.loop-ask-preserved
loop-ask-preserved g c =
    let means = means_of g.D.Disk.told g.D.Disk.meaning g.D.Disk.faults g.C.Clock.ticking in
    let is : Some c.in-Some.ask ≡ slice_get (sample c.args.seed c.args.rows) c.loop-ask.place = sym c.in-Some.is ∙ c.in_ok-ask.ensures in
    let size = c.samples_are_so_long.ensures c.args.seed c.args.rows in
    let few = c.ranges.rows.fits in
    let least : c.loop-ask.place < length (sample c.args.seed c.args.rows) = within_sample means c.args.seed c.args.rows c.args.store.now c.loop-ask.place c.in-Some.ask is in
    let fits : first_reading + 1 + c.loop-ask.place + 1 ≤ 2 ^ 64 - 1 = omega (arith, size, few, least) in
    SoFar-more means c.args.seed c.args.rows c.args.store.now c.loop-ask.store c.reply_to.new.store c.loop-ask.place c.loop-ask.high c.number_in-high.result c.in-Some.ask c.in_ok-reply-in-Some.reply
    c.requires.told c.loop-ask.invariant is fits c.in_ok-reply-in-Some.ensures c.number_in-high.ensures

pub returns-in-None-clause-asked : goal.returns-in-None-clause-asked
returns-in-None-clause-asked g c =
    let means = means_of g.D.Disk.told g.D.Disk.meaning g.D.Disk.faults g.C.Clock.ticking in
    SoFar-all means c.args.seed c.args.rows c.args.store.now c.loop-ask.store c.loop-ask.place c.loop-ask.high c.loop-ask.invariant (sym c.in-None.is ∙ c.in_ok-ask.ensures)
