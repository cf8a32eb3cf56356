use Rattle.au_main.specs.Means.{means_of}
use Rattle.au_main.proofs.Sampled.{is_replied}
use Rattle.au_main.proofs.sampling.reply_to.Goals as goal

pub returns-in-Replied : goal.returns-in-Replied
returns-in-Replied g c =
    let means = means_of g.D.Disk.told g.D.Disk.meaning g.D.Disk.faults g.C.Clock.ticking in
    let done = c.answer.ensures in
    is_replied means c.args.store.now c.answer.new.self c.args.ask.now c.in-Replied.reply c.answer.result c.in-Replied.is done.step done.tries done.kept
