use Rattle.std.proofs.Common.{refl, ◌∙◌, []}
use Rattle.std.proofs.KnownBytes.{Appends-nil}
use Rattle.au_main.specs.Answers.{line_of}
use Rattle.au_main.specs.Means.{means_of}
use Rattle.au_main.proofs.AnsweredLines.{answers_by, told_all, told_in_part}
use Rattle.au_main.proofs.answering.answer.Goals as goal

pub returns-clause-ok : goal.returns-clause-ok
returns-clause-ok g c =
    let means = means_of g.D.Disk.told g.D.Disk.meaning g.D.Disk.faults g.C.Clock.ticking in
    let done = c.answer-said.ensures in
    let said = answers_by means c.args.store.now c.answer-said.new.self c.args.client c.args.ask.now c.answer-said.result done.step done.tries done.settled done.kept done.any_moment done.time in
    told_all means _ _ _ _ c.answer-said.result _ _ _ said (c.deref.ensures.value ∙ c.in_ok-text.ensures) c.in_ok-give_all.ensures.ok

pub returns-in_err-text-clause-memory : goal.returns-in_err-text-clause-memory
returns-in_err-text-clause-memory g c = λ _.
    let means = means_of g.D.Disk.told g.D.Disk.meaning g.D.Disk.faults g.C.Clock.ticking in
    let done = c.answer-said.ensures in
    let said = answers_by means c.args.store.now c.answer-said.new.self c.args.client c.args.ask.now c.answer-said.result done.step done.tries done.settled done.kept done.any_moment done.time in
    told_in_part means _ _ _ _ c.answer-said.result _ _ _ said refl ([], line_of c.answer-said.result, refl, Appends-nil _)

pub returns-in_err-give_all-clause-write_fault : goal.returns-in_err-give_all-clause-write_fault
returns-in_err-give_all-clause-write_fault g c = λ _.
    let means = means_of g.D.Disk.told g.D.Disk.meaning g.D.Disk.faults g.C.Clock.ticking in
    let done = c.answer-said.ensures in
    let said = answers_by means c.args.store.now c.answer-said.new.self c.args.client c.args.ask.now c.answer-said.result done.step done.tries done.settled done.kept done.any_moment done.time in
    told_in_part means _ _ _ _ c.answer-said.result _ _ _ said (c.deref.ensures.value ∙ c.in_ok-text.ensures) c.in_err-give_all.ensures.err
