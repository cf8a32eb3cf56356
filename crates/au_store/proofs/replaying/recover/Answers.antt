use Rattle.std.proofs.Common.{◌∙◌, ap, refl, sym}
use Rattle.std.proofs.lemmas.Result.{err_from_is_err_and}
use Rattle.au_journal.specs.Journals.{disk_of}
use Rattle.au_step.specs.State.{State, resting}
use Rattle.au_store.proofs.Reading.{stays_same}
use Rattle.au_store.proofs.replaying.recover.Goals as goal

pub returns-in_err-engine-clause-why : goal.returns-in_err-engine-clause-why
returns-in_err-engine-clause-why g c = λ told mounted.
    let p = err_from_is_err_and c.from_residual.result c.from_residual.ensures.1 in
    rw (p.1, p.2) tt

pub returns-in_err-engine-clause-stays : goal.returns-in_err-engine-clause-stays
returns-in_err-engine-clause-stays g c =
    let laws = g.met.D.Disk g.world.𝓛 g.world.𝓜 g.world.𝓡 ((λ s x. x), (λ x. x), (λ x. x), λ x. x) in
    let j = c.args.journal.now in
    stays_same (g.D.Disk.meaning (disk_of j)) (laws.counts_now (disk_of j)) (laws.only_now (disk_of j))

pub returns-in_err-engine-clause-cause : goal.returns-in_err-engine-clause-cause
returns-in_err-engine-clause-cause g c =
    let p = err_from_is_err_and c.from_residual.result c.from_residual.ensures.1 in
    rw (p.1, p.2) refl

pub replay_all-requires-clause-resting : goal.replay_all-requires-clause-resting
replay_all-requires-clause-resting g c = λ _ _. c.in_ok-engine.ensures ∙ ap (λ (s : State). resting s.kept) (sym c.in_ok-engine.ensures)

pub replay_all-requires-clause-blank : goal.replay_all-requires-clause-blank
replay_all-requires-clause-blank g c = λ _ _. ap (λ (s : State). s.kept) c.in_ok-engine.ensures
