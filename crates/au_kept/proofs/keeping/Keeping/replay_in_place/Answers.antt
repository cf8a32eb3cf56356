use Rattle.std.proofs.Common.{subst, sym}
use Rattle.std.specs.Prelude.{◌↔◌, IfOk, IsTrue}
use Rattle.au_kept.specs.Frames.{IsReplayable}
use Rattle.au_kept.proofs.Frames.{body_spellable, purge_spellable}
use Rattle.au_replay.specs.Reading.{conditions}
use Rattle.rec_codec.specs.Frames.{IsSpellable}
use Rattle.rec_codec.specs.declared.frame.Frame.{Frame}
use Rattle.au_kept.proofs.keeping.Keeping.replay_in_place.Goals as goal

pub replay_changes-requires-clause-moment : goal.replay_changes-requires-clause-moment
replay_changes-requires-clause-moment c = (body_spellable c.in-Event.stamp c.in-Event.changes c.in-Event.records (subst IsSpellable c.in-Event.is c.requires.spelled)).moment

pub replay_changes-requires-clause-spelled : goal.replay_changes-requires-clause-spelled
replay_changes-requires-clause-spelled c = (body_spellable c.in-Event.stamp c.in-Event.changes c.in-Event.records (subst IsSpellable c.in-Event.is c.requires.spelled)).changes

pub replay_changes-requires-clause-told : goal.replay_changes-requires-clause-told
replay_changes-requires-clause-told c = (body_spellable c.in-Event.stamp c.in-Event.changes c.in-Event.records (subst IsSpellable c.in-Event.is c.requires.spelled)).records

pub returns-in-Event-clause-goes : goal.returns-in-Event-clause-goes
returns-in-Event-clause-goes c = subst (λ (f : Frame). IfOk c.replay_changes.result (λ goes. IsTrue goes ↔ IsReplayable conditions c.args.self.now.kept f)) (sym c.in-Event.is) c.replay_changes.ensures.goes

pub replay_changes-requires-in-Purge-clause-moment : goal.replay_changes-requires-in-Purge-clause-moment
replay_changes-requires-in-Purge-clause-moment c = (purge_spellable c.in-Purge.stamp c.in-Purge.before c.in-Purge.changes c.in-Purge.records (subst IsSpellable c.in-Purge.is c.requires.spelled)).moment

pub replay_changes-requires-in-Purge-clause-spelled : goal.replay_changes-requires-in-Purge-clause-spelled
replay_changes-requires-in-Purge-clause-spelled c = (purge_spellable c.in-Purge.stamp c.in-Purge.before c.in-Purge.changes c.in-Purge.records (subst IsSpellable c.in-Purge.is c.requires.spelled)).changes

pub replay_changes-requires-in-Purge-clause-told : goal.replay_changes-requires-in-Purge-clause-told
replay_changes-requires-in-Purge-clause-told c = (purge_spellable c.in-Purge.stamp c.in-Purge.before c.in-Purge.changes c.in-Purge.records (subst IsSpellable c.in-Purge.is c.requires.spelled)).records

pub returns-clause-goes : goal.returns-clause-goes
returns-clause-goes c = subst (λ (f : Frame). IfOk c.replay_changes-in-Purge.result (λ goes. IsTrue goes ↔ IsReplayable conditions c.args.self.now.kept f)) (sym c.in-Purge.is) c.replay_changes-in-Purge.ensures.goes
