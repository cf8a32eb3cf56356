use Rattle.std.proofs.Common.{◌∙◌, sym, ap, subst}
use Rattle.rec_codec.specs.Frames.{IsSpellable, framed}
use Rattle.au_step.specs.Replaying.{IsImage}
use Rattle.au_store.proofs.Begun.{start_carries, started}
use Rattle.au_store.proofs.starting.next_instance.Goals as goal

pub write_framed-requires : goal.write_framed-requires
write_framed-requires c = subst IsSpellable (sym c.in_ok-frame.ensures.frame) c.start_frame.ensures.spellable

pub replay-requires-clause-spelled : goal.replay-requires-clause-spelled
replay-requires-clause-spelled c = subst IsSpellable (sym c.in_ok-frame.ensures.frame) c.start_frame.ensures.spellable

pub replay-requires-clause-first : goal.replay-requires-clause-first
replay-requires-clause-first c image = absurd (subst IsImage c.in_ok-frame.ensures.frame image)

pub returns-clause-state : goal.returns-clause-state
returns-clause-state c =
    let m = c.args.engine.now.state in
    started m c.replay.new.self.state c.args.reading c.in_ok-frame.frame c.in_ok-_goes_on._goes_on c.requires.resting c.in_ok-frame.ensures.frame
    (c.starts_lead_on.ensures m.kept c.args.reading c.lawful.ensures.kept c.requires.fresh c.requires.ends) c.in_ok-_goes_on.ensures.rule c.in_ok-_goes_on.ensures.state

pub returns-clause-framed : goal.returns-clause-framed
returns-clause-framed c = c.in_ok-framed.ensures ∙ ap framed c.in_ok-frame.ensures.frame

pub returns-clause-carries : goal.returns-clause-carries
returns-clause-carries c =
    let m = c.args.engine.now.state in
    start_carries m.kept c.args.reading c.in_ok-framed.framed.items (c.in_ok-framed.ensures ∙ ap framed c.in_ok-frame.ensures.frame) c.start_frame.ensures.spellable
    (c.starts_lead_on.ensures m.kept c.args.reading c.lawful.ensures.kept c.requires.fresh c.requires.ends)
