use Rattle.std.proofs.Common.{◌≡◌, subst}
use Rattle.au_entries.specs.Imaging.{nothing}
use Rattle.au_kept.specs.Frames.{IsImage}
use Rattle.au_kept.proofs.Replaying.{event_can, image_can, purge_can}
use Rattle.au_replay.specs.Reading.{conditions}
use Rattle.rec_codec.specs.declared.frame.Frame.{Frame}
use Rattle.rec_codec.specs.Frames.{IsSpellable}
use Rattle.au_kept.proofs.keeping.Keeping.replay_anew.Goals as goal

pub replay_parts-requires-clause-can : goal.replay_parts-requires-clause-can
replay_parts-requires-clause-can c =
    image_can (c.frames_hold.ensures.one_frame conditions) c.args.self.now.kept _ _ _ c.holds_together.ensures.kept (subst IsSpellable c.in-Image.is c.requires.spellable)
    (subst (λ (frame : Frame). IsImage frame → c.args.self.now.kept ≡ nothing) c.in-Image.is c.requires.first tt)

pub replay_parts-requires-in-Event-clause-can : goal.replay_parts-requires-in-Event-clause-can
replay_parts-requires-in-Event-clause-can c =
    event_can (c.frames_hold.ensures.one_frame conditions) c.args.self.now.kept _ _ _ c.holds_together.ensures.kept (subst IsSpellable c.in-Event.is c.requires.spellable)

pub replay_parts-requires-in-Purge-clause-can : goal.replay_parts-requires-in-Purge-clause-can
replay_parts-requires-in-Purge-clause-can c =
    purge_can (c.frames_hold.ensures.one_frame conditions) c.args.self.now.kept _ _ _ _ c.holds_together.ensures.kept (subst IsSpellable c.in-Purge.is c.requires.spellable)

pub returns-in-Image-clause-goes : goal.returns-in-Image-clause-goes
returns-in-Image-clause-goes c = rw c.in-Image.is c.replay_parts.ensures.goes

pub returns-in-Event-clause-goes : goal.returns-in-Event-clause-goes
returns-in-Event-clause-goes c = rw c.in-Event.is c.replay_parts-in-Event.ensures.goes

pub returns-in-Purge-clause-goes : goal.returns-in-Purge-clause-goes
returns-in-Purge-clause-goes c = rw c.in-Purge.is c.replay_parts-in-Purge.ensures.goes
