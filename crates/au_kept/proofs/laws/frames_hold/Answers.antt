use Rattle.au_kept.proofs.Frames.{frame_kept, frame_sys, one_replay, replayed_kept}
use Rattle.au_kept.proofs.Nothing.{nothing_kept}
use Rattle.au_kept.proofs.laws.frames_hold.Goals as goal

pub returns-clause-nothing : goal.returns-clause-nothing
returns-clause-nothing c = nothing_kept

pub returns-clause-one_frame : goal.returns-clause-one_frame
returns-clause-one_frame c = frame_kept (record { lawful = c.frames_keep_laws.ensures.lawful; whole = c.frames_keep_laws.ensures.whole })

pub returns-clause-sys : goal.returns-clause-sys
returns-clause-sys c = frame_sys

pub returns-clause-replayed : goal.returns-clause-replayed
returns-clause-replayed c = replayed_kept (record { lawful = c.frames_keep_laws.ensures.lawful; whole = c.frames_keep_laws.ensures.whole })

pub returns-clause-one_replay : goal.returns-clause-one_replay
returns-clause-one_replay c = one_replay
