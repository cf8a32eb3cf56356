use Rattle.au_step.proofs.Frames.{step_ends, step_leads, step_writable}
use Rattle.au_step.proofs.frame_laws.frames_lead_on.Goals as goal

pub returns-clause-leads : goal.returns-clause-leads
returns-clause-leads c = step_leads c.each_step_is_sound.ensures

pub returns-clause-ends : goal.returns-clause-ends
returns-clause-ends c = step_ends c.each_step_is_sound.ensures

pub returns-clause-writable : goal.returns-clause-writable
returns-clause-writable c = step_writable c.each_step_is_sound.ensures
