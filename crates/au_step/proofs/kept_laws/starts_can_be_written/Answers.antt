use Rattle.au_step.proofs.Frames.{start_writable}
use Rattle.au_step.proofs.kept_laws.starts_can_be_written.Goals as goal

pub returns : goal.returns
returns c = start_writable
