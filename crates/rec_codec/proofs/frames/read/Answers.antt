use Rattle.std.proofs.Common.{arith}
use Rattle.rec_codec.proofs.Whole.{frame_found, frame_absent}
use Rattle.rec_codec.proofs.frames.read.Goals as goal

pub returns-in-Ok : goal.returns-in-Ok
returns-in-Ok c = frame_found c.parts_are_exact.ensures c.args.body.now c.in-Ok.frame (λ i. omega (arith, c.type_inv.body i)) c.in-Ok.ensures

pub returns-in-Err-NoFrame : goal.returns-in-Err-NoFrame
returns-in-Err-NoFrame c = frame_absent c.parts_are_exact.ensures c.args.body.now (rw c.in-Err-NoFrame.field-0-is at c.in-Err-NoFrame.ensures)
