use Rattle.std.proofs.Common.{refl}
use Rattle.au_main.proofs.Counts.{stopped}
use Rattle.au_main.proofs.run.answer_last.Goals as goal

pub returns-in-Err-BadLine-clause-ends : goal.returns-in-Err-BadLine-clause-ends
returns-in-Err-BadLine-clause-ends g c =
    let is = stopped _ _ c.in-Err-BadLine.field-0-is in
    (refl, c.in-Err-BadLine.ensures.bad is, c.in-Err-BadLine.ensures.bad_stays is)
