-- What follows from what a call answers where it has memory.
use Rattle.std.proofs.Common.{Result, Ok, Err}
use Rattle.std.specs.Prelude.{IfOk}

pub if_ok : {X E : Type 0} (P Q : X → Type 0) (result : Result X E) → ((x : X) → P x → Q x) → IfOk result P → IfOk result Q
if_ok P Q (Ok x) to holds = to x holds
if_ok P Q (Err e) to holds = tt
