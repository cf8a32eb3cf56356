-- What follows from what a call answers where it has memory.
use Rattle.std.proofs.Common.{◌≡◌, Result, Ok, Err, subst}
use Rattle.std.specs.Prelude.{Bool, IfOk}
use Rattle.au_base.specs.declared.code.Code.{Code}
use Rattle.au_define.specs.Rules.{Tells}
use Rattle.au_entries.specs.declared.policy.Enabled.{Enabled}

pub if_ok : {X E : Type 0} (P Q : X → Type 0) (result : Result X E) → ((x : X) → P x → Q x) → IfOk result P → IfOk result Q
if_ok P Q (Ok x) to holds = to x holds
if_ok P Q (Err e) to holds = tt

-- the test tells whether what is made of the enablement is the one that stands
pub tells_same : (makes : Enabled → Result Enabled Code) (stands standing : Enabled) (made : Result Enabled Code) (same : Bool) → standing ≡ stands → made ≡ makes standing
    → Tells same (made ≡ Ok standing) → Tells same (makes stands ≡ Ok stands)
tells_same makes stands standing made same is makes_it tells =
    subst (λ (s : Enabled). Tells same (makes s ≡ Ok s)) is (subst (λ (m : Result Enabled Code). Tells same (m ≡ Ok standing)) makes_it tells)
