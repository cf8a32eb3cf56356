use Rattle.std.proofs.Common.{subst}
use Rattle.std.specs.Prelude.{IfOk, MatchOption}
use Rattle.au_base.specs.declared.code.Code.{Code}
use Rattle.au_priv.specs.Walking.{RefusesPair}
use Rattle.au_priv.specs.descent.Progressing.{Done}
use Rattle.au_priv.proofs.walking.pair_refusal.Goals as goal

pub returns-clause-refusal : goal.returns-clause-refusal
returns-clause-refusal c =
    subst (λ (d : Done). IfOk c.open_refusal.result (λ found. MatchOption found ((code : Code) → ¬ RefusesPair d.after c.args.pair.now code) (RefusesPair d.after c.args.pair.now)))
    c.in_ok-closes_circle.ensures.same c.open_refusal.ensures.refusal
