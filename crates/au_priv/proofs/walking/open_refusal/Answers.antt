use Rattle.std.proofs.Common.{subst}
use Rattle.std.specs.Prelude.{MatchOption}
use Rattle.au_base.specs.declared.code.Code.{Code}
use Rattle.au_priv.specs.Walking.{RefusesPair}
use Rattle.au_priv.specs.descent.Progressing.{Done}
use Rattle.au_priv.proofs.walking.open_refusal.Goals as goal

pub returns-clause-refusal : goal.returns-clause-refusal
returns-clause-refusal c =
    subst (λ (d : Done). MatchOption c.effect_refusal.result ((code : Code) → ¬ RefusesPair d.after c.args.pair.now code) (RefusesPair d.after c.args.pair.now))
    c.in_ok-is_over_limit.ensures.same c.effect_refusal.ensures
