use Rattle.std.proofs.Common.{◌≡◌, ◌==◌, ◌∙◌, Some, subst, sym, ℕ}
use Rattle.std.specs.List.{find}
use Rattle.au_base.specs.declared.action.TheConstants.Action.{EACH}
use Rattle.au_base.specs.Actions.{code_of}
use Rattle.au_base.proofs.ActionLemmas.{first_with_code}
use Rattle.au_base.proofs.FindLemmas.{find-passes, nat_eq-is}
use Rattle.au_base.proofs.action.Action.from_code.Goals as goal

pub returns : goal.returns
returns c action = (
  λ is. (nat_eq-is _ _ (find-passes (λ other. code_of other == c.args.code) EACH action (sym c.first_with_code.ensures ∙ is))),
  λ is. c.first_with_code.ensures ∙ subst (λ (code : ℕ). find (λ other. code_of other == code) EACH ≡ Some action) is (first_with_code action),
)
