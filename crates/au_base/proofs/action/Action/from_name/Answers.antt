use Rattle.std.proofs.Common.{◌≡◌, ◌∙◌, Some, subst, sym, List, ℕ}
use Rattle.std.specs.List.{find}
use Rattle.std.specs.Str.{bytes_eq}
use Rattle.std.proofs.lemmas.Slice.Eq.{bytes_eq-Decides}
use Rattle.au_base.specs.declared.action.TheConstants.Action.{EACH}
use Rattle.au_base.specs.Actions.{name_of}
use Rattle.au_base.proofs.ActionLemmas.{first_with_name}
use Rattle.au_base.proofs.FindLemmas.{find-passes}
use Rattle.au_base.proofs.action.Action.from_name.Goals as goal

pub returns : goal.returns
returns c action = (
  λ is. (bytes_eq-Decides _ _).0 ((find-passes (λ other. bytes_eq (name_of other) c.args.name.now) EACH action (sym c.first_with_name.ensures ∙ is))),
  λ is. c.first_with_name.ensures ∙ subst (λ (name : List ℕ). find (λ other. bytes_eq (name_of other) name) EACH ≡ Some action) is (first_with_name action),
)
