use Rattle.std.proofs.Common.{◌≡◌, ◌∙◌, Some, subst, sym, List, ℕ}
use Rattle.std.specs.List.{find}
use Rattle.std.specs.Str.{bytes_eq}
use Rattle.std.proofs.lemmas.Slice.Eq.{bytes_eq-Decides}
use Rattle.au_base.specs.declared.privilege.TheConstants.Privilege.{EACH}
use Rattle.au_base.specs.Privileges.{name_of}
use Rattle.au_base.proofs.PrivilegeLemmas.{first_with_name}
use Rattle.au_base.proofs.FindLemmas.{find-passes}
use Rattle.au_base.proofs.privilege.Privilege.from_name.Goals as goal

pub returns : goal.returns
returns c privilege = (
  λ is. (bytes_eq-Decides _ _).0 ((find-passes (λ other. bytes_eq (name_of other) c.args.name.now) EACH privilege (sym c.first_with_name.ensures ∙ is))),
  λ is. c.first_with_name.ensures ∙ subst (λ (name : List ℕ). find (λ other. bytes_eq (name_of other) name) EACH ≡ Some privilege) is (first_with_name privilege),
)
