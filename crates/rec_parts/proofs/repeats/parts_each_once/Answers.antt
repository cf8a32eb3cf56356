use Rattle.std.proofs.Common.{◌≡◌, Bool, ap, subst}
use Rattle.std.specs.Prelude.{◌&&◌, IfOk}
use Rattle.std.specs.Option.{option_eq}
use denote.Enum.Bare.{sameb}
use Rattle.au_base.specs.contracts.action.Action.{the_type}
use Rattle.au_grants.specs.Holding.{same_table}
use Rattle.rec_parts.specs.Parts.{Part, same_part}
use Rattle.rec_parts.proofs.PartLemmas.{same_actions, same_repeats}
use Rattle.rec_parts.proofs.repeats.parts_each_once.Goals as goal

found_equal : Part → Part → Bool
found_equal x y = sameb the_type x.0 y.0 && option_eq same_table x.1 y.1

pub returns : goal.returns
unfolding found_equal
returns c =
    let same = same_repeats found_equal same_part (λ x y. ap (λ b. b && option_eq same_table x.1 y.1) (same_actions x.0 y.0)) c.args.values.now in
    subst (λ b. IfOk c.is_without_repeats.result (λ answer. answer ≡ b)) same c.is_without_repeats.ensures
