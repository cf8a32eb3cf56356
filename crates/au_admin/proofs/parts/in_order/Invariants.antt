use Rattle.std.proofs.Common.{◌≡◌, take}
use Rattle.std.specs.List.{filter, list_any}
use Rattle.au_base.specs.Sameness.{same_privilege}
use Rattle.au_admin.proofs.parts.in_order.Given as goal

abbrev pub invariant-loop-privilege : goal.invariant-loop-privilege
invariant-loop-privilege l = l.privileges ≡ filter (λ privilege. list_any (same_privilege privilege) l.named) (take l.privilege-index l.each)
