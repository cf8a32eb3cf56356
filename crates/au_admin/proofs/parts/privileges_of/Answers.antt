use Rattle.std.proofs.Common.{◌≡◌, List, [], filter, sym, subst}
use Rattle.std.specs.Prelude.{IfOk, Option, unwrap_or}
use Rattle.std.specs.List.{list_any}
use Rattle.au_base.specs.Privileges.{each_privilege}
use Rattle.au_base.specs.Sameness.{same_privilege}
use Rattle.au_base.specs.declared.privilege.Privilege.{Privilege}
use Rattle.au_admin.proofs.parts.privileges_of.Goals as goal

pub returns-in-Some : goal.returns-in-Some
returns-in-Some c =
    subst (λ (named : Option (List Privilege)). IfOk c.in_order.result (λ privileges. privileges ≡ filter (λ privilege. list_any (same_privilege privilege) (unwrap_or named [])) each_privilege)) (sym c.in-Some.is)
    (subst (λ (named : List Privilege). IfOk c.in_order.result (λ privileges. privileges ≡ filter (λ privilege. list_any (same_privilege privilege) named) each_privilege)) c.as_slice.ensures c.in_order.ensures)
