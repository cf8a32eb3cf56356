use Rattle.std.proofs.Common.{◌≡◌, ◌∙◌, ◌++◌, ◌∷◌, [], List, ℕ, ap}
use Rattle.au_base.specs.BuiltIn.{audit_admin, audit_viewer}
use Rattle.au_entries.specs.Imaging.{role_change}
use Rattle.au_opening.proofs.Pushed.{pushed}
use Rattle.au_opening.proofs.opening.push_roles.Goals as goal

-- the two roles follow in turn
pub returns : goal.returns
returns c =
    pushed c.args.changes.now c.push.new.self c.push-2.new.self (role_change audit_admin) (role_change c.in_ok-from_str-2.field-0 ∷ []) (role_change audit_viewer ∷ [])
    (c.in_ok-push.ensures.ok ∙ ap (λ (name : List ℕ). c.args.changes.now ++ role_change name ∷ []) c.in_ok-from_str.ensures) c.in_ok-push-2.ensures.ok
    (ap (λ (name : List ℕ). role_change name ∷ []) c.in_ok-from_str-2.ensures)
