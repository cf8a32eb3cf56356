use Rattle.std.proofs.Common.{◌≡◌, ◌∙◌, ◌++◌, ◌∷◌, [], List, ℕ, true, ap, ap₂}
use Rattle.au_base.specs.BuiltIn.{sys, audit_admin, audit_viewer}
use Rattle.au_entries.specs.Imaging.{role_grant_change}
use Rattle.au_opening.proofs.Pushed.{pushed}
use Rattle.au_opening.proofs.opening.push_role_grants.Goals as goal

-- the two grants follow in turn
pub returns : goal.returns
returns c =
    pushed c.args.changes.now c.push.new.self c.push-2.new.self (role_grant_change (sys, audit_admin, true))
    (role_grant_change (c.in_ok-from_str-2.field-0, c.in_ok-viewer.viewer, true) ∷ []) (role_grant_change (sys, audit_viewer, true) ∷ [])
    (c.in_ok-push.ensures.ok
    ∙ ap₂ (λ (grantee role : List ℕ). c.args.changes.now ++ role_grant_change (grantee, role, true) ∷ []) c.in_ok-from_str.ensures c.in_ok-admin.ensures)
    c.in_ok-push-2.ensures.ok
    (ap₂ (λ (grantee role : List ℕ). role_grant_change (grantee, role, true) ∷ []) c.in_ok-from_str-2.ensures c.in_ok-viewer.ensures)
