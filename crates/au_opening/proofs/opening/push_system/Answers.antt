use Rattle.std.proofs.Common.{◌≡◌, ◌∙◌, ◌++◌, ◌∷◌, [], List, ℕ, false, map, refl, ap}
use Rattle.au_base.specs.BuiltIn.{audit_admin}
use Rattle.au_base.specs.declared.privilege.Privilege.TheVariants.{AuditSystem}
use Rattle.au_entries.specs.Imaging.{system_change}
use Rattle.au_opening.specs.Opening.{each_privilege, right_of_sys}
use Rattle.au_opening.proofs.Pushed.{pushed}
use Rattle.au_opening.proofs.opening.push_system.Goals as goal

-- the right of the role, and those of SYS
pub returns : goal.returns
returns c =
    pushed c.args.changes.now c.push.new.self c.push_rights.new.changes (system_change (audit_admin, AuditSystem, false)) (map right_of_sys each_privilege) (map right_of_sys each_privilege)
    (c.in_ok-push.ensures.ok ∙ ap (λ (name : List ℕ). c.args.changes.now ++ system_change (name, AuditSystem, false) ∷ []) c.in_ok-admin.ensures)
    c.in_ok-push_rights.ensures refl
