use Rattle.std.proofs.Common.{subst, sym}
use Rattle.au_grants.specs.Order.{AreInOrder, object_before, role_before, system_before}
use Rattle.au_grants.specs.Rights.{Grants}
use Rattle.au_grants.specs.descent.Editing.{listed}
use Rattle.au_grants.proofs.Growths.{ready_alone}
use Rattle.au_grants.proofs.Ordered.{applied_in_order}
use Rattle.au_grants.proofs.granting.make_on_joined.Goals as goal

pub returns-clause-ready : goal.returns-clause-ready
returns-clause-ready c =
    let joined = c.join_all.ensures in
    let before : AreInOrder (listed c.join_all.new.lists.kept) = (joined.ready.system.old, joined.ready.role.old, joined.ready.object.old) in
    let after : AreInOrder (listed c.make.new.lists) = subst (λ (grants : Grants). AreInOrder grants) (sym c.make.ensures.after) (applied_in_order (listed c.join_all.new.lists.kept) c.args.edit before) in
    record {
      system = ready_alone system_before _ _ joined.fresh.0 after.0;
      role = ready_alone role_before _ _ joined.fresh.1 after.1;
      object = ready_alone object_before _ _ joined.fresh.2 after.2;
      no_system = joined.ready.no_system;
      no_role = joined.ready.no_role;
      no_object = joined.ready.no_object;
    }
