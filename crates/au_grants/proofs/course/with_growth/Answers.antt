use Rattle.au_grants.specs.declared.kind.Kind.TheVariants as K
use Rattle.au_grants.specs.Order.{object_before, role_before, system_before}
use Rattle.au_grants.specs.descent.Editing.{adds}
use Rattle.au_grants.proofs.Growths.{roomy_for}
use Rattle.au_grants.proofs.course.with_growth.Goals as goal

pub returns-clause-room : goal.returns-clause-room
returns-clause-room c change = record {
  system = roomy_for system_before c.grow.new.fresh.items c.grow.new.kept.items (adds K.Privilege) change _ _ _ _ c.in_ok-grow.ensures.room;
  role = roomy_for role_before c.grow-2.new.fresh.items c.grow-2.new.kept.items (adds K.Role) change _ _ _ _ c.in_ok-grow-2.ensures.room;
  object = roomy_for object_before c.grow-3.new.fresh.items c.grow-3.new.kept.items (adds K.Object) change _ _ _ _ c.in_ok-grow-3.ensures.room;
}
