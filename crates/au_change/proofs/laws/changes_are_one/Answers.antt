use Rattle.std.proofs.Common.{subst}
use Rattle.au_world.specs.Sights.{Sight}
use Rattle.au_change.specs.Deleting.{IsDeletion}
use Rattle.au_change.specs.Updating.{IsUpdate}
use Rattle.au_change.proofs.Once.{one_deletion, one_sight, one_update, refused_deletion, refused_update}
use Rattle.au_change.proofs.laws.changes_are_one.Goals as goal

pub returns-clause-one_update : goal.returns-clause-one_update
returns-clause-one_update c = λ sight client session table update. one_update sight client session table update

pub returns-clause-refused_update : goal.returns-clause-refused_update
returns-clause-refused_update c = λ sight client session table update. refused_update sight client session table update

pub returns-clause-same_update : goal.returns-clause-same_update
returns-clause-same_update c = λ a b client session table update made same. subst (λ (sight : Sight). IsUpdate sight client session table update made) (one_sight a b same)

pub returns-clause-one_deletion : goal.returns-clause-one_deletion
returns-clause-one_deletion c = λ sight client session table delete. one_deletion sight client session table delete

pub returns-clause-refused_deletion : goal.returns-clause-refused_deletion
returns-clause-refused_deletion c = λ sight client session table delete. refused_deletion sight client session table delete

pub returns-clause-same_deletion : goal.returns-clause-same_deletion
returns-clause-same_deletion c = λ a b client session table delete made same. subst (λ (sight : Sight). IsDeletion sight client session table delete made) (one_sight a b same)
