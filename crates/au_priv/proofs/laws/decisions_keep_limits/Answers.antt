use Rattle.au_priv.proofs.Circles.{decides_keeps}
use Rattle.au_priv.proofs.Limits.{decides_stays}
use Rattle.au_priv.proofs.laws.decisions_keep_limits.Goals as goal

pub returns-clause-few : goal.returns-clause-few
returns-clause-few c = decides_stays c.changes_add_one_grant_at_most.ensures.new

pub returns-clause-no_circle : goal.returns-clause-no_circle
returns-clause-no_circle c = decides_keeps c.changes_keep_no_circle.ensures.kept
