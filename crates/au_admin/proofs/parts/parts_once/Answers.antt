use Rattle.au_admin.specs.Policies.{part_of, same_part}
use Rattle.au_admin.proofs.KeptOnce.{once_mapped}
use Rattle.au_admin.proofs.SameParts.{part_equal}
use Rattle.au_admin.proofs.parts.parts_once.Goals as goal

pub loop-part-preserved : goal.loop-part-preserved
loop-part-preserved c =
    once_mapped same_part (part_equal c.same_is_equal.ensures.table c.same_is_equal.ensures.action) (part_of c.args.user.now) c.args.parts.now c.loop-part.actions c.push_once.new.actions c.loop-part.part-index c.part-item.result c.in_ok-part_of.field-0
    c.loop-part-test.true c.part-item.is c.in_ok-part_of.ensures c.loop-part.invariant c.in_ok-push_once.ensures
