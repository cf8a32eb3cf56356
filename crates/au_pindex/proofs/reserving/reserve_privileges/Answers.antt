use Rattle.std.proofs.Common.{get_or}
use Rattle.std.specs.Ordering.{nat_cmp}
use Rattle.au_base.specs.declared.privilege.Privilege.TheVariants.{AlterUser}
use Rattle.au_base.specs.Privileges.{code_of}
use Rattle.au_base.specs.Sameness.{same_privilege}
use Rattle.au_pindex.proofs.Reserved.{keep_on, next_room, reread}
use Rattle.au_pindex.proofs.reserving.reserve_privileges.Goals as goal

pub loop-privilege-preserved : goal.loop-privilege-preserved
loop-privilege-preserved c =
    let xs = c.args.privileges.now in
    let i = c.loop-privilege.privilege-index in
    let here = get_or xs i AlterUser in
    let said = c.in_ok-reserve_privilege.ensures in (
      keep_on nat_cmp _ _ _ c.loop-privilege.invariant.0 said.stays,
      λ privilege. next_room (λ part. same_privilege part privilege) xs i here c.loop-privilege-test.true (reread xs i AlterUser here c.loop-privilege-test.true) _ _ (c.loop-privilege.invariant.1 privilege) (said.stays.rooms (code_of privilege)) (said.room privilege),
    )
