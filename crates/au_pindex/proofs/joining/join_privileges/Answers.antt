use Rattle.std.proofs.Common.{get_or}
use Rattle.std.specs.Prelude.{◌==◌}
use Rattle.au_base.specs.declared.privilege.Privilege.TheVariants.{AlterUser}
use Rattle.au_base.specs.Privileges.{code_of}
use Rattle.au_base.specs.Sameness.{same_privilege}
use Rattle.au_pindex.proofs.Keys.{next_key}
use Rattle.au_pindex.proofs.Placing.{is_itself}
use Rattle.au_pindex.proofs.Reserved.{any_here, reread}
use Rattle.au_pindex.proofs.joining.join_privileges.Goals as goal

pub join_privilege-requires : goal.join_privilege-requires
join_privilege-requires c =
    let xs = c.args.privileges.now in
    let i = c.loop-privilege.privilege-index in
    let here = get_or xs i AlterUser in
    record { room = c.loop-privilege.invariant.1 here (any_here (λ part. same_privilege part here) xs i here c.loop-privilege-test.true (reread xs i AlterUser here c.loop-privilege-test.true) (is_itself (code_of here))) }

pub loop-privilege-preserved : goal.loop-privilege-preserved
loop-privilege-preserved c =
    let xs = c.args.privileges.now in
    let i = c.loop-privilege.privilege-index in
    let here = get_or xs i AlterUser in
    let is = reread xs i AlterUser here c.loop-privilege-test.true in (
      λ privilege at. next_key (λ part. same_privilege part privilege) xs i here (c.args.place == at) _ _ _ c.loop-privilege-test.true is (c.join_privilege.ensures.joined privilege at) (c.loop-privilege.invariant.0 privilege at),
      λ privilege named. c.join_privilege.ensures.rooms (code_of privilege) (c.loop-privilege.invariant.1 privilege named),
    )
