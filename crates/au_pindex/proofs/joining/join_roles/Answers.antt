use Rattle.std.proofs.Common.{refl}
use Rattle.std.specs.Cmp.Lexicographic.{bytes_decides}
use Rattle.std.specs.Prelude.{◌==◌}
use Rattle.std.specs.Str.{bytes_eq}
use Rattle.au_pindex.proofs.Keys.{next_key}
use Rattle.au_pindex.proofs.Reserved.{any_here}
use Rattle.au_pindex.proofs.joining.join_roles.Goals as goal

pub join_role-requires : goal.join_role-requires
join_role-requires c =
    let role = c.role-item.result in
    record { room = c.loop-role.invariant.1 role (any_here (λ part. bytes_eq part role) c.args.roles.now c.loop-role.role-index role c.loop-role-test.true c.role-item.is ((bytes_decides role role).1 refl)) }

pub loop-role-preserved : goal.loop-role-preserved
loop-role-preserved c =
    let here = c.role-item.result in (
      λ role at. next_key (λ part. bytes_eq part role) c.args.roles.now c.loop-role.role-index here (c.args.place == at) _ _ _ c.loop-role-test.true c.role-item.is (c.join_role.ensures.joined role at) (c.loop-role.invariant.0 role at),
      λ role named. c.join_role.ensures.rooms role (c.loop-role.invariant.1 role named),
    )
