use Rattle.std.proofs.Common.{◌∷◌, []}
use Rattle.au_world.specs.Inside.{IsKeyFixed, IsWhereKey, where_asked}
use Rattle.au_world.proofs.LookUps.{if_some}
use Rattle.au_world.proofs.candidate_rows.where_key.Goals as goal

pub returns : goal.returns
returns c =
    let world = c.args.world.now in
    let asked = c.args.asked.now in
    let name = asked.table.now in
    if_some (λ key. IsKeyFixed asked.session.now (where_asked asked) (name ∷ []) 0 world.desk.now.tables name key.items) (λ key. IsWhereKey world asked key.items)
    (λ key fixed. record { never = c.in_ok-where_never_overflows.ensures c.if-not-branch.false asked.session.now; fixed = fixed })
    c.in_ok-found.found c.in_ok-found.ensures
