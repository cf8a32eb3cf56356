use Rattle.std.proofs.Common.{◌∷◌, [], arith}
use Rattle.au_world.specs.Inside.{IsCountKey, IsKeyFixed, condition_asked}
use Rattle.au_world.proofs.LookUps.{if_some}
use Rattle.au_world.proofs.looking.count_key.Goals as goal

pub returns : goal.returns
returns c =
    let world = c.args.world.now in
    let asked = c.args.asked.now in
    let name = asked.table.now.name in
    if_some (λ key. IsKeyFixed asked.session.now (condition_asked asked) (name ∷ []) 0 world.desk.now.tables name key.items) (λ key. IsCountKey world asked key.items)
    (λ key fixed. record {
      few = omega (arith, c.most_rows.ensures, c.if-most_rows-gt-COMBINATIONS.false);
      never = c.in_ok-count_never_overflows.ensures c.if-not-branch.false asked.session.now;
      fixed = fixed;
    })
    c.in_ok-found.found c.in_ok-found.ensures
