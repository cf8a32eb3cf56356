use Rattle.std.proofs.Common.{[], arith, sym, subst}
use Rattle.std.specs.List.{AllZip}
use Rattle.std.proofs.lemmas.List.{append-nil, drop_all}
use Rattle.au_world.specs.Rights.{Answers}
use Rattle.au_world.proofs.rights.answers.Goals as goal

pub returns : goal.returns
returns c =
    let world = c.args.world.now in
    let tables = c.args.tables.now in
    let may = Answers world.catalog.now.tables world.grants.now c.args.user.now c.args.action in
    subst (AllZip may tables) (append-nil c.loop-table.answers.items)
    (c.loop-table.invariant [] (subst (λ rest. AllZip may rest []) (sym (drop_all c.loop-table.table-index tables (omega (arith, c.loop-table-test.false)))) tt))
