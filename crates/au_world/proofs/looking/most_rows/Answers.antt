use Rattle.std.proofs.Common.{◌∙◌, sym, ap, subst, arith}
use Rattle.au_world.specs.BuiltInTables.{kind_of}
use Rattle.au_world.specs.Sights.{sight_of}
use Rattle.au_world.proofs.LookUps.{made_long}
use Rattle.au_world.proofs.looking.most_rows.Goals as goal

pub returns-in_default : goal.returns-in_default
returns-in_default c =
    let table = c.args.table.now in
    let long = made_long (sight_of c.args.world.now c.args.client) table.name (kind_of table.name) table.made (λ is. c.in_default.not-Created (c.kind_of.ensures ∙ is)) c.requires.found.made.rows in
    omega (arith, long, c.len.ensures)
