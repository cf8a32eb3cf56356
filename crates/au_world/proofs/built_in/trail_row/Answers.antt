use Rattle.std.proofs.Common.{◌∙◌, sym, subst}
use Rattle.std.specs.List.{AllByRecursion}
use Rattle.au_base.specs.Cells.{IsSoundCell}
use Rattle.au_world.proofs.Cells.{row_sound}
use Rattle.au_world.proofs.built_in.trail_row.Goals as goal

pub returns-clause-sound : goal.returns-clause-sound
returns-clause-sound c =
    let fit = c.numbers_fit.ensures in
    subst (AllByRecursion IsSoundCell) (sym (c.from_vec.ensures ∙ c.in_ok-cells.ensures)) (row_sound c.args.entry.now c.requires fit.entry fit.statement fit.code)
