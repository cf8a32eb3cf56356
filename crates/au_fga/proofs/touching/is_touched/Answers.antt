use Rattle.std.proofs.Common.{◌∙◌, List, true, sym}
use Rattle.au_base.specs.declared.cell.Cell.{Cell}
use Rattle.au_fga.proofs.Touched.{any_touched}
use Rattle.au_fga.proofs.touching.is_touched.Goals as goal

pub returns : goal.returns
returns c = c.some_has_row.ensures ∙ sym (any_touched (λ (row : List Cell). true) c.args.table.now c.args.touched.now)
