use Rattle.std.proofs.Common.{◌≡◌, true, false}
use Rattle.au_replay.proofs.CellsFit.{as_many}
use Rattle.au_replay.proofs.fitting.fits.Goals as goal

pub returns-then-columns-cells : goal.returns-then-columns-cells
returns-then-columns-cells c =
    (λ is. absurd (let e : false ≡ true = is in cc), λ fit. absurd (let same = as_many c.args.columns.now c.args.cells.now fit in c.if-columns-cells.true same))
