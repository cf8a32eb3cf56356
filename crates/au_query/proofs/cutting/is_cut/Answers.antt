use Rattle.std.proofs.Common.{◌∙◌, sym, arith}
use Rattle.au_query.specs.Combos.{views}
use Rattle.au_query.proofs.Cuts.{cut_off, views_count}
use Rattle.au_query.proofs.cutting.is_cut.Goals as goal

pub returns-then-not-is_empty : goal.returns-then-not-is_empty
returns-then-not-is_empty c = λ refused front cells.
    cut_off c.named_ranges_suffice.ensures c.args.session.now c.args.tests.now c.args.row.now front (views c.args.sources.now)
    c.requires.reach (omega (arith, c.requires.few, views_count c.args.sources.now)) cells (sym c.is_refused.ensures ∙ refused)
