use Rattle.std.proofs.Common.{◌∙◌, sym}
use Rattle.au_query.specs.Combos.{lent, views}
use Rattle.au_query.specs.descent.Inside.{trees_in_tests}
use Rattle.au_query.proofs.Residuals.{none_behind, skipped}
use Rattle.au_query.proofs.scan.+scan.Goals as goal

pub loop-number-preserved-then-is_left_out : goal.loop-number-preserved-then-is_left_out
loop-number-preserved-then-is_left_out t c =
    let inv = c.loop-number.invariant in
    let none = none_behind c.args.session.now (trees_in_tests c.args.tests.now) c.args.row.now c.args.front.now (lent c.loop-number-item.result) (views c.in-Some.rest.now)
    c.last_sieve-sieve.result c.last_sieve-sieve.ensures.sieve c.last_sieve-sieve.ensures.last c.requires.cells (sym c.is_left_out.ensures ∙ c.if-is_left_out.true) in
    (inv.0, inv.1, inv.2, skipped _ _ _ _ _ _ c.loop-number-test.true c.loop-number-item.is none inv.3)
