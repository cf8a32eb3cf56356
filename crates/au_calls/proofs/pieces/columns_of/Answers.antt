use Rattle.std.proofs.Common.{◌∙◌, map, sym}
use Rattle.au_calls.specs.Literals.{column_of, is_column}
use Rattle.au_calls.proofs.Columns.{one_fails, one_more}
use Rattle.au_calls.proofs.pieces.columns_of.Goals as goal

pub loop-piece-preserved : goal.loop-piece-preserved
loop-piece-preserved c =
    one_more is_column column_of c.args.pieces.now c.loop-piece.piece-index c.piece-item.result c.in-Some.name c.loop-piece.names c.push.new.self c.loop-piece-test.true c.piece-item.is (sym c.in-Some.is ∙ c.in_ok-name.ensures) c.loop-piece.invariant c.in_ok-push-in-Some.ensures.ok

pub returns-in-None : goal.returns-in-None
returns-in-None c = one_fails is_column column_of c.args.pieces.now c.loop-piece.piece-index c.piece-item.result (map column_of c.args.pieces.now) c.loop-piece-test.true c.piece-item.is (sym c.in-None.is ∙ c.in_ok-name.ensures)
