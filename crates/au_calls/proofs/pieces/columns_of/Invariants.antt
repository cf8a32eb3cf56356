use Rattle.std.proofs.Common.{◌≡◌, true, map, take}
use Rattle.std.specs.List.{list_all}
use Rattle.au_calls.specs.Literals.{column_of, is_column}
use Rattle.au_calls.proofs.pieces.columns_of.Given as goal

abbrev pub invariant-loop-piece : goal.invariant-loop-piece
invariant-loop-piece l = (list_all is_column (take l.piece-index l.pieces) ≡ true) × (l.names ≡ map column_of (take l.piece-index l.pieces))
