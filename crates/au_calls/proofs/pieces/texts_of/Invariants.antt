use Rattle.std.proofs.Common.{◌≡◌, map, take}
use Rattle.au_calls.proofs.pieces.texts_of.Given as goal

abbrev pub invariant-loop-piece : goal.invariant-loop-piece
invariant-loop-piece l = l.texts ≡ map (λ piece. piece.now) (take l.piece-index l.pieces)
