use Rattle.std.proofs.Common.{rules, ap}
use Rattle.au_turn.proofs.RuleLemmas.{parts}
use Rattle.au_turn.proofs.PassLemmas.{same_view, pass_new}
use Rattle.au_turn.proofs.turn.Turn.split.Goals as goal

pub split_seat-seat-requires : goal.split_seat-seat-requires
split_seat-seat-requires g c = (search rules, search rules, parts _ _ _ c.requires.own.live)

pub returns-clause-other : goal.returns-clause-other
returns-clause-other g c =
    let m = c.split_seat-seat.ensures.4 in
    (pass_new _ _ _ (search rules) m, ap (λ u. u.held) (same_view _ _ m))
