use Rattle.std.proofs.Common.{rules, ap, ◌∙◌}
use Rattle.au_turn.specs.Pass.{slots_of}
use Rattle.au_turn.proofs.RuleLemmas.{announces}
use Rattle.au_turn.proofs.turn.Turn.announce.Goals as goal

pub load-requires : goal.load-requires
load-requires g c =
    let own = c.requires.own in
    (search rules, search rules, announces _ _ _ g.B.Telling.told c.requires.held own.live own.full (own.slots ∙ ap slots_of c.requires.held) c.requires.told _)
