use Rattle.std.proofs.Common.{rules, ap, ◌∙◌}
use Rattle.au_turn.specs.Pass.{slots_of}
use Rattle.au_turn.proofs.RuleLemmas.{empties}
use Rattle.au_turn.proofs.turn.Turn.close.Goals as goal

pub load-requires : goal.load-requires
load-requires g c =
    let own = c.take-value.ensures.own in
    (search rules, search rules, empties _ _ _ _ (search rules) c.take-value.ensures.held own.live (own.slots ∙ ap slots_of c.take-value.ensures.held))
