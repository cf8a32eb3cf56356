use Rattle.std.proofs.Common.{rules, ap, ◌∙◌}
use Rattle.au_turn.specs.Pass.{slots_of}
use Rattle.au_turn.proofs.RuleLemmas.{grabs}
use Rattle.au_turn.proofs.turn.Turn.grab.Goals as goal

pub compare_exchange-requires : goal.compare_exchange-requires
compare_exchange-requires g c =
    let own = c.requires.own in
    (search rules, search rules, grabs _ _ _ _ _ (search rules) c.requires.idle own.live (own.slots ∙ ap slots_of c.requires.idle) c.requires.free.0 c.requires.free.1)
