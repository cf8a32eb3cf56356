use Rattle.std.proofs.Common.{◌≡◌, ◌∙◌, ◌<◌, length, None, get_or, arith}
use Rattle.std.proofs.lemmas.List.{get_or_past}
use Rattle.au_rows.proofs.SlotLemmas.{vacancies-more}
use Rattle.au_rows.proofs.slots.Slots.take_out.Goals as goal

pub invariant_of-self : goal.invariant_of-self
invariant_of-self c =
    let nodes = c.self.inside.nodes.items in
    let filled : get_or nodes c.args.slot None ≡ None → ⊥ = λ none. grind (arith) in
    let within : c.args.slot < length nodes = grind (arith, get_or_past) in (
      vacancies-more nodes c.empty.new.nodes.items c.self.inside.vacant.items c.args.slot c.self.invariant.0 within filled c.empty.ensures.items _ c.give_back.ensures.items,
      omega (arith, c.empty.ensures.len, c.self.invariant.1),
    )
