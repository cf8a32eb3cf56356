use Rattle.std.proofs.Common.{◌≡◌, ◌≢◌, ◌∙◌, ◌<◌, ◌++◌, ◌∷◌, [], ℕ, List, Option, None, Some, ap, get_or, set, subst, sym, vec_len, arith}
use Rattle.std.proofs.lemmas.List.{get_or-set_same, get_or-set_other}
use Rattle.au_rows.specs.declared.node.Node.{Node}
use Rattle.au_rows.specs.Slots.{Vacancies}
use Rattle.au_rows.proofs.SlotLemmas.{at-end, before-end, last-one, no-vacancy, past-end, vacancies-filled}
use Rattle.au_rows.proofs.slots.Slots.insert.Goals as goal

pub fill-requires : goal.fill-requires
fill-requires c =
    let nodes = c.self.inside.nodes in
    let v = subst (Vacancies nodes.items) c.in-Some.ensures.some c.self.invariant.0 in
    omega (arith, v.within c.in-Some.slot (last-one c.next_vacant.new.vacant.items c.in-Some.slot), nodes.ok.0)

pub invariant_of-self : goal.invariant_of-self
invariant_of-self c =
    let nodes = c.self.inside.nodes in
    let v = subst (Vacancies nodes.items) c.in-Some.ensures.some c.self.invariant.0 in (
      vacancies-filled nodes.items c.fill.new.nodes.items c.next_vacant.new.vacant.items c.in-Some.slot c.args.node v c.fill.ensures.items,
      omega (arith, c.fill.ensures.len, c.self.invariant.1),
    )

pub returns-in-Some-clause-vacant : goal.returns-in-Some-clause-vacant
returns-in-Some-clause-vacant c =
    let nodes = c.self.inside.nodes in
    let v = subst (Vacancies nodes.items) c.in-Some.ensures.some c.self.invariant.0 in
    rw (← c.self.view_is) (v.empty c.in-Some.slot (last-one c.next_vacant.new.vacant.items c.in-Some.slot))

pub returns-in-Some-clause-filled : goal.returns-in-Some-clause-filled
returns-in-Some-clause-filled c =
    let nodes = c.self.inside.nodes in
    let v = subst (Vacancies nodes.items) c.in-Some.ensures.some c.self.invariant.0 in
    ap (λ (xs : List (Option Node)). get_or xs c.in-Some.slot None) c.fill.ensures.items
    ∙ get_or-set_same nodes.items c.in-Some.slot (Some c.args.node) None (v.within c.in-Some.slot (last-one c.next_vacant.new.vacant.items c.in-Some.slot))
