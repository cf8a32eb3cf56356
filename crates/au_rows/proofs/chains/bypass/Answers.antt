use Rattle.std.proofs.Common.{◌≡◌, ◌≢◌, ◌∙◌, ℕ, ap, sym, subst, refl, cond, nat_eq, Some}
use Rattle.indexmap.specs.IndexMap.{get}
use Rattle.au_rows.specs.declared.node.Node.{Node}
use Rattle.au_rows.specs.Chains.{IsOneOf}
use Rattle.au_rows.proofs.ChainLemmas.{chained-behind, chained-lower, has-above, not-itself, slot-named, slot-unnamed}
use Rattle.au_rows.proofs.chains.bypass.Goals as goal

pub returns-then-is_slot-clause-chained : goal.returns-then-is_slot-clause-chained
returns-then-is_slot-clause-chained c = λ last empties.
    let n : Node = record { version = c.requires.node.0; below = c.args.below } in
    let of = c.requires.node.1 in
    let head : get nat_eq c.args.heads.now c.args.hash ≡ Some c.args.slot = sym c.head_of.ensures ∙ slot-named c.args.slot c.head_of.result (sym c.is_slot.ensures ∙ c.if-is_slot.true) in
    chained-lower c.args.nodes.now.slots last (λ hash. get nat_eq c.args.heads.now hash) (λ hash. get nat_eq c.lower_head.new.heads hash) c.args.slot n c.requires.node.2 empties.vacant c.requires.chained
    (ap (get nat_eq c.args.heads.now) of ∙ head) empties.others
    (λ hash. c.lower_head.ensures.heads hash ∙ ap (λ (x : ℕ). cond (nat_eq x hash) c.args.below (get nat_eq c.args.heads.now hash)) (sym of))

pub returns-in-Some-clause-chained : goal.returns-in-Some-clause-chained
returns-in-Some-clause-chained c = λ last empties.
    let nodes = c.args.nodes.now.slots in
    let n : Node = record { version = c.requires.node.0; below = c.args.below } in
    let of = c.requires.node.1 in
    let link = c.in-Some.ensures.some in
    let not_head : get nat_eq c.args.heads.now c.args.hash ≡ Some c.args.slot → ⊥ = λ head. slot-unnamed c.args.slot c.head_of.result (sym c.is_slot.ensures ∙ c.if-is_slot.false) (c.head_of.ensures ∙ head) in
    let apart : c.in-Some.above ≢ c.args.slot = λ same.
    not-itself nodes link.0.version.hash _ (c.requires.chained.chain link.0.version.hash) c.in-Some.above link.0 (c.requires.chained.linked link.0.version.hash) (c.requires.chained.complete c.in-Some.above link.0 link.1) link.1 (link.3 ∙ ap Some (sym same)) in
    chained-behind nodes last (λ hash. get nat_eq c.args.heads.now hash) (λ hash. get nat_eq c.args.heads.now hash) c.args.slot n c.requires.node.2 empties.vacant c.requires.chained
    c.in-Some.above link.0 link.1 (link.2 ∙ sym of) link.3 (λ head. not_head (ap (get nat_eq c.args.heads.now) (sym of) ∙ head))
    (empties.others c.in-Some.above apart ∙ c.set_below.ensures.relinks.moved link.0 link.1)
    (λ s ne other. empties.others s ne ∙ c.set_below.ensures.relinks.others s other)
    (λ hash. refl)

pub returns-in_default-clause-chained : goal.returns-in_default-clause-chained
returns-in_default-clause-chained c = λ last empties.
    let nodes = c.args.nodes.now.slots in
    let n : Node = record { version = c.requires.node.0; below = c.args.below } in
    let not_head : get nat_eq c.args.heads.now c.args.hash ≡ Some c.args.slot → ⊥ = λ head. slot-unnamed c.args.slot c.head_of.result (sym c.is_slot.ensures ∙ c.if-is_slot.false) (c.head_of.ensures ∙ head) in
    let here = subst (λ (hash : ℕ). IsOneOf (c.requires.chained.chain hash) c.args.slot) c.requires.node.1 (c.requires.chained.complete c.args.slot n c.requires.node.2) in
    let link = has-above nodes c.args.hash c.args.slot (get nat_eq c.args.heads.now c.args.hash) (c.requires.chained.chain c.args.hash) (c.requires.chained.linked c.args.hash) here not_head in
    absurd (c.in_default.ensures.none link.0 link.1 link.2 link.3 link.4)
