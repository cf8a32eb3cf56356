use Rattle.std.proofs.Common.{◌≡◌, ◌∙◌, ℕ, length, get_or, ◌∷◌, Option, Some, None, ap, sym, subst, arith}
use Rattle.au_rows.specs.declared.node.Node.{Node}
use Rattle.au_rows.specs.Chains.{IsChain, IsOneOf}
use Rattle.au_rows.proofs.ChainLemmas.{at-slot, chain-length, left-behind, none-left, not-vacant-at, slot-named, slot-unnamed}
use Rattle.au_rows.proofs.chains.link_above.Goals as goal

pub loop-turn-init : goal.loop-turn-init
loop-turn-init c =
    let nodes = c.args.nodes.now.slots in
    let stands = subst (λ (at : Option ℕ). IsChain nodes c.args.hash at (c.requires.chain c.args.hash)) (sym c.head_of-at.ensures) (c.requires.linked c.args.hash) in
    let most = chain-length nodes c.args.hash c.head_of-at.result (c.requires.chain c.args.hash) stands in
    let slots = c.len-turn-end.ensures in
    record {
      rest = c.requires.chain c.args.hash;
      stands = stands;
      short = omega arith;
      found = λ above node is of names. subst (λ (hash : ℕ). IsOneOf (c.requires.chain hash) above) of (c.requires.complete above node is);
    }

pub returns-then-is_slot-clause-some : goal.returns-then-is_slot-clause-some
returns-then-is_slot-clause-some c =
    let here = at-slot c.args.nodes.now.slots c.args.hash c.loop-turn.at c.loop-turn.invariant.rest c.in-Some.here c.in-Some-get.node.now c.loop-turn.invariant.stands c.in-Some.is (sym c.in-Some-get.ensures) in
    (c.in-Some-get.node.now, sym c.in-Some-get.ensures, here.2, slot-named c.args.slot c.in-Some-get.node.now.below (sym c.is_slot.ensures ∙ c.if-is_slot.true))

pub returns-in-None-get-clause-none : goal.returns-in-None-get-clause-none
returns-in-None-get-clause-none c = λ above node is of names. not-vacant-at c.args.nodes.now.slots c.args.hash c.loop-turn.at c.loop-turn.invariant.rest c.in-Some.here c.loop-turn.invariant.stands c.in-Some.is (sym c.in-None-get.ensures)

pub returns-in-None-clause-none : goal.returns-in-None-clause-none
returns-in-None-clause-none c = λ above node is of names. none-left c.args.nodes.now.slots c.args.hash c.loop-turn.at c.loop-turn.invariant.rest above c.loop-turn.invariant.stands c.in-None.is (c.loop-turn.invariant.found above node is of names)

pub loop-turn-preserved : goal.loop-turn-preserved
loop-turn-preserved c =
    let nodes = c.args.nodes.now.slots in
    let rest = c.loop-turn.invariant.rest in
    let node_here : get_or nodes c.in-Some.here None ≡ Some c.in-Some-get.node.now = sym c.in-Some-get.ensures in
    let here = at-slot nodes c.args.hash c.loop-turn.at rest c.in-Some.here c.in-Some-get.node.now c.loop-turn.invariant.stands c.in-Some.is node_here in
    let one : length rest ≡ length (c.in-Some.here ∷ here.0) = ap length here.1 in
    let short = c.loop-turn.invariant.short in
    record {
      rest = here.0;
      stands = here.3;
      short = omega arith;
      found = λ above node is of names.
          left-behind nodes c.args.hash rest here.0 c.in-Some.here above here.1 (c.loop-turn.invariant.found above node is of names)
          (λ same.
          let both : Some node ≡ Some c.in-Some-get.node.now = sym is ∙ (ap (λ (s : ℕ). get_or nodes s None) same ∙ node_here) in
          let node_is : node ≡ c.in-Some-get.node.now = cc in
          slot-unnamed c.args.slot c.in-Some-get.node.now.below (sym c.is_slot.ensures ∙ c.if-is_slot.false) (ap (λ (n : Node). n.below) (sym node_is) ∙ names));
    }
