use Rattle.std.proofs.Common.{◌≡◌, ℕ, ◌+◌, ◌≤◌, length, get_or, List, Some, None}
use Rattle.au_rows.specs.declared.node.Node.{Node}
use Rattle.au_rows.specs.Chains.{IsChain, IsOneOf}
use Rattle.au_rows.proofs.chains.link_above.Given as goal

-- the rest of the chain, in which the nodes that name the slot are
abbrev pub invariant-loop-turn : goal.invariant-loop-turn
invariant-loop-turn l = record {
  rest : List ℕ;
  stands : IsChain l.nodes.slots l.hash l.at rest;
  short : length rest + l._turn ≤ l._turn-end;
  found : (above : ℕ) (node : Node) → get_or l.nodes.slots above None ≡ Some node → node.version.hash ≡ l.hash → node.below ≡ Some l.slot → IsOneOf rest above;
}
