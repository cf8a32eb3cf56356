use Rattle.std.proofs.Common.{◌≡◌, ℕ, ◌+◌, ◌≤◌, length, get_or, List, Some, None}
use Rattle.au_rows.specs.declared.version.Version.{Version}
use Rattle.au_rows.specs.Chains.{IsChain, IsOneOf, versions_of}
use Rattle.au_rows.specs.Sought.{IsMatch}
use Rattle.au_rows.proofs.seeking.first_match.Given as goal

-- the rest of the chain, in which each version is that is sought
abbrev pub invariant-loop-turn : goal.invariant-loop-turn
invariant-loop-turn l = record {
  rest : List ℕ;
  stands : IsChain l.nodes.slots l.hash l.at rest;
  short : length rest + l._turn ≤ l._turn-end;
  found : (slot : ℕ) (version : Version) → get_or (versions_of l.nodes.slots) slot None ≡ Some version → version.hash ≡ l.hash
      → IsMatch l.sought l.places.listed l.asked.table l.asked.places.now l.asked.key.now l.asked.by slot version → IsOneOf rest slot;
}
