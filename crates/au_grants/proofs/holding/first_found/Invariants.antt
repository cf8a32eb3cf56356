use Rattle.au_grants.specs.descent.Search.{IsFirstOf, right_at}
use Rattle.au_grants.proofs.Holders.{IsGivenToQueued}
use Rattle.au_grants.proofs.holding.first_found.Given as goal

abbrev pub invariant-loop-k : goal.invariant-loop-k
invariant-loop-k l = IsFirstOf (λ j. IsGivenToQueued l.grants l.queue l.k (right_at l.rights j)) l.limit l.first
