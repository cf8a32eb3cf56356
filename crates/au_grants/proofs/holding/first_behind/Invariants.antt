use Rattle.au_grants.specs.descent.Search.{IsFirstOf, right_at}
use Rattle.au_grants.proofs.Holders.{IsGivenBetween}
use Rattle.au_grants.proofs.holding.first_behind.Given as goal

abbrev pub invariant-loop-at : goal.invariant-loop-at
invariant-loop-at l = IsFirstOf (λ j. IsGivenBetween l.grants l.place l.at (right_at l.rights j)) l.limit l.first
