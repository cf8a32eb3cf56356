use Rattle.std.proofs.Common.{◌≡◌, map, take}
use Rattle.au_pindex.specs.Indexing.{condition_of}
use Rattle.au_pindex.proofs.resolving.resolved.Given as goal

-- the conditions are those of the policies so far
abbrev pub invariant-loop-policy : goal.invariant-loop-policy
invariant-loop-policy l = l.conditions.items ≡ map condition_of (take l.policy-index l.policies)
