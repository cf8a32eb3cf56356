use Rattle.std.proofs.Common.{take}
use Rattle.au_pindex.specs.Indexing.{AreBucketsOf}
use Rattle.au_pindex.proofs.bucketed.buckets_of.Given as goal

-- the buckets are those of the policies so far
abbrev pub invariant-loop-place : goal.invariant-loop-place
invariant-loop-place l = AreBucketsOf l.enabled (take l.place l.policies) l.buckets
