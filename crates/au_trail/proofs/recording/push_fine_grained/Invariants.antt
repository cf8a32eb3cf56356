use Rattle.std.proofs.Common.{◌≡◌, ◌++◌, length, drop, map}
use Rattle.std.specs.List.{enumerate_from}
use Rattle.au_audit.specs.Records.{fine_grained_record, numbered}
use Rattle.au_trail.proofs.recording.push_fine_grained.Given as goal

abbrev pub invariant-loop-policy : goal.invariant-loop-policy
invariant-loop-policy l =
    l.made.items ++ map (numbered l.at.entry) (enumerate_from (length l.made.items) (map (fine_grained_record l.facts l.at) (drop l.policy-index l.fired)))
    ≡ l.initial.made.items ++ map (numbered l.at.entry) (enumerate_from (length l.initial.made.items) (map (fine_grained_record l.facts l.at) l.fired))
