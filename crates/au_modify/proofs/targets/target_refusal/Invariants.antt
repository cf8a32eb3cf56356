use Rattle.std.proofs.Common.{◌≡◌, drop, map}
use Rattle.std.specs.List.{enumerate_from}
use Rattle.au_expr.specs.Names.{first}
use Rattle.au_modify.specs.Targets.{target_code}
use Rattle.au_modify.proofs.targets.target_refusal.Given as goal

abbrev pub invariant-loop-place : goal.invariant-loop-place
invariant-loop-place l =
    first (map (target_code l.columns l.names) (enumerate_from l.place (drop l.place l.names))) ≡ first (map (target_code l.columns l.names) (enumerate_from 0 l.names))
