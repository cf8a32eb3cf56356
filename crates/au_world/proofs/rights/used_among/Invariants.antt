use Rattle.std.proofs.Common.{◌≡◌, ◌++◌, drop, filter}
use Rattle.std.specs.List.{list_any}
use Rattle.au_world.specs.Rights.{uses}
use Rattle.au_world.proofs.rights.used_among.Given as goal

abbrev pub invariant-loop-privilege : goal.invariant-loop-privilege
invariant-loop-privilege l =
    l.used ++ filter (λ privilege. list_any (uses privilege) l.answers) (drop l.privilege-index l.privileges)
    ≡ filter (λ privilege. list_any (uses privilege) l.answers) l.privileges
