use Rattle.std.specs.Prelude.{⊤}
use Rattle.au_query.proofs.residual.sieve_of.Given as goal

abbrev pub invariant-loop-test : goal.invariant-loop-test
invariant-loop-test l = ⊤
