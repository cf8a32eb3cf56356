use Rattle.std.proofs.Common.{◌≡◌, drop}
use Rattle.std.specs.List.{list_any}
use Rattle.au_query.specs.descent.Inside.{refuses}
use Rattle.au_query.proofs.cutting.is_refused.Given as goal

abbrev pub invariant-loop-test : goal.invariant-loop-test
invariant-loop-test l = list_any (refuses l.session l.row) (drop l.test-index l.tests) ≡ list_any (refuses l.session l.row) l.tests
