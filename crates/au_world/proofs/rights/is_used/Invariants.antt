use Rattle.std.proofs.Common.{◌≡◌, drop}
use Rattle.std.specs.List.{list_any}
use Rattle.au_world.specs.Rights.{uses}
use Rattle.au_world.proofs.rights.is_used.Given as goal

abbrev pub invariant-loop-answer : goal.invariant-loop-answer
invariant-loop-answer l = list_any (uses l.privilege) (drop l.answer-index l.answers) ≡ list_any (uses l.privilege) l.answers
