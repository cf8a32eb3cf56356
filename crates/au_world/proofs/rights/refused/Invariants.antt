use Rattle.std.proofs.Common.{◌≡◌, drop}
use Rattle.au_world.specs.Rights.{refusal}
use Rattle.au_world.proofs.rights.refused.Given as goal

abbrev pub invariant-loop-answer : goal.invariant-loop-answer
invariant-loop-answer l = refusal (drop l.answer-index l.answers) ≡ refusal l.answers
