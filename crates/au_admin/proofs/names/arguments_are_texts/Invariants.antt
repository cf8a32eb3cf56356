use Rattle.std.proofs.Common.{drop}
use Rattle.std.specs.List.{AllByRecursion}
use Rattle.au_calls.specs.Written.{IsArgumentText}
use Rattle.au_admin.proofs.names.arguments_are_texts.Given as goal

abbrev pub invariant-loop-argument : goal.invariant-loop-argument
invariant-loop-argument l = AllByRecursion IsArgumentText (drop l.argument-index l.arguments) → AllByRecursion IsArgumentText l.arguments
