use Rattle.std.specs.Prelude.{◌≡◌, take}
use Rattle.clap.specs.Walk.{texts}
use Rattle.au_words.proofs.options.str_words.Given as goal

abbrev pub invariant-loop-word : goal.invariant-loop-word
invariant-loop-word l = texts l.made.items ≡ take l.word-index l.words
