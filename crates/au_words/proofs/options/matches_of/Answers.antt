use Rattle.std.proofs.Common.{arith}
use Rattle.std.proofs.lemmas.Bool.Decides.{nat_tests}
use Rattle.clap.specs.Faults.{is_free_app}
use Rattle.clap.specs.Simple.{built, is_simple}
use Rattle.clap.specs.Words.{app_of}
use Rattle.clap.proofs.WalkLemmas.{both}
use Rattle.au_words.proofs.options.matches_of.Goals as goal

pub returns-in-Ok : goal.returns-in-Ok
returns-in-Ok c =
    let simple = both (is_simple (app_of c.args.command)) (is_free_app (built (app_of c.args.command))) c.requires in
    (c.are_formed.ensures.0 (grind (arith, nat_tests)), c.in-Ok.ensures.kinds c.requires, (c.in-Ok.ensures.matches simple.0).0)
