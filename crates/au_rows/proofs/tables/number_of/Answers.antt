use Rattle.std.proofs.Common.{◌∙◌, nat_eq, sym, ap}
use Rattle.indexmap.specs.IndexMap.{get}
use Rattle.au_rows.proofs.KnownLemmas.{unknown}
use Rattle.au_rows.proofs.tables.number_of.Goals as goal

pub returns-in-None-clause-number : goal.returns-in-None-clause-number
returns-in-None-clause-number c =
    unknown c.args.name.now c.args.tables.now (get nat_eq c.args.guesses.now.numbers) c.requires.known (ap (get nat_eq c.args.guesses.now.numbers) (sym c.name_hash.ensures) ∙ (sym c.get.ensures ∙ c.in-None.is))
