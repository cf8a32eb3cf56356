use Rattle.std.proofs.Common.{[], ◌∷◌, inl}
use Rattle.std.proofs.lemmas.Slice.Eq.{strip_suffix_is}
use Rattle.std.proofs.lemmas.Bool.Decides.{Decides-eqb}
use Rattle.std.proofs.Common.{Some}
use Rattle.au_script.specs.Lines.{carriage_return}
use Rattle.au_script.proofs.lines.without_return.Goals as goal

pub returns-in-Some : goal.returns-in-Some
returns-in-Some c = inl (strip_suffix_is Decides-eqb c.args.bytes.now (carriage_return ∷ []) (Some c.in-Some.content) c.in-Some.ensures.cases)
