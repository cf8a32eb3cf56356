use Rattle.std.proofs.Common.{ℕ, Bor, rules, List}
use Rattle.std.proofs.lemmas.Iterator.{YieldsList-from_slice, cases_from_all}
use Rattle.au_words.specs.descent.Options.{IsFormed}
use Rattle.au_words.proofs.OptionLaws.{all_formed}
use Rattle.au_words.proofs.options.are_formed.Goals as goal

pub returns : goal.returns
returns c =
    all_formed c.args.words.now c.all.result
    (cases_from_all _ _ _ (λ (w : Bor (List ℕ)). IsFormed w.now) (λ (w : Bor (List ℕ)). IsFormed w.now → ⊥) c.all.ensures.ran (YieldsList-from_slice c.args.words.now cc) (λ x q k. search rules) (λ x q k. search rules))
