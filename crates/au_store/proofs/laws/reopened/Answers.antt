use Rattle.std.proofs.Common.{◌∙◌, ap}
use Rattle.au_entries.specs.declared.kept.Kept.{Kept}
use Rattle.au_step.specs.State.{start}
use Rattle.au_store.proofs.laws.reopened.Goals as goal

pub returns : goal.returns
returns c = λ all kept reading m bounded recovers opened.
    let same = c.one_recovery.ensures.one all opened.kept kept bounded opened.reads (c.one_recovery.ensures.reads all kept recovers) in
    opened.begins ∙ ap (λ (k : Kept). start k reading) same
