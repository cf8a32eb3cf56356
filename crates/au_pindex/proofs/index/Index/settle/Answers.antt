use Rattle.au_pindex.proofs.index.Index.settle.Goals as goal

pub returns : goal.returns
returns c = λ catalog after leads is.
    let said = c.edit_index.ensures catalog.enabled after.enabled catalog.policies after.policies leads is.buckets is.conditions in
    record { buckets = said.0; conditions = said.1 }
