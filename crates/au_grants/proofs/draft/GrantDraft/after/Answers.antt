use Rattle.au_grants.proofs.draft.GrantDraft.after.Goals as goal

pub invariant_of-result : goal.invariant_of-result
invariant_of-result c = c.in_ok-after_all.ensures.order
