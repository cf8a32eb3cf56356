use Rattle.std.proofs.Common.{◌∙◌, ap}
use Rattle.au_step.specs.declared.session.Session.{Session}
use Rattle.au_engine.proofs.Counting.{counts, placed_in, unplaced_in}
use Rattle.au_engine.proofs.sessions.set_counts.Goals as goal

pub returns-in-None-clause-items : goal.returns-in-None-clause-items
returns-in-None-clause-items c =
    unplaced_in c.args.client c.args.statements c.args.entries c.args.results c.args.sessions.now.items _ _ c.place_of.ensures c.as_slice.ensures.value c.in-None.is

pub returns-in-Some-clause-items : goal.returns-in-Some-clause-items
returns-in-Some-clause-items c =
    let counted = λ (session : Session). counts c.args.statements c.args.entries c.args.results session in
    placed_in c.args.client c.args.statements c.args.entries c.args.results c.args.sessions.now.items _ _ c.in-Some.place _ _ c.requires.apart c.place_of.ensures c.as_slice.ensures.value c.in-Some.is
    (c.set_counts_of.ensures ∙ ap counted c.index_mut.ensures.value)
