use Rattle.std.proofs.Common.{◌∙◌}
use Rattle.au_grants.proofs.Growths.{merged_joined, merged_placed, ready_joined, ready_placed}
use Rattle.au_grants.proofs.growing.add.Goals as goal

pub join-requires-clause-ready : goal.join-requires-clause-ready
join-requires-clause-ready g c = ready_placed g.T.Entry.fields c.args.entry _ _ _ c.requires.ready c.requires.ordered c.requires.whole c.place.ensures.items

pub returns-then-len-capacity-clause-merged : goal.returns-then-len-capacity-clause-merged
returns-then-len-capacity-clause-merged g c =
    merged_joined g.T.Entry.fields c.place.new.entries.items c.args.kept.now.items _ _ c.join.ensures.fresh c.join.ensures.kept ∙ merged_placed g.T.Entry.fields c.args.entry _ _ _ c.requires.ready c.place.ensures.items

pub returns-then-len-capacity-clause-ready : goal.returns-then-len-capacity-clause-ready
returns-then-len-capacity-clause-ready g c =
    ready_joined g.T.Entry.fields c.place.new.entries.items c.args.kept.now.items _ _ (ready_placed g.T.Entry.fields c.args.entry _ _ _ c.requires.ready c.requires.ordered c.requires.whole c.place.ensures.items) c.join.ensures.fresh c.join.ensures.kept

pub returns-else-len-capacity-clause-merged : goal.returns-else-len-capacity-clause-merged
returns-else-len-capacity-clause-merged g c = merged_placed g.T.Entry.fields c.args.entry _ _ _ c.requires.ready c.place.ensures.items

pub returns-else-len-capacity-clause-ready : goal.returns-else-len-capacity-clause-ready
returns-else-len-capacity-clause-ready g c = ready_placed g.T.Entry.fields c.args.entry _ _ _ c.requires.ready c.requires.ordered c.requires.whole c.place.ensures.items
