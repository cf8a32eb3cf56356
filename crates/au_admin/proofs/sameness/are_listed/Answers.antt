use Rattle.std.proofs.lemmas.Slice.Eq.{slice_eq-Decides}
use Rattle.au_admin.proofs.sameness.are_listed.Goals as goal

pub returns : goal.returns
returns c = slice_eq-Decides c.same_entries_are_equal.ensures c.args.a.now c.args.b.now c.eq.result c.eq.ensures
