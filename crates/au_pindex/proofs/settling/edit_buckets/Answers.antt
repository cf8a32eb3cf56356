use Rattle.au_pindex.proofs.Edited.{still_fits}
use Rattle.au_pindex.proofs.settling.edit_buckets.Goals as goal

pub join_where-requires : goal.join_where-requires
join_where-requires c = still_fits c.args.joining.now c.args.shift.now c.args.buckets.now c.shift_where.new.buckets c.shift_where.ensures c.requires
