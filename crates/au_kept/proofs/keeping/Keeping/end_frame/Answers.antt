use Rattle.std.proofs.Common.{◌∙◌, ◌++◌, List, ap, subst, sym}
use Rattle.std.specs.List.{AllByRecursion}
use Rattle.au_entries.specs.declared.trail_record.Record.{Record}
use Rattle.au_entries.specs.Frames.{trail_left}
use Rattle.au_kept.proofs.Frames.{left_spelled}
use Rattle.au_kept.proofs.Lists.{all_joined}
use Rattle.au_kept.proofs.Rowed.{kept_restamped}
use Rattle.au_replay.specs.Reading.{conditions}
use Rattle.rec_codec.specs.Records.{trail_record}
use Rattle.au_kept.proofs.keeping.Keeping.end_frame.Goals as goal

pub invariant_of-self : goal.invariant_of-self
invariant_of-self c =
    let items = c.settle_trail.ensures.items ∙ ap (λ (told : List Record). trail_left c.args.purge c.self.inside.trail.items ++ told) c.into_vec.ensures in
    record {
      kept_is = kept_restamped conditions _ c.settle_trail.new.trail.items c.args.stamp c.requires.moment
          (subst (λ (trail : List Record). AllByRecursion trail_record.IsSpellable trail) (sym items)
          (all_joined trail_record.IsSpellable (trail_left c.args.purge c.self.inside.trail.items) c.args.records (left_spelled c.args.purge c.self.inside.trail.items c.self.invariant.kept_is.spelled.records) c.requires.told))
          c.self.invariant.kept_is;
      desk_is = c.self.invariant.desk_is;
      keyed = c.self.invariant.keyed;
      changes = c.self.invariant.changes;
    }
