use Rattle.std.proofs.Common.{◌≡◌, ◌∙◌, ◌++◌, List, ap, ap₂, refl}
use Rattle.au_entries.specs.declared.trail_record.Record.{Record}
use Rattle.au_entries.specs.Frames.{trail_left}
use Rattle.au_grants.specs.Rights.{Grants}
use Rattle.au_image.specs.Image.{kept_of, kept_rows}
use Rattle.au_kept.specs.Keeping.{Contents}
use Rattle.au_kept.proofs.Rebuilt.{quiet_lists, taken, taken_holds}
use Rattle.au_kept.proofs.keeping.Keeping.take.Goals as goal

pub invariant_of-self : goal.invariant_of-self
invariant_of-self c =
    let building = c.args.building in
    let parts = c.args.parts in
    let kept = c.args.self.now.kept in
    let left = c.settle_trail.new.trail.items in
    let trail : left ≡ trail_left parts.purge kept.trail ++ parts.records =
    c.settle_trail.ensures.items ∙ ap₂ (λ (before told : List Record). trail_left parts.purge before ++ told) (ap (λ (x : Contents). x.kept.trail) c.self.view_is) c.into_vec.ensures in
    taken_holds c.desks_stay_keyed.ensures.quiet c.rows_stand_by_tables.ensures.there parts kept
    (kept_of building.catalog c.into_grants.result (kept_rows building.desk) left parts.stamp building.instance) building c.requires.stamped c.requires.can c.requires.built
    (ap (λ (grants : Grants). kept_of building.catalog grants (kept_rows building.desk) left parts.stamp building.instance) c.into_grants.ensures ∙ taken parts kept building left c.requires.built trail)
    refl refl

pub returns-clause-quiet : goal.returns-clause-quiet
returns-clause-quiet c = quiet_lists c.args.building.desk c.requires.built.firm.quiet
