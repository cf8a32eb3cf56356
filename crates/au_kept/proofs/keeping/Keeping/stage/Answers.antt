use Rattle.std.proofs.Common.{◌≤◌, ◌∙◌, ap, subst, sym, arith}
use Rattle.std.specs.List.{flat_map}
use Rattle.au_base.specs.Limits.{GRANTS}
use Rattle.au_catalog.specs.Settling.{catalog_of}
use Rattle.au_catalog.specs.Staging as catalogs
use Rattle.au_entries.specs.declared.kept.Kept.{Kept}
use Rattle.au_entries.specs.Changing.{grant_changes}
use Rattle.au_grants.specs.Changing.{applied_all}
use Rattle.au_grants.specs.Rights.{Grants, grant_count}
use Rattle.au_grants.specs.Staging as rights
use Rattle.au_kept.specs.Keeping.{Contents}
use Rattle.au_replay.specs.Reading.{conditions}
use Rattle.au_kept.proofs.Settled.{grants_follow}
use Rattle.au_kept.proofs.Tabled.{opened_few}
use Rattle.au_kept.proofs.keeping.Keeping.stage.Goals as goal

pub staged_of-requires-clause-few : goal.staged_of-requires-clause-few
staged_of-requires-clause-few c =
    subst (λ (g : Grants). grant_count g ≤ GRANTS)
    (grants_follow conditions.tree c.args.changes.now c.args.self.now.kept ∙ ap (λ (s : Contents). applied_all (flat_map grant_changes c.args.changes.now) s.kept.grants) (sym c.self.view_is))
    c.requires.few

pub returns-clause-fits : goal.returns-clause-fits
returns-clause-fits c =
    let few = opened_few c.in_ok-staged.staged.tables.items in
    let count = c.len.ensures in
    let room = c.in_ok-make_room.ensures.spare in
    record {
      catalog = subst (λ (k : Kept). catalogs.Fits c.in_ok-staged.staged.catalog (catalog_of k)) (sym c.in_ok-make_room.ensures.kept) c.in_ok-staged.ensures.catalog;
      grants = subst (λ (k : Kept). rights.Fits c.in_ok-staged.staged.grants k.grants) (sym c.in_ok-make_room.ensures.kept) c.in_ok-staged.ensures.grants;
      tables = omega (arith, few, count, room);
    }
