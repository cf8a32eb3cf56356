use Rattle.std.proofs.Common.{◌∙◌, ◌++◌, ◌-◌, refl, ap, subst}
use Rattle.std.specs.Prelude.{vec_capacity, vec_len}
use Rattle.au_catalog.specs.Settling.{catalog_after_all, catalog_of}
use Rattle.au_entries.specs.Frames.{trail_left}
use Rattle.au_grants.specs.Changing.{applied_all}
use Rattle.au_kept.specs.Keeping.{Contents}
use Rattle.au_kept.specs.OpenChanges.{AreSoundChanges}
use Rattle.au_kept.specs.Sound.{IsKept}
use Rattle.au_kept.specs.Staging.{number_after}
use Rattle.au_kept.proofs.Made.{seen_from, settle_can, settle_holds, settled_at}
use Rattle.au_kept.proofs.Settled.{Triples}
use Rattle.au_replay.specs.Reading.{conditions}
use Rattle.au_kept.proofs.keeping.Keeping.settle.Goals as goal

pub settle_desk-requires-clause-can : goal.settle_desk-requires-clause-can
settle_desk-requires-clause-can c =
    let triples : Triples = record { forth = c.rows_are_triples.ensures.forth; gone = c.rows_are_triples.ensures.gone; left = c.rows_are_triples.ensures.left; put = c.rows_are_triples.ensures.put } in
    settle_can triples c.finals_settle.ensures.settle
    c.args.self.now c.args.commits c.args.staged c.args.records.items c.args.last c.self.inside.desk
    (seen_from c.rows_are_triples.ensures.back c.args.self.now _ c.self.inside.desk (vec_capacity c.self.inside.trail - vec_len c.self.inside.trail) c.self.view_is refl c.self.invariant c.holds_together.ensures.rows)
    c.requires.can

pub invariant_of-self : goal.invariant_of-self
invariant_of-self c =
    let triples : Triples = record { forth = c.rows_are_triples.ensures.forth; gone = c.rows_are_triples.ensures.gone; left = c.rows_are_triples.ensures.left; put = c.rows_are_triples.ensures.put } in
    let seen = seen_from c.rows_are_triples.ensures.back c.args.self.now _ c.self.inside.desk (vec_capacity c.self.inside.trail - vec_len c.self.inside.trail) c.self.view_is refl c.self.invariant c.holds_together.ensures.rows in
    settle_holds triples c.finals_settle.ensures.settle c.changes_keep_laws.ensures.all c.laid_rows_answer.ensures.untouched c.tables_go_with_their_rows.ensures.left
    c.args.self.now c.args.commits c.args.staged c.args.records.items c.args.purge c.args.last c.self.inside.desk c.settle_desk.new.desk _ seen
    (subst (λ (s : Contents). IsKept conditions s.kept) c.self.view_is c.self.invariant.kept_is)
    c.requires.can
    (settled_at triples c.finals_settle.ensures.settle c.catalogues_change_by_their_parts.ensures
    c.args.self.now c.args.commits c.args.staged c.args.records.items c.args.purge c.args.last c.self.inside.desk c.settle.new.self c.settle-2.new.self c.settle_desk.new.desk.rows c.settle_trail.new.trail.items c.number_after-self-inside.result seen
    (λ changes is. c.settle.ensures.changes conditions.tree changes is ∙ ap (λ (s : Contents). catalog_after_all conditions.tree changes (catalog_of s.kept)) c.self.view_is)
    (c.settle-2.ensures ∙ ap (λ (s : Contents). applied_all c.args.staged.grants.changes s.kept.grants) c.self.view_is)
    c.settle_desk.ensures.rows
    (c.settle_trail.ensures.items ∙ ap (λ (s : Contents). trail_left c.args.purge s.kept.trail ++ c.args.records.items) c.self.view_is)
    (c.number_after-self-inside.ensures ∙ ap (λ (s : Contents). number_after c.args.staged.instance s.kept.instance) c.self.view_is))
    c.settle_desk.ensures.tables
    (c.settle_desk.ensures.quiet c.self.invariant.desk_is.quiet)
    (c.settle_desk.ensures.keyed c.self.invariant.keyed)
    (subst (λ (s : Contents). AreSoundChanges s.kept.tables c.self.inside.desk) c.self.view_is c.self.invariant.changes)
    c.self.invariant.desk_is.quiet
    c.settle_desk.ensures.rows
    c.settle_desk.ensures.own
    c.settle_desk.ensures.others

pub returns-clause-kept : goal.returns-clause-kept
returns-clause-kept c =
    let triples : Triples = record { forth = c.rows_are_triples.ensures.forth; gone = c.rows_are_triples.ensures.gone; left = c.rows_are_triples.ensures.left; put = c.rows_are_triples.ensures.put } in
    let seen = seen_from c.rows_are_triples.ensures.back c.args.self.now _ c.self.inside.desk (vec_capacity c.self.inside.trail - vec_len c.self.inside.trail) c.self.view_is refl c.self.invariant c.holds_together.ensures.rows in
    settled_at triples c.finals_settle.ensures.settle c.catalogues_change_by_their_parts.ensures
    c.args.self.now c.args.commits c.args.staged c.args.records.items c.args.purge c.args.last c.self.inside.desk c.settle.new.self c.settle-2.new.self c.settle_desk.new.desk.rows c.settle_trail.new.trail.items c.number_after-self-inside.result seen
    (λ changes is. c.settle.ensures.changes conditions.tree changes is ∙ ap (λ (s : Contents). catalog_after_all conditions.tree changes (catalog_of s.kept)) c.self.view_is)
    (c.settle-2.ensures ∙ ap (λ (s : Contents). applied_all c.args.staged.grants.changes s.kept.grants) c.self.view_is)
    c.settle_desk.ensures.rows
    (c.settle_trail.ensures.items ∙ ap (λ (s : Contents). trail_left c.args.purge s.kept.trail ++ c.args.records.items) c.self.view_is)
    (c.number_after-self-inside.ensures ∙ ap (λ (s : Contents). number_after c.args.staged.instance s.kept.instance) c.self.view_is)
