use Rattle.std.proofs.Common.{◌≡◌, ◌∙◌, List, ap, ap₂, sym, subst}
use Rattle.std.specs.List.{AllByRecursion}
use Rattle.au_catalog.specs.Settling.{catalog_after_all, catalog_of}
use Rattle.au_entries.specs.declared.change.Change.{Change}
use Rattle.au_policy.specs.Asking.{CanBeAsked}
use Rattle.au_replay.specs.Reading.{HasShortText, conditions}
use Rattle.rec_codec.specs.Changes.{IsChangeSpellable}
use Rattle.au_engine.specs.Prepared.{logged_by, made_of}
use Rattle.au_engine.specs.Reserved.{Reserved}
use Rattle.au_engine.proofs.Indexed.{catalog_made, index_ready, ready_between, truth_over_none}
use Rattle.au_engine.proofs.Settled.{all_behind}
use Rattle.au_engine.proofs.Settles.{short}
use Rattle.au_engine.proofs.engine.Engine.stage_index.Goals as goal

pub trees_of-requires : goal.trees_of-requires
trees_of-requires c =
    let a = c.args in
    let m = a.self.now.state in
    let logged = logged_by a.outcome.now in
    let written = c.steps_hold.ensures.written m (made_of a.outcome.now m) a.client a.ask.now a.stamp.0 a.outcome.now.reply logged c.holds_together.ensures.lawful c.requires.seated c.requires.stamp c.asks_are_text.ensures c.requires.client c.requires.step in
    record {
      short = subst (λ (cs : List Change). AllByRecursion HasShortText cs) (sym c.behind-changes.ensures) (short logged.changes c.spellings_are_short.ensures (all_behind IsChangeSpellable logged.rows logged.changes written));
    }

pub staged_on-requires-clause-catalog : goal.staged_on-requires-clause-catalog
staged_on-requires-clause-catalog c =
    let m = c.args.self.now.state in
    subst CanBeAsked (sym (c.catalog-catalog.ensures ∙ ap (λ (e : Reserved). catalog_of e.state.kept) c.self.view_is))
    (c.lawful_policies_can_be_asked.ensures conditions m.kept truth_over_none c.holds_together.ensures.lawful.kept.lawful)

pub staged_on-requires-clause-after : goal.staged_on-requires-clause-after
staged_on-requires-clause-after c =
    let a = c.args in
    let m = a.self.now.state in
    let n = made_of a.outcome.now m in
    let lawful = c.steps_hold.ensures.lawful m n a.client a.ask.now a.stamp.0 a.outcome.now.reply (logged_by a.outcome.now) c.holds_together.ensures.lawful c.requires.seated c.requires.stamp c.asks_are_text.ensures c.requires.client c.requires.step in
    subst CanBeAsked
    (catalog_made c.catalogues_change_by_their_parts.ensures a.outcome.now m
    ∙ ap₂ (catalog_after_all conditions.tree) (sym c.behind-changes.ensures) (sym (c.catalog-catalog.ensures ∙ ap (λ (e : Reserved). catalog_of e.state.kept) c.self.view_is)))
    (c.lawful_policies_can_be_asked.ensures conditions n.kept truth_over_none lawful.kept.lawful)

pub returns-clause-leads : goal.returns-clause-leads
returns-clause-leads c =
    let a = c.args in
    let m = a.self.now.state in
    let same = c.catalog-catalog.ensures ∙ ap (λ (e : Reserved). catalog_of e.state.kept) c.self.view_is in
    ready_between _ _ _ _ _ same
    (ap₂ (catalog_after_all conditions.tree) c.behind-changes.ensures same ∙ sym (catalog_made c.catalogues_change_by_their_parts.ensures a.outcome.now m))
    c.staged_on.ensures.staged

pub returns-clause-follows : goal.returns-clause-follows
returns-clause-follows c = index_ready _ _ _ c.behind-changes.ensures c.staged_on.ensures.one c.staged_on.ensures.others
