use Rattle.std.proofs.Common.{◌≡◌, ◌∙◌, ◌≤◌, List, [], ap, subst, sym, arith}
use Rattle.std.specs.Prelude.{◌↔◌, IfOk, IsTrue}
use Rattle.au_base.specs.Limits.{LAST_MOMENT}
use Rattle.au_entries.specs.Changing.{KeptRow, changed_all}
use Rattle.au_image.specs.Image.{kept_of, kept_rows}
use Rattle.au_kept.specs.Keeping.{Contents}
use Rattle.au_kept.specs.Sound.{IsKept}
use Rattle.au_kept.specs.descent.Laying.{IsAlone, kept_seen}
use Rattle.au_kept.proofs.Replayed.{IsGood, after_told, good_told, laid_holds}
use Rattle.au_kept.proofs.Rowed.{kept_restamped}
use Rattle.au_kept.proofs.RowsLaid.{seen_bare}
use Rattle.au_kept.proofs.Written.{nothing_laid}
use Rattle.au_replay.specs.Reading.{conditions}
use Rattle.au_txn.specs.Logs.{changes_of}
use Rattle.au_kept.proofs.keeping.Keeping.lay_rows.Goals as goal

pub replay_on-requires-clause-alone : goal.replay_on-requires-clause-alone
replay_on-requires-clause-alone c = λ client. ap (λ (s : Contents). changes_of client s.logs) c.self.view_is ∙ c.requires.alone client

pub replay_on-requires-clause-bare : goal.replay_on-requires-clause-bare
replay_on-requires-clause-bare c = nothing_laid _ c.self.inside.desk c.self.invariant

pub replay_on-requires-clause-kept : goal.replay_on-requires-clause-kept
replay_on-requires-clause-kept c =
    let alone : IsAlone c.self.inside.desk = λ client. ap (λ (s : Contents). changes_of client s.logs) c.self.view_is ∙ c.requires.alone client in
    let early : 0 ≤ LAST_MOMENT = omega arith in
    subst (λ (rows : List KeptRow). IsKept conditions (kept_of c.self.inside.catalog c.self.inside.grants rows [] (record { 0 = 0 }) c.self.inside.instance))
    (sym (seen_bare c.self.inside.desk (nothing_laid _ c.self.inside.desk c.self.invariant) alone))
    (kept_restamped conditions _ [] (record { 0 = 0 }) early tt c.self.invariant.kept_is)

pub invariant_of-self : goal.invariant_of-self
invariant_of-self c =
    laid_holds c.self.inside.catalog c.self.inside.grants c.self.inside.trail.items c.self.inside.last c.self.inside.instance c.self.inside.desk c.replay_on.new.desk c.self.invariant
    c.replay_on.ensures.tables c.replay_on.ensures.alone c.replay_on.ensures.bare c.replay_on.ensures.keyed c.replay_on.ensures.kept

pub returns-clause-goes : goal.returns-clause-goes
returns-clause-goes c =
    let alone : IsAlone c.self.inside.desk = λ client. ap (λ (s : Contents). changes_of client s.logs) c.self.view_is ∙ c.requires.alone client in
    rw (← c.self.view_is)
    (good_told (kept_of c.self.inside.catalog c.self.inside.grants (kept_rows c.self.inside.desk) [] (record { 0 = 0 }) c.self.inside.instance) c.args.changes.now c.self.inside.trail.items c.self.inside.last c.requires.rows c.replay_on.result
    (subst (λ (rows : List KeptRow). IfOk c.replay_on.result (λ goes. IsTrue goes ↔ IsGood (kept_of c.self.inside.catalog c.self.inside.grants rows [] (record { 0 = 0 }) c.self.inside.instance) c.args.changes.now))
    (seen_bare c.self.inside.desk (nothing_laid _ c.self.inside.desk c.self.invariant) alone) c.replay_on.ensures.goes))

pub returns-clause-after : goal.returns-clause-after
returns-clause-after c =
    let alone : IsAlone c.self.inside.desk = λ client. ap (λ (s : Contents). changes_of client s.logs) c.self.view_is ∙ c.requires.alone client in
    let bare = nothing_laid _ c.self.inside.desk c.self.invariant in
    rw (← c.self.view_is)
    (after_told (kept_of c.self.inside.catalog c.self.inside.grants (kept_rows c.self.inside.desk) [] (record { 0 = 0 }) c.self.inside.instance)
    (kept_of c.self.inside.catalog c.self.inside.grants (kept_rows c.replay_on.new.desk) [] (record { 0 = 0 }) c.self.inside.instance)
    c.args.changes.now c.self.inside.trail.items c.self.inside.last c.replay_on.result
    (subst (λ (rows : List KeptRow). IfOk c.replay_on.result (λ goes. IsTrue goes → kept_of c.self.inside.catalog c.self.inside.grants rows [] (record { 0 = 0 }) c.self.inside.instance
    ≡ changed_all conditions.tree c.args.changes.now (kept_of c.self.inside.catalog c.self.inside.grants (kept_rows c.self.inside.desk) [] (record { 0 = 0 }) c.self.inside.instance)))
    (seen_bare c.replay_on.new.desk c.replay_on.ensures.bare c.replay_on.ensures.alone)
    (subst (λ (rows : List KeptRow). IfOk c.replay_on.result (λ goes. IsTrue goes → kept_seen c.self.inside.catalog c.self.inside.grants c.replay_on.new.desk c.self.inside.instance
    ≡ changed_all conditions.tree c.args.changes.now (kept_of c.self.inside.catalog c.self.inside.grants rows [] (record { 0 = 0 }) c.self.inside.instance)))
    (seen_bare c.self.inside.desk bare alone) c.replay_on.ensures.after)))
