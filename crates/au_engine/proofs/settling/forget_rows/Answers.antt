use Rattle.std.proofs.Common.{◌≡◌, ◌∙◌, List, [], ap}
use Rattle.au_entries.specs.declared.change.Change.{Change}
use Rattle.au_entries.specs.declared.kept.Kept.{Kept}
use Rattle.au_entries.specs.Frames.{after_parts}
use Rattle.au_replay.specs.Reading.{conditions}
use Rattle.au_engine.proofs.Settled.{none_some, still_kept}
use Rattle.au_engine.proofs.settling.forget_rows.Goals as goal

pub keep-requires : goal.keep-requires
keep-requires c =
    let k = still_kept (λ (cs : List Change). cs ≡ []) c.args.keeping.now c.forget.new.keeping c.args.kept c.requires.keep (λ cs is. is) c.forget.ensures.kept c.forget.ensures.room in
    record { fits = k.fits; room = k.room; can = (k.changes, k.staged, k.settles) }

pub returns-clause-kept : goal.returns-clause-kept
returns-clause-kept c = λ changes logged staged is.
    c.keep.ensures.kept changes logged staged is
    ∙ ap (λ (k : Kept). after_parts conditions.tree c.args.kept.last c.args.kept.purge logged c.args.kept.records.items k) c.forget.ensures.kept

pub returns-clause-lists : goal.returns-clause-lists
returns-clause-lists c = λ q. c.keep.ensures.others q (none_some q) ∙ c.forget.ensures.lists q
