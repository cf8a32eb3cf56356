use Rattle.std.proofs.Common.{◌≡◌, ◌∙◌, ◌++◌, List, ap, arith, refl, sym, subst}
use Rattle.std.specs.Prelude.{IfOk}
use Rattle.au_base.specs.declared.numbers.ClientNo.{ClientNo}
use Rattle.au_entries.specs.declared.kept.Kept.{Kept}
use Rattle.au_entries.specs.declared.trail_record.Record.{Record}
use Rattle.au_entries.specs.Frames.{trail_left}
use Rattle.au_image.specs.declared.told.Told.{Told}
use Rattle.au_image.specs.Image.{IsWritable, image_of}
use Rattle.au_replay.specs.Reading.{conditions}
use Rattle.au_engine.specs.Imaging.{seen_told}
use Rattle.au_engine.specs.Prepared.{after, commits_of}
use Rattle.au_engine.specs.Reserved.{contents_of}
use Rattle.au_engine.proofs.Untold.{committed_after, kept_writable, told_changed}
use Rattle.au_engine.proofs.engine.Engine.image_after.Goals as goal
use Rattle.rec_codec.specs.Frames.{IsSpellable, framed}

pub image_seen-requires : goal.image_seen-requires
image_seen-requires c =
    let e = c.args.self.now in
    let p = c.args.prepared.now in
    let next = (after p e.state).kept in
    let events : Told = record { trail = c.trail.result; purge = p.purge; records = c.as_slice.result; last = p.last } in
    let is = ap (λ (t : List Record). trail_left p.purge t ++ c.as_slice.result.now) c.trail.ensures ∙ ap (λ (r : List Record). trail_left p.purge e.state.kept.trail ++ r) c.as_slice.ensures in
    let same = ap (λ (client : ClientNo). seen_told client events (contents_of e)) c.committing.ensures
    ∙ committed_after c.rows_are_triples.ensures.forth conditions.tree e (commits_of p.sessions) events p.last p.purge p.changes p.records p.finals
    c.holds_together.ensures.together.desk_is.quiet c.holds_together.ensures.open_to (omega (arith, c.if-prepared-len.true, c.len.ensures)) refl is in
    subst IsWritable (sym same) (kept_writable conditions next c.requires.fits.lawful.kept)

pub returns-then-prepared-len-clause-bytes : goal.returns-then-prepared-len-clause-bytes
returns-then-prepared-len-clause-bytes c =
    let e = c.args.self.now in
    let p = c.args.prepared.now in
    let next = (after p e.state).kept in
    let events : Told = record { trail = c.trail.result; purge = p.purge; records = c.as_slice.result; last = p.last } in
    let is = ap (λ (t : List Record). trail_left p.purge t ++ c.as_slice.result.now) c.trail.ensures ∙ ap (λ (r : List Record). trail_left p.purge e.state.kept.trail ++ r) c.as_slice.ensures in
    let same = ap (λ (client : ClientNo). seen_told client events (contents_of e)) c.committing.ensures
    ∙ committed_after c.rows_are_triples.ensures.forth conditions.tree e (commits_of p.sessions) events p.last p.purge p.changes p.records p.finals
    c.holds_together.ensures.together.desk_is.quiet c.holds_together.ensures.open_to (omega (arith, c.if-prepared-len.true, c.len.ensures)) refl is in
    subst (λ (k : Kept). IfOk c.image_seen.result (λ bytes. bytes.items ≡ framed (image_of k))) same c.image_seen.ensures.bytes

pub returns-then-prepared-len-clause-spellable : goal.returns-then-prepared-len-clause-spellable
returns-then-prepared-len-clause-spellable c =
    let e = c.args.self.now in
    let p = c.args.prepared.now in
    let next = (after p e.state).kept in
    let events : Told = record { trail = c.trail.result; purge = p.purge; records = c.as_slice.result; last = p.last } in
    let is = ap (λ (t : List Record). trail_left p.purge t ++ c.as_slice.result.now) c.trail.ensures ∙ ap (λ (r : List Record). trail_left p.purge e.state.kept.trail ++ r) c.as_slice.ensures in
    let same = ap (λ (client : ClientNo). seen_told client events (contents_of e)) c.committing.ensures
    ∙ committed_after c.rows_are_triples.ensures.forth conditions.tree e (commits_of p.sessions) events p.last p.purge p.changes p.records p.finals
    c.holds_together.ensures.together.desk_is.quiet c.holds_together.ensures.open_to (omega (arith, c.if-prepared-len.true, c.len.ensures)) refl is in
    subst (λ (k : Kept). IfOk c.image_seen.result (λ bytes. IsSpellable (image_of k))) same c.image_seen.ensures.spellable

pub image_told-image-requires : goal.image_told-image-requires
image_told-image-requires c =
    let e = c.args.self.now in
    let p = c.args.prepared.now in
    let next = (after p e.state).kept in
    let events : Told = record { trail = c.trail.result; purge = p.purge; records = c.as_slice.result; last = p.last } in
    let is = ap (λ (t : List Record). trail_left p.purge t ++ c.as_slice.result.now) c.trail.ensures ∙ ap (λ (r : List Record). trail_left p.purge e.state.kept.trail ++ r) c.as_slice.ensures in
    let same = told_changed conditions.tree e.state.kept c.in_ok-changed.changed.state.kept next p.last p.purge p.changes p.records _ c.in_ok-changed.ensures c.requires.fits.leaves is in
    subst IsWritable (sym same) (kept_writable conditions next c.requires.fits.lawful.kept)

pub returns-in_ok-changed-clause-bytes : goal.returns-in_ok-changed-clause-bytes
returns-in_ok-changed-clause-bytes c =
    let e = c.args.self.now in
    let p = c.args.prepared.now in
    let next = (after p e.state).kept in
    let events : Told = record { trail = c.trail.result; purge = p.purge; records = c.as_slice.result; last = p.last } in
    let is = ap (λ (t : List Record). trail_left p.purge t ++ c.as_slice.result.now) c.trail.ensures ∙ ap (λ (r : List Record). trail_left p.purge e.state.kept.trail ++ r) c.as_slice.ensures in
    let same = told_changed conditions.tree e.state.kept c.in_ok-changed.changed.state.kept next p.last p.purge p.changes p.records _ c.in_ok-changed.ensures c.requires.fits.leaves is in
    subst (λ (k : Kept). IfOk c.image_told-image.result (λ bytes. bytes.items ≡ framed (image_of k))) same c.image_told-image.ensures.bytes

pub returns-in_ok-changed-clause-spellable : goal.returns-in_ok-changed-clause-spellable
returns-in_ok-changed-clause-spellable c =
    let e = c.args.self.now in
    let p = c.args.prepared.now in
    let next = (after p e.state).kept in
    let events : Told = record { trail = c.trail.result; purge = p.purge; records = c.as_slice.result; last = p.last } in
    let is = ap (λ (t : List Record). trail_left p.purge t ++ c.as_slice.result.now) c.trail.ensures ∙ ap (λ (r : List Record). trail_left p.purge e.state.kept.trail ++ r) c.as_slice.ensures in
    let same = told_changed conditions.tree e.state.kept c.in_ok-changed.changed.state.kept next p.last p.purge p.changes p.records _ c.in_ok-changed.ensures c.requires.fits.leaves is in
    subst (λ (k : Kept). IfOk c.image_told-image.result (λ bytes. IsSpellable (image_of k))) same c.image_told-image.ensures.spellable
