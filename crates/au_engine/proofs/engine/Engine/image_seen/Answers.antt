use Rattle.std.proofs.Common.{◌≡◌, ◌∙◌, ap, sym, subst}
use Rattle.std.specs.Prelude.{IfOk}
use Rattle.au_catalog.specs.Settling.{catalog_of}
use Rattle.au_entries.specs.declared.kept.Kept.{Kept}
use Rattle.au_image.specs.Image.{IsWritable, image_of}
use Rattle.au_kept.specs.Keeping.{desk_of}
use Rattle.au_engine.specs.Reserved.{Reserved, contents_of}
use Rattle.au_engine.proofs.Untold.{kept_seen, tables_seen}
use Rattle.au_engine.proofs.engine.Engine.image_seen.Goals as goal
use Rattle.rec_codec.specs.Frames.{IsSpellable, framed}

pub image-requires-clause-writable : goal.image-requires-clause-writable
image-requires-clause-writable c =
    let same = kept_seen (contents_of c.args.self.now) c.catalog.result.now c.grants.result.now c.desk.result.now c.args.client c.args.events.now c.instance.result
    (c.catalog.ensures ∙ ap (λ (e : Reserved). catalog_of e.state.kept) c.self.view_is)
    (c.grants.ensures ∙ ap (λ (e : Reserved). e.state.kept.grants) c.self.view_is)
    (c.desk.ensures ∙ ap (λ (e : Reserved). desk_of (contents_of e)) c.self.view_is)
    (c.instance.ensures ∙ ap (λ (e : Reserved). e.state.kept.instance) c.self.view_is) in
    subst IsWritable (sym same) c.requires

pub image-requires-clause-desk : goal.image-requires-clause-desk
image-requires-clause-desk c =
    tables_seen (contents_of c.args.self.now) c.catalog.result.now c.desk.result.now
    (c.catalog.ensures ∙ ap (λ (e : Reserved). catalog_of e.state.kept) c.self.view_is)
    (c.desk.ensures ∙ ap (λ (e : Reserved). desk_of (contents_of e)) c.self.view_is)

pub returns-clause-bytes : goal.returns-clause-bytes
returns-clause-bytes c =
    let same = kept_seen (contents_of c.args.self.now) c.catalog.result.now c.grants.result.now c.desk.result.now c.args.client c.args.events.now c.instance.result
    (c.catalog.ensures ∙ ap (λ (e : Reserved). catalog_of e.state.kept) c.self.view_is)
    (c.grants.ensures ∙ ap (λ (e : Reserved). e.state.kept.grants) c.self.view_is)
    (c.desk.ensures ∙ ap (λ (e : Reserved). desk_of (contents_of e)) c.self.view_is)
    (c.instance.ensures ∙ ap (λ (e : Reserved). e.state.kept.instance) c.self.view_is) in
    subst (λ (k : Kept). IfOk c.image.result (λ bytes. bytes.items ≡ framed (image_of k))) same c.image.ensures.bytes

pub returns-clause-spellable : goal.returns-clause-spellable
returns-clause-spellable c =
    let same = kept_seen (contents_of c.args.self.now) c.catalog.result.now c.grants.result.now c.desk.result.now c.args.client c.args.events.now c.instance.result
    (c.catalog.ensures ∙ ap (λ (e : Reserved). catalog_of e.state.kept) c.self.view_is)
    (c.grants.ensures ∙ ap (λ (e : Reserved). e.state.kept.grants) c.self.view_is)
    (c.desk.ensures ∙ ap (λ (e : Reserved). desk_of (contents_of e)) c.self.view_is)
    (c.instance.ensures ∙ ap (λ (e : Reserved). e.state.kept.instance) c.self.view_is) in
    subst (λ (k : Kept). IfOk c.image.result (λ bytes. IsSpellable (image_of k))) same c.image.ensures.spellable
