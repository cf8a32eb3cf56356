use Rattle.std.proofs.Common.{◌≡◌, sym, subst}
use Rattle.std.specs.Prelude.{IfOk}
use Rattle.au_entries.specs.declared.kept.Kept.{Kept}
use Rattle.au_image.specs.Image.{IsWritable, image_of}
use Rattle.au_engine.specs.Reserved.{contents_of}
use Rattle.au_engine.proofs.Untold.{quiet_seen}
use Rattle.au_engine.proofs.engine.Engine.image_told.Goals as goal
use Rattle.rec_codec.specs.Frames.{IsSpellable, framed}

pub image_seen-requires : goal.image_seen-requires
image_seen-requires c =
    let same = quiet_seen c.rows_are_triples.ensures.forth (contents_of c.args.self.now) c.args.events.now c.holds_together.ensures.together.desk_is.quiet in
    subst IsWritable (sym same) c.requires

pub returns-clause-bytes : goal.returns-clause-bytes
returns-clause-bytes c =
    let same = quiet_seen c.rows_are_triples.ensures.forth (contents_of c.args.self.now) c.args.events.now c.holds_together.ensures.together.desk_is.quiet in
    subst (λ (k : Kept). IfOk c.image_seen.result (λ bytes. bytes.items ≡ framed (image_of k))) same c.image_seen.ensures.bytes

pub returns-clause-spellable : goal.returns-clause-spellable
returns-clause-spellable c =
    let same = quiet_seen c.rows_are_triples.ensures.forth (contents_of c.args.self.now) c.args.events.now c.holds_together.ensures.together.desk_is.quiet in
    subst (λ (k : Kept). IfOk c.image_seen.result (λ bytes. IsSpellable (image_of k))) same c.image_seen.ensures.spellable
