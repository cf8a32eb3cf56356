use Rattle.std.proofs.Common.{◌≡◌, ◌∙◌, ℕ, Bool, List, ap, sym, subst}
use Rattle.std.specs.Prelude.{IfOk, Option, Some, None, if◌then◌else◌}
use Rattle.rec_codec.specs.Frames.{framed}
use Rattle.au_step.specs.Framing.{IsWritable, frame_by, framed_option}
use Rattle.au_engine.proofs.Events.{event_is}
use Rattle.au_engine.proofs.framing.with_frame.Goals as goal

pub with_bytes-requires : goal.with_bytes-requires
with_bytes-requires c =
    let o = c.args.outcome in
    let frame = frame_by o.purge c.args.stamp o.changes o.records in
    subst (λ (b : Bool). IsWritable (if b then None else Some frame)) (sym c.is_nothing.ensures ∙ c.if-is_nothing.false) (subst IsWritable (event_is c.args.stamp o) c.requires)

pub returns-then-is_nothing : goal.returns-then-is_nothing
returns-then-is_nothing c =
    let o = c.args.outcome in
    let frame = frame_by o.purge c.args.stamp o.changes o.records in
    c.without_frame.ensures ∙ ap (λ (bytes : Option (List ℕ)). record o { framed = bytes })
    (sym (ap framed_option (event_is c.args.stamp o ∙ ap (λ (b : Bool). if b then None else Some frame) (sym c.is_nothing.ensures ∙ c.if-is_nothing.true))))

pub returns : goal.returns
returns c =
    let o = c.args.outcome in
    let frame = frame_by o.purge c.args.stamp o.changes o.records in
    subst (λ (bytes : Option (List ℕ)). IfOk c.with_bytes.result (λ made. made ≡ record o { framed = bytes }))
    (sym (ap framed_option (event_is c.args.stamp o ∙ ap (λ (b : Bool). if b then None else Some frame) (sym c.is_nothing.ensures ∙ c.if-is_nothing.false)))) c.with_bytes.ensures
