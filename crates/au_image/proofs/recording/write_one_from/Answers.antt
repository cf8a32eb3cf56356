use Rattle.std.proofs.Common.{◌∙◌, List, [], subst, sym}
use Rattle.std.specs.Prelude.{OnOk}
use Rattle.std.specs.List.{AllByRecursion}
use Rattle.au_entries.specs.declared.trail_record.Record.{Record}
use Rattle.au_entries.specs.Frames.{is_from}
use Rattle.rec_codec.specs.Images.{Wrote}
use Rattle.rec_codec.specs.Records.{trail_record}
use Rattle.au_image.proofs.RecordPieces.{one_goes, one_left, one_stays}
use Rattle.au_image.proofs.recording.write_one_from.Goals as goal

pub push_record-requires-clause-left : goal.push_record-requires-clause-left
push_record-requires-clause-left c = one_left (is_from c.args.moment) c.args.entry.now _ (sym c.is_from.ensures ∙ c.if-is_from.true) c.requires.left

pub push_record-requires-clause-spellable : goal.push_record-requires-clause-spellable
push_record-requires-clause-spellable c =
    (subst (AllByRecursion trail_record.IsSpellable) (one_stays (is_from c.args.moment) c.args.entry.now (sym c.is_from.ensures ∙ c.if-is_from.true)) c.requires.spellable).0

pub returns-then-is_from : goal.returns-then-is_from
returns-then-is_from c =
    subst (λ (rs : List Record). OnOk c.push_record.result (Wrote c.args.writer.now c.push_record.new.self [] rs))
    (sym (one_stays (is_from c.args.moment) c.args.entry.now (sym c.is_from.ensures ∙ c.if-is_from.true)))
    c.push_record.ensures

pub returns : goal.returns
returns c =
    subst (λ (rs : List Record). Wrote c.args.writer.now c.args.writer.now [] rs)
    (sym (one_goes (is_from c.args.moment) c.args.entry.now (sym c.is_from.ensures ∙ c.if-is_from.false)))
    (c.writes_join.ensures.none _)
