-- A client's changes can be committed.
use Rattle.std.proofs.Common.{◌≡◌, ◌∙◌, ◌≤◌, false, List, [], ◌∷◌, ◌++◌, length, map, refl, sym, ap, subst, arith}
use Rattle.std.specs.Prelude.{IsSome, IsTrue, Some}
use Rattle.std.specs.List.{AllByRecursion}
use Rattle.au_base.specs.Limits.{LAST_MOMENT, TABLE_ROW_NUMBERS, TRANSACTION_CHANGES}
use Rattle.au_base.specs.Order.{fields_before, is_in_order}
use Rattle.au_base.specs.declared.numbers.ClientNo.{ClientNo}
use Rattle.au_base.specs.declared.numbers.Stamp.{Stamp}
use Rattle.au_entries.specs.declared.change.Change.{Change}
use Rattle.au_entries.specs.declared.kept.Kept.{Kept}
use Rattle.au_entries.specs.declared.trail_record.Record.{Record}
use Rattle.au_entries.specs.Changing.{KeptRow, changed, changed_all}
use Rattle.au_entries.specs.Lawful.{IsWhole}
use Rattle.au_entries.specs.Replaying.{AllGoOn, Conditions}
use Rattle.au_kept.specs.Keeping.{Contents, HoldsTogether, desk_of}
use Rattle.au_kept.specs.Sound.{IsKept}
use Rattle.au_kept.specs.Staging.{CanSettle, IsFree, committed_for, final_change}
use Rattle.au_kept.proofs.CommitRows.{Commits, LaidLaws, finals_few, finals_go, finals_sound, finals_spelled, laid_whole}
use Rattle.au_kept.proofs.Lists.{all_joined, all_mapped}
use Rattle.au_kept.proofs.Numbers.{among_of}
use Rattle.au_kept.proofs.Rowed.{changed_kept}
use Rattle.au_kept.proofs.Settled.{Settles, StaysLawful, Triples, changed_joined, committed_by}
use Rattle.au_kept.proofs.Sounds.{laid_used}
use Rattle.au_replay.specs.Reading.{conditions}
use Rattle.au_txn.specs.declared.finals.Final.{Final}
use Rattle.au_txn.specs.Desks.{open_of}
use Rattle.au_txn.specs.Finals.{AreFinals}
use Rattle.au_txn.specs.Rows.{are_in_order, place_of, row_at}
use Rattle.au_txn.specs.Transactions.{IsNumber, laid_over}
use Rattle.rec_codec.specs.Changes.{IsChangeSpellable}
use Rattle.rec_codec.specs.Records.{trail_record}

-- the laws that a commit stands on
pub record CommitLaws : Type 0 where
  pub laid : LaidLaws
  pub triples : Triples
  pub settles : Settles
  pub lawful : StaysLawful

-- what holds of a keeping
abbrev Held : Contents → Type 0
Held contents = HoldsTogether contents.kept (desk_of contents)

-- what becomes of the client's rows
abbrev Become : Contents → ClientNo → List Final → Type 0
Become contents client finals = AreFinals (desk_of contents).rows (open_of (desk_of contents) client) finals

pub rows_rise : CommitLaws → (contents : Contents) → Held contents → IsTrue (are_in_order (desk_of contents).rows)
rows_rise laws contents h =
    sym (laws.laid.listed (desk_of contents).rows)
    ∙ ap (λ (rows : List KeptRow). is_in_order fields_before (map (λ (row : KeptRow). place_of row.0 row.1) rows)) (laws.triples.forth contents.kept.rows)
    ∙ h.kept_is.lawful.ordered.rows

commits : CommitLaws → (contents : Contents) (client : ClientNo) → Held contents → Commits contents.kept (desk_of contents).rows (open_of (desk_of contents) client)
commits laws contents client h = record {
  same = sym (laws.triples.forth contents.kept.rows);
  rising = rows_rise laws contents h;
  sound = h.changes.each client;
  keys = h.keyed.seen client;
  among = λ table. among_of TABLE_ROW_NUMBERS (IsNumber (desk_of contents).rows (open_of (desk_of contents)) table) (λ number. IsSome (row_at table number (laid_over (desk_of contents).rows (open_of (desk_of contents) client))))
      (λ number some. laid_used laws.laid.untouched (desk_of contents).rows (open_of (desk_of contents)) client table number some) (h.changes.few table);
}

pub spelled : CommitLaws → (contents : Contents) (client : ClientNo) (finals : List Final) → Held contents → Become contents client finals → AllByRecursion (λ (final : Final). IsChangeSpellable (final_change final)) finals
spelled laws contents client finals h are =
    finals_spelled contents.kept.tables finals
    (finals_sound laws.laid contents.kept.tables (desk_of contents).rows (open_of (desk_of contents) client) finals (h.changes.each client) are)

pub few : CommitLaws → (contents : Contents) (client : ClientNo) (finals : List Final) → Held contents → Become contents client finals → length finals ≤ TRANSACTION_CHANGES
few laws contents client finals h are =
    let fewer = finals_few laws.laid (desk_of contents).rows (open_of (desk_of contents) client) finals are in
    let short = h.changes.short client in
    omega (arith, fewer, short)

pub goes : CommitLaws → (contents : Contents) (client : ClientNo) (finals : List Final) → Held contents → Become contents client finals → AllGoOn conditions false contents.kept (map final_change finals)
goes laws contents client finals h are =
    finals_go laws.laid conditions contents.kept (desk_of contents).rows (open_of (desk_of contents) client) finals (sym (laws.triples.forth contents.kept.rows)) (h.changes.each client) are

pub left : CommitLaws → (contents : Contents) (client : ClientNo) (finals : List Final) → Held contents → Become contents client finals → changed_all conditions.tree (map final_change finals) contents.kept ≡ committed_for (Some client) contents
left laws contents client finals h are = committed_by laws.triples laws.settles conditions.tree client contents finals (rows_rise laws contents h) are

pub kept : CommitLaws → (contents : Contents) (client : ClientNo) (finals : List Final) → Held contents → Become contents client finals → IsKept conditions (committed_for (Some client) contents)
kept laws contents client finals h are =
    let is = left laws contents client finals h are in
    subst (IsKept conditions) is
    (changed_kept laws.lawful conditions (map final_change finals) contents.kept (all_mapped IsChangeSpellable final_change finals (spelled laws contents client finals h are)) h.kept_is
    (goes laws contents client finals h are)
    (subst IsWhole (sym is) (laid_whole laws.laid conditions contents.kept (desk_of contents).rows (open_of (desk_of contents) client) h.kept_is.lawful h.kept_is.whole (commits laws contents client h))))

go_joined : (given : Conditions) (a b : List Change) (kept : Kept) → AllGoOn given false kept a → AllGoOn given false (changed_all given.tree a kept) b → AllGoOn given false kept (a ++ b)
go_joined given [] b kept one two = two
go_joined given (c ∷ a) b kept one two = (one.0, go_joined given a b (changed given.tree c kept) one.1 two)

pub followed : CommitLaws → (contents : Contents) (client : ClientNo) (finals : List Final) (changes : List Change) (records : List Record) (last : Stamp) → Held contents → Become contents client finals
    → AllGoOn conditions false (committed_for (Some client) contents) changes → IsWhole (changed_all conditions.tree changes (committed_for (Some client) contents))
    → last.0 ≤ LAST_MOMENT → AllByRecursion IsChangeSpellable changes → AllByRecursion trail_record.IsSpellable records → AllByRecursion (IsFree (Some client) (desk_of contents)) changes
    → CanSettle contents (Some client) changes records last
followed laws contents client finals changes records last h are go_on whole moment written told free =
    let is = left laws contents client finals h are in
    record {
      logged = map final_change finals ++ changes;
      is_logged = (finals, are, refl);
      go_on = go_joined conditions (map final_change finals) changes contents.kept (goes laws contents client finals h are) (subst (λ (k : Kept). AllGoOn conditions false k changes) (sym is) go_on);
      whole = subst IsWhole (sym (changed_joined conditions.tree (map final_change finals) changes contents.kept ∙ ap (changed_all conditions.tree changes) is)) whole;
      moment = moment;
      spelled = all_joined IsChangeSpellable (map final_change finals) changes (all_mapped IsChangeSpellable final_change finals (spelled laws contents client finals h are)) written;
      told = told;
      settled = free;
    }

pub alone : CommitLaws → (contents : Contents) (client : ClientNo) (finals : List Final) (records : List Record) (last : Stamp) → Held contents → Become contents client finals → last.0 ≤ LAST_MOMENT
    → AllByRecursion trail_record.IsSpellable records → CanSettle contents (Some client) [] records last
alone laws contents client finals records last h are moment told =
    followed laws contents client finals [] records last h are tt (kept laws contents client finals h are).whole moment tt told tt
