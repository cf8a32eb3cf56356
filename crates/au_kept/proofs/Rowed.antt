-- Changes that are all of rows.
use Rattle.std.proofs.Common.{◌≡◌, ℕ, ◌≤◌, Bool, List, [], ◌∷◌, refl, sym, subst}
use Rattle.std.specs.Prelude.{false}
use Rattle.std.specs.List.{AllByRecursion}
use Rattle.au_base.specs.BuiltIn.{sys}
use Rattle.au_base.specs.Limits.{LAST_MOMENT}
use Rattle.au_base.specs.declared.numbers.Stamp.{Stamp}
use Rattle.au_entries.specs.declared.change.Change.{Change}
use Rattle.au_entries.specs.declared.change.Change.TheVariants as change
use Rattle.au_entries.specs.declared.kept.Kept.{Kept}
use Rattle.au_entries.specs.declared.trail_record.Record.{Record}
use Rattle.au_entries.specs.Changing.{changed, changed_all}
use Rattle.au_entries.specs.Lawful.{IsWhole}
use Rattle.au_entries.specs.Replaying.{AllGoOn, Conditions, has_user}
use Rattle.au_kept.specs.Sound.{IsKept}
use Rattle.au_kept.specs.Staging.{IsOfRow}
use Rattle.au_kept.proofs.Settled.{StaysLawful, restamped, whole_still}
use Rattle.au_kept.proofs.Spelled.{all_spelled, from_parts, to_parts}
use Rattle.rec_codec.specs.Changes.{IsChangeSpellable}
use Rattle.rec_codec.specs.Records.{trail_record}
use Rattle.sql_ast.specs.declared.expression.Expr.{Expr}

-- users stay
pub users_same : (tree : List ℕ → Expr) (changes : List Change) (kept : Kept) → AllByRecursion IsOfRow changes → has_user (changed_all tree changes kept) sys ≡ has_user kept sys
users_same tree [] kept rows = refl
users_same tree (change.Put table number cells ∷ changes) kept rows = users_same tree changes (changed tree (change.Put table number cells) kept) rows.1
users_same tree (change.Gone table number ∷ changes) kept rows = users_same tree changes (changed tree (change.Gone table number) kept) rows.1
users_same tree (_ ∷ changes) kept rows = absurd rows.0

-- no change touches the trail or the last stamp
pub trail_same : (tree : List ℕ → Expr) (changes : List Change) (kept : Kept) → (changed_all tree changes kept).trail ≡ kept.trail
trail_same tree [] kept = refl
trail_same tree (c ∷ changes) kept = trail_same tree changes (changed tree c kept)

pub changed_still : (tree : List ℕ → Expr) (changes : List Change) (kept : Kept) (trail : List Record) (last : Stamp)
    → changed_all tree changes (record kept { trail = trail; last = last }) ≡ record (changed_all tree changes kept) { trail = trail; last = last }
changed_still tree [] kept trail last = refl
changed_still tree (c ∷ changes) kept trail last = changed_still tree changes (changed tree c kept) trail last

-- and changes of rows ask for neither
pub goes_to : (conditions : Conditions) (image : Bool) (changes : List Change) (kept : Kept) (trail : List Record) (last : Stamp) → AllByRecursion IsOfRow changes
    → AllGoOn conditions image kept changes → AllGoOn conditions image (record kept { trail = trail; last = last }) changes
goes_to conditions image [] kept trail last rows goes = tt
goes_to conditions image (change.Put table number cells ∷ changes) kept trail last rows goes =
    (goes.0, goes_to conditions image changes (changed conditions.tree (change.Put table number cells) kept) trail last rows.1 goes.1)
goes_to conditions image (change.Gone table number ∷ changes) kept trail last rows goes =
    (goes.0, goes_to conditions image changes (changed conditions.tree (change.Gone table number) kept) trail last rows.1 goes.1)
goes_to conditions image (_ ∷ changes) kept trail last rows goes = absurd rows.0

-- what is kept can have another trail and another last stamp
pub kept_restamped : (conditions : Conditions) (kept : Kept) (trail : List Record) (last : Stamp) → last.0 ≤ LAST_MOMENT → AllByRecursion trail_record.IsSpellable trail → IsKept conditions kept
    → IsKept conditions (record kept { trail = trail; last = last })
kept_restamped conditions kept trail last moment told h = record {
  lawful = restamped conditions kept trail last moment h.lawful;
  whole = whole_still kept trail last h.whole;
  spelled = record { entries = h.spelled.entries; records = told };
}

-- what is kept after changes that go on and leave it whole
pub changed_kept : StaysLawful → (conditions : Conditions) (changes : List Change) (kept : Kept) → AllByRecursion IsChangeSpellable changes → IsKept conditions kept
    → AllGoOn conditions false kept changes → IsWhole (changed_all conditions.tree changes kept) → IsKept conditions (changed_all conditions.tree changes kept)
changed_kept lawful conditions changes kept spelled h goes whole = record {
  lawful = lawful conditions false kept changes h.lawful goes;
  whole = whole;
  spelled = record {
    entries = from_parts _ (all_spelled conditions.tree changes kept spelled (to_parts kept h.spelled.entries));
    records = subst (λ (trail : List Record). AllByRecursion trail_record.IsSpellable trail) (sym (trail_same conditions.tree changes kept)) h.spelled.records;
  };
}
