-- A COUNT answers over a part of its table what it answers over the whole one.
use Rattle.std.proofs.Common.{◌≡◌, ◌∙◌, ◌≤◌, Bool, true, false, ◌&&◌, List, [], ◌∷◌, length, nat_lt, refl, sym, ap, ap₂, subst, arith}
use Rattle.std.specs.List.{AllByRecursion}
use Rattle.std.proofs.lemmas.Bool.{and_parts}
use Rattle.au_base.specs.declared.table.TableName.{TableName}
use Rattle.au_base.specs.Codes.{OVERFLOW, TOO_MANY_COMBINATIONS}
use Rattle.au_base.specs.Limits.{COMBINATIONS}
use Rattle.au_expr.specs.declared.placed.Placed.{Placed}
use Rattle.au_expr.specs.Names.{first, or_code}
use Rattle.au_expr.specs.Rows.{Range}
use Rattle.au_expr.specs.Sessions.{Session}
use Rattle.au_query.specs.declared.selected.Selected.{Selected}
use Rattle.au_query.specs.Combos.{IsSoundLine, Line, overflows, passes}
use Rattle.au_query.specs.Counts.{condition_of, count_refusal, numbers_of, passing_rows, tally_refusal, tally_reply, where_refusal}
use Rattle.au_query.specs.Answers.{Comes}
use Rattle.au_query.specs.Fixed.{NeverOverflows}
use Rattle.au_query.specs.Refusals.{where_broken}
use Rattle.sql_ast.specs.declared.query.Count.{Count}
use Rattle.au_world.specs.Cutting.{IsCut}
use Rattle.au_world.specs.Selecting.{IsCountedFrom, IsTally, Seen, named_over}
use Rattle.au_world.proofs.Answered.{comes}
use Rattle.au_world.proofs.Counted.{named_alike}
use Rattle.au_world.proofs.CutAnswers.{left_alone, not_more}
use Rattle.au_world.proofs.Products.{filter_few}

module _ (session : Session) (conditions : List Placed) (names : List TableName) (whole part : Seen) (cut : IsCut session conditions names 0 whole part) where
  pub same_passing : passing_rows session conditions part.1 ≡ passing_rows session conditions whole.1
  same_passing =
      ap (passing_rows session conditions) cut.rows
      ∙ left_alone (λ (line : Line). passes session conditions (line ∷ [])) (λ (line : Line). cut.keeps line.0) whole.1 (λ line has holds. cut.passing (line ∷ []) line holds refl has)

  same_named : (range : Range) → named_over conditions (range ∷ []) (part ∷ []) ≡ named_over conditions (range ∷ []) (whole ∷ [])
  same_named range =
      ap (λ (name : TableName). named_over conditions (range ∷ []) ((name, part.1) ∷ [])) cut.table ∙ named_alike conditions range whole.0 part.1 whole.1

  same_tally : (range : Range) (selected : Selected) → IsTally session range part conditions selected → IsTally session range whole conditions selected
  same_tally range selected tally = record {
    code = tally.code;
    reply = tally.reply ∙ ap (λ (rows : List Line). tally_reply (length rows)) same_passing;
    touched = tally.touched ∙ ap₂ (λ (name : TableName) (rows : List Line). (name, numbers_of rows) ∷ []) cut.table same_passing;
    named = tally.named ∙ same_named range;
  }

  few_rows : (rows : List Line) → length rows ≤ COMBINATIONS → where_broken (nat_lt COMBINATIONS (length rows)) TOO_MANY_COMBINATIONS ≡ where_broken false TOO_MANY_COMBINATIONS
  few_rows rows few = ap (λ b. where_broken b TOO_MANY_COMBINATIONS) (not_more COMBINATIONS (length rows) few)

  no_refusal : NeverOverflows session conditions → (rows : List Line) → length rows ≤ COMBINATIONS → AllByRecursion IsSoundLine rows
      → tally_refusal session conditions rows ≡ first (where_broken false TOO_MANY_COMBINATIONS ∷ where_broken false OVERFLOW ∷ [])
  no_refusal never rows few sound =
      ap₂ (λ a b. first (a ∷ b ∷ [])) (few_rows rows few) (ap (λ b. where_broken b OVERFLOW) (never (rows ∷ []) (sound, tt)))

  part_few : length whole.1 ≤ COMBINATIONS → length part.1 ≤ COMBINATIONS
  part_few few =
      let fewer = filter_few (λ (line : Line). cut.keeps line.0) whole.1 in
      let long = ap length cut.rows in
      omega (arith, few, fewer, long)

pub counts_alike : (session : Session) (range : Range) (names : List TableName) (whole part : Seen) (count : Count) (selected : Selected)
    → IsCut session (condition_of range count) names 0 whole part → length whole.1 ≤ COMBINATIONS → NeverOverflows session (condition_of range count)
    → AllByRecursion IsSoundLine whole.1 → AllByRecursion IsSoundLine part.1
    → IsCountedFrom session range part count selected → IsCountedFrom session range whole count selected
unfolding IsCountedFrom
counts_alike session range names whole part count selected cut few never sound sound_part is =
    let conditions = condition_of range count in
    let refusal = ap (or_code (where_refusal (range ∷ []) count))
    (no_refusal session conditions names whole part cut never part.1 (part_few session conditions names whole part cut few) sound_part
    ∙ sym (no_refusal session conditions names whole part cut never whole.1 few sound)) in
    subst (λ refused. Comes refused (IsTally session range whole conditions) selected) refusal
    (comes (count_refusal session range part.1 count) (IsTally session range part conditions) (IsTally session range whole conditions) selected (same_tally session conditions names whole part cut range selected) is)
