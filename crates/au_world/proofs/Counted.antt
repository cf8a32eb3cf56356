-- A COUNT without WHERE looks at the numbers of rows alone.
use Rattle.std.proofs.Common.{◌≡◌, ◌∙◌, ◌∷◌, [], ℕ, ◌+◌, Bool, true, false, cond, nat_lt, List, map, length, filter, refl, sym, ap, subst}
use Rattle.std.specs.Prelude.{None}
use Rattle.std.specs.Option.{option_to_list}
use Rattle.std.specs.List.{AllByRecursion, enumerate_from}
use Rattle.std.proofs.lemmas.List.{length-map}
use Rattle.au_audit.specs.TrailRows.{as_row}
use Rattle.au_base.specs.declared.table.Column.{Column}
use Rattle.au_base.specs.declared.table.TableName.{TableName}
use Rattle.au_base.specs.Cells.{IsSoundCell}
use Rattle.au_base.specs.Codes.{TOO_MANY_COMBINATIONS}
use Rattle.au_base.specs.Limits.{COMBINATIONS}
use Rattle.au_base.specs.Sameness.{same_table}
use Rattle.au_entries.specs.declared.trail_record.Record.{Record}
use Rattle.au_expr.specs.declared.placed.Placed.{Placed}
use Rattle.au_expr.specs.Names.{or_code}
use Rattle.au_expr.specs.Resolving.{placed}
use Rattle.au_expr.specs.Rows.{Range}
use Rattle.au_expr.specs.Sessions.{Session}
use Rattle.au_query.specs.declared.selected.Selected.{Selected}
use Rattle.au_query.specs.Answers.{Comes, is_named}
use Rattle.au_query.specs.Combos.{IsSoundLine, Line}
use Rattle.au_query.specs.Counts.{condition_of, count_refusal, numbers_of, passing_rows, tally_refusal, tally_reply, where_refusal}
use Rattle.au_query.specs.Refusals.{where_broken}
use Rattle.au_world.specs.BuiltInTables.{numbered, numbered_row}
use Rattle.au_world.specs.Selecting.{IsCountedFrom, IsTally, Seen, named_over}
use Rattle.au_world.proofs.Cells.{numbered_sound}
use Rattle.au_world.proofs.Answered.{comes}
use Rattle.sql_ast.specs.declared.query.Count.{Count}

-- all rows pass where there is no condition
all_pass : (session : Session) (rows : List Line) → passing_rows session [] rows ≡ rows
all_pass session [] = refl
all_pass session (row ∷ rows) = ap (λ rest. row ∷ rest) (all_pass session rows)

no_condition : (range : Range) (count : Count) → count.condition ≡ None → condition_of range count ≡ []
no_condition range count is = ap (λ condition. map (placed (range ∷ [])) (option_to_list condition)) is

-- the numbers of numbered rows don't ask for their cells
numbers_at : (n : ℕ) (records : List Record) → numbers_of (map numbered_row (enumerate_from n (map (λ (entry : Record). []) records))) ≡ numbers_of (map numbered_row (enumerate_from n (map as_row records)))
numbers_at n [] = refl
numbers_at n (entry ∷ records) = ap (λ rest. (numbered_row (n, [])).0 ∷ rest) (numbers_at (n + 1) records)

pub numbers_alike : (records : List Record) → numbers_of (numbered (map (λ (entry : Record). []) records)) ≡ numbers_of (numbered (map as_row records))
numbers_alike records = numbers_at 1 records

lengths : (one other : List Line) → numbers_of one ≡ numbers_of other → length one ≡ length other
lengths one other alike = sym (length-map one (λ (line : Line). line.0)) ∙ ap length alike ∙ length-map other (λ (line : Line). line.0)

tally_refusals : (session : Session) (one other : List Line) → numbers_of one ≡ numbers_of other → tally_refusal session [] one ≡ tally_refusal session [] other
tally_refusals session one other alike = ap (λ n. or_code (where_broken (nat_lt COMBINATIONS n) TOO_MANY_COMBINATIONS) None) (lengths one other alike)

refusals : (session : Session) (range : Range) (one other : List Line) (count : Count) → count.condition ≡ None → numbers_of one ≡ numbers_of other
    → count_refusal session range one count ≡ count_refusal session range other count
refusals session range one other count is alike =
    ap (λ refusal. or_code (where_refusal (range ∷ []) count) refusal)
    (ap (λ conditions. tally_refusal session conditions one) (no_condition range count is)
    ∙ tally_refusals session one other alike
    ∙ sym (ap (λ conditions. tally_refusal session conditions other) (no_condition range count is)))

places_at : (b : Bool) (table : TableName) (one other : List Line)
    → map (λ (p : ℕ × Seen). p.0) (cond b ((0, (table, one)) ∷ []) []) ≡ map (λ (p : ℕ × Seen). p.0) (cond b ((0, (table, other)) ∷ []) [])
places_at true table one other = refl
places_at false table one other = refl

pub named_alike : (trees : List Placed) (range : Range) (table : TableName) (one other : List Line)
    → named_over trees (range ∷ []) ((table, one) ∷ []) ≡ named_over trees (range ∷ []) ((table, other) ∷ [])
named_alike trees range table one other =
    ap (λ (places : List ℕ). (table, map (λ (column : ℕ × Column). column.1.name) (filter (is_named trees places) (enumerate_from 0 range.1))) ∷ [])
    (places_at (same_table table table) table one other)

tallies : (session : Session) (range : Range) (table : TableName) (one other : List Line) (selected : Selected) → numbers_of one ≡ numbers_of other
    → IsTally session range (table, one) [] selected → IsTally session range (table, other) [] selected
tallies session range table one other selected alike tally =
    let same = ap numbers_of (all_pass session one) ∙ alike ∙ sym (ap numbers_of (all_pass session other)) in
    record {
      code = tally.code;
      reply = tally.reply ∙ ap tally_reply (lengths (passing_rows session [] one) (passing_rows session [] other) same);
      touched = tally.touched ∙ ap (λ numbers. (table, numbers) ∷ []) same;
      named = tally.named ∙ named_alike [] range table one other;
    }

pub counted_alike : (session : Session) (range : Range) (table : TableName) (one other : List Line) (count : Count) (selected : Selected)
    → count.condition ≡ None → numbers_of one ≡ numbers_of other
    → IsCountedFrom session range (table, one) count selected → IsCountedFrom session range (table, other) count selected
unfolding IsCountedFrom
counted_alike session range table one other count selected is alike counted =
    subst (λ refusal. Comes refusal (IsTally session range (table, other) (condition_of range count)) selected) (refusals session range one other count is alike)
    (comes (count_refusal session range one count) (IsTally session range (table, one) (condition_of range count)) (IsTally session range (table, other) (condition_of range count)) selected
    (λ tally. subst (λ conditions. IsTally session range (table, other) conditions selected) (sym (no_condition range count is))
    (tallies session range table one other selected alike (subst (λ conditions. IsTally session range (table, one) conditions selected) (no_condition range count is) tally))) counted)

-- rows without cells are sound
no_cells : (records : List Record) → AllByRecursion (AllByRecursion IsSoundCell) (map (λ (entry : Record). []) records)
no_cells [] = tt
no_cells (entry ∷ records) = (tt, no_cells records)

pub bare_sound : (records : List Record) → AllByRecursion IsSoundLine (numbered (map (λ (entry : Record). []) records))
bare_sound records = numbered_sound 1 (map (λ (entry : Record). []) records) (no_cells records)
