-- What an UPDATE comes to behind its text.
use Rattle.std.proofs.Common.{◌≡◌, ◌∙◌, inr, ℕ, List, map, sym, ap, ap₂, subst}
use Rattle.std.specs.Prelude.{IfOk, Option, None, Some, Result, Ok, Err}
use Rattle.au_base.specs.declared.code.Code.{Code}
use Rattle.au_base.specs.declared.memory.Memory.{Memory}
use Rattle.au_base.specs.Codes.{LOCKED}
use Rattle.au_change.specs.declared.settings.Setting.{Setting}
use Rattle.au_change.specs.declared.updating.Asked.{Asked}
use Rattle.au_change.specs.Behind.{BehindChoice, BehindRows, IsAsked, sight_in}
use Rattle.au_change.specs.Inside.{AreSettings, change_of, line_code, source_of}
use Rattle.au_change.specs.Updating.{IsUpdate, row_code, row_update, rows_refusal, text_refusal, updates}
use Rattle.au_choose.specs.Choosing.{IsChoiceRefused, IsChosen, IsSomeLocked, choice_refusal, chosen_in, range_in}
use Rattle.au_expr.specs.Names.{first}
use Rattle.au_expr.specs.Rows.{Range}
use Rattle.au_modify.specs.declared.modification.Modification.{Modification}
use Rattle.au_modify.specs.Modifying.{Unless, refused}
use Rattle.au_query.specs.Combos.{Line}
use Rattle.au_change.proofs.Coming.{behind, kept_by, refused_by, refused_choice, refused_first}
use Rattle.au_change.proofs.Updates.{change_is, codes_are, map_same}

module _ (asked : Asked) (is : IsAsked asked) where
  abbrev text : Option Code
  text = text_refusal (range_in (sight_in asked) asked.table.now) asked.update.now

  abbrev choice : Option Code
  choice = choice_refusal (sight_in asked) asked.session.now asked.table.now asked.update.now.condition

  abbrev Locked : Type 0
  Locked = IsSomeLocked (sight_in asked) asked.client asked.table.now (chosen_in (sight_in asked) asked.session.now asked.table.now asked.update.now.condition)

  abbrev Comes_to : Modification → Type 0
  Comes_to m = IsUpdate (sight_in asked) asked.client asked.session.now asked.table.now asked.update.now m

  text_at : (code : Option Code) → text_refusal asked.range.now asked.update.now ≡ code → text ≡ code
  text_at code told = sym (ap (λ (r : Range). text_refusal r asked.update.now) is.range) ∙ told

  pub refused_text : (code : Code) (m : Modification) → text_refusal asked.range.now asked.update.now ≡ Some code → m ≡ refused code → Comes_to m
  refused_text code m told same = subst Comes_to (sym same) (refused_first text choice code (Unless Locked LOCKED (BehindChoice asked)) (text_at (Some code) told))

  pub refused_rows : (code : Code) (m : Modification) → text_refusal asked.range.now asked.update.now ≡ None
      → IsChoiceRefused (sight_in asked) asked.client asked.session.now asked.table.now asked.update.now.condition code → m ≡ refused code → Comes_to m
  refused_rows code m told broken same =
      subst Comes_to (sym same)
      (behind text choice (Unless Locked LOCKED (BehindChoice asked)) (refused code) (text_at None told) (refused_choice choice Locked LOCKED code (BehindChoice asked) broken))

  chosen_at : (rows : List Line) (m : Modification) → text_refusal asked.range.now asked.update.now ≡ None
      → IsChosen (sight_in asked) asked.client asked.session.now asked.table.now asked.update.now.condition rows → BehindChoice asked m → Comes_to m
  chosen_at rows m told chosen comes =
      behind text choice (Unless Locked LOCKED (BehindChoice asked)) m (text_at None told)
      (kept_by choice (Unless Locked LOCKED (BehindChoice asked)) m chosen.unrefused
      (inr ((λ locked. chosen.unlocked (subst (λ (rs : List Line). IsSomeLocked (sight_in asked) asked.client asked.table.now rs) (sym chosen.rows_are) locked)), comes)))

  pub chosen_comes : (rows : List Line) (result : Result Modification Memory) → text_refusal asked.range.now asked.update.now ≡ None
      → IsChosen (sight_in asked) asked.client asked.session.now asked.table.now asked.update.now.condition rows → IfOk result (BehindChoice asked) → IfOk result Comes_to
  chosen_comes rows (Ok m) told chosen comes = chosen_at rows m told chosen comes
  chosen_comes rows (Err e) told chosen comes = comes

  -- ---- row by row

  module _ (settings : List Setting) (rows : List Line) (all : AreSettings asked.range.now asked.update.now.assignments settings)
      (chosen : rows ≡ chosen_in (sight_in asked) asked.session.now asked.table.now asked.update.now.condition) where
    codes_of : first (map (line_code asked.session.now settings) rows) ≡ rows_refusal (sight_in asked) asked.session.now asked.table.now asked.update.now
    codes_of =
        ap first (map_same (line_code asked.session.now settings) (row_code asked.session.now asked.range.now asked.update.now.assignments)
        (λ line. codes_are asked.session.now asked.range.now line asked.update.now.assignments settings all) rows)
        ∙ ap₂ (λ (r : Range) (ls : List Line). first (map (row_code asked.session.now r asked.update.now.assignments) ls)) is.range chosen

    pub changes_of : (sources : List (Option ℕ)) → sources ≡ map (source_of asked.update.now.assignments) asked.range.now.1
        → map (change_of asked.table.now asked.session.now sources settings) rows ≡ updates (sight_in asked) asked.session.now asked.table.now asked.update.now
    changes_of sources told =
        map_same (change_of asked.table.now asked.session.now sources settings) (row_update asked.table.now asked.session.now asked.range.now asked.update.now.assignments)
        (λ line. change_is asked.table.now asked.session.now asked.range.now asked.update.now.assignments settings sources line all told) rows
        ∙ ap₂ (λ (r : Range) (ls : List Line). map (row_update asked.table.now asked.session.now r asked.update.now.assignments) ls) is.range chosen

    pub refused_row : (code : Code) (m : Modification) → first (map (line_code asked.session.now settings) rows) ≡ Some code → m ≡ refused code → BehindChoice asked m
    refused_row code m told same =
        subst (BehindChoice asked) (sym same) (refused_by (rows_refusal (sight_in asked) asked.session.now asked.table.now asked.update.now) code (BehindRows asked) (sym codes_of ∙ told))

    pub rows_come : (result : Result Modification Memory) → first (map (line_code asked.session.now settings) rows) ≡ None → IfOk result (BehindRows asked) → IfOk result (BehindChoice asked)
    rows_come (Ok m) told comes = kept_by (rows_refusal (sight_in asked) asked.session.now asked.table.now asked.update.now) (BehindRows asked) m (sym codes_of ∙ told) comes
    rows_come (Err e) told comes = comes
