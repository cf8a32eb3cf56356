-- What is chosen, and what refuses it.
use Rattle.std.proofs.Common.{◌≡◌, ◌∙◌, Bool, true, false, inl, inr, List, [], ◌∷◌, sym, ap, ap₂, subst}
use Rattle.std.specs.Prelude.{Option, Some}
use Rattle.std.specs.List.{AllByRecursion, Contains}
use Rattle.au_base.specs.declared.code.Code.{Code}
use Rattle.au_base.specs.declared.numbers.ClientNo.{ClientNo}
use Rattle.au_base.specs.declared.table.TableName.{TableName}
use Rattle.au_base.specs.Codes.{OVERFLOW, TOO_MANY_CHANGES}
use Rattle.au_expr.specs.Names.{or_code}
use Rattle.au_expr.specs.Sessions.{Session}
use Rattle.au_query.specs.Combos.{IsSoundLine, Line, overflows, passes}
use Rattle.au_query.specs.Counts.{passing_rows}
use Rattle.au_query.specs.Refusals.{where_broken}
use Rattle.au_world.specs.Cutting.{Suffices}
use Rattle.au_world.specs.Sights.{Sight, rows_seen}
use Rattle.sql_ast.specs.declared.expression.Expr.{Expr}
use Rattle.au_choose.specs.Choosing.{IsChoiceRefused, IsChosen, IsSomeLocked, are_too_many, choice_refusal, chosen_in, conditions_over, range_in}
use Rattle.au_choose.specs.Inside.{IsLimitBroken, IsLimitKept}
use Rattle.au_choose.proofs.Members.{all_of, each_of, kept}

-- the refusal by its two tests
abbrev refusal_by : Bool → Bool → Option Code
refusal_by over many = or_code (where_broken over OVERFLOW) (where_broken many TOO_MANY_CHANGES)

module _ (sight : Sight) (client : ClientNo) (session : Session) (table : TableName) (condition : Option Expr) (rows : List Line)
    (suffices : Suffices session (conditions_over (range_in sight table) condition) (rows_seen sight table) rows) where
  pub overflowing : overflows session (conditions_over (range_in sight table) condition) (rows ∷ []) ≡ true → IsChoiceRefused sight client session table condition OVERFLOW
  overflowing over = inl (ap (λ b. refusal_by b (are_too_many sight.own (chosen_in sight session table condition))) (sym suffices.overflowing ∙ over))

  module _ (chosen : List Line) (are : chosen ≡ passing_rows session (conditions_over (range_in sight table) condition) rows) where
    of_rows : (line : Line) → Contains chosen line → Contains rows line
    of_rows line has = kept (λ (row : Line). passes session (conditions_over (range_in sight table) condition) (row ∷ [])) rows line (subst (λ (lines : List Line). Contains lines line) are has)

    pub are_seen : AllByRecursion (λ line. Contains (rows_seen sight table) line) chosen
    are_seen = all_of (λ line. Contains (rows_seen sight table) line) chosen (λ line has. suffices.seen line (of_rows line has))

    pub are_sound : AllByRecursion IsSoundLine chosen
    are_sound = all_of IsSoundLine chosen (λ line has. each_of IsSoundLine rows suffices.sound line (of_rows line has))

  module _ (chosen : List Line) (fine : overflows session (conditions_over (range_in sight table) condition) (rows ∷ []) ≡ false)
      (are : chosen ≡ passing_rows session (conditions_over (range_in sight table) condition) rows) where
    chosen_are : chosen ≡ chosen_in sight session table condition
    chosen_are = are ∙ suffices.passing

    by_count : (many : Bool) → are_too_many sight.own chosen ≡ many → choice_refusal sight session table condition ≡ refusal_by false many
    by_count many is =
        ap₂ refusal_by (sym suffices.overflowing ∙ fine) (ap (are_too_many sight.own) (sym chosen_are) ∙ is)

    pub are_chosen : IsLimitKept sight client table chosen → IsChosen sight client session table condition chosen
    are_chosen kept_limit = record { unrefused = by_count false kept_limit.few; unlocked = kept_limit.unlocked; rows_are = chosen_are }

    pub are_refused : (code : Code) → IsLimitBroken sight client table chosen code → IsChoiceRefused sight client session table condition code
    are_refused code broken = elim broken [
      | inl many ↦ inl (by_count true many.0 ∙ ap Some (sym many.1))
      | inr locked ↦ inr (by_count false locked.0, subst (IsSomeLocked sight client table) chosen_are locked.1, locked.2)
    ]
