-- Where no policy watches the table, changes of it fire nothing.
use Rattle.std.proofs.Common.{◌≡◌, ◌∙◌, Bool, true, false, cond, ◌&&◌, ◌||◌, List, [], ◌∷◌, ◌++◌, ℕ, map, refl, sym, ap}
use Rattle.std.specs.Prelude.{◌↔◌, ◌==◌}
use Rattle.std.specs.List.{filter, flat_map, list_any}
use Rattle.au_audit.specs.Firing.{are_referenced, fired, fires, in_record_order, meets, names_type, of_table}
use Rattle.au_base.specs.declared.action.Action.{Action}
use Rattle.au_base.specs.declared.cell.Cell.{Cell}
use Rattle.au_base.specs.declared.code.Code.{Code}
use Rattle.au_base.specs.declared.table.TableName.{TableName}
use Rattle.au_base.specs.Sameness.{same_table}
use Rattle.au_entries.specs.declared.fine_grained.FgaPolicy.{FgaPolicy}
use Rattle.au_txn.specs.declared.change.RowChange.{RowChange}
use Rattle.au_world.specs.Plans.{Truths}
use Rattle.au_plan.specs.Inside.{change_facts, is_watched, watches}
use Rattle.au_plan.specs.Plans.{contents_in}

neither : (a b : Bool) → (a || b) ≡ false → (a ≡ false) × (b ≡ false)
neither true b is = absurd (let e : true ≡ false = is in cc)
neither false b is = (refl, is)

not_both : (r l : Bool) → l ≡ false → (r && l) ≡ false
not_both true l is = is
not_both false l is = refl

-- without one of the first three tests, of which the last tells of what comes at the end
quiet : (z e n s r l : Bool) → (e && (n && s)) ≡ false → (s ≡ false → l ≡ false) → (z && (e && (n && (r && l)))) ≡ false
quiet false e n s r l is last = refl
quiet true false n s r l is last = refl
quiet true true false s r l is last = refl
quiet true true true s r l is last = not_both r l (last is)

module _ (one : (a b : TableName) → same_table a b ≡ true ↔ (a ≡ b)) where
  other_way : (a b : TableName) (t : Bool) → same_table b a ≡ t → same_table a b ≡ false → t ≡ false
  other_way a b true is other = sym ((one a b).1 (sym ((one b a).0 is))) ∙ other
  other_way a b false is other = refl

  module _ (truth : Truths) (code : Code) (action : Action) (named : TableName × List (List ℕ)) (changes : List RowChange) where
    none_meets : (test : List Cell → Bool) (rows : List (List Cell)) (t : Bool) → t ≡ false → list_any test (cond t rows [] ++ []) ≡ false
    none_meets test rows true is = absurd (let e : true ≡ false = is in cc)
    none_meets test rows false is = refl

    no_fire : (policy : FgaPolicy) → watches action named.0 policy ≡ false → fires truth code (change_facts action named changes) policy ≡ false
    no_fire policy is =
        let name = policy.name.table in
        quiet (code.0 == 0) policy.enabled (names_type policy.types action) (same_table name named.0) (are_referenced policy.columns policy.all (of_table name (named ∷ [])))
        (list_any (meets truth name policy.condition) (of_table name ((named.0, flat_map contents_in changes) ∷ []))) is
        (λ other. none_meets (meets truth name policy.condition) (flat_map contents_in changes) (same_table named.0 name) (other_way name named.0 (same_table named.0 name) refl other))

    none_fires : (policies : List FgaPolicy) → is_watched policies action named.0 ≡ false → filter (fires truth code (change_facts action named changes)) policies ≡ []
    none_fires [] is = refl
    none_fires (policy ∷ policies) is =
        let parts = neither (watches action named.0 policy) (is_watched policies action named.0) is in
        ap (λ (b : Bool). cond b (policy ∷ filter (fires truth code (change_facts action named changes)) policies) (filter (fires truth code (change_facts action named changes)) policies)) (no_fire policy parts.0)
        ∙ none_fires policies parts.1

    pub unwatched : (policies : List FgaPolicy) → is_watched policies action named.0 ≡ false → fired truth code (change_facts action named changes) policies ≡ []
    unwatched policies is = ap (λ (left : List FgaPolicy). in_record_order (map (λ (policy : FgaPolicy). policy.name) left)) (none_fires policies is)
