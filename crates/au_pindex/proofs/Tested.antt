-- What policies demand, one after another.
use Rattle.std.proofs.Common.{◌≡◌, ◌∙◌, ◌+◌, ◌<◌, ℕ, Bool, List, [], ◌∷◌, ◌++◌, filter, map, length, get_or, take, sym, ap}
use Rattle.std.proofs.lemmas.List.{map-append, take_more}
use Rattle.std.proofs.lemmas.List.Elements.{filter-append}
use Rattle.au_audit.specs.Conditions.{is_new, is_yes, learns, learnt, when_of}
use Rattle.au_base.specs.declared.numbers.SessionNo.{SessionNo}
use Rattle.au_base.specs.declared.truth.Truth.{Truth}
use Rattle.au_entries.specs.declared.facts.Facts.{Facts}
use Rattle.au_entries.specs.declared.policy.AuditPolicy.{AuditPolicy}
use Rattle.au_entries.specs.declared.policy.Enabled.{Enabled}
use Rattle.au_entries.specs.declared.results.KeptResults.{KeptResults}
use Rattle.au_entries.specs.Demand.{demanding, demands}
use Rattle.au_expr.specs.declared.placed.Placed.{Placed}
use Rattle.au_expr.specs.Expressions.{value}
use Rattle.au_expr.specs.Placing.{value_at}
use Rattle.au_expr.specs.Resolving.{placed}
use Rattle.au_expr.specs.Sessions.{Session}
use Rattle.au_expr.specs.Values.{Value, truth_in}
use Rattle.au_grants.specs.declared.grants.Grants.{Grants}
use Rattle.au_policy.specs.Asking.{truth_now}
use Rattle.sql_ast.specs.declared.expression.Expr.{Expr}
use Rattle.au_pindex.specs.Naming.{is_named}
use Rattle.au_pindex.proofs.Named.{named_where}
use Rattle.au_pindex.proofs.Placing.{passes_on}

-- the next element that passes joins the others
next : {X Y : Type 0} (f : X → Y) (test : X → Bool) (xs : List X) (i : ℕ) (x : X) (done new : List Y) → i < length xs → x ≡ get_or xs i x
    → done ≡ map f (filter test (take i xs)) → new ≡ done ++ map f (filter test (x ∷ [])) → new ≡ map f (filter test (take (i + 1) xs))
next f test xs i x done new within is so_far added =
    added ∙ ap (λ ys. ys ++ map f (filter test (x ∷ []))) so_far
    ∙ sym (map-append f (filter test (take i xs)) (filter test (x ∷ [])))
    ∙ ap (map f) (sym (filter-append test (take i xs) (x ∷ [])))
    ∙ ap (λ ys. map f (filter test ys)) (sym (take_more xs i x within ∙ ap (λ y. take i xs ++ y ∷ []) (sym is)))

pub next_names : (when : AuditPolicy → Bool) (grants : Grants) (enabled : List (List ℕ × Enabled)) (policies : List AuditPolicy) (facts : Facts) (i : ℕ) (policy : AuditPolicy) (done new : List (List ℕ))
    → i < length policies → policy ≡ get_or policies i policy → done ≡ demanding when grants enabled (take i policies) facts
    → new ≡ done ++ demanding when grants enabled (policy ∷ []) facts → new ≡ demanding when grants enabled (take (i + 1) policies) facts
next_names when grants enabled policies facts i policy done new within is so_far added =
    next (λ (policy : AuditPolicy). policy.name) (demands when grants enabled facts) policies i policy done new within is so_far added

pub next_results : (truth : Expr → Truth) (number : SessionNo) (grants : Grants) (enabled : List (List ℕ × Enabled)) (kept : KeptResults) (policies : List AuditPolicy) (facts : Facts) (i : ℕ) (policy : AuditPolicy) (done new : List (List ℕ × Bool))
    → i < length policies → policy ≡ get_or policies i policy → done ≡ learnt truth number grants enabled kept (take i policies) facts
    → new ≡ done ++ learnt truth number grants enabled kept (policy ∷ []) facts → new ≡ learnt truth number grants enabled kept (take (i + 1) policies) facts
next_results truth number grants enabled kept policies facts i policy done new within is so_far added =
    next (λ (policy : AuditPolicy). (policy.name, when_of truth number kept policy)) (learns number grants enabled kept facts) policies i policy done new within is so_far added

-- what a resolved condition gives is what its tree does
pub met_now : (session : Session) (tree : Expr) (found : Placed) (met : Bool) → met ≡ is_yes (truth_in (value_at [] session found)) → found ≡ placed [] tree
    → value_at [] session (placed [] tree) ≡ value [] session tree → met ≡ is_yes (truth_now session tree)
met_now session tree found met is resolved law =
    is ∙ ap (λ (tree : Placed). is_yes (truth_in (value_at [] session tree))) resolved ∙ ap (λ (given : Value). is_yes (truth_in given)) law

-- ---- the policies that name a statement demand what all do

module _ (grants : Grants) (enabled : List (List ℕ × Enabled)) (policies : List AuditPolicy) (facts : Facts) where
  pub named_demand : (when : AuditPolicy → Bool) → demanding when grants enabled (filter (is_named grants enabled facts) policies) facts ≡ demanding when grants enabled policies facts
  named_demand when =
      ap (map (λ (policy : AuditPolicy). policy.name))
      (passes_on (is_named grants enabled facts) (demands when grants enabled facts) (λ policy demanded. named_where grants enabled facts policy (when policy) demanded) policies)

  pub named_learn : (truth : Expr → Truth) (number : SessionNo) (kept : KeptResults)
      → learnt truth number grants enabled kept (filter (is_named grants enabled facts) policies) facts ≡ learnt truth number grants enabled kept policies facts
  named_learn truth number kept =
      ap (map (λ (policy : AuditPolicy). (policy.name, when_of truth number kept policy)))
      (passes_on (is_named grants enabled facts) (learns number grants enabled kept facts) (λ policy learning. named_where grants enabled facts policy (is_new number kept policy.name policy.when) learning) policies)
