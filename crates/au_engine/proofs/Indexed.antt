-- What a step that is worked out makes of the catalogue, and of what is ready for the index of its policies.
use Rattle.std.proofs.Common.{◌≡◌, ◌∙◌, true, false, List, [], ℕ, length, refl, ap, subst}
use Rattle.std.specs.List.{list_any}
use Rattle.std.specs.Prelude.{IfOk, IfSome, IsSome, IsTrue, Option, None, Some, Result, Ok, Err, is_none}
use Rattle.au_base.specs.declared.memory.Memory.{Memory}
use Rattle.au_base.specs.declared.numbers.ClientNo.{ClientNo}
use Rattle.au_catalog.specs.Settling.{catalog_after_all, catalog_of}
use Rattle.au_catalog.specs.declared.catalog.Catalog.{Catalog}
use Rattle.au_entries.specs.declared.change.Change.{Change}
use Rattle.au_entries.specs.declared.kept.Kept.{Kept}
use Rattle.au_entries.specs.Changing.{changed_all}
use Rattle.au_expr.specs.Resolving.{IsCondition, condition_code}
use Rattle.au_pindex.specs.Changing.{changes_policies}
use Rattle.au_pindex.specs.Staging as indexes
use Rattle.au_pindex.specs.declared.staged.StagedIndex.{StagedIndex}
use Rattle.au_replay.specs.Reading.{conditions}
use Rattle.au_step.specs.State.{State}
use Rattle.au_engine.specs.declared.outcome.Outcome.{Outcome}
use Rattle.au_engine.specs.Prepared.{IsIndexReady, committed_by, logged_by, made_of}
use Rattle.sql_ast.specs.declared.expression.Expr.{Expr}

none_is : {X : Type 0} (o : Option X) → is_none o ≡ true → o ≡ None
none_is None is = refl
none_is (Some x) is = absurd (let e : false ≡ true = is in cc)

-- what is a truth over no table resolves as one
pub truth_over_none : (tree : Expr) → IsTrue (conditions.is_truth None tree) → IsCondition [] tree
truth_over_none tree is = none_is (condition_code [] tree) is

-- a commit leaves the catalogue
catalog_committed : (commits : Option ClientNo) (m : State) → catalog_of (committed_by commits m).kept ≡ catalog_of m.kept
catalog_committed None m = refl
catalog_committed (Some client) m = refl

-- the catalogue after the step is that after its changes
pub catalog_made : ((tree : List ℕ → Expr) (changes : List Change) (kept : Kept) → catalog_of (changed_all tree changes kept) ≡ catalog_after_all tree changes (catalog_of kept)) → (o : Outcome) (m : State)
    → catalog_of (made_of o m).kept ≡ catalog_after_all conditions.tree (logged_by o).changes (catalog_of m.kept)
catalog_made law o m =
    law conditions.tree (logged_by o).changes (committed_by (logged_by o).commits m).kept
    ∙ ap (catalog_after_all conditions.tree (logged_by o).changes) (catalog_committed (logged_by o).commits m)

-- what is ready, between the same catalogues
pub ready_between : (r : Result (Option StagedIndex) Memory) (one other after later : Catalog) → one ≡ other → after ≡ later
    → IfOk r (λ ready. IfSome ready (indexes.IsStaged one after)) → IfOk r (λ ready. IfSome ready (indexes.IsStaged other later))
ready_between r one other after later same then is =
    subst (λ (k : Catalog). IfOk r (λ ready. IfSome ready (indexes.IsStaged k later))) same
    (subst (λ (k : Catalog). IfOk r (λ ready. IfSome ready (indexes.IsStaged one k))) then is)

-- what is ready for the index, where the changes are those of the step
pub index_ready : (r : Result (Option StagedIndex) Memory) (changes logged : List Change) → changes ≡ logged → (length changes ≡ 1 → IfOk r IsSome) → (list_any changes_policies changes ≡ false → IfOk r IsSome)
    → IfOk r (IsIndexReady logged)
index_ready (Ok ready) changes logged same one others = record {
  one = λ is. one (ap length same ∙ is);
  others = λ is. others (ap (list_any changes_policies) same ∙ is);
}
index_ready (Err short) changes logged same one others = tt
