-- Plans of statements on rows over what the engine lends.
use Rattle.std.proofs.Common.{◌≡◌, ◌∙◌, Bool, true, false, [], ◌∷◌, map, refl, sym, ap, subst}
use Rattle.std.specs.Prelude.{Option, Some, None, IsTrue, is_none}
use Rattle.au_base.specs.declared.numbers.ClientNo.{ClientNo}
use Rattle.au_catalog.specs.Settling.{catalog_of}
use Rattle.au_catalog.specs.declared.catalog.Catalog.{Catalog}
use Rattle.au_entries.specs.declared.kept.Kept.{Kept}
use Rattle.au_entries.specs.declared.table.Table.{Table}
use Rattle.au_expr.specs.Resolving.{IsCondition, condition_code}
use Rattle.au_fga.specs.Testing.{range_of, truth_over}
use Rattle.au_kept.specs.Keeping.{Contents, desk_of}
use Rattle.au_replay.specs.Reading.{conditions, ranges_of}
use Rattle.au_ruling.specs.Rulings.{Ground, IsPlanIn, sight_in}
use Rattle.au_txn.specs.Desks.{Contents as Desk, open_of}
use Rattle.au_txn.specs.Rows.{of_triple}
use Rattle.au_world.specs.declared.row_plan.RowPlan.{RowPlan}
use Rattle.au_world.specs.declared.world.World.{World}
use Rattle.au_world.specs.Plans.{ShowTheSame}
use Rattle.au_plan.specs.Plans.{IsOnRows, IsPlanOf}
use Rattle.au_ruling.specs.Kinds.{is_on_rows}
use Rattle.au_world.specs.Sights.{sight_of}
use Rattle.sql_ast.specs.declared.expression.Expr.{Expr}
use Rattle.sql_ast.specs.declared.statement.Statement.{Statement}
use Rattle.sql_ast.specs.declared.statement.Statement.TheVariants.{Select, Count, Insert, Update, Delete, Commit, Rollback, CreateTable, DropTable, CreateUser, AlterUser, DropUser, CreateRole, DropRole, Grant, CreatePolicy, DropPolicy, Audit, Noaudit, Call}

-- ---- conditions that are truths

none_is : {X : Type 0} (o : Option X) → is_none o ≡ true → o ≡ None
none_is None is = refl
none_is (Some x) is = absurd (let e : false ≡ true = is in cc)

-- what is a truth over a table resolves as one
pub truth_over_table : (table : Table) (tree : Expr) → IsTrue (conditions.is_truth (Some table) tree) → IsCondition (range_of table ∷ []) tree
truth_over_table table tree is = none_is (condition_code (ranges_of (Some table)) tree) is

-- ---- what the engine shows

-- what is lent shows what a statement is decided in, where the desk has each client's transaction
pub shows_same : (world : World) (client : ClientNo) (contents : Contents) (basis : Ground) → basis.client ≡ client → basis.kept ≡ contents.kept → world.catalog.now ≡ catalog_of contents.kept → world.grants.now ≡ contents.kept.grants
    → world.desk.now ≡ desk_of contents → world.records.now ≡ contents.kept.trail → ((other : ClientNo) → open_of (desk_of contents) other ≡ basis.transactions other) → ShowTheSame (sight_of world client) (sight_in basis)
shows_same world client contents basis mine same catalog grants desk records told = record {
  catalog = catalog ∙ ap catalog_of (sym same);
  grants = grants ∙ ap (λ (k : Kept). k.grants) (sym same);
  rows = ap (λ (d : Desk). d.rows) desk ∙ ap (λ (k : Kept). map of_triple k.rows) (sym same);
  own = ap (λ (d : Desk). open_of d client) desk ∙ (told client ∙ ap (λ (c : ClientNo). basis.transactions c) (sym mine));
  transactions = λ (other : ClientNo). ap (λ (d : Desk). open_of d other) desk ∙ told other;
  trail = records ∙ ap (λ (k : Kept). k.trail) (sym same);
}

-- a plan of what is lent is one in what the statement is decided in
pub plan_in : (world : World) (client : ClientNo) (basis : Ground) (statement : Statement) (plan : RowPlan) → world.catalog.now ≡ catalog_of basis.kept → basis.client ≡ client
    → (IsPlanOf (truth_over basis.session basis.kept.tables) (sight_of world client) client basis.session statement plan → IsPlanOf (truth_over basis.session basis.kept.tables) (sight_in basis) client basis.session statement plan)
    → IsPlanOf (truth_over basis.session world.catalog.now.tables) (sight_of world client) client basis.session statement plan → IsPlanIn basis statement plan
plan_in world client basis statement plan catalog mine carries is =
    subst (λ (c : ClientNo). IsPlanOf (truth_over basis.session basis.kept.tables) (sight_in basis) c basis.session statement plan) (sym mine)
    (carries (subst (λ (c : Catalog). IsPlanOf (truth_over basis.session c.tables) (sight_of world client) client basis.session statement plan) catalog is))

-- ---- statements on rows

pub on_rows : (statement : Statement) → is_on_rows statement ≡ true → IsOnRows statement
on_rows (Select select) is = tt
on_rows (Count count) is = tt
on_rows (Insert insert) is = tt
on_rows (Update update) is = tt
on_rows (Delete delete) is = tt
on_rows Commit is = absurd (let e : false ≡ true = is in cc)
on_rows Rollback is = absurd (let e : false ≡ true = is in cc)
on_rows (CreateTable create) is = absurd (let e : false ≡ true = is in cc)
on_rows (DropTable table) is = absurd (let e : false ≡ true = is in cc)
on_rows (CreateUser user password) is = absurd (let e : false ≡ true = is in cc)
on_rows (AlterUser user password) is = absurd (let e : false ≡ true = is in cc)
on_rows (DropUser user) is = absurd (let e : false ≡ true = is in cc)
on_rows (CreateRole role) is = absurd (let e : false ≡ true = is in cc)
on_rows (DropRole role) is = absurd (let e : false ≡ true = is in cc)
on_rows (Grant grant) is = absurd (let e : false ≡ true = is in cc)
on_rows (CreatePolicy create) is = absurd (let e : false ≡ true = is in cc)
on_rows (DropPolicy policy) is = absurd (let e : false ≡ true = is in cc)
on_rows (Audit audit) is = absurd (let e : false ≡ true = is in cc)
on_rows (Noaudit policy users) is = absurd (let e : false ≡ true = is in cc)
on_rows (Call call) is = absurd (let e : false ≡ true = is in cc)
