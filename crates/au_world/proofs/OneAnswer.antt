-- A query has one answer, and the same over sights that show the same.
use Rattle.std.proofs.Common.{◌≡◌, ◌≢◌, ◌∙◌, ◌∷◌, [], inl, inr, List, map, refl, sym, ap, ap₂, subst}
use Rattle.std.specs.Prelude.{Option, None, Some}
use Rattle.au_base.specs.declared.code.Code.{Code}
use Rattle.au_base.specs.declared.reply.Reply.{Reply}
use Rattle.au_base.specs.declared.table.TableName.{TableName}
use Rattle.au_base.specs.Codes.{DONE}
use Rattle.au_expr.specs.declared.placed.Placed.{Placed}
use Rattle.au_expr.specs.Rows.{Range}
use Rattle.au_expr.specs.Sessions.{Session}
use Rattle.au_query.specs.declared.selected.Selected.{Selected}
use Rattle.au_query.specs.Answers.{Comes, IsReply, refused}
use Rattle.au_query.specs.Combos.{Line}
use Rattle.au_query.specs.Counts.{condition_of, count_refusal}
use Rattle.au_query.specs.Refusals.{select_refusal}
use Rattle.au_txn.specs.Desks.{contents_of}
use Rattle.au_txn.specs.Transactions.{view}
use Rattle.au_world.specs.declared.built_in.TableKind.{TableKind}
use Rattle.au_world.specs.declared.built_in.TableKind.TheVariants.{Dual, Trail, Created}
use Rattle.au_world.specs.BuiltInTables.{kind_of, made_rows, numbered}
use Rattle.au_world.specs.Plans.{ShowTheSame}
use Rattle.au_world.specs.Selecting.{IsAnswer, IsCountedFrom, IsCountedOver, IsDone, IsSelectedFrom, IsSelectedOver, IsTally, Seen, meant, passing, range_of, ranges_of, rows_of_seen, seen_in, seen_of, tables_in}
use Rattle.au_world.specs.Sights.{Sight, rows_by, rows_seen}
use Rattle.au_world.proofs.Statements.{Kind}
use Rattle.sql_ast.specs.declared.query.AliasedTable.{AliasedTable}
use Rattle.sql_ast.specs.declared.query.Count.{Count}
use Rattle.sql_ast.specs.declared.query.Select.{Select}
use Rattle.sql_ast.specs.declared.statement.Statement.{Statement}

abbrev pub RepliesAreOne : Type 0
RepliesAreOne = (session : Session) (ranges : List Range) (passing : List (List Line)) (select : Select) (one other : Reply) → IsReply session ranges passing select one → IsReply session ranges passing select other → one ≡ other

comes_once : (refusal : Option Code) (Done : Selected → Type 0) → ((one other : Selected) → Done one → Done other → one ≡ other)
    → (one other : Selected) → Comes refusal Done one → Comes refusal Done other → one ≡ other
comes_once None Done once one other a b = once one other a b
comes_once (Some code) Done once one other a b = a ∙ sym b

done_once : RepliesAreOne → (session : Session) (ranges : List Range) (seen : List Seen) (select : Select) (one other : Selected)
    → IsDone session ranges seen select one → IsDone session ranges seen select other → one ≡ other
done_once replies session ranges seen select one other a b =
    let code = a.code ∙ sym b.code in
    let reply = replies session ranges (passing session ranges seen select) select one.reply other.reply a.reply b.reply in
    let touched = a.touched ∙ sym b.touched in
    let named = a.named ∙ sym b.named in
    λ i. record { code = code i; reply = reply i; touched = touched i; named = named i }

selected_once : RepliesAreOne → (session : Session) (ranges : List Range) (seen : List Seen) (select : Select) (one other : Selected)
    → IsSelectedFrom session ranges seen select one → IsSelectedFrom session ranges seen select other → one ≡ other
unfolding IsSelectedFrom
selected_once replies session ranges seen select = comes_once (select_refusal session ranges (rows_of_seen seen) select) (IsDone session ranges seen select) (done_once replies session ranges seen select)

tally_once : (session : Session) (range : Range) (seen : Seen) (conditions : List Placed) (one other : Selected)
    → IsTally session range seen conditions one → IsTally session range seen conditions other → one ≡ other
tally_once session range seen conditions one other a b =
    let code = a.code ∙ sym b.code in
    let reply = a.reply ∙ sym b.reply in
    let touched = a.touched ∙ sym b.touched in
    let named = a.named ∙ sym b.named in
    λ i. record { code = code i; reply = reply i; touched = touched i; named = named i }

counted_once : (session : Session) (range : Range) (seen : Seen) (count : Count) (one other : Selected)
    → IsCountedFrom session range seen count one → IsCountedFrom session range seen count other → one ≡ other
unfolding IsCountedFrom
counted_once session range seen count = comes_once (count_refusal session range seen.1 count) (IsTally session range seen (condition_of range count)) (tally_once session range seen (condition_of range count))

pub answered_once : RepliesAreOne → (sight : Sight) (session : Session) (statement : Statement) (one other : Selected) → Kind statement
    → IsAnswer sight session statement one → IsAnswer sight session statement other → one ≡ other
answered_once replies sight session statement one other kind a b = elim kind [
  | inl query ↦ (let select = query.0 in
      selected_once replies session (ranges_of sight session.user (tables_in select.from)) (seen_in sight session.user (tables_in select.from)) select one other
      (subst (λ (s : Statement). IsAnswer sight session s one) query.1 a) (subst (λ (s : Statement). IsAnswer sight session s other) query.1 b))
  | inr rest ↦ (elim rest [
    | inl query ↦ (let count = query.0 in
        counted_once session (range_of sight.catalog.tables session.user count.table) (seen_of sight (meant session.user count.table)) count one other
        (subst (λ (s : Statement). IsAnswer sight session s one) query.1 a) (subst (λ (s : Statement). IsAnswer sight session s other) query.1 b))
    | inr neither ↦ absurd (neither.no_answer sight session one a)
  ])
]

-- ---- answers that are refused

comes_refused : (refusal : Option Code) (Done : Selected → Type 0) → ((selected : Selected) → Done selected → selected.code ≡ DONE)
    → (selected : Selected) → Comes refusal Done selected → selected.code ≢ DONE → selected ≡ refused selected.code
comes_refused None Done code selected is not_done = absurd (not_done (code selected is))
comes_refused (Some code) Done done selected is not_done = is ∙ ap refused (sym (ap (λ (s : Selected). s.code) is))

select_refused : (session : Session) (ranges : List Range) (seen : List Seen) (select : Select) (selected : Selected) → IsSelectedFrom session ranges seen select selected → selected.code ≢ DONE → selected ≡ refused selected.code
unfolding IsSelectedFrom
select_refused session ranges seen select selected = comes_refused (select_refusal session ranges (rows_of_seen seen) select) (IsDone session ranges seen select) (λ s done. done.code) selected

count_refused : (session : Session) (range : Range) (seen : Seen) (count : Count) (selected : Selected) → IsCountedFrom session range seen count selected → selected.code ≢ DONE → selected ≡ refused selected.code
unfolding IsCountedFrom
count_refused session range seen count selected = comes_refused (count_refusal session range seen.1 count) (IsTally session range seen (condition_of range count)) (λ s done. done.code) selected

pub answer_refused : (sight : Sight) (session : Session) (statement : Statement) (selected : Selected) → Kind statement → IsAnswer sight session statement selected → selected.code ≢ DONE → selected ≡ refused selected.code
answer_refused sight session statement selected kind is not_done = elim kind [
  | inl query ↦ select_refused session (ranges_of sight session.user (tables_in query.0.from)) (seen_in sight session.user (tables_in query.0.from)) query.0 selected (subst (λ (s : Statement). IsAnswer sight session s selected) query.1 is) not_done
  | inr rest ↦ (elim rest [
    | inl query ↦ count_refused session (range_of sight.catalog.tables session.user query.0.table) (seen_of sight (meant session.user query.0.table)) query.0 selected (subst (λ (s : Statement). IsAnswer sight session s selected) query.1 is) not_done
    | inr neither ↦ absurd (neither.no_answer sight session selected is)
  ])
]

-- ---- sights that show the same

rows_at : (a b : Sight) → ShowTheSame a b → (name : TableName) (kind : TableKind) → rows_by a name kind ≡ rows_by b name kind
rows_at a b same name Dual = refl
rows_at a b same name Trail = ap (λ trail. numbered (made_rows trail Trail)) same.trail
rows_at a b same name Created = ap₂ (λ rows own. map contents_of (view rows own name)) same.rows same.own

pub same_rows : (a b : Sight) → ShowTheSame a b → (name : TableName) → rows_seen a name ≡ rows_seen b name
same_rows a b same name = rows_at a b same name (kind_of name)

pub map_same : {X Y : Type 0} (f g : X → Y) → ((x : X) → f x ≡ g x) → (xs : List X) → map f xs ≡ map g xs
map_same f g same [] = refl
map_same f g same (x ∷ xs) = ap₂ (λ y ys. y ∷ ys) (same x) (map_same f g same xs)

same_seen : (a b : Sight) → ShowTheSame a b → (name : TableName) → seen_of a name ≡ seen_of b name
same_seen a b same name = ap (λ (rows : List Line). (name, rows)) (same_rows a b same name)

same_tables : (a b : Sight) → ShowTheSame a b → a.catalog.tables ≡ b.catalog.tables
same_tables a b same = ap (λ catalog. catalog.tables) same.catalog

select_alike : (a b : Sight) (session : Session) (select : Select) (selected : Selected) → ShowTheSame a b → IsSelectedOver a session select selected → IsSelectedOver b session select selected
select_alike a b session select selected same is =
    let tables = tables_in select.from in
    subst (λ seen. IsSelectedFrom session (ranges_of b session.user tables) seen select selected)
    (map_same (λ (table : AliasedTable). seen_of a (meant session.user table)) (λ (table : AliasedTable). seen_of b (meant session.user table)) (λ table. same_seen a b same (meant session.user table)) tables)
    (subst (λ catalog. IsSelectedFrom session (map (range_of catalog session.user) tables) (seen_in a session.user tables) select selected) (same_tables a b same) is)

count_alike : (a b : Sight) (session : Session) (count : Count) (selected : Selected) → ShowTheSame a b → IsCountedOver a session count selected → IsCountedOver b session count selected
count_alike a b session count selected same is =
    subst (λ seen. IsCountedFrom session (range_of b.catalog.tables session.user count.table) seen count selected) (same_seen a b same (meant session.user count.table))
    (subst (λ catalog. IsCountedFrom session (range_of catalog session.user count.table) (seen_of a (meant session.user count.table)) count selected) (same_tables a b same) is)

pub answered_alike : (a b : Sight) (session : Session) (statement : Statement) (selected : Selected) → Kind statement → ShowTheSame a b
    → IsAnswer a session statement selected → IsAnswer b session statement selected
answered_alike a b session statement selected kind same is = elim kind [
  | inl query ↦ subst (λ (s : Statement). IsAnswer b session s selected) (sym query.1) (select_alike a b session query.0 selected same (subst (λ (s : Statement). IsAnswer a session s selected) query.1 is))
  | inr rest ↦ (elim rest [
    | inl query ↦ subst (λ (s : Statement). IsAnswer b session s selected) (sym query.1) (count_alike a b session query.0 selected same (subst (λ (s : Statement). IsAnswer a session s selected) query.1 is))
    | inr neither ↦ absurd (neither.no_answer a session selected is)
  ])
]
