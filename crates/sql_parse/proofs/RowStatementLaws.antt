-- A row statement and what is read.
use Rattle.std.proofs.Common.{◌≡◌, ℕ, Bool, true, false, ◌&&◌, List, ◌∷◌, Option, Some, refl, sym, ap, subst, ◌∙◌, inl, inr}
use Rattle.std.specs.Prelude.{Result, codes}
use Rattle.au_base.specs.declared.memory.Memory.{Memory}
use Rattle.sql_parse.specs.declared.stop.Stop.{Stop}
use Rattle.sql_lex.specs.declared.token.Kind.{Kind}
use Rattle.sql_lex.specs.declared.token.Kind.TheVariants.{Word}
use Rattle.sql_ast.specs.declared.expression.Expr.{Expr}
use Rattle.sql_ast.specs.declared.statement.Statement.{Statement}
use Rattle.sql_ast.specs.declared.statement.Statement.TheVariants as statement
use Rattle.sql_parse.specs.Symbols.{sees, opening}
use Rattle.sql_parse.specs.Expressions.{Within}
use Rattle.sql_parse.specs.Changes as change
use Rattle.sql_parse.specs.Queries as query
use Rattle.sql_parse.specs.RowStatements as g
use Rattle.sql_parse.specs.descent.Reading as read
use Rattle.sql_parse.specs.descent.Reading.{Gives, under, behind}
use Rattle.sql_parse.specs.descent.ReadTables.{past}
use Rattle.sql_parse.specs.descent.ReadChanges as changes
use Rattle.sql_parse.specs.descent.ReadQueries as queries
use Rattle.sql_parse.specs.descent.ReadStatements as statements
use Rattle.sql_parse.specs.Conditions.{limit, opens_few}
use Rattle.sql_parse.specs.Whole.{Finds}
use Rattle.sql_parse.specs.descent.Ending.{Ends}
use Rattle.sql_parse.proofs.Exact.{some_is, under_some, chosen, guard, sees_is, Exact, Above}
use Rattle.sql_parse.proofs.Follow.{OneOf, unseen, LAST, past_sound, past_complete}
use Rattle.sql_parse.proofs.ExpressionLaws.{inside_exact}
use Rattle.sql_parse.proofs.ChangeLaws.{delete_sound, delete_complete, update_sound, update_complete, insert_sound, insert_complete}
use Rattle.sql_parse.proofs.QueryLaws.{select_sound, select_complete, count_sound, count_complete, no_count}
use Rattle.sql_parse.proofs.RowStatementDepth.{statement_at_limit}
use Rattle.sql_parse.proofs.WholeLaws.{Reads, ended_gives, none_opens_many, one_whole, whole_found}

-- ---- one statement

module _ (Inner : List Kind → Expr → List Kind → Type 0) (inner : List Kind → Option (Expr × List Kind)) (r : Exact Inner inner (Above 6)) where
  -- the same where its first word was seen
  seen : (w : List ℕ) (i : List Kind) (y : Statement × List Kind) → sees (Word w) i ≡ true → g.RowStatement Inner (Word w ∷ behind i) y.0 y.1 → g.RowStatement Inner i y.0 y.1
  seen w i y s d = subst (λ (j : List Kind). g.RowStatement Inner j y.0 y.1) (sym (sees_is (Word w) i s)) d

  query_sound : (i : List Kind) (y : Statement × List Kind) → statements.query inner i ≡ Some y → g.RowStatement Inner (Word (codes "SELECT") ∷ i) y.0 y.1
  unfolding statements.query
  query_sound i y h =
      elim (chosen (queries.counts i) (under statement.Count (queries.count inner (behind (behind i)))) (under statement.Select (queries.select inner i)) (Some y) h) [
        | inl t ↦
            let s = both (sees (Word (codes "COUNT")) i) (sees opening (behind i)) t.0 in
            let here : i ≡ Word (codes "COUNT") ∷ opening ∷ behind (behind i) =
            sees_is (Word (codes "COUNT")) i s.0 ∙ ap (λ (j : List Kind). Word (codes "COUNT") ∷ j) (sees_is opening (behind i) s.1) in
            let u = under_some statement.Count (queries.count inner (behind (behind i))) y t.1 in
            subst (λ (z : Statement × List Kind). g.RowStatement Inner (Word (codes "SELECT") ∷ i) z.0 z.1) u.2
            (subst (λ (j : List Kind). g.RowStatement Inner (Word (codes "SELECT") ∷ j) (statement.Count u.0.0) u.0.1) (sym here) (g.counts (count_sound Inner inner r (behind (behind i)) u.0 u.1)))
        | inr t ↦
            let u = under_some statement.Select (queries.select inner i) y t.1 in
            subst (λ (z : Statement × List Kind). g.RowStatement Inner (Word (codes "SELECT") ∷ i) z.0 z.1) u.2 (g.selects (select_sound Inner inner r i u.0 u.1))
      ]
    where
      both : (a b : Bool) → (a && b) ≡ true → (a ≡ true) × (b ≡ true)
      both true b h = (refl, h)
      both false b h = absurd cc

  change_sound : (i : List Kind) (y : Statement × List Kind) → statements.change inner i ≡ Some y → g.RowStatement Inner i y.0 y.1
  change_sound i y h =
      elim (chosen (sees (Word (codes "INSERT")) i) (under statement.Insert (changes.insert inner (behind i))) _ (Some y) h) [
        | inl t ↦
            let u = under_some statement.Insert (changes.insert inner (behind i)) y t.1 in
            seen (codes "INSERT") i y t.0 (subst (λ (z : Statement × List Kind). g.RowStatement Inner (Word (codes "INSERT") ∷ behind i) z.0 z.1) u.2 (g.inserts (insert_sound Inner inner r (behind i) u.0 u.1)))
        | inr t ↦ elim (chosen (sees (Word (codes "UPDATE")) i) (under statement.Update (changes.update inner (behind i))) _ (Some y) t.1) [
          | inl t ↦
              let u = under_some statement.Update (changes.update inner (behind i)) y t.1 in
              seen (codes "UPDATE") i y t.0 (subst (λ (z : Statement × List Kind). g.RowStatement Inner (Word (codes "UPDATE") ∷ behind i) z.0 z.1) u.2 (g.updates (update_sound Inner inner r (behind i) u.0 u.1)))
          | inr t ↦
              let s = guard (sees (Word (codes "DELETE")) i) (under statement.Delete (changes.delete inner (behind i))) y t.1 in
              let u = under_some statement.Delete (changes.delete inner (behind i)) y s.1 in
              seen (codes "DELETE") i y s.0 (subst (λ (z : Statement × List Kind). g.RowStatement Inner (Word (codes "DELETE") ∷ behind i) z.0 z.1) u.2 (g.deletes (delete_sound Inner inner r (behind i) u.0 u.1)))
        ]
      ]

  statement_sound : (i : List Kind) (y : Statement × List Kind) → statements.row_statement inner i ≡ Some y → g.RowStatement Inner i y.0 y.1
  unfolding statements.row_statement
  statement_sound i y h =
      let WORK : Kind = Word (codes "WORK") in
      elim (chosen (sees (Word (codes "SELECT")) i) (statements.query inner (behind i)) _ (Some y) h) [
        | inl t ↦ seen (codes "SELECT") i y t.0 (query_sound (behind i) y t.1)
        | inr t ↦ elim (chosen (sees (Word (codes "COMMIT")) i) (Some (statement.Commit, past WORK (behind i))) _ (Some y) t.1) [
          | inl t ↦
              seen (codes "COMMIT") i y t.0
              (subst (λ (z : Statement × List Kind). g.RowStatement Inner (Word (codes "COMMIT") ∷ behind i) z.0 z.1) (some_is (statement.Commit, past WORK (behind i)) y t.1) (g.commits (past_sound WORK (behind i))))
          | inr t ↦ elim (chosen (sees (Word (codes "ROLLBACK")) i) (Some (statement.Rollback, past WORK (behind i))) (statements.change inner i) (Some y) t.1) [
            | inl t ↦
                seen (codes "ROLLBACK") i y t.0
                (subst (λ (z : Statement × List Kind). g.RowStatement Inner (Word (codes "ROLLBACK") ∷ behind i) z.0 z.1) (some_is (statement.Rollback, past WORK (behind i)) y t.1) (g.rolls_back (past_sound WORK (behind i))))
            | inr t ↦ change_sound i y t.1
          ]
        ]
      ]

  statement_complete : (i o : List Kind) (x : Statement) → g.RowStatement Inner i x o → OneOf LAST o → statements.row_statement inner i ≡ Some (x, o)
  unfolding statements.row_statement statements.query
  statement_complete i o x (g.selects {x = y} (query.select {i = h} {j = j} {xs = xs} its d filter sorted)) f =
      rw (no_count Inner inner r h j xs its, select_complete Inner inner r (Word (codes "SELECT") ∷ h) o y (query.select its d filter sorted) f) refl
  statement_complete i o x (g.counts {x = y} (query.count d filter)) f = rw (count_complete Inner inner r i o y (query.count d filter) f) refl
  statement_complete i o x (g.inserts {x = y} (change.insert d columns values)) f = rw (insert_complete Inner inner r i o y (change.insert d columns values) f) refl
  statement_complete i o x (g.updates {x = y} (change.update d set filter)) f = rw (update_complete Inner inner r i o y (change.update d set filter) f) refl
  statement_complete i o x (g.deletes {x = y} (change.delete from d filter)) f = rw (delete_complete Inner inner r i o y (change.delete from d filter) f) refl
  statement_complete i o x (g.commits {i = j} work) f = rw (past_complete (Word (codes "WORK")) j o refl work (unseen (Word (codes "WORK")) LAST o refl f)) refl
  statement_complete i o x (g.rolls_back {i = j} work) f = rw (past_complete (Word (codes "WORK")) j o refl work (unseen (Word (codes "WORK")) LAST o refl f)) refl

-- ---- all tokens

abbrev reader : List Kind → Option (Statement × List Kind)
reader = statements.row_statement (read.inside limit)

abbrev Rule : ℕ → List Kind → Statement → List Kind → Type 0
Rule depth = g.RowStatement (Within depth)

rows_read : Reads (λ ks. ks) Rule reader
rows_read = record {
  sound = λ i y h. (limit, statement_sound (Within limit) (read.inside limit) (inside_exact limit) i y h);
  complete = λ depth i o x few d f. statement_complete (Within limit) (read.inside limit) (inside_exact limit) i o x (statement_at_limit depth i o x d few) f;
}

pub one_way : (ts : List Kind) (x y : Statement) → g.IsRowStatement ts x → g.IsRowStatement ts y → x ≡ y
one_way = one_whole (λ ks. ks) Rule reader rows_read

pub found : {X : Type 0} (ts : List Kind) (view : X → Statement × List Kind) (r : Result X Stop) (answer : Result (Option Statement) Memory)
    → Gives view r (reader ts) → Ends view r answer → opens_few 0 ts ≡ true → Finds (g.IsRowStatement ts) answer
found ts view r answer gives ends = whole_found (λ ks. ks) Rule reader rows_read ts answer (ended_gives (λ ks. ks) view r (reader ts) answer gives ends)

pub too_many : (ts : List Kind) → opens_few 0 ts ≡ false → (x : Statement) → ¬ (g.IsRowStatement ts x)
too_many = none_opens_many (λ ks. ks) Rule reader rows_read
