-- Each reader of a statement that changes rows reads exactly its rule.
use Rattle.std.proofs.Common.{◌≡◌, ℕ, ◌<◌, false, List, [], ◌∷◌, length, Option, Some, refl, sym, subst, arith}
use Rattle.std.specs.Prelude.{codes}
use Rattle.sql_lex.specs.declared.token.Kind.{Kind}
use Rattle.sql_lex.specs.declared.token.Kind.TheVariants.{Word}
use Rattle.sql_ast.specs.declared.expression.Expr.{Expr}
use Rattle.sql_ast.specs.declared.rows.Assignment.{Assignment}
use Rattle.sql_ast.specs.declared.rows.Delete.{Delete}
use Rattle.sql_ast.specs.declared.rows.Insert.{Insert}
use Rattle.sql_ast.specs.declared.rows.Update.{Update}
use Rattle.sql_parse.specs.Symbols.{sees, opening, closing, comma, dot, equal, is_reserved}
use Rattle.sql_parse.specs.Rules.{After, after, Before, Optional, Parted}
use Rattle.sql_parse.specs.Expressions.{Cond, Sum}
use Rattle.sql_parse.specs.Tables as rules
use Rattle.sql_parse.specs.Changes as g
use Rattle.sql_parse.specs.descent.Reading as read
use Rattle.sql_parse.specs.descent.Reading.{◌>>=◌, under, behind, expect}
use Rattle.sql_parse.specs.descent.ReadTables as tables
use Rattle.sql_parse.specs.descent.ReadChanges as changes
use Rattle.sql_parse.proofs.Exact.{bind_some, under_some, expect_is, Exact, Above, parted_exact}
use Rattle.sql_parse.proofs.Follow.{OneOf, unseen, above, WHERE, LAST, Anywhere, clause_first, clause_sound, clause_complete, past_sound, past_complete, closed_exact}
use Rattle.sql_parse.proofs.TableLaws.{name_exact, names_exact, NoComma, table_exact, table_unseen}
use Rattle.sql_parse.proofs.ExpressionLaws.{name_complete, sum_exact, cond_exact, EndsList, sums_exact}

abbrev FROM : Kind
FROM = Word (codes "FROM")

abbrev SET : Kind
SET = Word (codes "SET")

abbrev INTO : Kind
INTO = Word (codes "INTO")

abbrev VALUES : Kind
VALUES = Word (codes "VALUES")

-- ---- columns of INSERT

abbrev ClosedNames : List Kind → List (List ℕ) → List Kind → Type 0
ClosedNames = Before closing (Parted comma rules.Name)

closed_names : Exact ClosedNames (tables.closed tables.names) Anywhere
closed_names = closed_exact (Parted comma rules.Name) tables.names NoComma names_exact (λ o. refl)

columns_sound : (i : List Kind) (y : Option (List (List ℕ)) × List Kind) → changes.columns i ≡ Some y → Optional (g.Parenthesized rules.Name) i y.0 y.1
unfolding changes.columns
columns_sound i y h = clause_sound opening ClosedNames (tables.closed tables.names) Anywhere closed_names refl i y h

columns_complete : (i o : List Kind) (x : Option (List (List ℕ))) → Optional (g.Parenthesized rules.Name) i x o → sees opening o ≡ false → changes.columns i ≡ Some (x, o)
unfolding changes.columns
columns_complete i o x d stops = clause_complete opening ClosedNames (tables.closed tables.names) Anywhere closed_names refl i o x d tt stops

module _ (Inner : List Kind → Expr → List Kind → Type 0) (inner : List Kind → Option (Expr × List Kind)) (r : Exact Inner inner (Above 6)) where
  -- ---- WHERE

  pub where_sound : (i : List Kind) (y : Option Expr × List Kind) → changes.filter inner i ≡ Some y → g.Where Inner i y.0 y.1
  where_sound i y h = clause_sound WHERE (Cond Inner) (read.cond inner) (Above 6) (cond_exact Inner inner r) refl i y h

  pub where_complete : (i o : List Kind) (x : Option Expr) → g.Where Inner i x o → Above 6 o → sees WHERE o ≡ false → changes.filter inner i ≡ Some (x, o)
  where_complete i o x d f stops = clause_complete WHERE (Cond Inner) (read.cond inner) (Above 6) (cond_exact Inner inner r) refl i o x d f stops

  -- at a statement's end
  where_last : (i o : List Kind) (x : Option Expr) → g.Where Inner i x o → OneOf LAST o → changes.filter inner i ≡ Some (x, o)
  where_last i o x d f = where_complete i o x d (above 6 LAST o (omega arith) refl f) (unseen WHERE LAST o refl f)

  where_first : (i o : List Kind) (x : Option Expr) → g.Where Inner i x o → OneOf LAST o → OneOf (WHERE ∷ LAST) i
  where_first i o x d f = clause_first WHERE (Cond Inner) LAST i o x refl d f

  -- ---- DELETE

  pub delete_sound : (i : List Kind) (y : Delete × List Kind) → changes.delete inner i ≡ Some y → g.IsDelete Inner (Word (codes "DELETE") ∷ i) y.0 y.1
  unfolding changes.delete
  delete_sound i y h =
      let a = bind_some (tables.table (tables.past FROM i)) (λ t. under (λ c. record { table = t.0; condition = c }) (changes.filter inner t.1)) y h in
      let u = under_some (λ (c : Option Expr). record { table = a.0.0; condition = c }) (changes.filter inner a.0.1) y a.2 in
      subst (λ (z : Delete × List Kind). g.IsDelete Inner (Word (codes "DELETE") ∷ i) z.0 z.1) u.2
      (g.delete (past_sound FROM i) (table_exact.sound (tables.past FROM i) a.0 a.1) (where_sound a.0.1 u.0 u.1))

  pub delete_complete : (i o : List Kind) (x : Delete) → g.IsDelete Inner i x o → OneOf LAST o → changes.delete inner (behind i) ≡ Some (x, o)
  unfolding changes.delete is_reserved
  delete_complete i o x (g.delete {i = h} {j = j} {m = m} {t = t} {c = c} from d filter) f =
      let at_m : OneOf (WHERE ∷ LAST) m = where_first m o c filter f in
      let start : tables.past FROM h ≡ j = past_complete FROM h j refl from (table_unseen (codes "FROM") j m t refl d) in
      rw (start, table_exact.complete j m t d (unseen dot (WHERE ∷ LAST) m refl at_m), where_last m o c filter f) refl

  -- ---- UPDATE

  assignment_exact : Exact (g.Assigns Inner) (changes.assignment inner) (Above 3)
  unfolding changes.assignment
  assignment_exact = record { sound = sound; complete = complete; shorter = shorter }
    where
      s : Exact (Sum Inner) (read.sum inner) (Above 3)
      s = sum_exact Inner inner r

      sound : (i : List Kind) (y : Assignment × List Kind) → changes.assignment inner i ≡ Some y → g.Assigns Inner i y.0 y.1
      sound i y h =
          let a = bind_some (read.name i) (λ n. expect equal n.1 >>= λ j. under (λ x. record { column = n.0; value = x }) (read.sum inner j)) y h in
          let b = bind_some (expect equal a.0.1) (λ j. under (λ x. record { column = a.0.0; value = x }) (read.sum inner j)) y a.2 in
          let u = under_some (λ (x : Expr). record { column = a.0.0; value = x }) (read.sum inner b.0) y b.2 in
          let column : rules.Name i a.0.0 (equal ∷ b.0) = subst (λ (o : List Kind). rules.Name i a.0.0 o) (expect_is equal a.0.1 b.0 b.1) (name_exact.sound i a.0 a.1) in
          subst (λ (z : Assignment × List Kind). g.Assigns Inner i z.0 z.1) u.2 (g.assigns column (s.sound b.0 u.0 u.1))

      complete : (i o : List Kind) (x : Assignment) → g.Assigns Inner i x o → Above 3 o → changes.assignment inner i ≡ Some (x, o)
      complete i o x (g.assigns {j = j} {n = n} {x = y} (rules.name {k = k} d) e) f = rw (name_complete k n (equal ∷ j) d, s.complete j o y e f) refl

      shorter : (i o : List Kind) (x : Assignment) → g.Assigns Inner i x o → length o < length i
      shorter i o x (g.assigns {j = j} {x = y} (rules.name d) e) = omega (arith, s.shorter j o y e)

  assignments_exact : Exact (Parted comma (g.Assigns Inner)) (changes.assignments inner) (OneOf (WHERE ∷ LAST))
  unfolding changes.assignments
  assignments_exact =
      let ks : List Kind = WHERE ∷ LAST in
      parted_exact comma (g.Assigns Inner) (changes.assignment inner) (Above 3) assignment_exact refl (λ i. omega arith) (OneOf ks)
      (λ o f. above 3 ks o (omega arith) refl f) (λ o f. unseen comma ks o refl f)

  pub update_sound : (i : List Kind) (y : Update × List Kind) → changes.update inner i ≡ Some y → g.IsUpdate Inner (Word (codes "UPDATE") ∷ i) y.0 y.1
  unfolding changes.update
  update_sound i y h =
      let a = bind_some (tables.table i) _ y h in
      let b = bind_some (expect SET a.0.1) _ y a.2 in
      let d = bind_some (changes.assignments inner b.0) (λ xs. under (λ c. record { table = a.0.0; assignments = xs.0; condition = c }) (changes.filter inner xs.1)) y b.2 in
      let u = under_some (λ (c : Option Expr). record { table = a.0.0; assignments = d.0.0; condition = c }) (changes.filter inner d.0.1) y d.2 in
      let table : rules.Table i a.0.0 (SET ∷ b.0) = subst (λ (o : List Kind). rules.Table i a.0.0 o) (expect_is SET a.0.1 b.0 b.1) (table_exact.sound i a.0 a.1) in
      subst (λ (z : Update × List Kind). g.IsUpdate Inner (Word (codes "UPDATE") ∷ i) z.0 z.1) u.2
      (g.update table (assignments_exact.sound b.0 d.0 d.1) (where_sound d.0.1 u.0 u.1))

  pub update_complete : (i o : List Kind) (x : Update) → g.IsUpdate Inner i x o → OneOf LAST o → changes.update inner (behind i) ≡ Some (x, o)
  unfolding changes.update
  update_complete i o x (g.update {i = h} {j = j} {m = m} {t = t} {xs = xs} {c = c} d set filter) f =
      rw (
        table_exact.complete h (SET ∷ j) t d refl,
        assignments_exact.complete j m xs set (where_first m o c filter f),
        where_last m o c filter f,
      ) refl

  -- ---- INSERT

  values_exact : Exact (Before closing (Parted comma (Sum Inner))) (changes.values inner) Anywhere
  unfolding changes.values EndsList
  values_exact = closed_exact (Parted comma (Sum Inner)) (read.parted comma (read.sum inner)) (EndsList Inner inner r) (sums_exact Inner inner r) (λ o. (refl, omega arith))

  pub insert_sound : (i : List Kind) (y : Insert × List Kind) → changes.insert inner i ≡ Some y → g.IsInsert Inner (Word (codes "INSERT") ∷ i) y.0 y.1
  unfolding changes.insert
  insert_sound i y h =
      let a = bind_some (expect INTO i) _ y h in
      let b = bind_some (tables.table a.0) _ y a.2 in
      let d = bind_some (changes.columns b.0.1) _ y b.2 in
      let e = bind_some (expect VALUES d.0.1) _ y d.2 in
      let k = bind_some (expect opening e.0) (λ n. under (λ xs. record { table = b.0.0; columns = d.0.0; values = xs }) (changes.values inner n)) y e.2 in
      let u = under_some (λ (xs : List Expr). record { table = b.0.0; columns = d.0.0; values = xs }) (changes.values inner k.0) y k.2 in
      let columns : Optional (g.Parenthesized rules.Name) b.0.1 d.0.0 (VALUES ∷ e.0) =
      subst (λ (o : List Kind). Optional (g.Parenthesized rules.Name) b.0.1 d.0.0 o) (expect_is VALUES d.0.1 e.0 e.1) (columns_sound b.0.1 d.0 d.1) in
      let values : g.Parenthesized (Sum Inner) e.0 u.0.0 u.0.1 =
      subst (λ (j : List Kind). After opening (Before closing (Parted comma (Sum Inner))) j u.0.0 u.0.1) (sym (expect_is opening e.0 k.0 k.1)) (after (values_exact.sound k.0 u.0 u.1)) in
      let here : i ≡ INTO ∷ a.0 = expect_is INTO i a.0 a.1 in
      subst (λ (z : Insert × List Kind). g.IsInsert Inner (Word (codes "INSERT") ∷ i) z.0 z.1) u.2
      (subst (λ (j : List Kind). g.IsInsert Inner (Word (codes "INSERT") ∷ j) (record { table = b.0.0; columns = d.0.0; values = u.0.0 }) u.0.1) (sym here)
      (g.insert (table_exact.sound a.0 b.0 b.1) columns values))

  pub insert_complete : (i o : List Kind) (x : Insert) → g.IsInsert Inner i x o → OneOf LAST o → changes.insert inner (behind i) ≡ Some (x, o)
  unfolding changes.insert
  insert_complete i o x (g.insert {i = h} {j = j} {m = m} {t = t} {ns = ns} {xs = xs} d columns (after {i = n} values)) f =
      let at_j : OneOf (opening ∷ VALUES ∷ []) j = clause_first opening ClosedNames (VALUES ∷ []) j (VALUES ∷ opening ∷ n) ns refl columns refl in
      rw (
        table_exact.complete h j t d (unseen dot (opening ∷ VALUES ∷ []) j refl at_j),
        columns_complete j (VALUES ∷ opening ∷ n) ns columns refl,
        values_exact.complete n o xs values tt,
      ) refl
