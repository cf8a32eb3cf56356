-- Each reader of names and tables reads exactly its rule.
use Rattle.std.proofs.Common.{◌≡◌, ℕ, ◌<◌, true, false, cond, List, ◌∷◌, length, Option, Some, None, refl, sym, subst, arith, inl, inr}
use Rattle.au_base.specs.declared.table.TableReference.{TableReference}
use Rattle.sql_lex.specs.declared.token.Kind.{Kind}
use Rattle.sql_lex.specs.declared.token.Kind.TheVariants.{Word}
use Rattle.sql_ast.specs.declared.query.AliasedTable.{AliasedTable}
use Rattle.sql_parse.specs.Symbols.{sees, comma, dot, is_reserved}
use Rattle.sql_parse.specs.Rules.{Optional, absent, present, Parted}
use Rattle.sql_parse.specs.Expressions.{IsName, quoted, word}
use Rattle.sql_parse.specs.Tables as g
use Rattle.sql_parse.specs.descent.Reading as read
use Rattle.sql_parse.specs.descent.Reading.{◌>>=◌, under, behind}
use Rattle.sql_parse.specs.descent.ReadTables as tables
use Rattle.sql_parse.proofs.Exact.{bind_some, under_some, some_is, chosen, sees_is, Exact, parted_exact}
use Rattle.sql_parse.proofs.Follow.{Anywhere}
use Rattle.sql_parse.proofs.ExpressionLaws.{no_clash, name_sound, name_complete}

named : (i : List Kind) (y : List ℕ × List Kind) → read.name i ≡ Some y → g.Name i y.0 y.1
named i y h = let n = name_sound i y h in subst (λ (j : List Kind). g.Name j y.0 y.1) (sym n.1) (g.name n.2)

pub name_exact : Exact g.Name read.name Anywhere
name_exact = record { sound = named; complete = complete; shorter = shorter }
  where
    complete : (i o : List Kind) (x : List ℕ) → g.Name i x o → Anywhere o → read.name i ≡ Some (x, o)
    complete i o x (g.name {k = k} d) f = name_complete k x o d

    shorter : (i o : List Kind) (x : List ℕ) → g.Name i x o → length o < length i
    shorter i o x (g.name d) = omega arith

abbrev pub NoComma : List Kind → Type 0
NoComma o = sees comma o ≡ false

pub names_exact : Exact (Parted comma g.Name) tables.names NoComma
unfolding tables.names
names_exact = parted_exact comma g.Name read.name Anywhere name_exact refl (λ i. tt) NoComma (λ o f. tt) (λ o f. f)

abbrev pub NoDot : List Kind → Type 0
NoDot o = sees dot o ≡ false

pub qualified_exact : Exact g.Qualified tables.qualified NoDot
unfolding tables.qualified
qualified_exact = record { sound = sound; complete = complete; shorter = shorter }
  where
    sound : (i : List Kind) (y : (Option (List ℕ) × List ℕ) × List Kind) → tables.qualified i ≡ Some y → g.Qualified i y.0 y.1
    sound i y h =
        let b = bind_some (read.name i) (λ n. cond (sees dot n.1) (under (λ m. (Some n.0, m)) (read.name (behind n.1))) (Some ((None, n.0), n.1))) y h in
        elim (chosen (sees dot b.0.1) (under (λ m. (Some b.0.0, m)) (read.name (behind b.0.1))) (Some ((None, b.0.0), b.0.1)) (Some y) b.2) [
          | inl t ↦
              let u = under_some (λ (m : List ℕ). (Some b.0.0, m)) (read.name (behind b.0.1)) y t.1 in
              subst (λ (z : (Option (List ℕ) × List ℕ) × List Kind). g.Qualified i z.0 z.1) u.2
              (g.qualified (subst (λ (o : List Kind). g.Name i b.0.0 o) (sees_is dot b.0.1 t.0) (named i b.0 b.1)) (named (behind b.0.1) u.0 u.1))
          | inr t ↦ subst (λ (z : (Option (List ℕ) × List ℕ) × List Kind). g.Qualified i z.0 z.1) (some_is ((None, b.0.0), b.0.1) y t.1) (g.bare (named i b.0 b.1))
        ]

    complete : (i o : List Kind) (x : Option (List ℕ) × List ℕ) → g.Qualified i x o → NoDot o → tables.qualified i ≡ Some (x, o)
    complete i o x (g.bare (g.name {k = k} {n = n} d)) f = rw (name_complete k n o d, f) refl
    complete i o x (g.qualified {t = t} {n = n} (g.name {k = k} d) (g.name {k = l} e)) f = rw (name_complete k t (dot ∷ l ∷ o) d, name_complete l n o e) refl

    shorter : (i o : List Kind) (x : Option (List ℕ) × List ℕ) → g.Qualified i x o → length o < length i
    shorter i o x (g.bare (g.name d)) = omega arith
    shorter i o x (g.qualified (g.name d) (g.name e)) = omega arith

pub table_exact : Exact g.Table tables.table NoDot
unfolding tables.table
table_exact = record { sound = sound; complete = complete; shorter = shorter }
  where
    sound : (i : List Kind) (y : TableReference × List Kind) → tables.table i ≡ Some y → g.Table i y.0 y.1
    sound i y h =
        let b = under_some g.table_of (tables.qualified i) y h in
        subst (λ (z : TableReference × List Kind). g.Table i z.0 z.1) b.2 (g.table (qualified_exact.sound i b.0 b.1))

    complete : (i o : List Kind) (x : TableReference) → g.Table i x o → NoDot o → tables.table i ≡ Some (x, o)
    complete i o x (g.table {q = q} d) f = rw (qualified_exact.complete i o q d f) refl

    shorter : (i o : List Kind) (x : TableReference) → g.Table i x o → length o < length i
    shorter i o x (g.table {q = q} d) = qualified_exact.shorter i o q d

-- ---- aliases

pub record AliasEnds (o : List Kind) : Type 0 where
  pub dotless : sees dot o ≡ false
  pub nameless : read.name o ≡ None

pub name_no_dot : (k : Kind) (n : List ℕ) (o : List Kind) → IsName k n → sees dot (k ∷ o) ≡ false
name_no_dot k n o quoted = refl
name_no_dot k n o (word f) = refl

pub alias_sound : (i : List Kind) (x : Option (List ℕ × List Kind)) → read.name i ≡ x → (y : Option (List ℕ) × List Kind) → tables.or_absent i x ≡ Some y → Optional g.Name i y.0 y.1
alias_sound i None at y h = subst (λ (z : Option (List ℕ) × List Kind). Optional g.Name i z.0 z.1) (some_is (None, i) y h) absent
alias_sound i (Some x) at y h = subst (λ (z : Option (List ℕ) × List Kind). Optional g.Name i z.0 z.1) (some_is (Some x.0, x.1) y h) (present (named i x at))

pub aliased_exact : Exact g.Aliased tables.aliased AliasEnds
unfolding tables.aliased
aliased_exact = record { sound = sound; complete = complete; shorter = shorter }
  where
    sound : (i : List Kind) (y : AliasedTable × List Kind) → tables.aliased i ≡ Some y → g.Aliased i y.0 y.1
    sound i y h =
        let b = bind_some (tables.table i) (λ t. under (λ a. record { table = t.0; alias = a }) (tables.alias t.1)) y h in
        let u = under_some (λ (a : Option (List ℕ)). record { table = b.0.0; alias = a }) (tables.alias b.0.1) y b.2 in
        subst (λ (z : AliasedTable × List Kind). g.Aliased i z.0 z.1) u.2 (g.aliased (table_exact.sound i b.0 b.1) (alias_sound b.0.1 (read.name b.0.1) refl u.0 u.1))

    complete : (i o : List Kind) (x : AliasedTable) → g.Aliased i x o → AliasEnds o → tables.aliased i ≡ Some (x, o)
    complete i o x (g.aliased {t = t} d absent) f = rw (table_exact.complete i o t d f.dotless, f.nameless) refl
    complete i o x (g.aliased {t = t} d (present (g.name {k = k} {n = n} e))) f = rw (table_exact.complete i (k ∷ o) t d (name_no_dot k n o e), name_complete k n o e) refl

    shorter : (i o : List Kind) (x : AliasedTable) → g.Aliased i x o → length o < length i
    shorter i o x (g.aliased {t = t} d absent) = table_exact.shorter i o t d
    shorter i o x (g.aliased {t = t} d (present (g.name {k = k} e))) = omega (arith, table_exact.shorter i (k ∷ o) t d)

-- ---- no name is a reserved word

pub name_unseen : (w : List ℕ) (k : Kind) (n : List ℕ) (o : List Kind) → is_reserved w ≡ true → IsName k n → sees (Word w) (k ∷ o) ≡ false
name_unseen w k n o r quoted = refl
name_unseen w k n o r (word f) = no_clash w n r f

pub table_unseen : (w : List ℕ) (i o : List Kind) (t : TableReference) → is_reserved w ≡ true → g.Table i t o → sees (Word w) i ≡ false
table_unseen w i o t r (g.table (g.bare (g.name {k = k} {n = n} d))) = name_unseen w k n o r d
table_unseen w i o t r (g.table (g.qualified {m = m} (g.name {k = k} {n = n} d) e)) = name_unseen w k n (dot ∷ m) r d
