-- An item that is a name, where a comma follows.
use Rattle.std.proofs.Common.{◌≡◌, ℕ, true, false, List, ◌∷◌, Option, Some, None, refl, ap, sym, ◌∙◌}
use Rattle.std.specs.Prelude.{codes}
use Rattle.std.specs.Str.{bytes_eq}
use Rattle.std.proofs.lemmas.Bool.{and_right}
use Rattle.sql_lex.specs.declared.token.Kind.{Kind}
use Rattle.sql_ast.specs.declared.expression.Expr.{Expr}
use Rattle.sql_ast.specs.declared.expression.Expr.TheVariants as e
use Rattle.sql_parse.specs.Symbols.{sees, comma}
use Rattle.sql_parse.specs.Expressions.{IsName, quoted, word}
use Rattle.sql_parse.specs.descent.Reading as read
use Rattle.sql_parse.specs.descent.Reading.{behind}
use Rattle.sql_parse.specs.descent.ReadTables as tables
use Rattle.sql_parse.specs.descent.ReadQueries as queries
use Rattle.sql_parse.specs.Rules.{Optional, present}
use Rattle.sql_parse.specs.Tables.{Name, name}
use Rattle.sql_parse.proofs.Exact.{sees_is}
use Rattle.sql_parse.proofs.ExpressionLaws.{no_clash, null_reserved, user_reserved, now_reserved, timestamp_reserved, name_complete}
use Rattle.sql_parse.proofs.TableLaws.{alias_sound}

module _ (inner : List Kind → Option (Expr × List Kind)) where
  -- a name in front of a comma is a column
  atom_is : (k : Kind) (n : List ℕ) (ts : List Kind) → IsName k n → read.atom inner (k ∷ comma ∷ ts) ≡ Some (e.Column None n, comma ∷ ts)
  unfolding read.atom read.worded_atom read.column
  atom_is k n ts quoted = rw (name_complete k n (comma ∷ ts) quoted) refl
  atom_is k n ts (word f) =
      rw (
        no_clash (codes "NULL") n null_reserved f,
        no_clash (codes "USER") n user_reserved f,
        no_clash (codes "SYSTIMESTAMP") n now_reserved f,
        no_clash (codes "TIMESTAMP") n timestamp_reserved f,
        and_right (bytes_eq (codes "SYS_CONTEXT") n) false refl,
        name_complete k n (comma ∷ ts) (word f),
      ) refl

  item_is : (k : Kind) (n : List ℕ) (ts : List Kind) → IsName k n
      → queries.item inner (k ∷ comma ∷ ts) ≡ Some (record { value = e.Column None n; alias = None }, comma ∷ ts)
  unfolding queries.item read.sum read.summands read.term read.parted read.factor read.many read.name
  item_is k n ts quoted = rw (atom_is k n ts quoted) refl
  item_is k n ts (word f) = rw (atom_is k n ts (word f)) refl

  at : (i o : List Kind) (n : List ℕ) → Optional Name i (Some n) o → sees comma (behind i) ≡ true
      → queries.item inner i ≡ Some (record { value = e.Column None n; alias = None }, o)
  at i o n (present (name {k = k} d)) c =
      let follows : o ≡ comma ∷ behind o = sees_is comma o c in
      ap (λ j. queries.item inner (k ∷ j)) follows ∙ item_is k n (behind o) d
      ∙ ap (λ j. Some (record { value = e.Column None n; alias = None }, j)) (sym follows)

  pub lone_item : (i o : List Kind) (n : List ℕ) → sees comma (behind i) ≡ true → tables.alias i ≡ Some (Some n, o)
      → queries.item inner i ≡ Some (record { value = e.Column None n; alias = None }, o)
  lone_item i o n c h = at i o n (alias_sound i (read.name i) refl (Some n, o) h) c
