-- The token of a password stands in the text at its places.
use Rattle.std.proofs.Common.{◌≡◌, ℕ, suc, ◌+◌, ◌-◌, ◌<◌, ◌≤◌, Bool, true, false, List, [], ◌∷◌, ◌++◌, length, get_or, take, drop, refl, sym, ap, subst, ◌∙◌, append_assoc, arith, inl, inr}
use Rattle.std.specs.Prelude.{IsUtf8}
use Rattle.std.specs.List.{list_all}
use Rattle.std.proofs.lemmas.Bool.Decides.{nat_tests}
use Rattle.std.proofs.lemmas.List.{drop_at, take_at, get_or-append-add, get_or_append_left, length-append}
use Rattle.std.proofs.lemmas.List.Folds.{list_all_at}
use Rattle.std.proofs.lemmas.Str.{IsCharBoundary-after_ascii, IsCharBoundary-before_ascii, IsUtf8-drop, IsUtf8-take}
use Rattle.sql_ast.specs.declared.administration.Password.{Password}
use Rattle.sql_ast.specs.declared.expression.Expr.{Expr}
use Rattle.sql_ast.specs.declared.statement.Statement.{Statement}
use Rattle.sql_lex.specs.declared.token.Kind.{Kind}
use Rattle.sql_lex.specs.declared.token.Kind.TheVariants.{Word, Quoted}
use Rattle.sql_lex.specs.declared.token.Token.{Token}
use Rattle.sql_lex.specs.Bytes.{begins, is_letter, is_word_byte}
use Rattle.sql_lex.specs.Tokens as lex
use Rattle.sql_lex.specs.Tokens.{LeadsTo, Spells}
use Rattle.sql_parse.specs.Symbols.{kinds}
use Rattle.sql_parse.specs.AuditStatements as audits
use Rattle.sql_parse.specs.CallStatements as calls
use Rattle.sql_parse.specs.PolicyStatements as policies
use Rattle.sql_parse.specs.RightsStatements as rights
use Rattle.sql_parse.specs.RowStatements as rows
use Rattle.sql_parse.specs.TableStatements as tables
use Rattle.sql_parse.specs.UserStatements as users
use Rattle.sql_parse.specs.UserStatements.{IsPassword, part}
use Rattle.sql_parse.specs.Statements as all
use Rattle.sql_parse.specs.Statements.{IsStatement, Reads}
use Rattle.sql_parse_admin.specs.Passwords.{IsPlaced, StandsIn}

-- ---- where a token stands

-- the token's own bytes stand at its places, in the bytes from a place on
record StandsAt (at : ℕ) (bytes : List ℕ) (t : Token) : Type 0 where
  before : List ℕ
  own : List ℕ
  after : List ℕ
  all : bytes ≡ before ++ (own ++ after)
  from : t.from ≡ at + length before
  to : t.to ≡ t.from + length own
  spells : Spells own after t.kind

further : (at : ℕ) (x b : List ℕ) (t : Token) → StandsAt (at + length x) b t → StandsAt at (x ++ b) t
further at x b t s = record {
  before = x ++ s.before;
  own = s.own;
  after = s.after;
  all = ap (λ (r : List ℕ). x ++ r) s.all ∙ sym (append_assoc x s.before (s.own ++ s.after));
  from = omega (arith, s.from, length-append x s.before);
  to = s.to;
  spells = s.spells;
}

stands : (at : ℕ) (bytes : List ℕ) (ts : List Token) (place : ℕ) (rest : List ℕ) → LeadsTo at bytes ts place rest
    → (front : List Token) (t : Token) (o : List Token) → ts ≡ front ++ t ∷ o → StandsAt at bytes t
stands at bytes ts place rest lex.here [] t o e = absurd cc
stands at bytes ts place rest lex.here (f ∷ front) t o e = absurd cc
stands at bytes ts place rest (lex.past_gap {text = x} {behind = b} {tokens = us} gap leads) front t o e =
    further at x b t (stands (at + length x) b us place rest leads front t o e)
stands at bytes ts place rest (lex.past_token {text = x} {behind = b} {token = u} {tokens = us} none spells from to leads) [] t o e =
    let same : u ≡ t = cc in
    subst (λ (v : Token). StandsAt at (x ++ b) v) same (record {
      before = [];
      own = x;
      after = b;
      all = refl;
      from = omega (arith, from);
      to = omega (arith, from, to);
      spells = spells;
    })
stands at bytes ts place rest (lex.past_token {text = x} {behind = b} {token = u} {tokens = us} none spells from to leads) (f ∷ front) t o e =
    let others : us ≡ front ++ t ∷ o = cc in
    further at x b t (subst (λ (n : ℕ). StandsAt n b t) to (stands u.to b us place rest leads front t o others))

-- ---- a token of a password begins and ends with a byte of ASCII

record IsEdged (own : List ℕ) : Type 0 where
  some : 0 < length own
  first : get_or own 0 0 < 128
  last : get_or own (length own - 1) 0 < 128

word_byte_ascii : (b : ℕ) → is_word_byte b ≡ true → b < 128
word_byte_ascii b is = grind (arith, nat_tests)

of_all : (p : ℕ → Bool) (xs : List ℕ) (i : ℕ) → list_all p xs ≡ true → i < length xs → p (get_or xs i 0) ≡ true
of_all p xs i h lt = go (p (get_or xs i 0)) refl
  where
    go : (b : Bool) → p (get_or xs i 0) ≡ b → p (get_or xs i 0) ≡ true
    go true e = e
    go false e = let no : true ≡ false = sym h ∙ list_all_at p xs i 0 lt e in absurd cc

begun_some : (own : List ℕ) → begins is_letter own ≡ true → 0 < length own
begun_some [] h = absurd cc
begun_some (b ∷ own) h = omega arith

word_edged : (own : List ℕ) → begins is_letter own ≡ true → list_all is_word_byte own ≡ true → IsEdged own
word_edged own first run =
    let some = begun_some own first in
    record {
      some = some;
      first = word_byte_ascii _ (of_all is_word_byte own 0 run some);
      last = word_byte_ascii _ (of_all is_word_byte own (length own - 1) run (omega (arith, some)));
    }

at_end : (xs : List ℕ) (x : ℕ) → get_or (xs ++ x ∷ []) (length xs) 0 ≡ x
at_end [] x = refl
at_end (y ∷ xs) x = at_end xs x

quoted_edged : (n : List ℕ) → IsEdged (34 ∷ (n ++ 34 ∷ []))
quoted_edged n =
    let long = length-append n (34 ∷ []) in
    let place : length (34 ∷ (n ++ 34 ∷ [])) - 1 ≡ suc (length n) = omega (arith, long) in
    record {
      some = omega arith;
      first = omega arith;
      last = subst (λ (i : ℕ). get_or (34 ∷ (n ++ 34 ∷ [])) i 0 < 128) (sym place) (omega (arith, at_end n 34));
    }

word_token : (own after w : List ℕ) (k : Kind) → Spells own after k → k ≡ Word w → IsEdged own
word_token own after w k (lex.word first run short) e = word_edged own first run.passes
word_token own after w k (lex.quoted_name every is) e = absurd cc
word_token own after w k (lex.number a b c d) e = absurd cc
word_token own after w k (lex.text_literal a b) e = absurd cc
word_token own after w k (lex.longest_mark a) e = absurd cc

quoted_token : (own after n : List ℕ) (k : Kind) → Spells own after k → k ≡ Quoted n → own ≡ 34 ∷ (n ++ 34 ∷ [])
quoted_token own after n k (lex.word first run short) e = absurd cc
quoted_token own after n k (lex.quoted_name {name = m} every is) e = let same : m ≡ n = cc in ap (λ (r : List ℕ). 34 ∷ (r ++ 34 ∷ [])) same
quoted_token own after n k (lex.number a b c d) e = absurd cc
quoted_token own after n k (lex.text_literal a b) e = absurd cc
quoted_token own after n k (lex.longest_mark a) e = absurd cc

-- ---- the password

-- what is known of a text at the places of a token
record IsCut (text : List ℕ) (from to : ℕ) (own : List ℕ) : Type 0 where
  some : from < to
  within : to ≤ length text
  before : IsUtf8 (take from text)
  behind : IsUtf8 (drop to text)
  between : part text from to ≡ own

cut : (text before own after : List ℕ) (from to : ℕ) → IsUtf8 text → IsEdged own → text ≡ before ++ (own ++ after) → from ≡ length before → to ≡ from + length own → IsCut text from to own
cut text before own after from to utf8 edged all from_is to_is =
    let long : length text ≡ length before + (length own + length after) = ap length all ∙ omega (arith, length-append before (own ++ after), length-append own after) in
    let first : get_or text from 0 ≡ get_or own 0 0 =
    ap (λ (r : List ℕ). get_or r from 0) all
    ∙ ap (λ (i : ℕ). get_or (before ++ (own ++ after)) i 0) (omega (arith, from_is))
    ∙ get_or-append-add before (own ++ after) 0 0
    ∙ get_or_append_left own after 0 0 edged.some in
    let end = length own - 1 in
    let short : end < length own = omega (arith, edged.some) in
    let last : get_or text (from + end) 0 ≡ get_or own end 0 =
    ap (λ (r : List ℕ). get_or r (from + end) 0) all
    ∙ ap (λ (i : ℕ). get_or (before ++ (own ++ after)) (i + end) 0) from_is
    ∙ get_or-append-add before (own ++ after) end 0
    ∙ get_or_append_left own after 0 end short in
    let place : from + end + 1 ≡ to = omega (arith, to_is, edged.some) in
    let size : to - from ≡ length own = omega (arith, to_is) in
    record {
      some = omega (arith, to_is, edged.some);
      within = omega (arith, long, from_is, to_is);
      before = IsUtf8-take text from utf8 (IsCharBoundary-before_ascii text from (omega (arith, long, from_is, edged.some)) (omega (arith, first, edged.first)));
      behind = subst (λ (i : ℕ). IsUtf8 (drop i text)) place
          (IsUtf8-drop text (from + end + 1) utf8 (IsCharBoundary-after_ascii text (from + end) utf8 (omega (arith, long, from_is, short)) (omega (arith, last, edged.last))));
      between = ap (λ (n : ℕ). take n (drop from text)) size
          ∙ ap (λ (r : List ℕ). take (length own) r) (ap (drop from) all ∙ drop_at before (own ++ after) from (sym from_is))
          ∙ take_at own after (length own) refl;
    }

password_placed : (text : List ℕ) (t : Token) (p : Password) → IsUtf8 text → StandsAt 0 text t → IsPassword text t p → StandsIn text p
password_placed text t p utf8 s (users.word {w = w} {from = from} {to = to} le within is) =
    let c = cut text s.before s.own s.after from to utf8 (word_token s.own s.after w (Word w) s.spells refl) s.all (omega (arith, s.from)) s.to in
    record { some = c.some; within = c.within; before = c.before; behind = c.behind; token = inl refl }
password_placed text t p utf8 s (users.quoted {n = n} {from = from} {to = to}) =
    let own = quoted_token s.own s.after n (Quoted n) s.spells refl in
    let c = cut text s.before s.own s.after from to utf8 (subst IsEdged (sym own) (quoted_edged n)) s.all (omega (arith, s.from)) s.to in
    record { some = c.some; within = c.within; before = c.before; behind = c.behind; token = inr (c.between ∙ own) }

-- ---- the statements

of_rows : (text : List ℕ) (Inner : List Kind → Expr → List Kind → Type 0) (i o : List Kind) (x : Statement) → rows.RowStatement Inner i x o → IsPlaced text x
of_rows text Inner i o x (rows.selects a) = tt
of_rows text Inner i o x (rows.counts a) = tt
of_rows text Inner i o x (rows.inserts a) = tt
of_rows text Inner i o x (rows.updates a) = tt
of_rows text Inner i o x (rows.deletes a) = tt
of_rows text Inner i o x (rows.commits a) = tt
of_rows text Inner i o x (rows.rolls_back a) = tt

of_table : (text : List ℕ) (i o : List Kind) (x : Statement) → tables.TableStatement i x o → IsPlaced text x
of_table text i o x (tables.creates a b c) = tt

of_rights : (text : List ℕ) (i o : List Kind) (x : Statement) → rights.RightsStatement i x o → IsPlaced text x
of_rights text i o x (rights.drops_table a) = tt
of_rights text i o x (rights.drops_user a) = tt
of_rights text i o x (rights.creates_role a) = tt
of_rights text i o x (rights.drops_role a) = tt
of_rights text i o x (rights.grants a) = tt

of_policy : (text : List ℕ) (i o : List Kind) (x : Statement) → policies.PolicyStatement i x o → IsPlaced text x
of_policy text i o x (policies.creates a b c d e f) = tt

of_audit : (text : List ℕ) (i o : List Kind) (x : Statement) → audits.AuditStatement i x o → IsPlaced text x
of_audit text i o x (audits.audits a b c) = tt
of_audit text i o x (audits.stops_auditing a b) = tt
of_audit text i o x (audits.drops a) = tt

of_call : (text : List ℕ) (i o : List Kind) (x : Statement) → calls.CallStatement i x o → IsPlaced text x
of_call text i o x (calls.block a) = tt
of_call text i o x (calls.calls a) = tt

of_user : (text : List ℕ) (ts o : List Token) (x : Statement) → IsUtf8 text → LeadsTo 0 text ts (length text) [] → users.UserStatement text ts x o → IsPlaced text x
of_user text ts o x utf8 leads (users.creates {a = a} {b = b} {c = c} {d = d} {e = e} {t = t} {p = p} one two three four five password) =
    password_placed text t p utf8 (stands 0 text ts (length text) [] leads (a ∷ b ∷ c ∷ d ∷ e ∷ []) t o refl) password
of_user text ts o x utf8 leads (users.alters {a = a} {b = b} {c = c} {d = d} {e = e} {t = t} {p = p} one two three four five password) =
    password_placed text t p utf8 (stands 0 text ts (length text) [] leads (a ∷ b ∷ c ∷ d ∷ e ∷ []) t o refl) password

of_statement : (text : List ℕ) (ts : List Token) (x : Statement) → IsUtf8 text → LeadsTo 0 text ts (length text) [] → IsStatement text ts x → IsPlaced text x
of_statement text ts x utf8 leads (all.rows s) = of_rows text _ (kinds ts) s.behind x s.derived
of_statement text ts x utf8 leads (all.table s) = of_table text (kinds ts) s.behind x s.derived
of_statement text ts x utf8 leads (all.user s) = of_user text ts s.behind x utf8 leads s.derived
of_statement text ts x utf8 leads (all.rights s) = of_rights text (kinds ts) s.behind x s.derived
of_statement text ts x utf8 leads (all.policy s) = of_policy text (kinds ts) s.behind x s.derived
of_statement text ts x utf8 leads (all.audit s) = of_audit text (kinds ts) s.behind x s.derived
of_statement text ts x utf8 leads (all.call s) = of_call text (kinds ts) s.behind x s.derived

pub placed : (text : List ℕ) (statement : Statement) → IsUtf8 text → Reads text statement → IsPlaced text statement
placed text x utf8 r = of_statement text r.tokens x utf8 r.cut r.statement
