-- The values of statements that are read have sound literals: a number's token has at most 18 digits, a text's token is UTF-8,
-- and a TIMESTAMP literal tells a moment of the calendar.
use Rattle.std.proofs.Common.{◌≡◌, ◌∙◌, ◌+◌, ◌<◌, ◌≤◌, ◌^◌, ◌&&◌, ℕ, pos, zero, suc, Bool, true, false, List, [], ◌∷◌, Option, Some, None, map, length, refl, subst, arith}
use Rattle.std.specs.Prelude.{⊤, IsUtf8, codes, nat_le}
use Rattle.std.specs.List.{AllByRecursion}
use Rattle.std.proofs.lemmas.Bool.Decides.{nat_tests}
use Rattle.std.proofs.lemmas.Int.{ints}
use Rattle.au_base.specs.Limits.{LAST_MOMENT}
use Rattle.au_base.specs.declared.table.TableReference.{TableReference}
use Rattle.au_expr.specs.Operators.{has_digits}
use Rattle.au_expr.specs.Soundness.{all_hold, has_sound_literals, step}
use Rattle.au_literals.proofs.Latest.{latest}
use Rattle.au_literals.specs.Literals.{AreLiteralsSound, IsSoundValue}
use Rattle.sql_ast.specs.declared.expression.Expr.{Expr}
use Rattle.sql_ast.specs.declared.expression.Expr.TheOpen as part
use Rattle.sql_ast.specs.declared.expression.Expr.TheVariants as e
use Rattle.sql_ast.specs.declared.expression.Expr.TheViews.{roll-Expr}
use Rattle.sql_ast.specs.declared.expression.Expr.TheFolds.{fold-roll-Expr, map-Expr}
use Rattle.sql_ast.specs.declared.rows.Assignment.{Assignment}
use Rattle.sql_ast.specs.declared.statement.Statement.{Statement}
use Rattle.sql_lex.specs.declared.token.Kind.{Kind}
use Rattle.sql_lex.specs.declared.token.Kind.TheVariants as kind
use Rattle.sql_lex.specs.declared.token.Token.{Token}
use Rattle.sql_lex.specs.Tokens as lex
use Rattle.sql_lex.specs.Tokens.{LeadsTo, Spells}
use Rattle.sql_parse.specs.AuditStatements as audits
use Rattle.sql_parse.specs.CallStatements as calls
use Rattle.sql_parse.specs.Changes as changes
use Rattle.sql_parse.specs.Expressions as g
use Rattle.sql_parse.specs.PolicyStatements as policies
use Rattle.sql_parse.specs.RightsStatements as rights
use Rattle.sql_parse.specs.RowStatements as rows
use Rattle.sql_parse.specs.Rules as rules
use Rattle.sql_parse.specs.Rules.{After, Before, Many, Optional, Parted, after, before}
use Rattle.sql_parse.specs.Statements as all
use Rattle.sql_parse.specs.Statements.{IsStatement, Reads}
use Rattle.sql_parse.specs.Symbols.{closing, comma, kinds, opening, star}
use Rattle.sql_parse.specs.Tables as tables
use Rattle.sql_parse.specs.Tables.{Name}
use Rattle.sql_parse.specs.TableStatements as definitions
use Rattle.sql_parse.specs.UserStatements as users

-- ---- tokens

-- a number has at most 18 digits, and a text is UTF-8
abbrev IsKindSound : Kind → Type 0
IsKindSound (kind.Word word) = ⊤
IsKindSound (kind.Quoted name) = ⊤
IsKindSound (kind.Number number) = has_digits number ≡ true
IsKindSound (kind.Text text) = IsUtf8 text
IsKindSound (kind.Mark mark) = ⊤

abbrev AreSound : List Kind → Type 0
AreSound ks = AllByRecursion IsKindSound ks

digits_fit : (n : ℕ) → n < 10 ^ 18 → has_digits (pos n) ≡ true
digits_fit n small = grind (arith, ints, small)

kind_sound : (text behind : List ℕ) (k : Kind) → Spells text behind k → IsKindSound k
kind_sound text behind k (lex.word first run short) = tt
kind_sound text behind k (lex.quoted_name each is) = tt
kind_sound text behind k (lex.number first run stops small) = digits_fit _ small
kind_sound text behind k (lex.text_literal stops utf8) = utf8
kind_sound text behind k (lex.longest_mark stops) = tt

tokens_sound : (at : ℕ) (bytes : List ℕ) (ts : List Token) (place : ℕ) (rest : List ℕ) → LeadsTo at bytes ts place rest → AreSound (kinds ts)
tokens_sound at bytes ts place rest lex.here = tt
tokens_sound at bytes ts place rest (lex.past_gap {text = text} {behind = behind} gap leads) = tokens_sound (at + length text) behind ts place rest leads
tokens_sound at bytes ts place rest (lex.past_token {text = text} {behind = behind} {token = token} {tokens = tokens} none spells from to leads) =
    (kind_sound text behind token.kind spells, tokens_sound token.to behind tokens place rest leads)

-- ---- nodes

abbrev HasSound : Expr → Type 0
HasSound x = has_sound_literals x ≡ true

-- a node has sound literals where its parts have
node : (y : Expr) (x : part.Expr-F Expr) → roll-Expr x ≡ y → step (map-Expr Expr Bool has_sound_literals x) ≡ true → HasSound y
node y x is h = subst HasSound is (fold-roll-Expr Bool step x ∙ h)

and_true : (a b : Bool) → a ≡ true → b ≡ true → (a && b) ≡ true
and_true true true h k = refl
and_true true false h k = k
and_true false b h k = absurd cc

all_true : (xs : List Expr) → AllByRecursion HasSound xs → all_hold (map has_sound_literals xs) ≡ true
all_true [] h = refl
all_true (x ∷ xs) h = and_true (has_sound_literals x) (all_hold (map has_sound_literals xs)) h.0 (all_true xs h.1)

-- ---- what a rule reads

-- where all tokens are sound, the rule reads what is good, and those behind it are sound
abbrev Gives : {A : Type 0} → (A → Type 0) → (List Kind → A → List Kind → Type 0) → Type 0
Gives {A} Good Item = (i o : List Kind) (x : A) → Item i x o → AreSound i → Good x × AreSound o

module _ {A : Type 0} (Good : A → Type 0) (Item : List Kind → A → List Kind → Type 0) (each : Gives Good Item) where
  of_many : Gives (AllByRecursion Good) (Many Item)
  of_many i o xs rules.none sound = (tt, sound)
  of_many i o xs (rules.more {m = m} {x = x} {xs = others} first rest) sound =
      let one = each i m x first sound in let more = of_many m o others rest one.1 in ((one.0, more.0), more.1)

  of_after : (k : Kind) → Gives Good (After k Item)
  of_after k i o x (after {i = j} item) sound = each j o x item sound.1

  of_before : (k : Kind) → Gives Good (Before k Item)
  of_before k i o x (before item) sound = let one = each i (k ∷ o) x item sound in (one.0, one.1.1)

of_parted : {A : Type 0} (Good : A → Type 0) (k : Kind) (Item : List Kind → A → List Kind → Type 0) → Gives Good Item → Gives (AllByRecursion Good) (Parted k Item)
of_parted Good k Item each i o xs (rules.parted {m = m} {x = x} {xs = others} first rest) sound =
    let one = each i m x first sound in
    let more = of_many Good (After k Item) (of_after Good Item each k) m o others rest one.1 in ((one.0, more.0), more.1)

-- ---- expressions

values_sound : (xs : List Expr) → AllByRecursion IsSoundValue xs → AllByRecursion HasSound xs
values_sound [] h = tt
values_sound (x ∷ xs) h = (h.0.0, values_sound xs h.1)

joined_good : (make : List Expr → Expr) → ((xs : List Expr) → AllByRecursion IsSoundValue xs → IsSoundValue (make xs)) → (xs : List Expr) → AllByRecursion IsSoundValue xs → IsSoundValue (g.joined make xs)
joined_good make good [] each = good [] each
joined_good make good (x ∷ []) each = each.0
joined_good make good (x ∷ y ∷ xs) each = good (x ∷ y ∷ xs) each

of_joined : (k : Kind) (make : List Expr → Expr) (Item : List Kind → Expr → List Kind → Type 0) → ((xs : List Expr) → AllByRecursion IsSoundValue xs → IsSoundValue (make xs)) → Gives IsSoundValue Item
    → Gives IsSoundValue (g.Joined k make Item)
of_joined k make Item good each i o x (g.joins {xs = xs} parts) sound =
    let read = of_parted IsSoundValue k Item each i o xs parts sound in (joined_good make good xs read.0, read.1)

product_good : (xs : List Expr) → AllByRecursion IsSoundValue xs → IsSoundValue (e.Product xs)
product_good xs each = (node (e.Product xs) (part.Product xs) (e.rolls-Product xs) (all_true xs (values_sound xs each)), tt)

and_good : (xs : List Expr) → AllByRecursion IsSoundValue xs → IsSoundValue (e.And xs)
and_good xs each = (node (e.And xs) (part.And xs) (e.rolls-And xs) (all_true xs (values_sound xs each)), tt)

or_good : (xs : List Expr) → AllByRecursion IsSoundValue xs → IsSoundValue (e.Or xs)
or_good xs each = (node (e.Or xs) (part.Or xs) (e.rolls-Or xs) (all_true xs (values_sound xs each)), tt)

-- a summand's value is sound
abbrev IsSummand : Bool × Expr → Type 0
IsSummand p = IsSoundValue p.1

abbrev told : Bool × Expr → Bool × Bool
told p = (p.0, has_sound_literals p.1)

summands_true : (xs : List (Bool × Expr)) → AllByRecursion IsSummand xs → all_hold (map (λ p. p.1) (map told xs)) ≡ true
summands_true [] h = refl
summands_true (x ∷ xs) h = and_true (has_sound_literals x.1) (all_hold (map (λ p. p.1) (map told xs))) h.0.0 (summands_true xs h.1)

summed_good : (xs : List (Bool × Expr)) → AllByRecursion IsSummand xs → IsSoundValue (g.summed xs)
summed_good [] each = (node (e.Sum []) (part.Sum []) (e.rolls-Sum []) (summands_true [] each), tt)
summed_good (x ∷ []) each = each.0
summed_good (x ∷ y ∷ xs) each = (node (e.Sum (x ∷ y ∷ xs)) (part.Sum (x ∷ y ∷ xs)) (e.rolls-Sum (x ∷ y ∷ xs)) (summands_true (x ∷ y ∷ xs) each), tt)

of_column : Gives IsSoundValue g.Column
of_column i o x (g.bare {n = n} called) sound = ((node (e.Column None n) (part.Column None n) (e.rolls-Column None n) refl, tt), sound.1)
of_column i o x (g.qualified {t = t} {n = n} owner called) sound = ((node (e.Column (Some t) n) (part.Column (Some t) n) (e.rolls-Column (Some t) n) refl, tt), sound.1.1.1)

of_negation : Gives (λ (b : Bool). ⊤) g.Negation
of_negation i o b g.Negation.plain sound = (tt, sound)
of_negation i o b g.Negation.negated sound = (tt, sound.1)

pass : (m : ℕ) → m ≤ LAST_MOMENT → nat_le m LAST_MOMENT ≡ true
pass m h = grind (arith, nat_tests)

module _ (Inner : List Kind → Expr → List Kind → Type 0) (inside : Gives IsSoundValue Inner) where
  of_atom : Gives IsSoundValue (g.Atom Inner)
  of_atom i o x (g.number {n = n}) sound = ((node (e.Number n) (part.Number n) (e.rolls-Number n) sound.0, tt), sound.1)
  of_atom i o x (g.literal {t = t}) sound = ((node (e.Literal t) (part.Literal t) (e.rolls-Literal t) refl, sound.0), sound.1)
  of_atom i o x g.null sound = ((node e.Null part.Null e.rolls-Null refl, tt), sound.1)
  of_atom i o x g.user sound = ((node e.User part.User e.rolls-User refl, tt), sound.1)
  of_atom i o x g.now sound = ((node e.Now part.Now e.rolls-Now refl, tt), sound.1)
  of_atom i o x (g.column named) sound = of_column i o x named sound
  of_atom i o x (g.moment {t = t} {m = m} tells) sound = ((node (e.Moment m) (part.Moment m) (e.rolls-Moment m) (pass m (latest t m tells)), tt), sound.1.1)
  of_atom i o x (g.context {t = t} called asked) sound = ((node (e.Context (g.upper t)) (part.Context (g.upper t)) (e.rolls-Context (g.upper t)) refl, tt), sound.1.1.1.1.1.1)
  of_atom i o x (g.inner {i = j} within) sound = let read = inside j (closing ∷ o) x within sound.1 in (read.0, read.1.1)

  of_factor : Gives IsSoundValue (g.Factor Inner)
  of_factor i o x (g.Factor.plain atom) sound = of_atom i o x atom sound
  of_factor i o x (g.Factor.negated {i = j} {x = y} atom) sound =
      let read = of_atom j o y atom sound.1 in ((node (e.Negate y) (part.Negate y) (e.rolls-Negate y) read.0.0, tt), read.1)

  of_term : Gives IsSoundValue (g.Term Inner)
  of_term = of_joined star e.Product (g.Factor Inner) product_good of_factor

  of_summand : Gives IsSummand (g.Summand Inner)
  of_summand i o x (g.added {i = j} {x = y} term) sound = of_term j o y term sound.1
  of_summand i o x (g.subtracted {i = j} {x = y} term) sound = of_term j o y term sound.1

  of_sum : Gives IsSoundValue (g.Sum Inner)
  of_sum i o x (g.sums {m = m} {x = first} {xs = others} term rest) sound =
      let one = of_term i m first term sound in
      let more = of_many IsSummand (g.Summand Inner) of_summand m o others rest one.1 in
      (summed_good ((false, first) ∷ others) (one.0, more.0), more.1)

  of_test : Gives IsSoundValue (g.Test Inner)
  of_test i o x (g.alone sum) sound = of_sum i o x sum sound
  of_test i o x (g.compares {m = m} {x = y} {y = z} {k = k} {r = r} left asked right) sound =
      let one = of_sum i (k ∷ m) y left sound in
      let two = of_sum m o z right one.1.1 in
      ((node (e.Compare r y z) (part.Compare r y z) (e.rolls-Compare r y z) (all_true (y ∷ z ∷ []) (one.0.0, (two.0.0, tt))), tt), two.1)
  of_test i o x (g.is_null {m = m} {x = y} {b = b} left not) sound =
      let one = of_sum i (kind.Word (codes "IS") ∷ m) y left sound in
      let two = of_negation m (kind.Word (codes "NULL") ∷ o) b not one.1.1 in
      ((node (e.IsNull y b) (part.IsNull y b) (e.rolls-IsNull y b) one.0.0, tt), two.1.1)
  of_test i o x (g.like {m = m} {n = n} {x = y} {y = z} {b = b} left not right) sound =
      let one = of_sum i m y left sound in
      let two = of_negation m (kind.Word (codes "LIKE") ∷ n) b not one.1 in
      let three = of_sum n o z right two.1.1 in
      ((node (e.Like y z b) (part.Like y z b) (e.rolls-Like y z b) (all_true (y ∷ z ∷ []) (one.0.0, (three.0.0, tt))), tt), three.1)
  of_test i o x (g.within {m = m} {n = n} {x = y} {ys = ys} {b = b} left not listed) sound =
      let one = of_sum i m y left sound in
      let two = of_negation m (kind.Word (codes "IN") ∷ opening ∷ n) b not one.1 in
      let three = of_parted IsSoundValue comma (g.Sum Inner) of_sum n (closing ∷ o) ys listed two.1.1.1 in
      ((node (e.In y ys b) (part.In y ys b) (e.rolls-In y ys b) (all_true (y ∷ ys) (one.0.0, values_sound ys three.0)), tt), three.1.1)
  of_test i o x (g.between {m = m} {n = n} {p = p} {x = y} {low = low} {high = high} {b = b} left not least most) sound =
      let one = of_sum i m y left sound in
      let two = of_negation m (kind.Word (codes "BETWEEN") ∷ n) b not one.1 in
      let three = of_sum n (kind.Word (codes "AND") ∷ p) low least two.1.1 in
      let four = of_sum p o high most three.1.1 in
      ((node (e.Between y low high b) (part.Between y low high b) (e.rolls-Between y low high b) (all_true (y ∷ low ∷ high ∷ []) (one.0.0, (three.0.0, (four.0.0, tt)))), tt), four.1)

  of_unit : Gives IsSoundValue (g.IsUnit Inner)
  of_unit i o x (g.IsUnit.plain test) sound = of_test i o x test sound
  of_unit i o x (g.IsUnit.negated {i = j} {x = y} test) sound =
      let read = of_test j o y test sound.1 in ((node (e.Not y) (part.Not y) (e.rolls-Not y) read.0.0, tt), read.1)

  of_conj : Gives IsSoundValue (g.Conj Inner)
  of_conj = of_joined (kind.Word (codes "AND")) e.And (g.IsUnit Inner) and_good of_unit

  of_cond : Gives IsSoundValue (g.Cond Inner)
  of_cond = of_joined (kind.Word (codes "OR")) e.Or (g.Conj Inner) or_good of_conj

of_within : (depth : ℕ) → Gives IsSoundValue (g.Within depth)
of_within zero i o x none sound = absurd none
of_within (suc n) i o x read sound = of_cond (g.Within n) (of_within n) i o x read sound

-- ---- names and tables

abbrev IsAny : (A : Type 0) → A → Type 0
IsAny A x = ⊤

of_name : Gives (IsAny (List ℕ)) Name
of_name i o n (tables.name called) sound = (tt, sound.1)

of_qualified : Gives (IsAny (Option (List ℕ) × List ℕ)) tables.Qualified
of_qualified i o q (tables.bare {n = n} called) sound = (tt, (of_name i o n called sound).1)
of_qualified i o q (tables.qualified {m = m} {t = t} {n = n} owner called) sound =
    let one = of_name i _ t owner sound in (tt, (of_name m o n called one.1.1).1)

of_table : Gives (IsAny TableReference) tables.Table
of_table i o t (tables.table {q = q} called) sound = (tt, (of_qualified i o q called sound).1)

of_optional : {A : Type 0} (Item : List Kind → A → List Kind → Type 0) → Gives (IsAny A) Item → Gives (IsAny (Option A)) (Optional Item)
of_optional Item each i o x rules.absent sound = (tt, sound)
of_optional Item each i o x (rules.present {x = y} item) sound = (tt, (each i o y item sound).1)

of_parenthesized : {A : Type 0} (Good : A → Type 0) (Item : List Kind → A → List Kind → Type 0) → Gives Good Item → Gives (AllByRecursion Good) (changes.Parenthesized Item)
of_parenthesized Good Item each =
    of_after (AllByRecursion Good) (Before closing (Parted comma Item))
    (of_before (AllByRecursion Good) (Parted comma Item) (of_parted Good comma Item each) closing) opening

-- the same of names, whatever they are
of_names : Gives (IsAny (List (List ℕ))) (changes.Parenthesized Name)
of_names i o ns read sound = (tt, (of_parenthesized (IsAny (List ℕ)) Name of_name i o ns read sound).1)

-- ---- statements

abbrev IsSet : Assignment → Type 0
IsSet assignment = IsSoundValue assignment.value

module _ (Inner : List Kind → Expr → List Kind → Type 0) (inside : Gives IsSoundValue Inner) where
  of_assigns : Gives IsSet (changes.Assigns Inner)
  of_assigns i o x (changes.assigns {j = j} {n = n} {x = y} called value) sound =
      let one = of_name i _ n called sound in of_sum Inner inside j o y value one.1.1

  of_rows : (i o : List Kind) (x : Statement) → rows.RowStatement Inner i x o → AreSound i → AreLiteralsSound x
  of_rows i o x (rows.selects read) sound = tt
  of_rows i o x (rows.counts read) sound = tt
  of_rows i o x (rows.inserts (changes.insert {i = k} {j = j} {m = m} {t = t} {ns = ns} {xs = xs} named listed given)) sound =
      let one = of_table k j t named sound.1.1 in
      let two = of_optional (changes.Parenthesized Name) of_names j (kind.Word (codes "VALUES") ∷ m) ns listed one.1 in
      (of_parenthesized IsSoundValue (g.Sum Inner) (of_sum Inner inside) m o xs given two.1.1).0
  of_rows i o x (rows.updates (changes.update {i = k} {j = j} {m = m} {t = t} {xs = xs} named sets asked)) sound =
      let one = of_table k (kind.Word (codes "SET") ∷ j) t named sound.1 in
      (of_parted IsSet comma (changes.Assigns Inner) of_assigns j m xs sets one.1.1).0
  of_rows i o x (rows.deletes read) sound = tt
  of_rows i o x (rows.commits word) sound = tt
  of_rows i o x (rows.rolls_back word) sound = tt

of_definition : (i o : List Kind) (x : Statement) → definitions.TableStatement i x o → AreLiteralsSound x
of_definition i o x (definitions.creates called elements column) = tt

of_user : (text : List ℕ) (ts o : List Token) (x : Statement) → users.UserStatement text ts x o → AreLiteralsSound x
of_user text ts o x (users.creates a b c d e p) = tt
of_user text ts o x (users.alters a b c d e p) = tt

of_rights : (i o : List Kind) (x : Statement) → rights.RightsStatement i x o → AreLiteralsSound x
of_rights i o x (rights.drops_table a) = tt
of_rights i o x (rights.drops_user a) = tt
of_rights i o x (rights.creates_role a) = tt
of_rights i o x (rights.drops_role a) = tt
of_rights i o x (rights.grants a) = tt

of_policy : (i o : List Kind) (x : Statement) → policies.PolicyStatement i x o → AreLiteralsSound x
of_policy i o x (policies.creates a b c d e f) = tt

of_audit : (i o : List Kind) (x : Statement) → audits.AuditStatement i x o → AreLiteralsSound x
of_audit i o x (audits.audits a b c) = tt
of_audit i o x (audits.stops_auditing a b) = tt
of_audit i o x (audits.drops a) = tt

of_call : (i o : List Kind) (x : Statement) → calls.CallStatement i x o → AreLiteralsSound x
of_call i o x (calls.block a) = tt
of_call i o x (calls.calls a) = tt

of_statement : (text : List ℕ) (ts : List Token) (x : Statement) → AreSound (kinds ts) → IsStatement text ts x → AreLiteralsSound x
of_statement text ts x sound (all.rows s) = of_rows (g.Within s.depth) (of_within s.depth) (kinds ts) s.behind x s.derived sound
of_statement text ts x sound (all.table s) = of_definition _ s.behind x s.derived
of_statement text ts x sound (all.user s) = of_user text ts s.behind x s.derived
of_statement text ts x sound (all.rights s) = of_rights _ s.behind x s.derived
of_statement text ts x sound (all.policy s) = of_policy _ s.behind x s.derived
of_statement text ts x sound (all.audit s) = of_audit _ s.behind x s.derived
of_statement text ts x sound (all.call s) = of_call _ s.behind x s.derived

pub read_sound : (text : List ℕ) (x : Statement) → Reads text x → AreLiteralsSound x
read_sound text x reads = of_statement text reads.tokens x (tokens_sound 0 text reads.tokens (length text) [] reads.cut) reads.statement
