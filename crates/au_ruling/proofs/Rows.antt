-- Statements on rows change rows alone, and others change none.
use Rattle.std.proofs.Common.{◌≡◌, ◌≢◌, ◌≤◌, ◌<◌, ◌^◌, ◌∙◌, ◌++◌, ◌⊎◌, inl, inr, ℕ, true, false, List, [], None, length, refl, ap, sym, subst, arith}
use Rattle.std.proofs.lemmas.List.{append-nil}
use Rattle.std.specs.Prelude.{IsTrue}
use Rattle.std.specs.List.{Contains}
use Rattle.au_base.specs.Limits.{TABLE_ROW_NUMBERS, TRANSACTION_CHANGES}
use Rattle.au_base.specs.Naming.{IsName}
use Rattle.au_base.specs.declared.numbers.ClientNo.{ClientNo}
use Rattle.au_base.specs.declared.numbers.RowNo.{RowNo}
use Rattle.au_base.specs.declared.table.TableName.{TableName}
use Rattle.au_entries.specs.declared.kept.Kept.{Kept}
use Rattle.au_expr.specs.Sessions.{IsSoundSession, Session}
use Rattle.au_fga.specs.Testing.{truth_over}
use Rattle.au_kept.specs.Keeping.{HoldsTogether}
use Rattle.au_kept.specs.OpenChanges.{AreAmong}
use Rattle.au_kept.specs.Writing.{KeepsKeys}
use Rattle.au_literals.specs.Literals.{AreLiteralsSound}
use Rattle.au_plan.specs.Plans.{IsPlanOf}
use Rattle.au_ruling.specs.declared.kind.StatementKind.{StatementKind}
use Rattle.au_ruling.specs.declared.kind.StatementKind.TheVariants.{OnRows, Commit, Rollback, Definition, Administration}
use Rattle.au_ruling.specs.declared.ruling.Ruling.{Ruling}
use Rattle.au_ruling.specs.Kinds.{is_kind_on_rows}
use Rattle.au_ruling.specs.Rulings.{ComesAs, Ground, sight_in}
use Rattle.au_ruling.specs.Sound.{IsDeskIn, IsSoundGround, IsSoundStatement}
use Rattle.au_ruling.proofs.Changed.{defined_purge}
use Rattle.au_ruling.proofs.Once.{setting_in}
use Rattle.au_txn.specs.declared.change.RowChange.{RowChange}
use Rattle.au_txn.specs.Desks.{Contents as Desk, key_of, open_of}
use Rattle.au_txn.specs.Keys.{KeysDiffer}
use Rattle.au_txn.specs.Transactions.{IsNumber, laid_over, names_row}
use Rattle.au_world.specs.declared.row_plan.RowPlan.{RowPlan}
use Rattle.au_world.specs.Plans.{Truths}
use Rattle.au_world.specs.Sights.{Sight}
use Rattle.au_writing.specs.Written.{CanBeWritten, Shows}
use Rattle.sql_ast.specs.declared.statement.Statement.{Statement}

-- ---- what is known below

abbrev pub PlansCanBeWritten : Type 0
PlansCanBeWritten =
    (kept : Kept) (desk : Desk) (sight : Sight) (client : ClientNo) (truth : Truths) (session : Session) (statement : Statement) (plan : RowPlan)
    → HoldsTogether kept desk → Shows kept desk client sight → IsSoundSession session → IsName session.user → AreLiteralsSound statement
    → IsPlanOf truth sight client session statement plan → CanBeWritten kept desk client plan.changes

-- ---- what is so by the kind

abbrev IsQuiet : Ruling → Type 0
IsQuiet ruling = (ruling.changes ≡ []) × (ruling.purge ≡ None) × (ruling.undoes ≡ false)

pub only_rows : (kind : StatementKind) (basis : Ground) (x : Statement) (ruling : Ruling) → ComesAs kind basis x ruling → is_kind_on_rows kind ≡ true
    → (ruling.changes ≡ []) × (ruling.purge ≡ None) × (ruling.undoes ≡ false)
only_rows OnRows basis x ruling comes on_rows = subst IsQuiet (sym comes.2) (refl, refl, refl)
only_rows Commit basis x ruling comes on_rows = absurd (let e : false ≡ true = on_rows in cc)
only_rows Rollback basis x ruling comes on_rows = absurd (let e : false ≡ true = on_rows in cc)
only_rows Definition basis x ruling comes on_rows = absurd (let e : false ≡ true = on_rows in cc)
only_rows Administration basis x ruling comes on_rows = absurd (let e : false ≡ true = on_rows in cc)

abbrev HasNoRows : Ruling → Type 0
HasNoRows ruling = ruling.rows ≡ []

pub no_rows : (kind : StatementKind) (basis : Ground) (x : Statement) (ruling : Ruling) → ComesAs kind basis x ruling → is_kind_on_rows kind ≡ false → ruling.rows ≡ []
no_rows OnRows basis x ruling comes other = absurd (let e : true ≡ false = other in cc)
no_rows Commit basis x ruling comes other = subst HasNoRows (sym comes) refl
no_rows Rollback basis x ruling comes other = subst HasNoRows (sym comes) refl
no_rows Definition basis x ruling comes other = subst HasNoRows (sym comes.2) refl
no_rows Administration basis x ruling comes other = subst HasNoRows (sym comes.2) refl

pub undone_no_rows : (kind : StatementKind) (basis : Ground) (x : Statement) (ruling : Ruling) → ComesAs kind basis x ruling → ruling.undoes ≡ true → ruling.rows ≡ []
undone_no_rows OnRows basis x ruling comes undone =
    let e : false ≡ true = sym (ap (λ (some : Ruling). some.undoes) comes.2) ∙ undone in absurd cc
undone_no_rows Commit basis x ruling comes undone = no_rows Commit basis x ruling comes refl
undone_no_rows Rollback basis x ruling comes undone = no_rows Rollback basis x ruling comes refl
undone_no_rows Definition basis x ruling comes undone = no_rows Definition basis x ruling comes refl
undone_no_rows Administration basis x ruling comes undone = no_rows Administration basis x ruling comes refl

pub defined_purges_none : (kind : StatementKind) (basis : Ground) (x : Statement) (ruling : Ruling) → ComesAs kind basis x ruling → kind ≡ Definition → ruling.purge ≡ None
defined_purges_none OnRows basis x ruling comes is = absurd cc
defined_purges_none Commit basis x ruling comes is = absurd cc
defined_purges_none Rollback basis x ruling comes is = absurd cc
defined_purges_none Definition basis x ruling comes is = ap (λ (some : Ruling). some.purge) comes.2 ∙ defined_purge (setting_in basis) x comes.0 comes.1
defined_purges_none Administration basis x ruling comes is = absurd cc

-- ---- the changes of rows

module _ (basis : Ground) (desk : Desk) (holds : HoldsTogether basis.kept desk) (is_desk : IsDeskIn basis desk) (sound : IsSoundGround basis) where
  abbrev own : List RowChange
  own = open_of desk basis.client

  -- none are as many as before
  none_short : (n : ℕ) → n ≤ TRANSACTION_CHANGES → (m : ℕ) → m ≡ n → m ≤ TRANSACTION_CHANGES
  none_short n few m is = omega (arith, few, is)

  abbrev Differ : List RowChange → Type 0
  Differ changes = (table : TableName) → KeysDiffer (key_of table desk.tables) table (laid_over desk.rows changes)

  no_keys : KeepsKeys desk basis.client []
  no_keys = record {
    once = refl;
    differ = subst Differ (sym (append-nil own)) (λ table. holds.keyed.seen basis.client table);
    unlocked = λ table key keyed makes locked. no_element makes.0 makes.1;
  }
    where
      no_element : (change : RowChange) → Contains {X = RowChange} [] change → ⊥
      no_element change (k, within, is) = omega arith

  no_number : (table : TableName) (number : RowNo) → IsNumber desk.rows (open_of desk) table number ⊎ IsTrue (names_row table number []) → IsNumber desk.rows (open_of desk) table number
  no_number table number (inl is) = is
  no_number table number (inr is) = absurd (let e : false ≡ true = is in cc)

  no_more : (table : TableName) → AreAmong TABLE_ROW_NUMBERS (λ number. IsNumber desk.rows (open_of desk) table number ⊎ IsTrue (names_row table number []))
  no_more table =
      let few = holds.changes.few table in (few.0, few.1, λ number is. few.2 number (no_number table number is))

  none_written : CanBeWritten basis.kept desk basis.client []
  none_written = record {
    writable = tt;
    old = tt;
    keys = no_keys;
    sound = record {
      each = tt;
      short = none_short (length own) (holds.changes.short basis.client) (length (own ++ [])) (ap length (append-nil own));
      few = no_more;
    };
  }

  shows : Shows basis.kept desk basis.client (sight_in basis)
  shows = record {
    catalog = refl;
    committed = is_desk.rows;
    rows = sym is_desk.rows;
    own = sym (is_desk.changes basis.client);
    transactions = λ other. sym (is_desk.changes other);
  }

  counted : (n : ℕ) → n ≤ 999_999_999_999_999_999 → n < 2 ^ 64
  counted n few = omega (arith, few)

  named : (user : List ℕ) → IsName user → user ≢ []
  named user is_name empty = let some = is_name.0.some in let none : length user ≡ 0 = ap length empty in omega (arith, some, none)

  session_sound : IsSoundSession basis.session
  session_sound = record { named = named basis.session.user sound.named; counted = counted basis.session.session.0 sound.number; early = sound.stamp }

  abbrev Written : Ruling → Type 0
  Written ruling = CanBeWritten basis.kept desk basis.client ruling.rows

  pub rows_written : PlansCanBeWritten → (kind : StatementKind) (x : Statement) (ruling : Ruling) → IsSoundStatement x → ComesAs kind basis x ruling → CanBeWritten basis.kept desk basis.client ruling.rows
  rows_written plans OnRows x ruling stated comes =
      subst Written (sym comes.2) (plans basis.kept desk (sight_in basis) basis.client (truth_over basis.session basis.kept.tables) basis.session x comes.0
      holds shows session_sound sound.named stated.literals comes.1)
  rows_written plans Commit x ruling stated comes = subst Written (sym comes) none_written
  rows_written plans Rollback x ruling stated comes = subst Written (sym comes) none_written
  rows_written plans Definition x ruling stated comes = subst Written (sym comes.2) none_written
  rows_written plans Administration x ruling stated comes = subst Written (sym comes.2) none_written
