-- A table that a statement drops has no change of another client in it, where busy tables are told.
use Rattle.std.proofs.Common.{◌≡◌, ◌≢◌, ◌==◌, ◌&&◌, ◌||◌, ◌∙◌, inl, inr, ℕ, suc, zero, Bool, true, false, not, List, [], ◌∷◌, map, Option, Some, None, refl, ap, sym, subst, arith}
use Rattle.std.proofs.lemmas.Bool.{ne_eqb}
use Rattle.std.proofs.lemmas.Bool.Decides.{eqb_tells}
use Rattle.std.specs.List.{AllByRecursion, Contains, list_any}
use Rattle.au_admin.specs.Deciding as administration
use Rattle.au_audit.specs.Statements.{tables_of}
use Rattle.au_base.specs.BuiltIn.{resolved_table}
use Rattle.au_base.specs.Sameness.{same_table}
use Rattle.au_base.specs.declared.numbers.ClientNo.{ClientNo}
use Rattle.au_base.specs.declared.table.TableName.{TableName}
use Rattle.au_base.specs.declared.table.TableReference.{TableReference}
use Rattle.au_define.specs.Deciding as definitions
use Rattle.au_define.specs.Granting.{change_of}
use Rattle.au_define.specs.Tables.{is_changed}
use Rattle.au_entries.specs.declared.change.Change.{Change}
use Rattle.au_entries.specs.declared.change.Change.TheVariants as change
use Rattle.au_entries.specs.declared.decision.Decision.{Decision}
use Rattle.au_grants.specs.declared.change.GrantChange.{GrantChange}
use Rattle.au_grants.specs.declared.change.GrantChange.TheVariants as grant
use Rattle.au_kept.specs.Staging.{IsFree}
use Rattle.au_ruling.proofs.Changed.{TouchesRows, administered_so, defined_so}
use Rattle.au_ruling.proofs.Granted.{AreGrants, IsGrant, all_grant}
use Rattle.au_ruling.proofs.Once.{audit_setting_in, setting_in}
use Rattle.au_ruling.proofs.RightCodes.{TablesAreSame}
use Rattle.au_ruling.specs.declared.kind.StatementKind.{StatementKind}
use Rattle.au_ruling.specs.declared.kind.StatementKind.TheVariants.{OnRows, Commit, Rollback, Definition, Administration}
use Rattle.au_ruling.specs.declared.ruling.Ruling.{Ruling}
use Rattle.au_ruling.specs.Rulings.{ComesAs, Ground}
use Rattle.au_ruling.specs.Sound.{TellsBusy}
use Rattle.au_txn.specs.Desks.{Contents as Desk, open_of}
use Rattle.au_txn.specs.Transactions.{names_table}
use Rattle.sql_ast.specs.declared.statement.Statement.{Statement}
use Rattle.sql_ast.specs.declared.statement.Statement.TheVariants as is

here : {X : Type 0} (x : X) (xs : List X) → Contains (x ∷ xs) x
here x xs = (0, omega arith, refl)

or_second : (a b : Bool) → b ≡ true → (a || b) ≡ true
or_second true b is = refl
or_second false b is = is

or_first : (a b : Bool) → a ≡ true → (a || b) ≡ true
or_first true b is = refl
or_first false b is = absurd cc

both : (a b : Bool) → a ≡ true → b ≡ true → (a && b) ≡ true
both true b h k = k
both false b h k = absurd cc

-- a test that an element passes finds one
found : {X : Type 0} (test : X → Bool) (xs : List X) (x : X) → Contains xs x → test x ≡ true → list_any test xs ≡ true
found test [] x (k, within, is) passes = absurd (omega arith)
found test (y ∷ xs) x (zero, within, is) passes = or_first (test y) (list_any test xs) (ap test is ∙ passes)
found test (y ∷ xs) x (suc k, within, is) passes = or_second (test y) (list_any test xs) (found test xs x (k, omega arith, is) passes)

module _ (same : TablesAreSame) (basis : Ground) (x : Statement) (desk : Desk) (tells : TellsBusy basis x desk) (commits : Option ClientNo)
    (own : (client : ClientNo) (table : TableName) → commits ≢ Some client → client.0 ≡ basis.client.0 → names_table table (open_of desk client) ≡ false) where
  abbrev pub AreFree : List Change → Type 0
  AreFree changes = AllByRecursion (IsFree commits desk) changes

  -- another client's change in the table is told
  is_told : (client : ClientNo) (table : TableName) → client.0 ≢ basis.client.0 → Contains basis.busy.tables (table, client) → is_changed (setting_in basis) table ≡ true
  is_told client table unlike told =
      found (λ entry. same_table entry.0 table && not (entry.1.0 == basis.client.0)) basis.busy.tables (table, client) told
      (both (same_table table table) (not (client.0 == basis.client.0)) ((same table table).1 refl) (ap not (ne_eqb client.0 basis.client.0 unlike)))

  other_free : (client : ClientNo) (table : TableName) → client.0 ≢ basis.client.0 → Contains (tables_of basis.session.user x) table → is_changed (setting_in basis) table ≡ false
      → (named : Bool) → names_table table (open_of desk client) ≡ named → named ≡ false
  other_free client table unlike written unchanged false is = refl
  other_free client table unlike written unchanged true is =
      let changed = is_told client table unlike (tells client table unlike written is) in let clash : true ≡ false = sym changed ∙ unchanged in absurd cc

  table_free : (table : TableName) → Contains (tables_of basis.session.user x) table → is_changed (setting_in basis) table ≡ false
      → (client : ClientNo) → commits ≢ Some client → names_table table (open_of desk client) ≡ false
  table_free table written unchanged client others =
      elim (eqb_tells client.0 basis.client.0) [
        | inl alike ↦ own client table others alike.1
        | inr unlike ↦ other_free client table unlike.1 written unchanged (names_table table (open_of desk client)) refl
      ]

  is_free : (one : Change) → ¬ TouchesRows one → IsFree commits desk one
  is_free (change.User name verifier) untouching = tt
  is_free (change.UserGone name) untouching = tt
  is_free (change.Role name) untouching = tt
  is_free (change.RoleGone name) untouching = tt
  is_free (change.SysGrant grantee privilege admin) untouching = tt
  is_free (change.SysRevoke grantee privilege) untouching = tt
  is_free (change.RoleGrant grantee role admin) untouching = tt
  is_free (change.RoleRevoke grantee role) untouching = tt
  is_free (change.ObjGrant grantee table action) untouching = tt
  is_free (change.ObjRevoke grantee table action) untouching = tt
  is_free (change.Table name columns key) untouching = tt
  is_free (change.TableGone table) untouching = absurd (untouching tt)
  is_free (change.Put name row cells) untouching = tt
  is_free (change.Gone name row) untouching = tt
  is_free (change.Policy name privileges actions roles when) untouching = tt
  is_free (change.PolicyGone name) untouching = tt
  is_free (change.Enable policy enabled) untouching = tt
  is_free (change.Fga table policy condition columns all types enabled) untouching = tt
  is_free (change.FgaGone table policy) untouching = tt
  is_free (change.Archive stamp) untouching = tt
  is_free (change.Start instance) untouching = tt

  one_free : (one : Change) → ¬ TouchesRows one → AreFree (one ∷ [])
  one_free one untouching = (is_free one untouching, tt)

  two_free : (a b : Change) → ¬ TouchesRows a → ¬ TouchesRows b → AreFree (a ∷ b ∷ [])
  two_free a b untouching other = (is_free a untouching, (is_free b other, tt))

  granted_free : (one : GrantChange) → IsGrant one → IsFree commits desk (change_of one)
  granted_free (grant.UserGone user) grants = tt
  granted_free (grant.RoleGone role) grants = tt
  granted_free (grant.SystemGrant grantee privilege admin) grants = tt
  granted_free (grant.SystemRevoke grantee privilege) grants = tt
  granted_free (grant.RoleGrant grantee role admin) grants = tt
  granted_free (grant.RoleRevoke grantee role) grants = tt
  granted_free (grant.ObjectGrant grantee table action) grants = tt
  granted_free (grant.ObjectRevoke grantee table action) grants = tt
  granted_free (grant.TableGone table) grants = absurd grants

  all_granted : (changes : List GrantChange) → AreGrants changes → AreFree (map change_of changes)
  all_granted [] all = tt
  all_granted (one ∷ changes) all = (granted_free one all.0, all_granted changes all.1)

  -- the table of DROP TABLE is one that the statement names
  dropped_free : (table : TableReference) → x ≡ is.DropTable table → is_changed (setting_in basis) (resolved_table basis.session.user table) ≡ false
      → AreFree (change.TableGone (resolved_table basis.session.user table) ∷ [])
  dropped_free table drops unchanged =
      let written : Contains (tables_of basis.session.user x) (resolved_table basis.session.user table) =
      subst (λ (y : Statement). Contains (tables_of basis.session.user y) (resolved_table basis.session.user table)) (sym drops) (here (resolved_table basis.session.user table) []) in
      (λ client others. table_free (resolved_table basis.session.user table) written unchanged client others, tt)

  defined_free : (decision : Decision) → definitions.Decides (setting_in basis) x decision → AreFree decision.changes
  defined_free decision decides =
      defined_so AreFree tt one_free two_free (setting_in basis) x decision dropped_free
      (λ statement decided grants rights. all_granted decided.grants (all_grant (setting_in basis).grants _ basis.session.user statement decided rights)) decides

  administered_free : (decision : Decision) → administration.Decides (audit_setting_in basis x) x decision → AreFree decision.changes
  administered_free decision decides = administered_so AreFree tt one_free (audit_setting_in basis x) x decision decides

  abbrev HasFree : Ruling → Type 0
  HasFree some = AreFree some.changes

  pub all_free : (kind : StatementKind) (ruling : Ruling) → ComesAs kind basis x ruling → AreFree ruling.changes
  all_free OnRows ruling comes = subst HasFree (sym comes.2) tt
  all_free Commit ruling comes = subst HasFree (sym comes) tt
  all_free Rollback ruling comes = subst HasFree (sym comes) tt
  all_free Definition ruling comes = subst HasFree (sym comes.2) (defined_free comes.0 comes.1)
  all_free Administration ruling comes = subst HasFree (sym comes.2) (administered_free comes.0 comes.1)

abbrev numbered : ℕ → ClientNo
numbered n = record { 0 = n }

-- a client without changes
pub free_of_all : TablesAreSame → (basis : Ground) (x : Statement) (desk : Desk) → TellsBusy basis x desk → open_of desk basis.client ≡ []
    → (kind : StatementKind) (ruling : Ruling) → ComesAs kind basis x ruling → AllByRecursion (IsFree None desk) ruling.changes
free_of_all same basis x desk tells none kind ruling comes =
    all_free same basis x desk tells None (λ client table others alike. ap (names_table table) (at client alike ∙ none)) kind ruling comes
  where
    at : (client : ClientNo) → client.0 ≡ basis.client.0 → open_of desk client ≡ open_of desk basis.client
    at client alike = ap (open_of desk) (ap numbered alike)

-- the client's own changes aside
pub free_but_own : TablesAreSame → (basis : Ground) (x : Statement) (desk : Desk) → TellsBusy basis x desk
    → (kind : StatementKind) (ruling : Ruling) → ComesAs kind basis x ruling → AllByRecursion (IsFree (Some basis.client) desk) ruling.changes
free_but_own same basis x desk tells kind ruling comes =
    all_free same basis x desk tells (Some basis.client) (λ client table others alike. absurd (others (ap (λ (n : ℕ). Some (numbered n)) (sym alike)))) kind ruling comes
