-- What is kept is whole after the changes of a call, where it was before, and its users stay.
use Rattle.std.proofs.Common.{◌≡◌, ◌≤◌, ◌∙◌, ℕ, suc, Bool, true, false, not, List, [], ◌∷◌, Option, None, length, refl, arith, ap}
use Rattle.std.specs.Prelude.{IsTrue, nat_le}
use Rattle.std.specs.List.{Contains, list_any}
use Rattle.std.specs.Ordering.{is_eq, nat_cmp, ordering_then}
use Rattle.std.specs.Cmp.Lexicographic.{slice_cmp}
use Rattle.std.specs.declared.cmp.Ordering.{Ordering}
use Rattle.std.specs.declared.cmp.Ordering.TheVariants.{Less, Equal, Greater}
use Rattle.std.specs.Str.{bytes_eq}
use Rattle.std.proofs.lemmas.Bool.Decides.{nat_tests}
use Rattle.std.proofs.lemmas.Map.Text.{is_eq-slice_cmp}
use Rattle.std.proofs.lemmas.Slice.Eq.{bytes_eq-Decides}
use Rattle.au_calls.specs.Archiving.{archive_time}
use Rattle.au_calls.specs.Calling.{DecidesCall}
use Rattle.au_calls.specs.Settings.{setting_of}
use Rattle.au_calls.proofs.Apart.{filter_fewer}
use Rattle.au_calls.proofs.Made.{made}
use Rattle.au_calls.proofs.Placing.{put_more, put_same}
use Rattle.au_base.specs.Limits.{CATALOG_OBJECTS}
use Rattle.au_base.specs.declared.numbers.ClientNo.{ClientNo}
use Rattle.au_base.specs.declared.numbers.Stamp.{Stamp}
use Rattle.au_base.specs.declared.table.TableName.{TableName}
use Rattle.au_entries.specs.declared.change.Change.{Change}
use Rattle.au_entries.specs.declared.change.Change.TheVariants as change
use Rattle.au_entries.specs.declared.decision.Busy.{Busy}
use Rattle.au_entries.specs.declared.decision.Decision.{Decision}
use Rattle.au_entries.specs.declared.decision.ReadCondition.{ReadCondition}
use Rattle.au_entries.specs.declared.fine_grained.FgaPolicy.{FgaPolicy}
use Rattle.au_entries.specs.declared.kept.Kept.{Kept}
use Rattle.au_entries.specs.Changing.{by_fields, changed_all, fga_after, fga_fields, is_fga, read_as}
use Rattle.au_entries.specs.Lawful.{IsWhole}
use Rattle.au_entries.specs.Replaying.{has_user}
use Rattle.sql_ast.specs.declared.call.Call.{Call}
use Rattle.sql_ast.specs.declared.expression.Expr.{Expr}

less_than : (n : ℕ) → nat_le CATALOG_OBJECTS n ≡ false → suc n ≤ CATALOG_OBJECTS
less_than n is = grind (arith, nat_tests)

tied_then : (o p : Ordering) → is_eq o ≡ true → is_eq p ≡ true → is_eq (ordering_then o p) ≡ true
tied_then Less p is also = absurd (let e : false ≡ true = is in cc)
tied_then Equal p is also = also
tied_then Greater p is also = absurd (let e : false ≡ true = is in cc)

tied_text : (text : List ℕ) → is_eq (slice_cmp nat_cmp text text) ≡ true
tied_text text = is_eq-slice_cmp text text ∙ (bytes_eq-Decides text text).1 refl

-- a fine-grained policy stands where one of its name does
tied : (table : TableName) (policy : List ℕ) → is_eq (by_fields (fga_fields table policy) (fga_fields table policy)) ≡ true
tied table policy =
    tied_then (slice_cmp nat_cmp table.owner table.owner) _ (tied_text table.owner)
    (tied_then (slice_cmp nat_cmp table.name table.name) _ (tied_text table.name) (tied_then (slice_cmp nat_cmp policy policy) Equal (tied_text policy) refl))

module _ (tree : List ℕ → Expr) (kept : Kept) where
  -- the users stay, and what is whole is so behind the changes
  abbrev Stays : List Change → Type 0
  Stays changes = ((changed_all tree changes kept).users ≡ kept.users) × (IsWhole kept → IsWhole (changed_all tree changes kept))

  stays_alone : Stays []
  stays_alone = (refl, λ whole. whole)

  fga_set : (table : TableName) (policy : List ℕ) (condition : Option (List ℕ)) (columns : List (List ℕ)) (all : Bool) (types : ℕ) (enabled : Bool)
      → (IsWhole kept → length (fga_after tree (change.Fga table policy condition columns all types enabled) kept.fga) ≤ CATALOG_OBJECTS) → Stays (change.Fga table policy condition columns all types enabled ∷ [])
  fga_set table policy condition columns all types enabled few = (
    refl,
    λ whole. record {
      fits = whole.fits;
      keys = whole.keys;
      few = record { users = whole.few.users; roles = whole.few.roles; tables = whole.few.tables; policies = whole.few.policies; fga = few whole; grants = whole.few.grants; columns = whole.few.columns; rows = whole.few.rows };
    },
  )

  fga_new : (table : TableName) (policy : List ℕ) (condition : Option (List ℕ)) (columns : List (List ℕ)) (all : Bool) (types : ℕ) (enabled : Bool) → nat_le CATALOG_OBJECTS (length kept.fga) ≡ false
      → Stays (change.Fga table policy condition columns all types enabled ∷ [])
  fga_new table policy condition columns all types enabled room =
      let order : FgaPolicy → Ordering = λ other. by_fields (fga_fields other.name.table other.name.policy) (fga_fields table policy) in
      let one : FgaPolicy = record { name = record { table = table; policy = policy }; condition = read_as tree condition; columns = columns; all = all; types = types; enabled = enabled } in
      fga_set table policy condition columns all types enabled (λ whole. (let more = put_more order one kept.fga in let less = less_than (length kept.fga) room in omega (arith, more, less)))

  fga_again : (old : FgaPolicy) (condition : Option (List ℕ)) (columns : List (List ℕ)) (all : Bool) (types : ℕ) (enabled : Bool) → Contains kept.fga old
      → Stays (change.Fga old.name.table old.name.policy condition columns all types enabled ∷ [])
  fga_again old condition columns all types enabled has =
      let order : FgaPolicy → Ordering = λ other. by_fields (fga_fields other.name.table other.name.policy) (fga_fields old.name.table old.name.policy) in
      let one : FgaPolicy = record { name = record { table = old.name.table; policy = old.name.policy }; condition = read_as tree condition; columns = columns; all = all; types = types; enabled = enabled } in
      fga_set old.name.table old.name.policy condition columns all types enabled
      (λ whole. (let same = put_same order one kept.fga old has (tied old.name.table old.name.policy) in let few = whole.few.fga in omega (arith, same, few)))

  fga_gone : (table : TableName) (policy : List ℕ) → Stays (change.FgaGone table policy ∷ [])
  fga_gone table policy = (
    refl,
    λ whole. (let fga = filter_fewer (λ (other : FgaPolicy). not (is_fga table policy other)) kept.fga in let few = whole.few.fga in record {
      fits = whole.fits;
      keys = whole.keys;
      few = record { users = whole.few.users; roles = whole.few.roles; tables = whole.few.tables; policies = whole.few.policies; fga = omega (arith, fga, few); grants = whole.few.grants; columns = whole.few.columns; rows = whole.few.rows };
    }),
  )

  archived : (archive : Option Stamp) → Stays (change.Archive archive ∷ [])
  archived archive = (
    refl,
    λ whole. record {
      fits = whole.fits;
      keys = whole.keys;
      few = record { users = whole.few.users; roles = whole.few.roles; tables = whole.few.tables; policies = whole.few.policies; fga = whole.few.fga; grants = whole.few.grants; columns = whole.few.columns; rows = whole.few.rows };
    },
  )

  stays : (user : List ℕ) (client : ClientNo) (busy : Busy) (stamp : Stamp) (read : ReadCondition) (call : Call) (decision : Decision) → DecidesCall (setting_of kept user client busy stamp read) call decision
      → Stays decision.changes
  stays user client busy stamp read call decision decides =
      let setting = setting_of kept user client busy stamp read in
      made Stays setting call.arguments stays_alone
      (λ target parts named asked room. fga_new target.table target.policy parts.condition parts.columns parts.flags.all parts.flags.types parts.flags.enabled room)
      (λ target named. fga_gone target.table target.policy)
      (λ on policy has. fga_again policy _ policy.columns policy.all policy.types on has)
      (archived None) (archived (archive_time setting call.arguments)) call.procedure decision decides

pub whole : (tree : List ℕ → Expr) (kept : Kept) (user : List ℕ) (client : ClientNo) (busy : Busy) (stamp : Stamp) (read : ReadCondition) (call : Call) (decision : Decision) → IsWhole kept
    → DecidesCall (setting_of kept user client busy stamp read) call decision → IsWhole (changed_all tree decision.changes kept)
whole tree kept user client busy stamp read call decision is decides = (stays tree kept user client busy stamp read call decision decides).1 is

pub stay : (tree : List ℕ → Expr) (kept : Kept) (user : List ℕ) (client : ClientNo) (busy : Busy) (stamp : Stamp) (read : ReadCondition) (call : Call) (decision : Decision) (who : List ℕ)
    → IsTrue (has_user kept who) → DecidesCall (setting_of kept user client busy stamp read) call decision → IsTrue (has_user (changed_all tree decision.changes kept) who)
stay tree kept user client busy stamp read call decision who there decides =
    ap (λ (users : List (List ℕ × List ℕ)). list_any (λ user. bytes_eq user.0 who) users) (stays tree kept user client busy stamp read call decision decides).0 ∙ there
