-- What is kept is whole after the changes of a statement on audit policies or of a call, where it was before, and its users
-- stay.
use Rattle.std.proofs.Common.{◌≡◌, ◌≤◌, ℕ, suc, Bool, true, false, not, List, [], ◌∷◌, Result, Ok, Err, length, arith}
use Rattle.std.specs.Prelude.{⊤, IsTrue, nat_le, option_map}
use Rattle.std.specs.declared.cmp.Ordering.{Ordering}
use Rattle.std.specs.Str.{bytes_eq}
use Rattle.std.proofs.lemmas.Bool.Decides.{nat_tests}
use Rattle.au_admin.specs.Deciding.{Decides}
use Rattle.au_admin.specs.Enabling.{audit_makes, enabling, noaudit_makes}
use Rattle.au_admin.specs.Policies.{actions_of, new_policy, privileges_of, roles_of, when_of}
use Rattle.au_admin.proofs.Apart.{filter_fewer}
use Rattle.au_admin.proofs.Made.{made}
use Rattle.au_admin.proofs.Placing.{put_more}
use Rattle.au_base.specs.Limits.{CATALOG_OBJECTS}
use Rattle.au_base.specs.declared.code.Code.{Code}
use Rattle.au_base.specs.declared.numbers.ClientNo.{ClientNo}
use Rattle.au_base.specs.declared.numbers.Stamp.{Stamp}
use Rattle.au_calls.specs.Calling.{DecidesCall}
use Rattle.au_calls.specs.Settings.{setting_of}
use Rattle.au_entries.specs.declared.change.Change.{Change}
use Rattle.au_entries.specs.declared.change.Change.TheVariants as change
use Rattle.au_entries.specs.declared.decision.Busy.{Busy}
use Rattle.au_entries.specs.declared.decision.Decision.{Decision}
use Rattle.au_entries.specs.declared.decision.ReadCondition.{ReadCondition}
use Rattle.au_entries.specs.declared.kept.Kept.{Kept}
use Rattle.au_entries.specs.declared.policy.AuditPolicy.{AuditPolicy}
use Rattle.au_entries.specs.declared.policy.Enabled.{Enabled}
use Rattle.au_entries.specs.Changing.{by_name, changed_all, with_tree}
use Rattle.au_entries.specs.Lawful.{IsWhole}
use Rattle.au_entries.specs.Replaying.{has_user}
use Rattle.sql_ast.specs.declared.administration.CreatePolicy.{CreatePolicy as AnyCreate}
use Rattle.sql_ast.specs.declared.call.Call.{Call as AnyCall}
use Rattle.sql_ast.specs.declared.expression.Expr.{Expr}
use Rattle.sql_ast.specs.declared.statement.Statement.{Statement}

less_than : (n : ℕ) → nat_le CATALOG_OBJECTS n ≡ false → suc n ≤ CATALOG_OBJECTS
less_than n is = grind (arith, nat_tests)

module _ (tree : List ℕ → Expr) (kept : Kept) where
  -- what is whole is so behind the changes
  abbrev Keeps : List Change → Type 0
  Keeps changes = IsWhole kept → IsWhole (changed_all tree changes kept)

  created : (user : List ℕ) (create : AnyCreate) → nat_le CATALOG_OBJECTS (length kept.policies) ≡ false → Keeps (new_policy user create ∷ [])
  created user create room whole =
      let order : AuditPolicy → Ordering = λ policy. by_name policy.name create.policy in
      let one : AuditPolicy = record { name = create.policy; privileges = privileges_of create; actions = actions_of user create; roles = roles_of create; when = with_tree tree (option_map when_of create.condition) } in
      let more = put_more order one kept.policies in
      let less = less_than (length kept.policies) room in
      record {
        fits = whole.fits;
        keys = whole.keys;
        few = record { users = whole.few.users; roles = whole.few.roles; tables = whole.few.tables; policies = omega (arith, more, less); fga = whole.few.fga; grants = whole.few.grants; columns = whole.few.columns; rows = whole.few.rows };
      }

  gone : (policy : List ℕ) → Keeps (change.PolicyGone policy ∷ [])
  gone policy whole =
      let fewer = filter_fewer (λ (other : AuditPolicy). not (bytes_eq other.name policy)) kept.policies in
      let few = whole.few.policies in
      record {
        fits = whole.fits;
        keys = whole.keys;
        few = record { users = whole.few.users; roles = whole.few.roles; tables = whole.few.tables; policies = omega (arith, fewer, few); fga = whole.few.fga; grants = whole.few.grants; columns = whole.few.columns; rows = whole.few.rows };
      }

  enables : (policy : List ℕ) (same : Bool) (made : Result Enabled Code) → Keeps (enabling same policy made)
  enables policy true (Ok made) whole = whole
  enables policy false (Ok made) whole = record {
    fits = whole.fits;
    keys = whole.keys;
    few = record { users = whole.few.users; roles = whole.few.roles; tables = whole.few.tables; policies = whole.few.policies; fga = whole.few.fga; grants = whole.few.grants; columns = whole.few.columns; rows = whole.few.rows };
  }
  enables policy same (Err code) whole = whole

  -- the users are those that were there
  abbrev Stays : List ℕ → List Change → Type 0
  Stays who changes = IsTrue (has_user (changed_all tree changes kept) who)

  still : (who policy : List ℕ) → IsTrue (has_user kept who) → (same : Bool) (made : Result Enabled Code) → Stays who (enabling same policy made)
  still who policy there true (Ok made) = there
  still who policy there false (Ok made) = there
  still who policy there same (Err code) = there

pub whole : ((tree : List ℕ → Expr) (kept : Kept) (user : List ℕ) (client : ClientNo) (busy : Busy) (stamp : Stamp) (read : ReadCondition) (call : AnyCall) (decision : Decision) → IsWhole kept
    → DecidesCall (setting_of kept user client busy stamp read) call decision → IsWhole (changed_all tree decision.changes kept))
    → (tree : List ℕ → Expr) (kept : Kept) (user : List ℕ) (client : ClientNo) (busy : Busy) (stamp : Stamp) (read : ReadCondition) (statement : Statement) (decision : Decision) → IsWhole kept
    → Decides (setting_of kept user client busy stamp read) statement decision → IsWhole (changed_all tree decision.changes kept)
whole calls tree kept user client busy stamp read statement decision is decides =
    made (λ changes. IsWhole (changed_all tree changes kept)) (λ any. ⊤) (setting_of kept user client busy stamp read) is
    (λ create holds room. created tree kept user create room is) (λ policy holds. gone tree kept policy is)
    (λ audit same holds there. enables tree kept audit.policy same (audit_makes (setting_of kept user client busy stamp read) audit) is)
    (λ policy users same holds. enables tree kept policy same (noaudit_makes (setting_of kept user client busy stamp read) policy users) is)
    (λ call one holds at. calls tree kept user client busy stamp read call one is at) statement decision tt decides

pub stay : ((tree : List ℕ → Expr) (kept : Kept) (user : List ℕ) (client : ClientNo) (busy : Busy) (stamp : Stamp) (read : ReadCondition) (call : AnyCall) (decision : Decision) (who : List ℕ)
    → IsTrue (has_user kept who) → DecidesCall (setting_of kept user client busy stamp read) call decision → IsTrue (has_user (changed_all tree decision.changes kept) who))
    → (tree : List ℕ → Expr) (kept : Kept) (user : List ℕ) (client : ClientNo) (busy : Busy) (stamp : Stamp) (read : ReadCondition) (statement : Statement) (decision : Decision) (who : List ℕ)
    → IsTrue (has_user kept who) → Decides (setting_of kept user client busy stamp read) statement decision → IsTrue (has_user (changed_all tree decision.changes kept) who)
stay calls tree kept user client busy stamp read statement decision who there decides =
    made (λ changes. IsTrue (has_user (changed_all tree changes kept) who)) (λ any. ⊤) (setting_of kept user client busy stamp read) there
    (λ create holds room. there) (λ policy holds. there)
    (λ audit same holds known. still tree kept who audit.policy there same (audit_makes (setting_of kept user client busy stamp read) audit))
    (λ policy users same holds. still tree kept who policy there same (noaudit_makes (setting_of kept user client busy stamp read) policy users))
    (λ call one holds at. calls tree kept user client busy stamp read call one who there at) statement decision tt decides
