-- A statement has few changes, and few fine-grained policies fire on it.
use Rattle.std.proofs.Common.{◌≡◌, ◌≤◌, ◌<◌, ◌+◌, ◌*◌, ◌^◌, ◌∙◌, ℕ, false, inl, inr, List, [], ◌∷◌, length, map, sym, subst, arith}
use Rattle.std.proofs.lemmas.List.{length-append}
use Rattle.std.proofs.lemmas.Nat.{mul-le}
use Rattle.std.specs.List.{AllByRecursion}
use Rattle.au_admin.specs.Deciding as administration
use Rattle.au_base.specs.Limits.{STATEMENT_BYTES, TRANSACTION_CHANGES}
use Rattle.au_base.specs.declared.code.Code.{Code}
use Rattle.au_base.specs.declared.grant.GrantStatement.{GrantStatement}
use Rattle.au_base.specs.declared.grant.GrantStatement.TheVariants as S
use Rattle.au_base.specs.declared.grant.ObjectRight.{ObjectRight}
use Rattle.au_base.specs.declared.grant.ObjectRight.TheVariants as object
use Rattle.au_base.specs.declared.grant.Right.{Right}
use Rattle.au_base.specs.declared.table.TableName.{TableName}
use Rattle.au_base.specs.BuiltIn.{resolved_table}
use Rattle.au_calls.specs.Settings.{AuditSetting}
use Rattle.au_define.specs.Deciding as definitions
use Rattle.au_define.specs.Granting.{change_of, known_of}
use Rattle.au_define.specs.Settings.{Setting}
use Rattle.au_entries.specs.declared.change.Change.{Change}
use Rattle.au_entries.specs.declared.decision.Decision.{Decision}
use Rattle.au_grants.specs.declared.change.GrantChange.{GrantChange}
use Rattle.au_grants.specs.Changing.{applied_all}
use Rattle.au_grants.specs.Rights.{Grants, Name}
use Rattle.au_priv.specs.declared.decided.Decided.{Decided}
use Rattle.au_priv.specs.declared.decided.Known.{Known}
use Rattle.au_priv.specs.declared.pair.Way.{Way}
use Rattle.au_priv.specs.declared.pair.Way.TheVariants.{Grant, Revoke}
use Rattle.au_priv.specs.Deciding.{Decides as DecidesRights, DecidesOnTable, DecidesPairs, DecidesRights as DecidesRightsBy}
use Rattle.au_priv.specs.Pairs.{Pair, actions_of, object_change, object_pair, pairs, right_pair}
use Rattle.au_priv.specs.Walking.{is_effective, made, made_all}
use Rattle.au_ruling.specs.Sound.{AreFew, AreFewGrants, IsFew}
use Rattle.au_ruling.proofs.Lists.{all_joined, all_mapped, filter_fewer, mapped_long}
use Rattle.au_ruling.proofs.Changed.{TouchesRows, administered_so, defined_so}
use Rattle.sql_ast.specs.declared.statement.Statement.{Statement}

abbrev HasFew : List GrantChange → Type 0
HasFew changes = length changes + TRANSACTION_CHANGES < 2 ^ 32

-- ---- the pairs of GRANT and REVOKE

abbrev IsSmallPair : Pair → Type 0
IsSmallPair pair = length pair ≤ 4

made_few : (grants : Grants) (list : List Pair) → AllByRecursion IsSmallPair list → length (made_all grants list) ≤ 4 * length list
made_few grants [] small = omega arith
made_few grants (pair ∷ list) small =
    let whole = length-append (made grants pair) (made_all (applied_all (made grants pair) grants) list) in
    let here = filter_fewer (is_effective grants) pair in
    let first = small.0 in
    let rest = made_few (applied_all (made grants pair) grants) list small.1 in
    omega (arith, whole, here, first, rest)

module _ {R : Type 0} (make : R → Name → Pair) where
  pairs_long : (rights : List R) (grantees : List Name) → length (pairs make rights grantees) ≡ length rights * length grantees
  pairs_long [] grantees = omega arith
  pairs_long (right ∷ rights) grantees =
      let whole = length-append (map (make right) grantees) (pairs make rights grantees) in
      let here = mapped_long (make right) grantees in
      let rest = pairs_long rights grantees in
      let product = suc_times (length rights) (length grantees) in
      whole ∙ (omega (arith, here, rest, product))
    where
      suc_times : (a b : ℕ) → (1 + a) * b ≡ b + a * b
      suc_times a b = omega arith

  module _ (small : (right : R) (grantee : Name) → length (make right grantee) ≤ 4) where
    pairs_small : (rights : List R) (grantees : List Name) → AllByRecursion IsSmallPair (pairs make rights grantees)
    pairs_small [] grantees = tt
    pairs_small (right ∷ rights) grantees = all_joined IsSmallPair (map (make right) grantees) (pairs make rights grantees) (all_mapped IsSmallPair (make right) (small right) grantees) (pairs_small rights grantees)

    made_pairs_few : (grants : Grants) (rights : List R) (grantees : List Name) → AreFew rights grantees → HasFew (made_all grants (pairs make rights grantees))
    made_pairs_few grants rights grantees few =
        let made_so = made_few grants (pairs make rights grantees) (pairs_small rights grantees) in
        let many = pairs_long rights grantees in
        let most = mul-le (length rights) (length grantees) STATEMENT_BYTES STATEMENT_BYTES few.0 few.1 in
        under (length (made_all grants (pairs make rights grantees))) (length (pairs make rights grantees)) (length rights * length grantees) made_so many most
      where
        under : (n list product : ℕ) → n ≤ 4 * list → list ≡ product → product ≤ STATEMENT_BYTES * STATEMENT_BYTES → n + TRANSACTION_CHANGES < 2 ^ 32
        under n list product made_so many most = omega (arith, made_so, many, most)

    decided_few : (grants : Grants) (known : Known) (rights : List R) (grantees : List Name) (code : Code) (changes : List GrantChange) → AreFew rights grantees
        → DecidesPairs grants known grantees (pairs make rights grantees) code changes → HasFew changes
    decided_few grants known rights grantees code changes few (inl refused) = subst HasFew (sym refused.1) (omega arith)
    decided_few grants known rights grantees code changes few (inr (inl refused)) = subst HasFew (sym refused.2) (omega arith)
    decided_few grants known rights grantees code changes few (inr (inr done)) = subst HasFew (sym done.3) (made_pairs_few grants rights grantees few)

right_small : (way : Way) (right : Right) (grantee : Name) → length (right_pair way right grantee) ≤ 4
right_small way right grantee = omega arith

actions_small : (right : ObjectRight) → length (actions_of right) ≤ 4
actions_small object.Select = omega arith
actions_small object.Insert = omega arith
actions_small object.Update = omega arith
actions_small object.Delete = omega arith
actions_small object.All = omega arith

object_small : (way : Way) (table : TableName) (right : ObjectRight) (grantee : Name) → length (object_pair way table right grantee) ≤ 4
object_small way table right grantee =
    let same = mapped_long (object_change way table grantee) (actions_of right) in let small = actions_small right in omega (arith, same, small)

rights_few : (grants : Grants) (known : Known) (user : Name) (way : Way) (rights : List Right) (grantees : List Name) (decided : Decided) → AreFew rights grantees
    → DecidesRightsBy grants known user way rights grantees decided → HasFew decided.grants
rights_few grants known user way rights grantees decided few (inl refused) = subst HasFew (sym refused.2) (omega arith)
rights_few grants known user way rights grantees decided few (inr taken) = decided_few (right_pair way) (right_small way) grants known rights grantees decided.code decided.grants few taken.2

table_few : (grants : Grants) (known : Known) (user : Name) (way : Way) (table : TableName) (rights : List ObjectRight) (grantees : List Name) (decided : Decided) → AreFew rights grantees
    → DecidesOnTable grants known user way table rights grantees decided → HasFew decided.grants
table_few grants known user way table rights grantees decided few (inl refused) = subst HasFew (sym refused.2) (omega arith)
table_few grants known user way table rights grantees decided few (inr taken) = decided_few (object_pair way table) (object_small way table) grants known rights grantees decided.code decided.grants few taken.2

grant_few : (grants : Grants) (known : Known) (user : Name) (statement : GrantStatement) (decided : Decided) → AreFewGrants statement → DecidesRights grants known user statement decided → HasFew decided.grants
grant_few grants known user (S.Grant rights grantees admin) decided few decides = rights_few grants known user (Grant admin) rights grantees decided few decides
grant_few grants known user (S.Revoke rights grantees) decided few decides = rights_few grants known user Revoke rights grantees decided few decides
grant_few grants known user (S.GrantObject rights table grantees) decided few decides = table_few grants known user (Grant false) (resolved_table user table) rights grantees decided few decides
grant_few grants known user (S.RevokeObject rights table grantees) decided few decides = table_few grants known user Revoke (resolved_table user table) rights grantees decided few decides

-- ---- decisions

abbrev AreFewChanges : List Change → Type 0
AreFewChanges changes = length changes + TRANSACTION_CHANGES < 2 ^ 32

one_few : (change : Change) → ¬ TouchesRows change → AreFewChanges (change ∷ [])
one_few change free = omega arith

two_few : (a b : Change) → ¬ TouchesRows a → ¬ TouchesRows b → AreFewChanges (a ∷ b ∷ [])
two_few a b free other = omega arith

same_few : (n m : ℕ) → n ≡ m → m + TRANSACTION_CHANGES < 2 ^ 32 → n + TRANSACTION_CHANGES < 2 ^ 32
same_few n m same few = omega (arith, same, few)

pub defined_few : (setting : Setting) (x : Statement) (decision : Decision) → IsFew x → definitions.Decides setting x decision → length decision.changes + TRANSACTION_CHANGES < 2 ^ 32
defined_few setting x decision few decides =
    defined_so AreFewChanges (omega arith) one_few two_few setting x decision (λ table same unchanged. omega arith)
    (λ statement decided same rights. same_few (length (map change_of decided.grants)) (length decided.grants) (mapped_long change_of decided.grants)
    (grant_few setting.grants (known_of setting) setting.user statement decided (subst IsFew same few) rights))
    decides

pub administered_few : (setting : AuditSetting) (x : Statement) (decision : Decision) → administration.Decides setting x decision → length decision.changes + TRANSACTION_CHANGES < 2 ^ 32
administered_few setting x decision decides = administered_so AreFewChanges (omega arith) one_few setting x decision decides
