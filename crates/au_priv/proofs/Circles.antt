-- No decided change closes a circle of roles.
use Rattle.std.proofs.Common.{◌≡◌, Bool, true, false, cond, inl, inr, List, [], ◌∷◌, ◌++◌, map, refl, sym, subst}
use Rattle.std.specs.List.{filter}
use Rattle.au_base.specs.declared.action.Action.{Action}
use Rattle.au_base.specs.declared.code.Code.{Code}
use Rattle.au_base.specs.declared.code.TheConstants.Code.{CIRCULAR_ROLE_GRANT}
use Rattle.au_base.specs.declared.grant.GrantStatement.{GrantStatement}
use Rattle.au_base.specs.declared.grant.GrantStatement.TheVariants as S
use Rattle.au_base.specs.declared.grant.ObjectRight.{ObjectRight}
use Rattle.au_base.specs.declared.grant.Right.{Right}
use Rattle.au_base.specs.declared.table.TableName.{TableName}
use Rattle.au_base.specs.BuiltIn.{resolved_table}
use Rattle.au_grants.specs.declared.change.GrantChange.{GrantChange}
use Rattle.au_priv.specs.declared.decided.Decided.{Decided}
use Rattle.au_priv.specs.declared.decided.Known.{Known}
use Rattle.au_grants.specs.declared.grants.Grants.{Grants}
use Rattle.au_priv.specs.declared.pair.Way.{Way}
use Rattle.au_priv.specs.declared.pair.Way.TheVariants.{Grant, Revoke}
use Rattle.au_grants.specs.Changing.{Closes, applied, applied_all}
use Rattle.au_priv.specs.Deciding.{Decides, DecidesRights, DecidesOnTable, DecidesPairs}
use Rattle.au_priv.specs.Pairs.{Pair, actions_of, object_change, object_pair, pairs, right_change, right_pair}
use Rattle.au_grants.specs.Rights.{HasNoCircle, Name}
use Rattle.au_priv.specs.Walking.{AllPass, RefusesPair, is_effective, made, made_all}
use Rattle.au_priv.proofs.Walks.{applied_joined}

-- a change that closes no circle leaves none
module _ (keeps : (grants : Grants) (change : GrantChange) → (Closes grants.role change → ⊥) → HasNoCircle grants.role → HasNoCircle (applied change grants).role) where
  -- a pair that isn't refused leaves no circle
  abbrev IsTame : Pair → Type 0
  IsTame pair = (grants : Grants) → ((code : Code) → ¬ RefusesPair grants pair code) → HasNoCircle grants.role → HasNoCircle (applied_all (made grants pair) grants).role

  one_at : (change : GrantChange) (grants : Grants) (b : Bool) → (Closes grants.role change → ⊥) → HasNoCircle grants.role → HasNoCircle (applied_all (cond b (change ∷ []) []) grants).role
  one_at change grants true closes clear = keeps grants change closes clear
  one_at change grants false closes clear = clear

  one_tame : (change : GrantChange) → IsTame (change ∷ [])
  one_tame change grants passes clear =
      one_at change grants (is_effective grants change) (λ closes. passes CIRCULAR_ROLE_GRANT (inl ((0, change, refl, closes), refl))) clear

  object_at : (way : Way) (table : TableName) (grantee : Name) (action : Action) (rest : List GrantChange) (grants : Grants) (b : Bool)
      → ((after : Grants) → HasNoCircle after.role → HasNoCircle (applied_all rest after).role) → HasNoCircle grants.role
      → HasNoCircle (applied_all (cond b (object_change way table grantee action ∷ rest) rest) grants).role
  object_at (Grant admin) table grantee action rest grants true more clear = more _ clear
  object_at Revoke table grantee action rest grants true more clear = more _ clear
  object_at way table grantee action rest grants false more clear = more grants clear

  object_kept : (way : Way) (table : TableName) (grantee : Name) (actions : List Action) (test : GrantChange → Bool) (grants : Grants) → HasNoCircle grants.role
      → HasNoCircle (applied_all (filter test (map (object_change way table grantee) actions)) grants).role
  object_kept way table grantee [] test grants clear = clear
  object_kept way table grantee (action ∷ actions) test grants clear =
      object_at way table grantee action _ grants (test (object_change way table grantee action)) (λ after. object_kept way table grantee actions test after) clear

  object_tame : (way : Way) (table : TableName) (right : ObjectRight) (grantee : Name) → IsTame (object_pair way table right grantee)
  object_tame way table right grantee grants passes clear = object_kept way table grantee (actions_of right) (is_effective grants) grants clear

  abbrev AllTame : List Pair → Type 0
  AllTame [] = Unit {0}
  AllTame (pair ∷ pairs) = IsTame pair × AllTame pairs

  tame_joined : (xs ys : List Pair) → AllTame xs → AllTame ys → AllTame (xs ++ ys)
  tame_joined [] ys one two = two
  tame_joined (x ∷ xs) ys one two = (one.0, tame_joined xs ys one.1 two)

  tame_each : {X : Type 0} (make : X → Pair) → ((x : X) → IsTame (make x)) → (xs : List X) → AllTame (map make xs)
  tame_each make tame [] = tt
  tame_each make tame (x ∷ xs) = (tame x, tame_each make tame xs)

  tame_pairs : {R : Type 0} (make : R → Name → Pair) → ((right : R) (grantee : Name) → IsTame (make right grantee)) → (rights : List R) (grantees : List Name) → AllTame (pairs make rights grantees)
  tame_pairs make tame [] grantees = tt
  tame_pairs make tame (right ∷ rights) grantees = tame_joined (map (make right) grantees) _ (tame_each (make right) (tame right) grantees) (tame_pairs make tame rights grantees)

  walk_keeps : (list : List Pair) (grants : Grants) → AllTame list → AllPass grants list → HasNoCircle grants.role → HasNoCircle (applied_all (made_all grants list) grants).role
  walk_keeps [] grants tame passes clear = clear
  walk_keeps (pair ∷ list) grants tame passes clear =
      subst (λ (after : Grants). HasNoCircle after.role) (sym (applied_joined (made grants pair) (made_all (applied_all (made grants pair) grants) list) grants))
      (walk_keeps list (applied_all (made grants pair) grants) tame.1 passes.1 (tame.0 grants passes.0 clear))

  at_changes : (changes same : List GrantChange) (grants : Grants) → changes ≡ same → HasNoCircle (applied_all same grants).role → HasNoCircle (applied_all changes grants).role
  at_changes changes same grants is clear = subst (λ (list : List GrantChange). HasNoCircle (applied_all list grants).role) (sym is) clear

  pairs_keep : (grants : Grants) (known : Known) (grantees : List Name) (list : List Pair) (code : Code) (changes : List GrantChange) → AllTame list
      → DecidesPairs grants known grantees list code changes → HasNoCircle grants.role → HasNoCircle (applied_all changes grants).role
  pairs_keep grants known grantees list code changes tame (inl refused) clear = at_changes changes [] grants refused.1 clear
  pairs_keep grants known grantees list code changes tame (inr (inl refused)) clear = at_changes changes [] grants refused.2 clear
  pairs_keep grants known grantees list code changes tame (inr (inr done)) clear = at_changes changes _ grants done.3 (walk_keeps list grants tame done.1 clear)

  rights_keep : (grants : Grants) (known : Known) (user : Name) (way : Way) (rights : List Right) (grantees : List Name) (decided : Decided)
      → DecidesRights grants known user way rights grantees decided → HasNoCircle grants.role → HasNoCircle (applied_all decided.grants grants).role
  rights_keep grants known user way rights grantees decided (inl refused) clear = at_changes decided.grants [] grants refused.2 clear
  rights_keep grants known user way rights grantees decided (inr going) clear =
      pairs_keep grants known grantees _ decided.code decided.grants (tame_pairs (right_pair way) (λ right grantee. one_tame (right_change way right grantee)) rights grantees) going.2 clear

  table_keeps : (grants : Grants) (known : Known) (user : Name) (way : Way) (table : TableName) (rights : List ObjectRight) (grantees : List Name) (decided : Decided)
      → DecidesOnTable grants known user way table rights grantees decided → HasNoCircle grants.role → HasNoCircle (applied_all decided.grants grants).role
  table_keeps grants known user way table rights grantees decided (inl refused) clear = at_changes decided.grants [] grants refused.2 clear
  table_keeps grants known user way table rights grantees decided (inr going) clear =
      pairs_keep grants known grantees _ decided.code decided.grants (tame_pairs (object_pair way table) (object_tame way table) rights grantees) going.2 clear

  -- what is decided of a statement closes no circle
  pub decides_keeps : (grants : Grants) (known : Known) (user : Name) (statement : GrantStatement) (decided : Decided)
      → Decides grants known user statement decided → HasNoCircle grants.role → HasNoCircle (applied_all decided.grants grants).role
  decides_keeps grants known user (S.Grant rights grantees admin) decided is clear = rights_keep grants known user (Grant admin) rights grantees decided is clear
  decides_keeps grants known user (S.Revoke rights grantees) decided is clear = rights_keep grants known user Revoke rights grantees decided is clear
  decides_keeps grants known user (S.GrantObject rights table grantees) decided is clear = table_keeps grants known user (Grant false) (resolved_table user table) rights grantees decided is clear
  decides_keeps grants known user (S.RevokeObject rights table grantees) decided is clear = table_keeps grants known user Revoke (resolved_table user table) rights grantees decided is clear
