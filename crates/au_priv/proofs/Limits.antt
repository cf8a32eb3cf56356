-- No decided changes make more grants than there may be.
use Rattle.std.proofs.Common.{◌≡◌, ◌≤◌, ◌+◌, Bool, true, false, not, cond, inl, inr, List, [], ◌∷◌, ◌++◌, length, map, refl, sym, subst, arith}
use Rattle.std.specs.List.{filter, list_any}
use Rattle.std.proofs.lemmas.Bool.{cases_lt}
use Rattle.au_base.specs.declared.action.Action.{Action}
use Rattle.au_base.specs.declared.code.Code.{Code}
use Rattle.au_base.specs.declared.code.TheConstants.Code.{CIRCULAR_ROLE_GRANT, TOO_MANY_OBJECTS}
use Rattle.au_base.specs.declared.grant.GrantStatement.{GrantStatement}
use Rattle.au_base.specs.declared.grant.GrantStatement.TheVariants as S
use Rattle.au_base.specs.declared.grant.ObjectRight.{ObjectRight}
use Rattle.au_base.specs.declared.grant.Right.{Right}
use Rattle.au_base.specs.declared.table.TableName.{TableName}
use Rattle.au_base.specs.BuiltIn.{resolved_table}
use Rattle.au_grants.specs.declared.change.GrantChange.{GrantChange}
use Rattle.au_grants.specs.declared.change.GrantChange.TheVariants.{ObjectGrant, ObjectRevoke}
use Rattle.au_priv.specs.declared.decided.Decided.{Decided}
use Rattle.au_priv.specs.declared.decided.Known.{Known}
use Rattle.au_priv.specs.declared.pair.Way.{Way}
use Rattle.au_priv.specs.declared.pair.Way.TheVariants.{Grant, Revoke}
use Rattle.au_grants.specs.Changing.{applied, applied_all, is_new}
use Rattle.au_priv.specs.Deciding.{Decides, DecidesRights, DecidesOnTable, DecidesPairs}
use Rattle.au_grants.specs.Holding.{grants_object}
use Rattle.au_priv.specs.Pairs.{Pair, actions_of, object_change, object_pair, pairs, right_change, right_pair}
use Rattle.au_grants.specs.Rights.{Grants, Name, grant_count}
use Rattle.au_priv.specs.Walking.{AllPass, RefusesPair, is_effective, made, made_all}
use Rattle.au_priv.proofs.Walks.{applied_joined}

one_length : (change : GrantChange) (b : Bool) → length (cond b (change ∷ []) []) ≤ 1
one_length change true = omega arith
one_length change false = omega arith

-- a change adds at most what is new of it
module _ (adds : (grants : Grants) (change : GrantChange) → grant_count (applied change grants) ≤ grant_count grants + length (filter (is_new grants) (change ∷ []))) where
  -- a pair that isn't refused leaves no more grants than there may be
  abbrev IsSmall : Pair → Type 0
  IsSmall pair = (grants : Grants) → ((code : Code) → ¬ RefusesPair grants pair code) → grant_count grants ≤ 100000 → grant_count (applied_all (made grants pair) grants) ≤ 100000

  room : (pair : Pair) (grants : Grants) → ((code : Code) → ¬ RefusesPair grants pair code) → grant_count grants ≤ 100000 → grant_count grants + length (filter (is_new grants) pair) ≤ 100000
  room pair grants passes few = elim (cases_lt 0 (length (filter (is_new grants) pair))) [
    | inr none ↦ omega (arith, none, few)
    | inl some ↦ elim (cases_lt 100000 (grant_count grants + length (filter (is_new grants) pair))) [
      | inl over ↦ absurd (passes TOO_MANY_OBJECTS (inr (inl (λ closes. passes CIRCULAR_ROLE_GRANT (inl (closes, refl)), (some, over), refl))))
      | inr le ↦ le
    ]
  ]

  -- each of some changes adds one grant at most
  pub count_after : (changes : List GrantChange) (grants : Grants) → grant_count (applied_all changes grants) ≤ grant_count grants + length changes
  count_after [] grants = omega arith
  count_after (change ∷ changes) grants =
      (let one = adds grants change in let at_most = one_length change (is_new grants change) in let later = count_after changes (applied change grants) in omega (arith, one, at_most, later))

  one_at : (change : GrantChange) (grants : Grants) (b : Bool) → grant_count (applied_all (cond b (change ∷ []) []) grants) ≤ grant_count grants + length (filter (is_new grants) (change ∷ []))
  one_at change grants true = adds grants change
  one_at change grants false = omega arith

  one_small : (change : GrantChange) → IsSmall (change ∷ [])
  one_small change grants passes few =
      (let bound = room (change ∷ []) grants passes few in let made = one_at change grants (is_effective grants change) in omega (arith, bound, made))

  object_grant_at : (table : TableName) (grantee : Name) (action : Action) (rest fresh : List GrantChange) (grants : Grants) (b : Bool)
      → ((after : Grants) → grant_count (applied_all rest after) ≤ grant_count after + length fresh)
      → grant_count (applied_all (cond b (ObjectGrant grantee table action ∷ rest) rest) grants) ≤ grant_count grants + length (cond b (ObjectGrant grantee table action ∷ fresh) fresh)
  object_grant_at table grantee action rest fresh grants true more =
      let change = ObjectGrant grantee table action in
      (let later = more (applied change grants) in let one = adds grants change in let at_most = one_length change (is_new grants change) in omega (arith, later, one, at_most))
  object_grant_at table grantee action rest fresh grants false more = more grants

  object_grants : (admin : Bool) (table : TableName) (grantee : Name) (actions : List Action) (start grants : Grants)
      → grant_count (applied_all (filter (is_effective start) (map (object_change (Grant admin) table grantee) actions)) grants)
      ≤ grant_count grants + length (filter (is_new start) (map (object_change (Grant admin) table grantee) actions))
  object_grants admin table grantee [] start grants = omega arith
  object_grants admin table grantee (action ∷ actions) start grants =
      object_grant_at table grantee action _ _ grants (not (list_any (grants_object grantee table action) start.object)) (λ after. object_grants admin table grantee actions start after)

  object_revoke_at : (table : TableName) (grantee : Name) (action : Action) (rest : List GrantChange) (grants : Grants) (b : Bool)
      → ((after : Grants) → grant_count (applied_all rest after) ≤ grant_count after) → grant_count (applied_all (cond b (ObjectRevoke grantee table action ∷ rest) rest) grants) ≤ grant_count grants
  object_revoke_at table grantee action rest grants true more =
      let change = ObjectRevoke grantee table action in (let later = more (applied change grants) in let one = adds grants change in omega (arith, later, one))
  object_revoke_at table grantee action rest grants false more = more grants

  object_revokes : (table : TableName) (grantee : Name) (actions : List Action) (test : GrantChange → Bool) (grants : Grants)
      → grant_count (applied_all (filter test (map (object_change Revoke table grantee) actions)) grants) ≤ grant_count grants
  object_revokes table grantee [] test grants = omega arith
  object_revokes table grantee (action ∷ actions) test grants =
      object_revoke_at table grantee action _ grants (test (ObjectRevoke grantee table action)) (λ after. object_revokes table grantee actions test after)

  object_small : (way : Way) (table : TableName) (right : ObjectRight) (grantee : Name) → IsSmall (object_pair way table right grantee)
  object_small (Grant admin) table right grantee grants passes few =
      (let bound = room (object_pair (Grant admin) table right grantee) grants passes few in let made = object_grants admin table grantee (actions_of right) grants grants in omega (arith, bound, made))
  object_small Revoke table right grantee grants passes few = (let made = object_revokes table grantee (actions_of right) (is_effective grants) grants in omega (arith, made, few))

  abbrev AllSmall : List Pair → Type 0
  AllSmall [] = Unit {0}
  AllSmall (pair ∷ pairs) = IsSmall pair × AllSmall pairs

  small_joined : (xs ys : List Pair) → AllSmall xs → AllSmall ys → AllSmall (xs ++ ys)
  small_joined [] ys one two = two
  small_joined (x ∷ xs) ys one two = (one.0, small_joined xs ys one.1 two)

  small_each : {X : Type 0} (make : X → Pair) → ((x : X) → IsSmall (make x)) → (xs : List X) → AllSmall (map make xs)
  small_each make small [] = tt
  small_each make small (x ∷ xs) = (small x, small_each make small xs)

  small_pairs : {R : Type 0} (make : R → Name → Pair) → ((right : R) (grantee : Name) → IsSmall (make right grantee)) → (rights : List R) (grantees : List Name) → AllSmall (pairs make rights grantees)
  small_pairs make small [] grantees = tt
  small_pairs make small (right ∷ rights) grantees = small_joined (map (make right) grantees) _ (small_each (make right) (small right) grantees) (small_pairs make small rights grantees)

  walk_stays : (list : List Pair) (grants : Grants) → AllSmall list → AllPass grants list → grant_count grants ≤ 100000 → grant_count (applied_all (made_all grants list) grants) ≤ 100000
  walk_stays [] grants small passes few = few
  walk_stays (pair ∷ list) grants small passes few =
      subst (λ (after : Grants). grant_count after ≤ 100000) (sym (applied_joined (made grants pair) (made_all (applied_all (made grants pair) grants) list) grants))
      (walk_stays list (applied_all (made grants pair) grants) small.1 passes.1 (small.0 grants passes.0 few))

  at_changes : (changes same : List GrantChange) (grants : Grants) → changes ≡ same → grant_count (applied_all same grants) ≤ 100000 → grant_count (applied_all changes grants) ≤ 100000
  at_changes changes same grants is few = subst (λ (list : List GrantChange). grant_count (applied_all list grants) ≤ 100000) (sym is) few

  pairs_stay : (grants : Grants) (known : Known) (grantees : List Name) (list : List Pair) (code : Code) (changes : List GrantChange) → AllSmall list
      → DecidesPairs grants known grantees list code changes → grant_count grants ≤ 100000 → grant_count (applied_all changes grants) ≤ 100000
  pairs_stay grants known grantees list code changes small (inl refused) few = at_changes changes [] grants refused.1 few
  pairs_stay grants known grantees list code changes small (inr (inl refused)) few = at_changes changes [] grants refused.2 few
  pairs_stay grants known grantees list code changes small (inr (inr done)) few = at_changes changes _ grants done.3 (walk_stays list grants small done.1 few)

  rights_stay : (grants : Grants) (known : Known) (user : Name) (way : Way) (rights : List Right) (grantees : List Name) (decided : Decided)
      → DecidesRights grants known user way rights grantees decided → grant_count grants ≤ 100000 → grant_count (applied_all decided.grants grants) ≤ 100000
  rights_stay grants known user way rights grantees decided (inl refused) few = at_changes decided.grants [] grants refused.2 few
  rights_stay grants known user way rights grantees decided (inr going) few =
      pairs_stay grants known grantees _ decided.code decided.grants (small_pairs (right_pair way) (λ right grantee. one_small (right_change way right grantee)) rights grantees) going.2 few

  table_stays : (grants : Grants) (known : Known) (user : Name) (way : Way) (table : TableName) (rights : List ObjectRight) (grantees : List Name) (decided : Decided)
      → DecidesOnTable grants known user way table rights grantees decided → grant_count grants ≤ 100000 → grant_count (applied_all decided.grants grants) ≤ 100000
  table_stays grants known user way table rights grantees decided (inl refused) few = at_changes decided.grants [] grants refused.2 few
  table_stays grants known user way table rights grantees decided (inr going) few =
      pairs_stay grants known grantees _ decided.code decided.grants (small_pairs (object_pair way table) (object_small way table) rights grantees) going.2 few

  -- what is decided of a statement makes no more grants than there may be
  pub decides_stays : (grants : Grants) (known : Known) (user : Name) (statement : GrantStatement) (decided : Decided)
      → Decides grants known user statement decided → grant_count grants ≤ 100000 → grant_count (applied_all decided.grants grants) ≤ 100000
  decides_stays grants known user (S.Grant rights grantees admin) decided is few = rights_stay grants known user (Grant admin) rights grantees decided is few
  decides_stays grants known user (S.Revoke rights grantees) decided is few = rights_stay grants known user Revoke rights grantees decided is few
  decides_stays grants known user (S.GrantObject rights table grantees) decided is few = table_stays grants known user (Grant false) (resolved_table user table) rights grantees decided is few
  decides_stays grants known user (S.RevokeObject rights table grantees) decided is few = table_stays grants known user Revoke (resolved_table user table) rights grantees decided is few
