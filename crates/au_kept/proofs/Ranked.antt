-- Grants of roles that are ranked close no circle, and stay so.
use Rattle.std.proofs.Common.{◌≡◌, ◌<◌, ◌∙◌, inl, inr, ℕ, Bool, true, false, not, ◌↔◌, cond, List, [], ◌∷◌, ◌++◌, map, refl, sym, ap, subst, arith}
use Rattle.std.specs.Prelude.{⊤, IsTrue, if◌then◌else◌}
use Rattle.std.specs.List.{AllByRecursion, Contains, filter, list_any}
use Rattle.au_entries.specs.declared.change.Change.{Change}
use Rattle.au_entries.specs.declared.change.Change.TheVariants as change
use Rattle.au_entries.specs.declared.kept.Kept.{Kept}
use Rattle.au_entries.specs.Changing.{changed, grants_after}
use Rattle.au_entries.specs.Replaying.{GoesOn, has_grantee, has_role}
use Rattle.au_grants.specs.Changing.{with_admin, with_grant}
use Rattle.au_grants.specs.Holding.{grants_role}
use Rattle.au_grants.specs.Order.{placed, role_before}
use Rattle.au_grants.specs.Rights.{Grants, IsChain, IsHolder, IsRoleGranted, Name, RoleEntry}
use Rattle.au_kept.specs.Ranks.{AreRanked, IsRanked, rank_in}
use Rattle.au_kept.proofs.Among.{all_at}
use Rattle.au_replay.specs.Reading.{conditions}

-- ---- no circle

falls_once : (ranks : List (Name × ℕ)) (roles : List RoleEntry) (from role : Name) → AreRanked ranks roles → IsRoleGranted roles from role → rank_in ranks role < rank_in ranks from
falls_once ranks roles from role ranked (admin, has) = all_at (λ (entry : RoleEntry). rank_in ranks entry.1 < rank_in ranks entry.0) roles ranked (from, role, admin) has

falls : (ranks : List (Name × ℕ)) (roles : List RoleEntry) (path : List Name) (from role : Name) → AreRanked ranks roles → IsChain roles from (path ++ role ∷ []) → rank_in ranks role < rank_in ranks from
falls ranks roles [] from role ranked chain = falls_once ranks roles from role ranked chain.0
falls ranks roles (next ∷ path) from role ranked chain =
    let one = falls_once ranks roles from next ranked chain.0 in
    let more = falls ranks roles path next role ranked chain.1 in
    omega (arith, one, more)

-- the role neither is the grantee nor holds it
pub no_circle : (ranks : List (Name × ℕ)) (roles : List RoleEntry) (grantee role : Name) → AreRanked ranks roles → rank_in ranks role < rank_in ranks grantee → ¬ IsHolder roles role grantee
no_circle ranks roles grantee role ranked under holder = elim holder [
  | inl same ↦ (let e = ap (rank_in ranks) same in omega (arith, e, under))
  | inr held ↦ (let up = falls ranks roles held.0 role grantee ranked held.1 in omega (arith, up, under))
]

-- so a grant of it goes on where both are there
pub role_goes : (ranks : List (Name × ℕ)) (image : Bool) (kept : Kept) (grantee role : Name) (admin both : Bool) → AreRanked ranks kept.grants.role → rank_in ranks role < rank_in ranks grantee
    → (IsTrue both ↔ (IsTrue (has_grantee kept grantee) × IsTrue (has_role kept role))) → IsTrue both ↔ GoesOn conditions image kept (change.RoleGrant grantee role admin)
role_goes ranks image kept grantee role admin both ranked under is = (
  λ so. (let there = is.0 so in (there.0, there.1, no_circle ranks kept.grants.role grantee role ranked under)),
  λ goes. is.1 (goes.0, goes.1),
)

-- ---- after a change

kept_at : (ranks : List (Name × ℕ)) (b : Bool) (entry : RoleEntry) (rest : List RoleEntry) → rank_in ranks entry.1 < rank_in ranks entry.0 → AreRanked ranks rest → AreRanked ranks (cond b (entry ∷ rest) rest)
kept_at ranks true entry rest under ranked = (under, ranked)
kept_at ranks false entry rest under ranked = ranked

filtered : (ranks : List (Name × ℕ)) (test : RoleEntry → Bool) (roles : List RoleEntry) → AreRanked ranks roles → AreRanked ranks (filter test roles)
filtered ranks test [] ranked = tt
filtered ranks test (entry ∷ roles) ranked = kept_at ranks (test entry) entry (filter test roles) ranked.0 (filtered ranks test roles ranked.1)

appended : (ranks : List (Name × ℕ)) (xs ys : List RoleEntry) → AreRanked ranks xs → AreRanked ranks ys → AreRanked ranks (xs ++ ys)
appended ranks [] ys front back = back
appended ranks (x ∷ xs) ys front back = (front.0, appended ranks xs ys front.1 back)

admin_at : (ranks : List (Name × ℕ)) (b admin : Bool) (entry : RoleEntry) → rank_in ranks entry.1 < rank_in ranks entry.0
    → rank_in ranks (if b then (entry.0, entry.1, admin) else entry).1 < rank_in ranks (if b then (entry.0, entry.1, admin) else entry).0
admin_at ranks true admin entry under = under
admin_at ranks false admin entry under = under

with_admins : (ranks : List (Name × ℕ)) (test : RoleEntry → Bool) (admin : Bool) (roles : List RoleEntry) → AreRanked ranks roles → AreRanked ranks (map (with_admin test admin) roles)
with_admins ranks test admin [] ranked = tt
with_admins ranks test admin (entry ∷ roles) ranked = (admin_at ranks (test entry) admin entry ranked.0, with_admins ranks test admin roles ranked.1)

granted_at : (ranks : List (Name × ℕ)) (b : Bool) (test : RoleEntry → Bool) (entry : RoleEntry) (roles : List RoleEntry) → rank_in ranks entry.1 < rank_in ranks entry.0 → AreRanked ranks roles
    → AreRanked ranks (if b then map (with_admin test entry.2) roles else placed role_before entry roles)
granted_at ranks true test entry roles under ranked = with_admins ranks test entry.2 roles ranked
granted_at ranks false test entry roles under ranked =
    appended ranks (filter (λ other. role_before other entry) roles) (entry ∷ filter (λ other. not (role_before other entry)) roles) (filtered ranks _ roles ranked) (under, filtered ranks _ roles ranked)

granted : (ranks : List (Name × ℕ)) (grantee role : Name) (admin : Bool) (roles : List RoleEntry) → rank_in ranks role < rank_in ranks grantee → AreRanked ranks roles
    → AreRanked ranks (with_grant role_before (grants_role grantee role) (grantee, role, admin) roles)
granted ranks grantee role admin roles under ranked = granted_at ranks (list_any (grants_role grantee role) roles) (grants_role grantee role) (grantee, role, admin) roles under ranked

ranked_grants : (ranks : List (Name × ℕ)) (c : Change) (grants : Grants) → IsRanked ranks c → AreRanked ranks grants.role → AreRanked ranks (grants_after c grants).role
ranked_grants ranks (change.UserGone name) grants under ranked = filtered ranks _ grants.role ranked
ranked_grants ranks (change.RoleGone name) grants under ranked = filtered ranks _ grants.role ranked
ranked_grants ranks (change.RoleGrant grantee role admin) grants under ranked = granted ranks grantee role admin grants.role under ranked
ranked_grants ranks (change.RoleRevoke grantee role) grants under ranked = filtered ranks _ grants.role ranked
ranked_grants ranks (change.SysGrant grantee privilege admin) grants under ranked = ranked
ranked_grants ranks (change.SysRevoke grantee privilege) grants under ranked = ranked
ranked_grants ranks (change.ObjGrant grantee table action) grants under ranked = ranked
ranked_grants ranks (change.ObjRevoke grantee table action) grants under ranked = ranked
ranked_grants ranks (change.TableGone table) grants under ranked = ranked
ranked_grants ranks _ grants under ranked = ranked

-- the grants of roles are ranked after a change that is
pub stay_ranked : (ranks : List (Name × ℕ)) (c : Change) (kept next : Kept) → next ≡ changed conditions.tree c kept → IsRanked ranks c → AreRanked ranks kept.grants.role → AreRanked ranks next.grants.role
stay_ranked ranks c kept next is under ranked = subst (λ (k : Kept). AreRanked ranks k.grants.role) (sym is) (ranked_grants ranks c kept.grants under ranked)
