-- The places that a statement takes are those of the policies that name it.
use Rattle.std.proofs.Common.{◌≡◌, ◌∙◌, refl, sym, ap, subst, ℕ, ◌+◌, Bool, true, false, cond, ◌||◌, ◌&&◌, List, [], ◌∷◌, Vec, Global, BTreeMap, BTreeSet, arith}
use Rattle.std.proofs.lemmas.Bool.{and_from, and_parts, or_left, or_right}
use Rattle.std.proofs.lemmas.Cmp.{nat_list_cmp_total}
use Rattle.std.proofs.lemmas.List.Folds.{Any-from_list_any, list_any_at}
use Rattle.std.proofs.lemmas.Map.Entries.{btree_map_get_place}
use Rattle.std.proofs.lemmas.Map.Text.{is_eq-slice_cmp}
use Rattle.std.proofs.lemmas.Option.{slice_get_read}
use Rattle.std.specs.BTreeMap.{IsOrdered, get}
use Rattle.std.specs.BTreeSet.{contains}
use Rattle.std.specs.Cmp.Lexicographic.{bytes_decides, slice_cmp}
use Rattle.std.specs.List.{list_any, slice_get}
use Rattle.std.specs.List.Sorted.{IsStrictlySortedBy}
use Rattle.std.specs.Map.{lookup}
use Rattle.std.specs.Ordering.{is_eq, nat_cmp}
use Rattle.std.specs.Prelude.{◌==◌, Option, Some, None}
use Rattle.std.specs.Str.{bytes_eq}
use Rattle.au_base.specs.declared.action.Action.TheVariants.{All}
use Rattle.au_base.specs.declared.privilege.Privilege.{Privilege}
use Rattle.au_base.specs.declared.table.TableName.{TableName}
use Rattle.au_base.specs.Privileges as privileges
use Rattle.au_entries.specs.declared.facts.Facts.{Facts}
use Rattle.au_entries.specs.declared.policy.AuditPolicy.{AuditPolicy}
use Rattle.au_entries.specs.declared.policy.Enabled.{Enabled}
use Rattle.au_entries.specs.Matching.{covers_role}
use Rattle.au_grants.specs.declared.grants.Grants.{Grants}
use Rattle.au_pindex.specs.Buckets.{is_in_bucket, places_of}
use Rattle.au_pindex.specs.declared.bucketed.Bucketed.{Bucketed}
use Rattle.au_pindex.specs.Indexing.{AreBucketsOf, is_listed, table_cmp}
use Rattle.au_pindex.specs.Naming.{has_action_part, has_object_part, has_privilege_part, has_role_part, is_enabled, is_named}
use Rattle.au_pindex.specs.Places.{passes, passes_at}
use Rattle.au_pindex.specs.descent.Places.{places_where}
use Rattle.au_pindex.specs.descent.Taking.{is_taken}
use Rattle.au_pindex.proofs.Numbers.{same_number, turned}
use Rattle.au_pindex.proofs.Placing.{any_passes, any_same, both_ways, listed, or_passes, rising}

-- ---- roles

-- the entry of a bucket that has the place is of the role, or a later one is
found_in : (covers : List ℕ → Bool) (role : List ℕ) (at : ℕ) (entries : List (List ℕ × Vec ℕ Global)) → covers role ≡ true
    → list_any (λ other. other == at) (places_of (lookup (λ key. is_eq (slice_cmp nat_cmp role key)) entries)) ≡ true
    → list_any (λ (entry : List ℕ × Vec ℕ Global). covers entry.0 && list_any (λ other. other == at) entry.1.items) entries ≡ true
found_in covers role at [] covered found = found
found_in covers role at (entry ∷ entries) covered found = in_case (is_eq (slice_cmp nat_cmp role entry.0)) refl found (λ later. found_in covers role at entries covered later)
  where
    in_case : (same : Bool) → is_eq (slice_cmp nat_cmp role entry.0) ≡ same
        → list_any (λ other. other == at) (places_of (cond same (Some entry.1) (lookup (λ key. is_eq (slice_cmp nat_cmp role key)) entries))) ≡ true
        → (list_any (λ other. other == at) (places_of (lookup (λ key. is_eq (slice_cmp nat_cmp role key)) entries)) ≡ true → list_any (λ (entry : List ℕ × Vec ℕ Global). covers entry.0 && list_any (λ other. other == at) entry.1.items) entries ≡ true)
        → list_any (λ (entry : List ℕ × Vec ℕ Global). covers entry.0 && list_any (λ other. other == at) entry.1.items) (entry ∷ entries) ≡ true
    in_case true is here on =
        let equal : role ≡ entry.0 = (bytes_decides role entry.0).0 (sym (is_eq-slice_cmp role entry.0) ∙ is) in
        or_left (covers entry.0 && list_any (λ other. other == at) entry.1.items) (list_any (λ (entry : List ℕ × Vec ℕ Global). covers entry.0 && list_any (λ other. other == at) entry.1.items) entries)
        (and_from (covers entry.0) (list_any (λ other. other == at) entry.1.items) (subst (λ name. covers name ≡ true) equal covered) here)
    in_case false is later on =
        or_right (covers entry.0 && list_any (λ other. other == at) entry.1.items) (list_any (λ (entry : List ℕ × Vec ℕ Global). covers entry.0 && list_any (λ other. other == at) entry.1.items) entries) (on later)

module _ (covers : List ℕ → Bool) (buckets : BTreeMap (List ℕ) (Vec ℕ Global)) (ordered : IsOrdered (slice_cmp nat_cmp) buckets) (on : AuditPolicy → Bool) (at : ℕ) where
  abbrev met : List ℕ × Vec ℕ Global → Bool
  met entry = covers entry.0 && list_any (λ other. other == at) entry.1.items

  forth : (o : Option AuditPolicy) → ((role : List ℕ) → is_in_bucket (slice_cmp nat_cmp) buckets role at ≡ passes (λ policy. on policy && has_role_part role policy) o)
      → list_any met buckets.entries ≡ true → passes (λ policy. on policy && list_any covers policy.roles) o ≡ true
  forth o told found =
      let one = Any-from_list_any met buckets.entries found in
      let entry = one.1 in
      let parts = and_parts (covers entry.0) (list_any (λ other. other == at) entry.1.items) one.4 in
      let there : get (slice_cmp nat_cmp) buckets entry.0 ≡ Some entry.1 = btree_map_get_place nat_list_cmp_total buckets one.0 entry.0 entry.1 ordered (slice_get_read buckets.entries _ one.0 entry refl one.2 (sym one.3)) in
      names_one o (sym (told entry.0) ∙ ap (λ bucket. list_any (λ other. other == at) (places_of bucket)) there ∙ parts.1) parts.0
    where
      names_one : (o : Option AuditPolicy) → passes (λ policy. on policy && has_role_part (Any-from_list_any met buckets.entries found).1.0 policy) o ≡ true → covers (Any-from_list_any met buckets.entries found).1.0 ≡ true
          → passes (λ policy. on policy && list_any covers policy.roles) o ≡ true
      names_one None is covered = is
      names_one (Some policy) is covered =
          let role = (Any-from_list_any met buckets.entries found).1.0 in
          let parts = and_parts (on policy) (has_role_part role policy) is in
          let part = Any-from_list_any (λ part. bytes_eq part role) policy.roles parts.1 in
          and_from (on policy) (list_any covers policy.roles) parts.0
          (list_any_at covers policy.roles part.0 part.1 part.2 (ap covers (part.3 ∙ (bytes_decides part.1 role).0 part.4) ∙ covered))

  back : (o : Option AuditPolicy) → ((role : List ℕ) → is_in_bucket (slice_cmp nat_cmp) buckets role at ≡ passes (λ policy. on policy && has_role_part role policy) o)
      → passes (λ policy. on policy && list_any covers policy.roles) o ≡ true → list_any met buckets.entries ≡ true
  back None told is = absurd (let e : false ≡ true = is in cc)
  back (Some policy) told is =
      let parts = and_parts (on policy) (list_any covers policy.roles) is in
      let role = Any-from_list_any covers policy.roles parts.1 in
      found_in covers role.1 at buckets.entries role.4
      (told role.1 ∙ and_from (on policy) (has_role_part role.1 policy) parts.0
      (list_any_at (λ part. bytes_eq part role.1) policy.roles role.0 role.1 role.2 (ap (λ part. bytes_eq part role.1) role.3 ∙ (bytes_decides role.1 role.1).1 refl)))

  pub roles_met : (o : Option AuditPolicy) → ((role : List ℕ) → is_in_bucket (slice_cmp nat_cmp) buckets role at ≡ passes (λ policy. on policy && has_role_part role policy) o)
      → list_any met buckets.entries ≡ passes (λ policy. on policy && list_any covers policy.roles) o
  roles_met o told = both_ways (list_any met buckets.entries) (passes (λ policy. on policy && list_any covers policy.roles) o) (forth o told) (back o told)

-- ---- all buckets

module _ (grants : Grants) (facts : Facts) (enabled : List (List ℕ × Enabled)) (policies : List AuditPolicy) (buckets : Bucketed) where
  pub taken_named : AreBucketsOf enabled policies buckets → IsOrdered (slice_cmp nat_cmp) buckets.roles → (at : ℕ) → is_taken grants facts buckets at ≡ passes_at (is_named grants enabled facts) policies at
  taken_named are ordered at =
      let o = slice_get policies at in
      let on = is_enabled enabled in
      let one = are.actions facts.action at in
      let two = are.actions All at in
      let three = any_same (λ (table : TableName). is_in_bucket table_cmp buckets.tables table at) (λ (table : TableName). passes (is_listed has_object_part enabled table) o) (λ table. are.tables table at) facts.tables ∙ any_passes on has_object_part facts.tables o in
      let four = any_same (λ (privilege : Privilege). is_in_bucket nat_cmp buckets.privileges (privileges.code_of privilege) at) (λ (privilege : Privilege). passes (is_listed has_privilege_part enabled privilege) o) (λ privilege. are.privileges privilege at) facts.used ∙ any_passes on has_privilege_part facts.used o in
      let five = roles_met (covers_role grants facts) buckets.roles ordered on at o (λ role. are.roles role at) in
      joined on (has_action_part facts.action) (has_action_part All) (λ policy. list_any (λ table. has_object_part table policy) facts.tables) (λ policy. list_any (λ privilege. has_privilege_part privilege policy) facts.used) (λ policy. list_any (covers_role grants facts) policy.roles) o _ _ _ _ _ one two three four five
    where
      joined : (on a b c d e : AuditPolicy → Bool) (o : Option AuditPolicy) (p q r s t : Bool)
          → p ≡ passes (λ x. on x && a x) o → q ≡ passes (λ x. on x && b x) o → r ≡ passes (λ x. on x && c x) o → s ≡ passes (λ x. on x && d x) o → t ≡ passes (λ x. on x && e x) o
          → (p || (q || (r || (s || t)))) ≡ passes (λ x. on x && (a x || (b x || (c x || (d x || e x))))) o
      joined on a b c d e o p q r s t one two three four five =
          ap (λ z. z || (q || (r || (s || t)))) one
          ∙ ap (λ z. passes (λ x. on x && a x) o || z)
          (ap (λ z. z || (r || (s || t))) two
          ∙ ap (λ z. passes (λ x. on x && b x) o || z)
          (ap (λ z. z || (s || t)) three
          ∙ ap (λ z. passes (λ x. on x && c x) o || z) (ap (λ z. z || t) four ∙ ap (λ z. passes (λ x. on x && d x) o || z) five ∙ or_passes on d e o)
          ∙ or_passes on c (λ x. d x || e x) o)
          ∙ or_passes on b (λ x. c x || (d x || e x)) o)
          ∙ or_passes on a (λ x. b x || (c x || (d x || e x))) o

-- the numbers of a set that tells of entries are the places of these
pub keys_listed : {X : Type 0} (test : X → Bool) (xs : List X) (set : BTreeSet ℕ) → IsStrictlySortedBy nat_cmp set.keys → ((at : ℕ) → contains nat_cmp set at ≡ passes_at test xs at)
    → set.keys ≡ places_where test 0 xs
keys_listed test xs set sorted tells =
    listed test xs 0 set.keys (rising set.keys sorted)
    (λ at. ap (λ n. list_any (λ k. k == n) set.keys) (let e : 0 + at ≡ at = omega arith in e)
    ∙ any_same (λ k. k == at) (λ k. is_eq (nat_cmp at k)) (λ k. turned k at ∙ sym (same_number at k)) set.keys ∙ tells at)
