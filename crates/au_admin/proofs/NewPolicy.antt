-- A new audit policy has a spelling.
use Rattle.std.proofs.Common.{◌≡◌, ◌<◌, ◌≤◌, ℕ, suc, Bool, true, false, ◌&&◌, cond, List, [], ◌∷◌, Option, Some, None, filter, length, map, refl, ap, subst, arith}
use Rattle.std.specs.Prelude.{◌↔◌, IsTrue, IsUtf8, get_or, if◌then◌else◌, nat_lt, option_map, unwrap_or}
use Rattle.std.specs.List.{AllByRecursion, list_all, list_any}
use Rattle.std.specs.Option.{option_eq}
use Rattle.std.specs.Str.{bytes_eq}
use Rattle.std.proofs.lemmas.Bool.{and_from, and_parts}
use Rattle.std.proofs.lemmas.Bool.Decides.{nat_tests}
use Rattle.std.proofs.lemmas.List.Elements.{All-get_or, All-from_get_or}
use Rattle.std.proofs.lemmas.List.Sums.{AllPass-from_list_all}
use Rattle.std.proofs.lemmas.Str.{IsUtf8-from_ascii}
use Rattle.std.proofs.lemmas.Str.Ascii.{IsAscii-from_all}
use Rattle.au_admin.specs.Names.{IsConditionShort, IsConditionText, IsPartNamed, IsPlaceNamed, IsPolicyNamed}
use Rattle.au_admin.specs.Policies.{Part, new_policy, part_of, same_part, same_place, when_of}
use Rattle.au_admin.proofs.SameParts.{part_equal}
use Rattle.au_base.specs.BuiltIn.{audsys, dual_name, owner_in, resolved_table, sys, trail_name}
use Rattle.au_base.specs.Limits.{STATEMENT_BYTES}
use Rattle.au_base.specs.Naming.{IsName}
use Rattle.au_base.specs.Privileges.{code_of, each_privilege}
use Rattle.au_base.specs.Sameness.{same_action, same_privilege, same_table}
use Rattle.au_base.specs.declared.action.Action.{Action}
use Rattle.au_base.specs.declared.privilege.Privilege.{Privilege}
use Rattle.au_base.specs.declared.table.TableName.{TableName}
use Rattle.au_base.specs.declared.table.TableReference.{TableReference}
use Rattle.au_calls.specs.Once.{once}
use Rattle.au_admin.proofs.Apart.{all_once, equivalence, filter_fewer, no_repeats, once_distinct, once_fewer}
use Rattle.au_admin.proofs.SpelledNames.{name_spelled, names_once_spelled, text_spelled}
use Rattle.au_define.specs.Names.{IsOwnerNamed, IsTableNamed}
use Rattle.rec_codec.specs.Changes.{IsChangeSpellable, IsWhenSpellable, parts, policy, when}
use Rattle.rec_parts.specs.Parts.{action, is_rising, privilege, privileges_in_order, table}
use Rattle.rec_parts.specs.Parts as spelled_parts
use Rattle.rec_parts.specs.Spelling.{IsOptionSpellable, is_without_repeats}
use Rattle.sql_ast.specs.declared.administration.ActionPart.{ActionPart}
use Rattle.sql_ast.specs.declared.administration.CreatePolicy.{CreatePolicy as AnyCreate}
use Rattle.sql_ast.specs.declared.administration.PolicyCondition.{PolicyCondition}

-- ---- tables

abbrev is_ascii : ℕ → Bool
is_ascii b = nat_lt b 128

ascii_byte : (b : ℕ) → is_ascii b ≡ true → b < 128
ascii_byte b h = grind (arith, nat_tests)

ascii : (text : List ℕ) → list_all is_ascii text ≡ true → IsUtf8 text
ascii text h =
    IsUtf8-from_ascii text (IsAscii-from_all text (All-from_get_or (λ b. b < 128) text 0 (λ i inside. ascii_byte (get_or text i 0) (All-get_or (λ x. is_ascii x ≡ true) text i 0 inside (AllPass-from_list_all is_ascii text h)))))

sys_name : IsName sys
sys_name = (record { some = omega arith; capped = omega arith }, ascii sys refl)

audsys_name : IsName audsys
audsys_name = (record { some = omega arith; capped = omega arith }, ascii audsys refl)

owner_by : (who : List ℕ) (dual_is trail_is : Bool) → IsName who → IsName (if dual_is then sys else (if trail_is then audsys else who))
owner_by who true trail_is is = sys_name
owner_by who false true is = audsys_name
owner_by who false false is = is

owner_at : (who written : List ℕ) (owner : Option (List ℕ)) → IsName who → IsOwnerNamed owner → IsName (owner_in who written owner)
owner_at who written (Some owner) is named = named
owner_at who written None is named = owner_by who (bytes_eq written dual_name) (bytes_eq written trail_name) is

table_spelled : (who : List ℕ) (reference : TableReference) → IsName who → IsTableNamed reference → table.IsSpellable (resolved_table who reference)
unfolding table
table_spelled who reference is named = (name_spelled (owner_in who reference.name reference.owner) (owner_at who reference.name reference.owner is named.0), name_spelled reference.name named.1)

-- ---- privileges

rising_lower : (low high : ℕ) (ps : List Privilege) → low ≤ high → is_rising high ps ≡ true → is_rising low ps ≡ true
rising_lower low high [] under is = refl
rising_lower low high (p ∷ ps) under is =
    let parts = and_parts (nat_lt high (code_of p)) (is_rising (code_of p) ps) is in
    and_from (nat_lt low (code_of p)) (is_rising (code_of p) ps) (lower (code_of p) parts.0) parts.1
  where
    lower : (code : ℕ) → nat_lt high code ≡ true → nat_lt low code ≡ true
    lower code over = grind (arith, nat_tests)

below : (low code : ℕ) → nat_lt low code ≡ true → low ≤ code
below low code over = grind (arith, nat_tests)

rising_at : (low : ℕ) (p : Privilege) (kept : List Privilege) (b : Bool) → nat_lt low (code_of p) ≡ true → is_rising (code_of p) kept ≡ true → is_rising low (cond b (p ∷ kept) kept) ≡ true
rising_at low p kept true over is = and_from (nat_lt low (code_of p)) (is_rising (code_of p) kept) over is
rising_at low p kept false over is = rising_lower low (code_of p) kept (below low (code_of p) over) is

-- a filter keeps the order of numbers
rising_kept : (test : Privilege → Bool) (low : ℕ) (ps : List Privilege) → is_rising low ps ≡ true → is_rising low (filter test ps) ≡ true
rising_kept test low [] is = refl
rising_kept test low (p ∷ ps) is =
    let parts = and_parts (nat_lt low (code_of p)) (is_rising (code_of p) ps) is in
    rising_at low p (filter test ps) (test p) parts.0 (rising_kept test (code_of p) ps parts.1)

each_spelled : (ps : List Privilege) → AllByRecursion privilege.IsSpellable ps
unfolding privilege
each_spelled [] = tt
each_spelled (p ∷ ps) = (tt, each_spelled ps)

privileges_spelled : (test : Privilege → Bool) → privileges_in_order.IsSpellable (filter test each_privilege)
unfolding privileges_in_order
privileges_spelled test =
    let few : length (filter test each_privilege) ≤ 17 = filter_fewer test each_privilege in
    ((omega (arith, few), each_spelled (filter test each_privilege)), rising_kept test 0 each_privilege refl)

-- ---- actions

place_spelled : (who : List ℕ) (place : Option TableReference) → IsName who → IsPlaceNamed place → IsOptionSpellable table (option_map (resolved_table who) place)
place_spelled who None is named = tt
place_spelled who (Some reference) is named = table_spelled who reference is named

-- a part of an action and a place has a spelling
abbrev IsPartSpelled : Part → Type 0
IsPartSpelled part = action.IsSpellable part.0 × IsOptionSpellable table part.1

each_part : (who : List ℕ) (written : List ActionPart) → IsName who → AllByRecursion IsPartNamed written → AllByRecursion IsPartSpelled (map (part_of who) written)
unfolding action
each_part who [] is named = tt
each_part who (part ∷ written) is named = ((tt, place_spelled who part.table is named.0), each_part who written is named.1)

mapped_long : (who : List ℕ) (written : List ActionPart) → length (map (part_of who) written) ≡ length written
mapped_long who [] = refl
mapped_long who (part ∷ written) = ap suc (mapped_long who written)

places_equal : (a b : Option TableName) → same_place a b ≡ option_eq same_table a b
places_equal None None = refl
places_equal None (Some b) = refl
places_equal (Some a) None = refl
places_equal (Some a) (Some b) = refl

-- the test by which parts count once is the one by which they are written
parts_equal : (a b : Part) → same_part a b ≡ spelled_parts.same_part a b
parts_equal a b = ap (λ (t : Bool). same_action a.0 b.0 && t) (places_equal a.1 b.1)

module _ (tables : (a b : TableName) → IsTrue (same_table a b) ↔ (a ≡ b)) (actions : (a b : Action) → IsTrue (same_action a b) ↔ (a ≡ b)) where
  place_itself : (a : Option TableName) → same_place a a ≡ true
  place_itself None = refl
  place_itself (Some a) = (tables a a).1 refl

  part_itself : (a b : Part) → a ≡ b → same_part a b ≡ true
  part_itself a b is = subst (λ (other : Part). same_part a other ≡ true) is (and_from (same_action a.0 a.0) (same_place a.1 a.1) ((actions a.0 a.0).1 refl) (place_itself a.1))

  is_part : (a b : Part) → IsTrue (same_part a b) ↔ (a ≡ b)
  is_part a b = (part_equal tables actions a b, part_itself a b)

  parts_once : (list : List Part) → is_without_repeats spelled_parts.same_part (once same_part list) ≡ true
  parts_once list =
      let laws = equivalence same_part is_part in
      subst (λ (same : Part → Part → Bool). is_without_repeats same (once same_part list) ≡ true) (λ i a b. parts_equal a b i)
      (no_repeats same_part laws (once same_part list) (once_distinct same_part laws.symm list))

  parts_spelled : (who : List ℕ) (written : List ActionPart) → IsName who → length written ≤ STATEMENT_BYTES → AllByRecursion IsPartNamed written → parts.IsSpellable (once same_part (map (part_of who) written))
  unfolding parts
  parts_spelled who written is short named =
      let fewer = once_fewer same_part (map (part_of who) written) in
      let long = mapped_long who written in
      ((omega (arith, short, fewer, long), all_once IsPartSpelled same_part (map (part_of who) written) (each_part who written is named)), parts_once (map (part_of who) written))

  -- ---- the policy

  when_spelled : (condition : Option PolicyCondition) → IsConditionText condition → IsConditionShort condition → IsWhenSpellable (option_map when_of condition)
  when_spelled None utf8 short = tt
  when_spelled (Some condition) utf8 short = text_spelled condition.text (utf8, short)

  pub new_spelled : (who : List ℕ) (create : AnyCreate) → IsName who → IsPolicyNamed create → length (unwrap_or create.actions []) ≤ STATEMENT_BYTES → length (unwrap_or create.roles []) ≤ STATEMENT_BYTES
      → IsConditionShort create.condition → IsChangeSpellable (new_policy who create)
  unfolding policy when
  new_spelled who create is named actions_few roles_few short = (
    name_spelled create.policy named.0,
    (
      privileges_spelled (λ privilege. list_any (same_privilege privilege) (unwrap_or create.privileges [])),
      (
        parts_spelled who (unwrap_or create.actions []) is actions_few named.1,
        (names_once_spelled (unwrap_or create.roles []) (omega (arith, roles_few)) named.2, when_spelled create.condition named.3 short),
      ),
    ),
  )
