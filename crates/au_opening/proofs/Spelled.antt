-- What a new store keeps has a spelling.
use Rattle.std.proofs.Common.{◌≡◌, ℕ, ◌<◌, ◌^◌, Bool, true, false, List, [], ◌∷◌, ◌++◌, map, get_or, refl, arith}
use Rattle.std.specs.Prelude.{IsAscii, nat_lt}
use Rattle.std.specs.List.{AllByRecursion, list_all}
use Rattle.std.specs.Int.{byte_len, w32}
use Rattle.std.proofs.lemmas.Bool.Decides.{nat_tests}
use Rattle.std.proofs.lemmas.List.Elements.{All-get_or, All-from_get_or}
use Rattle.std.proofs.lemmas.List.Sums.{AllPass-from_list_all}
use Rattle.std.proofs.lemmas.Str.{IsUtf8-from_ascii}
use Rattle.std.proofs.lemmas.Str.Ascii.{IsAscii-from_all}
use Rattle.sha2.proofs.Facts256.{length-sha256}
use Rattle.au_base.specs.declared.privilege.Privilege.{Privilege}
use Rattle.au_base.specs.BuiltIn.{sys, audit_admin, audit_viewer, p_all}
use Rattle.au_base.specs.Naming.{IsName}
use Rattle.au_entries.specs.declared.change.Change.{Change}
use Rattle.au_entries.specs.declared.change.Change.TheVariants.{Start}
use Rattle.au_entries.specs.Imaging.{image_changes, policy_change, role_change, role_grant_change, system_change, user_change}
use Rattle.au_image.specs.Image.{IsSpelled}
use Rattle.rec_codec.specs.Changes.{IsChangeSpellable, parts, policy, role_grant, system_grant, user, when}
use Rattle.rec_parts.specs.Parts.{action, name, names, privilege, privileges_in_order, table, truth, verifier}
use Rattle.au_opening.specs.Opening.{each_privilege, granted_to_sys, opening, opening_role_grants, opening_roles, opening_system, opening_users, policy_of_all}

-- a byte of ASCII
abbrev is_ascii : ℕ → Bool
is_ascii b = nat_lt b 128

ascii_byte : (b : ℕ) → is_ascii b ≡ true → b < 128
ascii_byte b h = grind (arith, nat_tests)

ascii : (text : List ℕ) → list_all is_ascii text ≡ true → IsAscii text
ascii text h =
    IsAscii-from_all text (All-from_get_or (λ b. b < 128) text 0 (λ i inside. ascii_byte (get_or text i 0) (All-get_or (λ x. is_ascii x ≡ true) text i 0 inside (AllPass-from_list_all is_ascii text h))))

name_written : (bytes : List ℕ) → IsName bytes → name.IsSpellable bytes
unfolding name
name_written bytes h = (omega (arith, h.0.capped), h)

sys_written : name.IsSpellable sys
sys_written = name_written sys (record { some = omega arith; capped = omega arith }, IsUtf8-from_ascii sys (ascii sys refl))

admin_written : name.IsSpellable audit_admin
admin_written = name_written audit_admin (record { some = omega arith; capped = omega arith }, IsUtf8-from_ascii audit_admin (ascii audit_admin refl))

viewer_written : name.IsSpellable audit_viewer
viewer_written = name_written audit_viewer (record { some = omega arith; capped = omega arith }, IsUtf8-from_ascii audit_viewer (ascii audit_viewer refl))

p_all_written : name.IsSpellable p_all
p_all_written = name_written p_all (record { some = omega arith; capped = omega arith }, IsUtf8-from_ascii p_all (ascii p_all refl))

user_written : (password : List ℕ) → AllByRecursion IsChangeSpellable (map user_change (opening_users password))
unfolding user verifier
user_written password = ((sys_written, length-sha256 _), tt)

rights_written : (privileges : List Privilege) → AllByRecursion IsChangeSpellable (map system_change (map granted_to_sys privileges))
unfolding system_grant privilege truth
rights_written [] = tt
rights_written (p ∷ privileges) = ((sys_written, (tt, tt)), rights_written privileges)

system_written : AllByRecursion IsChangeSpellable (map system_change opening_system)
unfolding system_grant privilege truth
system_written = ((admin_written, (tt, tt)), rights_written each_privilege)

role_written : (role : List ℕ) → name.IsSpellable role → IsChangeSpellable (role_grant_change (sys, role, true))
unfolding role_grant truth
role_written role written = (sys_written, (written, tt))

policy_written : IsChangeSpellable (policy_change policy_of_all)
unfolding policy privileges_in_order parts names when action table
policy_written = (p_all_written, (((omega arith, tt), refl), (((omega arith, ((tt, tt), tt)), refl), (((omega arith, tt), refl), tt))))

start_written : 0 < 256 ^ byte_len w32
start_written = omega arith

joined : (front behind : List Change) → AllByRecursion IsChangeSpellable front → AllByRecursion IsChangeSpellable behind → AllByRecursion IsChangeSpellable (front ++ behind)
joined [] behind all more = more
joined (change ∷ front) behind all more = (all.0, joined front behind all.1 more)

-- what comes behind the rights, and behind the user
abbrev behind_rights : List Change
behind_rights = map role_grant_change opening_role_grants ++ policy_change policy_of_all ∷ Start 0 ∷ []

abbrev behind_user : List Change
behind_user = map role_change opening_roles ++ (map system_change opening_system ++ behind_rights)

end_written : AllByRecursion IsChangeSpellable behind_rights
end_written = (role_written audit_admin admin_written, (role_written audit_viewer viewer_written, (policy_written, (start_written, tt))))

roles_written : AllByRecursion IsChangeSpellable behind_user
roles_written = (admin_written, (viewer_written, joined (map system_change opening_system) behind_rights system_written end_written))

entries_written : (password : List ℕ) → AllByRecursion IsChangeSpellable (image_changes (opening password))
entries_written password = joined (map user_change (opening_users password)) behind_user (user_written password) roles_written

pub opening_spelled : (password : List ℕ) → IsSpelled (opening password)
opening_spelled password = record { entries = entries_written password; records = tt }
