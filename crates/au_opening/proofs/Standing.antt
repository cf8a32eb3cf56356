-- What a new store keeps is lawful and whole.
use Rattle.std.proofs.Common.{◌≡◌, ◌≢◌, ℕ, zero, suc, ◌≤◌, ◌<◌, List, [], ◌∷◌, length, map, refl, ap, arith}
use Rattle.std.specs.Prelude.{IsTrue}
use Rattle.std.specs.List.{AllByRecursion, Contains}
use Rattle.au_base.specs.BuiltIn.{ora_mandatory, p_all, sys}
use Rattle.au_base.specs.declared.privilege.Privilege.{Privilege}
use Rattle.au_entries.specs.Imaging.{image_changes}
use Rattle.au_entries.specs.Lawful.{IsLawful, IsWhole}
use Rattle.au_entries.specs.Replaying.{Conditions, has_grantee, has_user}
use Rattle.au_kept.specs.Sound.{IsKept}
use Rattle.au_opening.specs.Opening.{each_privilege, granted_to_sys, opening}
use Rattle.au_opening.proofs.Circles.{opening_no_circle}
use Rattle.au_opening.proofs.Spelled.{opening_spelled}

none : {X : Type 0} (x : X) → Contains {X = X} [] x → ⊥
none x (k, within, is) = omega arith

not_reserved : p_all ≢ ora_mandatory
not_reserved same = let sizes = ap length same in omega arith

grantees_there : (password : List ℕ) (privileges : List Privilege) → AllByRecursion (λ grant. IsTrue (has_grantee (opening password) grant.0)) (map granted_to_sys privileges)
grantees_there password [] = tt
grantees_there password (privilege ∷ privileges) = (refl, grantees_there password privileges)

lawful : (conditions : Conditions) (password : List ℕ) → IsLawful conditions (opening password)
lawful conditions password = record {
  ordered = record {
    users = refl;
    roles = refl;
    grants = (refl, refl, refl);
    tables = refl;
    rows = refl;
    policies = refl;
    enabled = refl;
    fga = refl;
    on = tt;
    unreserved = (not_reserved, tt);
  };
  founded = record {
    system = (refl, grantees_there password each_privilege);
    role = ((refl, refl), ((refl, refl), tt));
    no_circle = opening_no_circle;
    object = tt;
    tables = tt;
    rows = tt;
    enabled = tt;
    fga = tt;
  };
  truths = record { audit = (tt, tt); fga = tt };
  last = omega arith;
  archive = tt;
  instance = omega arith;
}

whole : (password : List ℕ) → IsWhole (opening password)
whole password = record {
  fits = λ row table has kept. absurd (none row has);
  keys = λ a b table has other kept same keyed key. absurd (none a has);
  few = record {
    users = omega arith;
    roles = omega arith;
    tables = omega arith;
    policies = omega arith;
    fga = omega arith;
    grants = omega arith;
    columns = tt;
    rows = tt;
  };
}

pub opening_kept : (conditions : Conditions) (password : List ℕ) → IsKept conditions (opening password)
opening_kept conditions password = record { lawful = lawful conditions password; whole = whole password; spelled = opening_spelled password }

pub opening_sys : (password : List ℕ) → IsTrue (has_user (opening password) sys)
opening_sys password = refl

-- its image has 25 changes
pub few_changes : (password : List ℕ) → length (image_changes (opening password)) ≡ 25
few_changes password = refl
