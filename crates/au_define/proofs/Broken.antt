-- The first rule of two lists that is broken.
use Rattle.std.proofs.Common.{◌≡◌, Bool, true, false, ◌||◌, List, [], ◌∷◌, ◌++◌, refl, ap}
use Rattle.std.specs.Prelude.{None, if◌then◌else◌}
use Rattle.au_base.specs.declared.privilege.Privilege.{Privilege}
use Rattle.au_entries.specs.declared.change.Change.{Change}
use Rattle.au_entries.specs.declared.decision.Decision.{Decision}
use Rattle.au_base.specs.FirstCode.{first_code}
use Rattle.au_define.specs.Rules.{Rules, decided, is_broken}

-- one of the first is broken
pub first_of_rights : (rights others : Rules) → is_broken rights ≡ true → first_code rights ≡ first_code (rights ++ others)
first_of_rights [] others is = absurd (let e : false ≡ true = is in cc)
first_of_rights ((true, code) ∷ rights) others is = refl
first_of_rights ((false, code) ∷ rights) others is = first_of_rights rights others is

-- none of the first is
pub first_of_others : (rights others : Rules) → is_broken rights ≡ false → first_code others ≡ first_code (rights ++ others)
first_of_others [] others is = refl
first_of_others ((true, code) ∷ rights) others is = absurd (let e : true ≡ false = is in cc)
first_of_others ((false, code) ∷ rights) others is = first_of_others rights others is

-- a rule of both lists is broken where one of either is
pub broken_of_both : (rights others : Rules) → (is_broken rights || is_broken others) ≡ is_broken (rights ++ others)
broken_of_both [] others = refl
broken_of_both ((true, code) ∷ rights) others = refl
broken_of_both ((false, code) ∷ rights) others = broken_of_both rights others

with_changes : Rules → Rules → List Privilege → List Change → Decision
with_changes rights others needed changes = record {
  code = first_code (rights ++ others);
  used = if is_broken rights then [] else needed;
  changes = changes;
  purge = None;
  forgets = [];
}

none_either : (broken : Bool) (changes : List Change) → broken ≡ true → (if broken then [] else []) ≡ (if broken then [] else changes)
none_either true changes is = refl
none_either false changes is = absurd (let e : false ≡ true = is in cc)

-- a statement that is refused changes nothing, whatever it would change
pub refused : (rights others : Rules) (needed : List Privilege) (changes : List Change) → is_broken (rights ++ others) ≡ true
    → decided rights others needed [] ≡ decided rights others needed changes
unfolding with_changes
refused rights others needed changes is = ap (with_changes rights others needed) (none_either (is_broken (rights ++ others)) changes is)

-- of rules none of which is broken the last one isn't
no_right : (a b : Bool) → (a || b) ≡ false → b ≡ false
no_right true b is = absurd (let e : true ≡ false = is in cc)
no_right false b is = is

no_left : (a b : Bool) → (a || b) ≡ false → a ≡ false
no_left true b is = absurd (let e : true ≡ false = is in cc)
no_left false b is = refl

-- a rule that isn't broken among rules none of which is
pub last_of_six : (a b c d e f : Bool) → (a || (b || (c || (d || (e || (f || false)))))) ≡ false → f ≡ false
last_of_six a b c d e f is =
    no_left f false (no_right e _ (no_right d _ (no_right c _ (no_right b _ (no_right a _ is)))))
