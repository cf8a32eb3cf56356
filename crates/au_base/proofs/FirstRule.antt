-- What the code of the first rule that is broken is.
use Rattle.std.proofs.Common.{◌≡◌, ◌≢◌, suc, zero, ◌⊎◌, inl, inr, Bool, true, false, List, [], ◌∷◌, ◌++◌, Some, None, refl, ap, sym, subst, arith}
use Rattle.std.specs.List.{Contains, find}
use Rattle.std.proofs.lemmas.Bool.{false≢true}
use Rattle.au_base.specs.Codes.{DONE}
use Rattle.au_base.specs.FirstCode.{FirstBroken, IsFirstCode, NoneBroken, NoneIsDone, first_code}
use Rattle.au_base.specs.declared.code.Code.{Code}

here : (rule : Bool × Code) (rules : List (Bool × Code)) → Contains (rule ∷ rules) rule
here rule rules = (0, omega arith, refl)

there : (other : Bool × Code) (rules : List (Bool × Code)) (rule : Bool × Code) → Contains rules rule → Contains (other ∷ rules) rule
there other rules rule (k, within, is) = (suc k, omega arith, is)

split : (other : Bool × Code) (rules : List (Bool × Code)) (rule : Bool × Code) → Contains (other ∷ rules) rule → (other ≡ rule) ⊎ Contains rules rule
split other rules rule (zero, within, is) = inl is
split other rules rule (suc k, within, is) = inr (k, omega arith, is)

none : (rule : Bool × Code) → Contains [] rule → ⊥
none rule (k, within, is) = omega arith

-- a rule that isn't broken in front changes nothing
unbroken : (code : Code) (rules : List (Bool × Code)) → NoneBroken rules → NoneBroken ((false, code) ∷ rules)
unbroken code rules clear other has = elim (split (false, code) rules (true, other) has) [
  | inl same ↦ false≢true (ap (λ (rule : Bool × Code). rule.0) same)
  | inr later ↦ clear other later
]

first_at : (before after : List (Bool × Code)) (code : Code) → NoneBroken before → first_code (before ++ (true, code) ∷ after) ≡ code
first_at [] after code clear = refl
first_at ((true, other) ∷ before) after code clear = absurd (clear other (here (true, other) before))
first_at ((false, other) ∷ before) after code clear = first_at before after code (λ third has. clear third (there (false, other) before (true, third) has))

is_broken : (rules : List (Bool × Code)) → first_code rules ≢ DONE → FirstBroken rules (first_code rules)
is_broken [] other = absurd (other refl)
is_broken ((true, code) ∷ rules) other = ([], rules, refl, λ third has. none (true, third) has)
is_broken ((false, code) ∷ rules) other =
    let found = is_broken rules other in
    ((false, code) ∷ found.0, found.1, ap (λ (rest : List (Bool × Code)). (false, code) ∷ rest) found.2, unbroken code found.0 found.3)

is_clear : (rules : List (Bool × Code)) → NoneIsDone rules → first_code rules ≡ DONE → NoneBroken rules
is_clear [] apart is = λ other has. none (true, other) has
is_clear ((true, code) ∷ rules) apart is = absurd (apart true (subst (λ (c : Code). Contains ((true, code) ∷ rules) (true, c)) is (here (true, code) rules)))
is_clear ((false, code) ∷ rules) apart is =
    unbroken code rules (is_clear rules (λ broken has. apart broken (there (false, code) rules (broken, DONE) has)) is)

is_done : (rules : List (Bool × Code)) → NoneBroken rules → first_code rules ≡ DONE
is_done [] clear = refl
is_done ((true, code) ∷ rules) clear = absurd (clear code (here (true, code) rules))
is_done ((false, code) ∷ rules) clear = is_done rules (λ other has. clear other (there (false, code) rules (true, other) has))

pub first : (rules : List (Bool × Code)) → IsFirstCode rules (first_code rules)
first rules = record {
  first = λ other (before, after, same, clear). subst (λ (all : List (Bool × Code)). first_code all ≡ other) (sym same) (first_at before after other clear);
  broken = is_broken rules;
  done = λ apart. (is_clear rules apart, is_done rules);
}

-- the rule that is found gives the code
pub found : (rules : List (Bool × Code)) (rule : Bool × Code) → find (λ (each : Bool × Code). each.0) rules ≡ Some rule → rule.1 ≡ first_code rules
found [] rule is = absurd cc
found ((true, code) ∷ rules) rule is = cc
found ((false, code) ∷ rules) rule is = found rules rule is

-- where none is found the code is DONE
pub missed : (rules : List (Bool × Code)) → find (λ (each : Bool × Code). each.0) rules ≡ None → DONE ≡ first_code rules
missed [] is = refl
missed ((true, code) ∷ rules) is = absurd cc
missed ((false, code) ∷ rules) is = missed rules is
