-- Each part that isn't of a table or a row is read exactly where it is spelled.
use Rattle.std.proofs.Common.{◌≡◌, ℕ, Bool, true, false, cond, eqb, List, [], ◌∷◌, ◌++◌, Some, None, refl, sym, ap, subst, ◌∙◌, inl, inr}
use Rattle.std.specs.Prelude.{◌||◌, IsTrue, nat_le}
use Rattle.std.specs.Str.{IsUtf8, is_utf8, bytes_eq}
use Rattle.std.proofs.lemmas.Bool.{eqb-true}
use Rattle.std.proofs.lemmas.Str.{IsUtf8-from_is_utf8, is_utf8-from_IsUtf8}
use Rattle.au_base.specs.Actions as actions
use Rattle.au_base.specs.Naming.{IsName}
use Rattle.au_base.specs.Privileges as privileges
use Rattle.au_entries.specs.declared.policy.Outcomes.{Outcomes}
use Rattle.au_entries.specs.declared.trail_record.RecordKind.{RecordKind}
use Rattle.au_entries.specs.declared.trail_record.RecordKind.TheVariants.{Standard, FineGrained}
use Rattle.rec_parts.specs.Spelling.{is_without_repeats}
use Rattle.rec_parts.specs.Parts.{name, text, truth, truth_code, stamp, session, return_code, verifier, privilege, action, kind, kind_code, outcomes, outcomes_code, table, names, is_rising, privileges_in_order}
use Rattle.rec_parts.specs.Exactness.{IsBytes, IsExact, Takes}
use Rattle.rec_parts.specs.ExactLaws.{IsBytes-rest, bind_some, by_parts_exact, byte_exact, chosen, coded_exact, counted_exact, exact16, exact32, exact64, long_exact, only_exact, pair_exact, run_exact, some_is, such_that_exact}
use Rattle.rec_parts.specs.descent.Parts.{is_name, name_first, text_first, truth_with, truth_first, stamp_first, session_first, return_code_first, verifier_first, privilege_with, privilege_first, action_with, action_first, kind_with, kind_first, outcomes_with, outcomes_first, table_first, names_first, privileges_first}
use Rattle.rec_parts.proofs.CodeLaws.{privilege_forth, privilege_back, action_forth, action_back}
use Rattle.rec_parts.proofs.Names.{IsName-from_is_name, is_name-from_IsName}

pub name_exact : IsExact name name_first
unfolding name name_first
name_exact = only_exact IsName is_name IsName-from_is_name is_name-from_IsName (long_exact exact16)

pub text_exact : IsExact text text_first
unfolding text text_first
text_exact = only_exact IsUtf8 is_utf8 IsUtf8-from_is_utf8 is_utf8-from_IsUtf8 (long_exact exact32)

truth_forth : (b : Bool) → truth_with (truth_code b) ≡ Some b
truth_forth false = refl
truth_forth true = refl

truth_back : (n : ℕ) (b : Bool) → truth_with n ≡ Some b → truth_code b ≡ n
truth_back n b e =
    elim (chosen (eqb n 0) (Some false) (cond (eqb n 1) (Some true) None) (Some b) e) [
      | inl p ↦ ap truth_code (sym (some_is false b p.1)) ∙ sym (eqb-true _ _ p.0)
      | inr p ↦ (elim (chosen (eqb n 1) (Some true) None (Some b) p.1) [
        | inl q ↦ ap truth_code (sym (some_is true b q.1)) ∙ sym (eqb-true _ _ q.0)
        | inr q ↦ absurd (cc q.1)
      ])
    ]

pub truth_exact : IsExact truth truth_first
unfolding truth truth_first
truth_exact = coded_exact truth_code truth_with truth_forth truth_back

kind_forth : (k : RecordKind) → kind_with (kind_code k) ≡ Some k
kind_forth Standard = refl
kind_forth FineGrained = refl

kind_back : (n : ℕ) (k : RecordKind) → kind_with n ≡ Some k → kind_code k ≡ n
kind_back n k e =
    elim (chosen (eqb n 1) (Some Standard) (cond (eqb n 2) (Some FineGrained) None) (Some k) e) [
      | inl p ↦ ap kind_code (sym (some_is Standard k p.1)) ∙ sym (eqb-true _ _ p.0)
      | inr p ↦ (elim (chosen (eqb n 2) (Some FineGrained) None (Some k) p.1) [
        | inl q ↦ ap kind_code (sym (some_is FineGrained k q.1)) ∙ sym (eqb-true _ _ q.0)
        | inr q ↦ absurd (cc q.1)
      ])
    ]

pub kind_exact : IsExact kind kind_first
unfolding kind kind_first
kind_exact = coded_exact kind_code kind_with kind_forth kind_back

pub stamp_exact : IsExact stamp stamp_first
unfolding stamp stamp_first
stamp_exact = by_parts_exact (λ n. record { 0 = n }) (λ s. s.0) (λ n. refl) (λ s. refl) (such_that_exact (λ n. nat_le n 253_402_300_799_999_999) exact64)

pub session_exact : IsExact session session_first
unfolding session session_first
session_exact = by_parts_exact (λ n. record { 0 = n }) (λ s. s.0) (λ n. refl) (λ s. refl) (such_that_exact (λ n. nat_le n 999_999_999_999_999_999) exact64)

pub return_code_exact : IsExact return_code return_code_first
unfolding return_code return_code_first
return_code_exact = by_parts_exact (λ n. record { 0 = n }) (λ s. s.0) (λ n. refl) (λ s. refl) exact32

pub verifier_exact : IsExact verifier verifier_first
unfolding verifier verifier_first
verifier_exact = run_exact 32

pub privilege_exact : IsExact privilege privilege_first
unfolding privilege privilege_first
privilege_exact = coded_exact privileges.code_of privilege_with privilege_forth privilege_back

pub action_exact : IsExact action action_first
unfolding action action_first
action_exact = coded_exact actions.code_of action_with action_forth action_back

outcomes_forth : (s f : Bool) → IsTrue (s || f) → outcomes_with (outcomes_code (record { success = s; failure = f })) ≡ Some (record { success = s; failure = f })
outcomes_forth true true h = refl
outcomes_forth true false h = refl
outcomes_forth false true h = refl
outcomes_forth false false h = absurd cc

outcomes_back : (n : ℕ) (o : Outcomes) → outcomes_with n ≡ Some o → (outcomes_code o ≡ n) × IsTrue (o.success || o.failure)
outcomes_back n o e =
    let one : Outcomes = record { success = true; failure = false } in
    let two : Outcomes = record { success = false; failure = true } in
    let three : Outcomes = record { success = true; failure = true } in
    elim (chosen (eqb n 1) (Some one) (cond (eqb n 2) (Some two) (cond (eqb n 3) (Some three) None)) (Some o) e) [
      | inl p ↦ subst (λ (x : Outcomes). (outcomes_code x ≡ n) × IsTrue (x.success || x.failure)) (some_is one o p.1) (sym (eqb-true _ _ p.0), refl)
      | inr p ↦ (elim (chosen (eqb n 2) (Some two) (cond (eqb n 3) (Some three) None) (Some o) p.1) [
        | inl q ↦ subst (λ (x : Outcomes). (outcomes_code x ≡ n) × IsTrue (x.success || x.failure)) (some_is two o q.1) (sym (eqb-true _ _ q.0), refl)
        | inr q ↦ (elim (chosen (eqb n 3) (Some three) None (Some o) q.1) [
          | inl r ↦ subst (λ (x : Outcomes). (outcomes_code x ≡ n) × IsTrue (x.success || x.failure)) (some_is three o r.1) (sym (eqb-true _ _ r.0), refl)
          | inr r ↦ absurd (cc r.1)
        ])
      ])
    ]

outcomes_takes : (bytes : List ℕ) (x : Outcomes × List ℕ) → IsBytes bytes → outcomes_first bytes ≡ Some x → Takes outcomes bytes x
unfolding outcomes outcomes_first
outcomes_takes [] x fits e = absurd cc
outcomes_takes (b ∷ bytes) x fits e =
    let a = bind_some (outcomes_with b) (λ (o : Outcomes). Some (o, bytes)) x e in
    let back = outcomes_back b a.0 a.1 in
    subst (Takes outcomes (b ∷ bytes)) (some_is (a.0, bytes) x a.2) (record { spellable = back.1; parts = ap (λ (n : ℕ). n ∷ bytes) (sym back.0); rest_fits = IsBytes-rest b bytes fits })

outcomes_again : (o : Outcomes) (rest : List ℕ) → outcomes.IsSpellable o → outcomes_first (outcomes.spelled o ++ rest) ≡ Some (o, rest)
unfolding outcomes outcomes_first
outcomes_again o rest h = rw (outcomes_forth o.success o.failure h) refl

pub outcomes_exact : IsExact outcomes outcomes_first
outcomes_exact = record { takes = outcomes_takes; again = outcomes_again }

pub table_exact : IsExact table table_first
unfolding table table_first
table_exact = by_parts_exact (λ x. record { owner = x.0; name = x.1 }) (λ t. (t.owner, t.name)) (λ x. refl) (λ t. refl) (pair_exact name_exact name_exact)

pub names_exact : IsExact names names_first
unfolding names names_first
names_exact = such_that_exact (is_without_repeats bytes_eq) (counted_exact exact16 name_exact)

pub privileges_exact : IsExact privileges_in_order privileges_first
unfolding privileges_in_order privileges_first
privileges_exact = such_that_exact (is_rising 0) (counted_exact byte_exact privilege_exact)
