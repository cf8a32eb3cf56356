use Rattle.std.proofs.Common.{ℕ, rules, ◌≡◌, ◌∙◌, Bool, true, false, cond, List, [], ◌∷◌, map, refl, sym, ap, subst}
use Rattle.std.specs.List.{filter, retain_mut}
use Rattle.std.specs.List.Retain.{RetainsInTurn}
use Rattle.au_entries.specs.declared.policy.Enabled.{Enabled}
use Rattle.au_entries.specs.Changing.{is_on, without_user}
use Rattle.au_catalog.proofs.editing.drop_enabled_user.Goals as goal

-- what is left of each, where it passes, is what passes of what is left
left : {X : Type 0} (test : X → Bool) (change : X → X) (xs : List X) → retain_mut (λ x. test (change x)) change xs ≡ filter test (map change xs)
left test change [] = refl
left test change (x ∷ xs) = ap (λ rest. cond (test (change x)) (change x ∷ rest) rest) (left test change xs)

-- a closure that stays as it was leaves of each what a function makes of it
retained : {S X : Type 0} (R : S → X → Bool → S → X → Type 0) (test : X → Bool) (change : X → X) (f : S) → ((x : X) (b : Bool) (t : S) (y : X) → R f x b t y → (b ≡ test x) × (y ≡ change x) × (t ≡ f))
    → (xs ys : List X) → RetainsInTurn R f xs ys → ys ≡ retain_mut test change xs
retained R test change f each [] ys h = h
retained R test change f each (x ∷ xs) ys h =
    let said = each x h.0 h.1 h.2 h.3 in
    let rest = retained R test change f each xs h.4 (subst (λ s. RetainsInTurn R s xs h.4) said.2 h.5) in
    h.6 ∙ (λ i. cond (said.0 i) (said.1 i ∷ rest i) (rest i))

pub returns-clause-items : goal.returns-clause-items
returns-clause-items c =
    let change : List ℕ × Enabled → List ℕ × Enabled = (λ entry. (entry.0, without_user c.args.user.now entry.1)) in
    retained _ (λ entry. is_on (change entry).1) change _
    (λ x b t y h. let met = h.called.met.0 in (met.0 ∙ ap (λ (z : List ℕ × Enabled). is_on (change z).1) h.shows, sym h.leaves ∙ met.1 ∙ ap change h.shows, search rules)) _ _ c.retain_mut.ensures.filtered
    ∙ left (λ entry. is_on entry.1) change c.args.entries.now.items
