-- Entries that follow one another at the end of a list.
use Rattle.std.proofs.Common.{◌≡◌, ◌∙◌, ◌++◌, ◌∷◌, [], List, ap, ap₂, append_assoc}

-- one entry, and then more
pub pushed : {X : Type 0} (old one two : List X) (a : X) (b more : List X) → one ≡ old ++ a ∷ [] → two ≡ one ++ b → b ≡ more → two ≡ old ++ a ∷ more
pushed old one two a b more first second are =
    second ∙ ap₂ (λ xs ys. xs ++ ys) first are ∙ append_assoc old (a ∷ []) more
