use Rattle.std.proofs.Common.{inl, inr, refl}
use Rattle.au_priv.proofs.FirstHeld.{nothing, something}
use Rattle.au_priv.proofs.allowing.refusal.Goals as goal

pub returns-in-Some : goal.returns-in-Some
returns-in-Some c = inl (something c.args.grants.now c.args.user.now c.args.table.now _ c.in-Some.field-0 (λ holds. holds) ((c.in-Some.ensures.some c.in-Some.field-0).0 refl), refl)

pub returns-in-None : goal.returns-in-None
returns-in-None c = inr (nothing c.args.grants.now c.args.user.now c.args.table.now _ (λ has. has) (c.in-None.ensures.none.0 refl), refl)
