use Rattle.std.proofs.Common.{◌≡◌, false, true, refl, arith}
use Rattle.au_grants.specs.Rights.{IsRoleGranted}
use Rattle.au_grants.specs.descent.Search.{grantee_at, queued_at}
use Rattle.au_grants.proofs.Holders.{held_nowhere, none_more, not_both}
use Rattle.au_grants.proofs.Reached.{queued_held}
use Rattle.au_grants.proofs.circle.is_granted_to_some.Goals as goal

pub returns-then-is_granted_from : goal.returns-then-is_granted_from
returns-then-is_granted_from c = (
  λ is. queued_held _ _ _ _ c.loop-k.k _ c.requires.reach c.loop-k-test.true (c.is_granted_from.ensures.0 c.if-is_granted_from.true),
  λ has. refl,
)

pub loop-k-preserved : goal.loop-k-preserved
loop-k-preserved c =
    none_more (λ j. IsRoleGranted c.args.roles.now (grantee_at c.args.roles.now (queued_at c.args.queue.now j)) c.args.role.now) 0 c.loop-k.k c.loop-k.invariant
    (λ granted. not_both _ c.if-is_granted_from.false (c.is_granted_from.ensures.1 granted))

pub returns : goal.returns
returns c = (
  λ is. absurd (let e : false ≡ true = is in cc),
  λ has. absurd (held_nowhere _ _ _ _ _ c.requires.reach (λ k low high. c.loop-k.invariant k low (let end = c.loop-k-test.false in omega (arith, high, end))) has),
)
