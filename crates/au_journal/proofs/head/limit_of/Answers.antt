use Rattle.std.proofs.Common.{inl, inr, ⊎_elim, ◌<◌, refl, arith}
use Rattle.au_journal.specs.Frames.{IsLimit}
use Rattle.au_journal.proofs.Walking.{shut_from, open_from, head_split, head_header, no_limit}
use Rattle.au_journal.proofs.head.limit_of.Goals as goal

pub returns-then-limit-lt-JOURNAL_LIMIT_MIN-clause-damage : goal.returns-then-limit-lt-JOURNAL_LIMIT_MIN-clause-damage
returns-then-limit-lt-JOURNAL_LIMIT_MIN-clause-damage c =
    let limit = c.limit_in-limit.result in
    inr (inl (
      refl,
      c.is_named.ensures.0 c.if-not-is_named.false,
      no_limit c.args.head.now limit c.limit_in-limit.type_inv c.limit_in-limit.ensures
          (λ (within : IsLimit limit). ⊎_elim (λ (low : limit < 400). omega (arith, low, within.0)) (λ high. omega (arith, high.1, within.1)) c.then-limit-lt-JOURNAL_LIMIT_MIN.either),
    ))

pub returns-then-head-ne-OPEN-clause-damage : goal.returns-then-head-ne-OPEN-clause-damage
returns-then-head-ne-OPEN-clause-damage c =
    let named = c.is_named.ensures.0 c.if-not-is_named.false in
    inr (inr (
      refl,
      c.limit_in-limit.result,
      (c.if-limit-lt-JOURNAL_LIMIT_MIN.false, c.if-limit-gt-JOURNAL_LIMIT_MAX.false),
      head_header c.args.head.now c.limit_in-limit.result c.requires named c.limit_in-limit.ensures,
      shut_from c.args.head.now 13 c.if-head-ne-OPEN.true,
    ))

pub returns-clause-header : goal.returns-clause-header
returns-clause-header c = head_split c.args.head.now c.limit_in-limit.result c.requires (c.is_named.ensures.0 c.if-not-is_named.false) c.limit_in-limit.ensures

pub returns-clause-opens : goal.returns-clause-opens
returns-clause-opens c = open_from c.args.head.now 13 c.if-head-ne-OPEN.false
