use Rattle.std.proofs.Common.{refl}
use Rattle.au_kept.proofs.Held.{keyed_seen, quiet_seen, together_seen}
use Rattle.au_kept.proofs.keeping.Keeping.holds_together.Goals as goal

pub returns-clause-kept : goal.returns-clause-kept
returns-clause-kept c = rw (← c.self.view_is) c.self.invariant.kept_is

pub returns-clause-keyed : goal.returns-clause-keyed
returns-clause-keyed c = rw (← c.self.view_is) (keyed_seen c.rows_are_triples.ensures.back _ _ 0 refl c.self.invariant)

pub returns-clause-quiet : goal.returns-clause-quiet
returns-clause-quiet c = rw (← c.self.view_is) (quiet_seen c.rows_are_triples.ensures.back _ _ 0 refl c.self.invariant)

pub returns-clause-changes : goal.returns-clause-changes
returns-clause-changes c = rw (← c.self.view_is) (together_seen c.rows_are_triples.ensures.back _ _ 0 refl c.self.invariant).changes

pub returns-clause-together : goal.returns-clause-together
returns-clause-together c = rw (← c.self.view_is) (together_seen c.rows_are_triples.ensures.back _ _ 0 refl c.self.invariant)
