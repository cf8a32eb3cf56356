use Rattle.std.proofs.Common.{◌∙◌, ◌-◌, List, map, refl, sym, ap, subst}
use Rattle.std.specs.Prelude.{vec_capacity, vec_len}
use Rattle.std.specs.List.{AllByRecursion}
use Rattle.au_image.specs.Image.{kept_of}
use Rattle.au_kept.specs.Keeping.{Contents}
use Rattle.au_kept.specs.Writing.{KeepsKeys, KeepsSound}
use Rattle.au_kept.proofs.Written.{desk_here, nothing_laid, open_lists, written_holds}
use Rattle.au_txn.specs.Desks.{Contents as Desk, IsWritable, open_of}
use Rattle.au_txn.specs.Logs.{changes_of}
use Rattle.au_txn.specs.Rows.{Row, triple_of}
use Rattle.au_txn.specs.Transactions.{AreFrom, laid_over}
use Rattle.au_kept.proofs.keeping.Keeping.write.Goals as goal

pub write-requires-clause-changes : goal.write-requires-clause-changes
write-requires-clause-changes c =
    let here = desk_here c.rows_are_triples.ensures.back c.args.self.now _ c.self.inside.desk (vec_capacity c.self.inside.trail - vec_len c.self.inside.trail) c.self.view_is refl c.self.invariant in
    subst (λ (d : Desk). AllByRecursion (IsWritable d.tables (open_of d) c.args.client) c.args.changes.items) (sym here) c.requires.changes

pub invariant_of-self : goal.invariant_of-self
invariant_of-self c =
    let here = desk_here c.rows_are_triples.ensures.back c.args.self.now _ c.self.inside.desk (vec_capacity c.self.inside.trail - vec_len c.self.inside.trail) c.self.view_is refl c.self.invariant in
    written_holds c.desks_stay_keyed.ensures.written _ _ c.self.inside.desk c.write.new.self c.args.client c.args.changes.items c.self.invariant
    (ap (λ (rows : List Row). kept_of c.self.inside.catalog c.self.inside.grants (map triple_of rows) c.self.inside.trail.items c.self.inside.last c.self.inside.instance) (sym c.write.ensures.rows))
    c.requires.client
    (subst (λ (d : Desk). AllByRecursion (IsWritable d.tables (open_of d) c.args.client) c.args.changes.items) (sym here) c.requires.changes)
    (subst (λ (d : Desk). AreFrom (laid_over d.rows (open_of d c.args.client)) c.args.changes.items) (sym here) c.requires.old)
    (subst (λ (d : Desk). KeepsKeys d c.args.client c.args.changes.items) (sym here) c.requires.keys)
    (subst (λ (s : Contents). KeepsSound s.kept.tables c.self.inside.desk c.args.client c.args.changes.items) (sym c.self.view_is)
    (subst (λ (d : Desk). KeepsSound c.args.self.now.kept.tables d c.args.client c.args.changes.items) (sym here) c.requires.sound))
    c.write.ensures.tables c.write.ensures.rows c.write.ensures.own c.write.ensures.others

pub returns-clause-others : goal.returns-clause-others
returns-clause-others c = λ q other.
    let none = nothing_laid _ c.self.inside.desk c.self.invariant in
    sym (open_lists c.write.new.self (c.write.ensures.laid ∙ none) q) ∙ c.write.ensures.others q other ∙ open_lists c.self.inside.desk none q ∙ ap (λ (s : Contents). changes_of q s.logs) c.self.view_is
