use Rattle.std.proofs.Common.{◌∙◌, ◌+◌, List, ap, get_or, sym, subst}
use Rattle.std.specs.List.{Contains}
use Rattle.std.specs.Ordering.{is_lt}
use Rattle.std.proofs.lemmas.List.Sorted.{Contains-permutation, IsPermutation-sym}
use Rattle.au_txn.specs.declared.row_name.RowName.{RowName}
use Rattle.au_txn.specs.Listing.{name_of}
use Rattle.au_txn.proofs.Listed.{has-mapped, sorted-rise}
use Rattle.au_txn.proofs.named.sorted_names.Goals as goal

pub returns-clause-rise : goal.returns-clause-rise
returns-clause-rise c = sorted-rise c.sort.new.self.items
    (λ k d low high. ap is_lt (sym (c.names_compare.ensures (get_or c.sort.new.self.items (k + 1) d) (get_or c.sort.new.self.items k d))) ∙ c.in_ok-sort.ensures.sorted k d low high)

pub returns-clause-named : goal.returns-clause-named
returns-clause-named c = λ change has.
    Contains-permutation c.in_ok-names.names.items c.sort.new.self.items (name_of change) c.sort.ensures.permutation
    (subst (λ (names : List RowName). Contains names (name_of change)) (sym c.in_ok-names.ensures) (has-mapped c.args.changes.now change has))

pub returns-clause-names : goal.returns-clause-names
returns-clause-names c = λ name has.
    subst (λ (names : List RowName). Contains names name) c.in_ok-names.ensures
    (Contains-permutation c.sort.new.self.items c.in_ok-names.names.items name (IsPermutation-sym c.in_ok-names.names.items c.sort.new.self.items c.sort.ensures.permutation) has)
