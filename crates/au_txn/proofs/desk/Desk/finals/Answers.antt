use Rattle.std.proofs.Common.{◌≡◌, ◌∙◌, ◌++◌, List, sym, subst, ap, map}
use Rattle.std.specs.List.{Contains}
use Rattle.au_txn.specs.declared.change.RowChange.{RowChange}
use Rattle.au_txn.specs.declared.row_name.RowName.{RowName}
use Rattle.au_txn.specs.Desks.{laid_by, open_in}
use Rattle.au_txn.specs.Inside.{laid_in}
use Rattle.au_txn.specs.Listing.{name_of}
use Rattle.au_txn.specs.Logs.{changes_of}
use Rattle.au_txn.proofs.Laid.{all-right, laid-elsewhere}
use Rattle.au_txn.proofs.Listed.{all-numbered, finals-of, weaker}
use Rattle.au_txn.proofs.desk.Desk.finals.Goals as goal

pub finals_in-requires-clause-numbered : goal.finals_in-requires-clause-numbered
finals_in-requires-clause-numbered c =
    let changes : c.find_changes.result.now ≡ changes_of c.args.client c.self.inside.logs.items = c.find_changes.ensures ∙ ap (changes_of c.args.client) c.deref.ensures.value in
    all-numbered (changes_of c.args.client c.self.inside.logs.items) c.as_slice.result.now
    (all-right _ (laid_by c.args.client (laid_in c.self.inside.rows c.self.inside.logs.items)) (changes_of c.args.client c.self.inside.logs.items) (c.self.invariant.numbered c.args.client))
    (λ name has. subst (λ (xs : List RowChange). Contains (map name_of xs) name) changes (c.in_ok-names.ensures.names name (subst (λ (xs : List RowName). Contains xs name) c.as_slice.ensures.value has)))

pub returns-clause-listed : goal.returns-clause-listed
returns-clause-listed c =
    let changes : c.find_changes.result.now ≡ changes_of c.args.client c.self.inside.logs.items = c.find_changes.ensures ∙ ap (changes_of c.args.client) c.deref.ensures.value in
    rw (← c.self.view_is) (weaker c.finals_in.result c.finals_in.ensures
    (λ finals listed none.
    let all : c.find_changes.result.now ≡ (open_in (laid_in c.self.inside.rows c.self.inside.logs.items) c.self.inside.logs.items) c.args.client = changes ∙ sym (ap (λ xs. xs ++ changes_of c.args.client c.self.inside.logs.items) none) in
    finals-of c.self.inside.rows (open_in (laid_in c.self.inside.rows c.self.inside.logs.items) c.self.inside.logs.items) c.self.invariant c.args.client c.other_than.result c.other_than.ensures c.as_slice.result.now finals.items
    (λ change has. subst (λ (xs : List RowName). Contains xs (name_of change)) (sym c.as_slice.ensures.value) (c.in_ok-names.ensures.named change (subst (λ (xs : List RowChange). Contains xs change) (sym all) has)))
    (λ name has. subst (λ (xs : List RowChange). Contains (map name_of xs) name) all (c.in_ok-names.ensures.names name (subst (λ (xs : List RowName). Contains xs name) c.as_slice.ensures.value has)))
    listed))

pub returns-clause-others : goal.returns-clause-others
returns-clause-others c =
    let changes : c.find_changes.result.now ≡ changes_of c.args.client c.self.inside.logs.items = c.find_changes.ensures ∙ ap (changes_of c.args.client) c.deref.ensures.value in
    rw (← c.self.view_is) (λ ne. weaker c.finals_in.result c.finals_in.ensures
    (λ finals listed.
    let none = laid-elsewhere c.args.client (laid_in c.self.inside.rows c.self.inside.logs.items) ne in
    let all : c.find_changes.result.now ≡ (open_in (laid_in c.self.inside.rows c.self.inside.logs.items) c.self.inside.logs.items) c.args.client = changes ∙ sym (ap (λ xs. xs ++ changes_of c.args.client c.self.inside.logs.items) none) in
    finals-of c.self.inside.rows (open_in (laid_in c.self.inside.rows c.self.inside.logs.items) c.self.inside.logs.items) c.self.invariant c.args.client c.other_than.result c.other_than.ensures c.as_slice.result.now finals.items
    (λ change has. subst (λ (xs : List RowName). Contains xs (name_of change)) (sym c.as_slice.ensures.value) (c.in_ok-names.ensures.named change (subst (λ (xs : List RowChange). Contains xs change) (sym all) has)))
    (λ name has. subst (λ (xs : List RowChange). Contains (map name_of xs) name) all (c.in_ok-names.ensures.names name (subst (λ (xs : List RowName). Contains xs name) c.as_slice.ensures.value has)))
    listed))
