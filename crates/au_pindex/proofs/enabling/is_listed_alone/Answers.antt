use Rattle.std.proofs.Common.{◌≡◌, ◌∙◌, ℕ, List, true, false, ap, sym}
use Rattle.std.specs.List.{list_all}
use Rattle.std.specs.Str.{bytes_eq}
use Rattle.au_entries.specs.declared.policy.Outcomes.{Outcomes}
use Rattle.au_pindex.proofs.EnabledBy.{left_by}
use Rattle.au_pindex.proofs.enabling.is_listed_alone.Goals as goal

pub returns : goal.returns
returns c =
    c.are_all.ensures ∙ ap (λ (users : List (List ℕ × Outcomes)). list_all (λ (listed : List ℕ × Outcomes). bytes_eq listed.0 c.args.user.now) users) c.as_slice.ensures
    ∙ sym (left_by c.args.user.now c.args.users.now (λ none. let e : true ≡ false = sym (c.is_empty.ensures.1 none) ∙ c.if-is_empty.false in cc))
