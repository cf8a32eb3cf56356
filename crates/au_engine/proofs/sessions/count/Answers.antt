use Rattle.std.proofs.Common.{◌∙◌, ℕ, List, map, ap, refl, sym, subst}
use Rattle.au_step.specs.declared.session.Session.{Session}
use Rattle.au_engine.specs.Sessions.{AreApart, forgotten, with_counts}
use Rattle.au_engine.proofs.Apart.{apart_mapped}
use Rattle.au_engine.proofs.Counting.{counts_made}
use Rattle.au_engine.proofs.sessions.count.Goals as goal

pub set_counts-requires : goal.set_counts-requires
set_counts-requires c = record {
  apart = subst (λ (l : List Session). AreApart l) (sym c.forget_in_all.ensures.items)
      (apart_mapped (λ (session : Session). forgotten c.as_slice.result.now session) (λ session. refl) c.args.sessions.now.items c.requires.apart);
}

pub returns-clause-items : goal.returns-clause-items
returns-clause-items c =
    let a = c.args in
    c.set_counts.ensures.items
    ∙ (ap (λ (l : List Session). map (with_counts a.client a.statements a.entries a.results) l) (c.forget_in_all.ensures.items ∙ ap (λ (forgets : List (List ℕ)). map (forgotten forgets) a.sessions.now.items) c.as_slice.ensures)
    ∙ counts_made a.client a.statements a.entries a.results a.forgets a.sessions.now.items)
