use Rattle.std.proofs.Common.{◌≡◌, ◌∙◌, ℕ, nat_eq, length, get_or, ◌∷◌, Option, Some, None, ap, sym, subst, arith}
use Rattle.indexmap.specs.IndexMap.{get}
use Rattle.au_rows.specs.declared.version.Version.{Version}
use Rattle.au_rows.specs.Chains.{IsChain, version_of, versions_of}
use Rattle.au_rows.specs.Sought.{IsMatch}
use Rattle.au_rows.proofs.ChainLemmas.{at-slot, chain-length, left-behind, none-left, not-vacant-at, version-at, version-in}
use Rattle.au_rows.proofs.KeyLemmas.{failed}
use Rattle.au_rows.proofs.seeking.first_match.Goals as goal

pub loop-turn-init : goal.loop-turn-init
loop-turn-init c =
    let nodes = c.args.nodes.now.slots in
    let chained = c.requires.chained in
    let hash = c.key_hash-hash.result in
    let stands = subst (λ (at : Option ℕ). IsChain nodes hash at (chained.chain hash)) (sym c.head_of-at.ensures) (chained.linked hash) in
    let most = chain-length nodes hash c.head_of-at.result (chained.chain hash) stands in
    let slots = c.len-turn-end.ensures in
    record {
      rest = chained.chain hash;
      stands = stands;
      short = omega arith;
      found = λ slot version is of m. version-in nodes (λ h. get nat_eq c.args.heads.now h) chained slot hash version is of;
    }

pub returns-in-None-get-clause-none : goal.returns-in-None-get-clause-none
returns-in-None-get-clause-none c = λ slot version is of m. not-vacant-at c.args.nodes.now.slots c.key_hash-hash.result c.loop-turn.at c.loop-turn.invariant.rest c.in-Some.here c.loop-turn.invariant.stands c.in-Some.is (sym c.in-None-get.ensures)

pub returns-in-None-clause-none : goal.returns-in-None-clause-none
returns-in-None-clause-none c = λ slot version is of m.
    none-left c.args.nodes.now.slots c.key_hash-hash.result c.loop-turn.at c.loop-turn.invariant.rest slot c.loop-turn.invariant.stands c.in-None.is (c.loop-turn.invariant.found slot version is (of ∙ sym c.key_hash-hash.ensures) m)

pub loop-turn-preserved : goal.loop-turn-preserved
loop-turn-preserved c =
    let nodes = c.args.nodes.now.slots in
    let hash = c.key_hash-hash.result in
    let rest = c.loop-turn.invariant.rest in
    let node_here : get_or nodes c.in-Some.here None ≡ Some c.in-Some-get.node.now = sym c.in-Some-get.ensures in
    let here = at-slot nodes hash c.loop-turn.at rest c.in-Some.here c.in-Some-get.node.now c.loop-turn.invariant.stands c.in-Some.is node_here in
    let one : length rest ≡ length (c.in-Some.here ∷ here.0) = ap length here.1 in
    let short = c.loop-turn.invariant.short in
    record {
      rest = here.0;
      stands = here.3;
      short = omega arith;
      found = λ slot version is of m.
          left-behind nodes hash rest here.0 c.in-Some.here slot here.1 (c.loop-turn.invariant.found slot version is of m)
          (λ same.
          let both : Some version ≡ Some c.in-Some-get.node.now.version = sym is ∙ (ap (λ (s : ℕ). get_or (versions_of nodes) s None) same ∙ (version-at nodes c.in-Some.here ∙ ap version_of node_here)) in
          let version_is : version ≡ c.in-Some-get.node.now.version = cc in
          let Match : ℕ → Version → Type 0 = λ s v. IsMatch c.args.sought c.args.places.now.listed c.args.asked.now.table c.args.asked.now.places.now c.args.asked.now.key.now c.args.asked.now.by s v in
          failed c.is_match.result c.is_match.ensures c.if-is_match.false (subst (λ (v : Version). Match c.in-Some.here v) version_is (subst (λ (s : ℕ). Match s version) same m)));
    }
