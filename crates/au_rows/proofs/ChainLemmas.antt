-- What chains of versions give, and what keeps them.
use Rattle.std.proofs.Common.{◌≡◌, ◌≢◌, ◌∙◌, inl, inr, ℕ, zero, suc, ◌<◌, ◌≤◌, Bool, true, false, cond, eqb, List, [], ◌∷◌, length, get_or, refl, ap, sym, subst, arith, Option, Some, None}
use Rattle.std.specs.Prelude.{nat_eq, ◌==◌}
use Rattle.std.specs.List.{AllByRecursion, IsDistinct, list_any}
use Rattle.std.proofs.lemmas.Grind.{common_steps}
use Rattle.std.proofs.lemmas.Map.Steps.{length-le_from_distinct_below}
use Rattle.au_rows.specs.declared.node.Node.{Node}
use Rattle.au_rows.specs.declared.version.Version.{Version}
use Rattle.au_rows.specs.Chains.{Chained, IsChain, IsOneOf, is_slot, version_of, versions_of}
use Rattle.au_rows.specs.Stored.{Frees, Puts}

some-within : {X : Type 0} (xs : List (Option X)) (i : ℕ) (x : X) → get_or xs i None ≡ Some x → i < length xs
some-within [] i x h = cc
some-within (first ∷ xs) zero x h = omega arith
some-within (first ∷ xs) (suc i) x h = let within = some-within xs i x h in omega arith

-- a slot's version is that of its node
pub version-at : (nodes : List (Option Node)) (slot : ℕ) → get_or (versions_of nodes) slot None ≡ version_of (get_or nodes slot None)
version-at [] slot = refl
version-at (first ∷ nodes) zero = refl
version-at (first ∷ nodes) (suc slot) = version-at nodes slot

pub same-number : (a b : ℕ) → nat_eq a b ≡ true → a ≡ b
same-number a b h = grind (arith, common_steps)

pub other-number : (a b : ℕ) → nat_eq a b ≡ false → a ≢ b
other-number a b h e = grind (arith, common_steps)

pub number-itself : (a : ℕ) → nat_eq a a ≡ true
number-itself a = grind (arith, common_steps)

numbers-apart : (a b : ℕ) → a ≢ b → nat_eq a b ≡ false
numbers-apart a b ne = grind (arith, common_steps)

module _ (nodes : List (Option Node)) (hash : ℕ) where
  -- a chain has one list of slots
  pub same-chain : (first : Option ℕ) (xs ys : List ℕ) → IsChain nodes hash first xs → IsChain nodes hash first ys → xs ≡ ys
  same-chain first [] [] p q = refl
  same-chain first [] (y ∷ ys) p q = let both : None ≡ Some y = sym p ∙ q.0 in cc
  same-chain first (x ∷ xs) [] p q = let both : None ≡ Some x = sym q ∙ p.0 in cc
  same-chain first (x ∷ xs) (y ∷ ys) p q =
      let some : Some x ≡ Some y = sym p.0 ∙ q.0 in
      let x_is : x ≡ y = cc in
      let nodes_are : Some p.1 ≡ Some q.1 = sym p.2 ∙ (ap (λ (s : ℕ). get_or nodes s None) x_is ∙ q.2) in
      let node_is : q.1 ≡ p.1 = cc in
      let rest = same-chain p.1.below xs ys p.4 (subst (λ (n : Node). IsChain nodes hash n.below ys) node_is q.4) in
      rw (x_is, rest) refl

  -- below a slot of a chain stands the rest of it
  tail-of : (first : Option ℕ) (xs : List ℕ) → IsChain nodes hash first xs → (slot : ℕ) (node : Node) → IsOneOf xs slot → get_or nodes slot None ≡ Some node
      → (rest : List ℕ) × IsChain nodes hash node.below rest × (length rest < length xs)
  tail-of first [] p slot node m is = absurd m
  tail-of first (x ∷ xs) p slot node (inl same) is =
      let both : Some p.1 ≡ Some node = sym p.2 ∙ (ap (λ (s : ℕ). get_or nodes s None) (sym same) ∙ is) in
      let node_is : p.1 ≡ node = cc in
      (xs, subst (λ (n : Node). IsChain nodes hash n.below xs) node_is p.4, omega arith)
  tail-of first (x ∷ xs) p slot node (inr m) is =
      let rest = tail-of p.1.below xs p.4 slot node m is in
      let shorter = rest.2 in
      (rest.0, rest.1, omega arith)

  no-loop : (below : Option ℕ) (xs rest : List ℕ) → IsChain nodes hash below xs → IsChain nodes hash below rest → length rest < length xs → ⊥
  no-loop below xs rest p q shorter = let same : length xs ≡ length rest = ap length (same-chain below xs rest p q) in omega arith

  -- no slot comes again
  once : (first : Option ℕ) (x : ℕ) (xs : List ℕ) → IsChain nodes hash first (x ∷ xs) → IsOneOf xs x → ⊥
  once first x xs p m =
      let rest = tail-of p.1.below xs p.4 x p.1 m p.2 in
      no-loop p.1.below xs rest.0 p.4 rest.1 rest.2

  -- a slot of a chain has a version of the hash
  node-of : (first : Option ℕ) (xs : List ℕ) → IsChain nodes hash first xs → (slot : ℕ) → IsOneOf xs slot → (node : Node) × (get_or nodes slot None ≡ Some node) × (node.version.hash ≡ hash)
  node-of first [] p slot m = absurd m
  node-of first (x ∷ xs) p slot (inl same) = (p.1, ap (λ (s : ℕ). get_or nodes s None) same ∙ p.2, p.3)
  node-of first (x ∷ xs) p slot (inr m) = node-of p.1.below xs p.4 slot m

  apart-from : (x : ℕ) (xs : List ℕ) → (IsOneOf xs x → ⊥) → AllByRecursion (λ y. eqb x y ≡ false) xs
  apart-from x [] none = tt
  apart-from x (y ∷ xs) none = (numbers-apart x y (λ same. none (inl same)), apart-from x xs (λ m. none (inr m)))

  distinct : (first : Option ℕ) (xs : List ℕ) → IsChain nodes hash first xs → IsDistinct eqb xs
  unfolding IsDistinct
  distinct first [] p = tt
  distinct first (x ∷ xs) p = (apart-from x xs (once first x xs p), distinct p.1.below xs p.4)

  is-one : (xs : List ℕ) (slot : ℕ) → list_any (eqb slot) xs ≡ true → IsOneOf xs slot
  is-one [] slot h = cc
  is-one (x ∷ xs) slot h = go (is-one xs slot) (eqb slot x) refl
    where
      go : (list_any (eqb slot) xs ≡ true → IsOneOf xs slot) → (b : Bool) → eqb slot x ≡ b → IsOneOf (x ∷ xs) slot
      go rest true e = inl (same-number slot x e)
      go rest false e = let later : list_any (eqb slot) xs ≡ true = grind (arith, common_steps) in inr (rest later)

  -- a chain has no more slots than there are
  pub chain-length : (first : Option ℕ) (xs : List ℕ) → IsChain nodes hash first xs → length xs ≤ length nodes
  chain-length first xs p =
      length-le_from_distinct_below xs (length nodes) (distinct first xs p)
      (λ slot h. let node = node-of first xs p slot (is-one xs slot h) in some-within nodes slot node.0 node.1)

-- a chain stays where its nodes stay
frame : (old new : List (Option Node)) (hash : ℕ) (first : Option ℕ) (xs : List ℕ) → IsChain old hash first xs → ((slot : ℕ) → IsOneOf xs slot → get_or new slot None ≡ get_or old slot None) → IsChain new hash first xs
frame old new hash first [] p same = p
frame old new hash first (x ∷ xs) p same = (p.0, p.1, same x (inl refl) ∙ p.2, p.3, frame old new hash p.1.below xs p.4 (λ slot m. same slot (inr m)))

-- a version joins its chain at the head
module _ (old new : List (Option Node)) (heads after : ℕ → Option ℕ) (slot : ℕ) (version : Version)
    (vacant : get_or old slot None ≡ None) (filled : get_or new slot None ≡ Some (record { version = version; below = heads version.hash }))
    (others : (other : ℕ) → other ≢ slot → get_or new other None ≡ get_or old other None)
    (moved : (hash : ℕ) → after hash ≡ cond (nat_eq version.hash hash) (Some slot) (heads hash))
    (c : Chained old heads) where
  not-vacant : (s : ℕ) (node : Node) → get_or old s None ≡ Some node → s ≢ slot
  not-vacant s node is same = let both : None ≡ Some node = sym vacant ∙ (ap (λ (x : ℕ). get_or old x None) (sym same) ∙ is) in cc

  kept : (hash : ℕ) → IsChain new hash (heads hash) (c.chain hash)
  kept hash = frame old new hash (heads hash) (c.chain hash) (c.linked hash) (λ s m. let node = node-of old hash (heads hash) (c.chain hash) (c.linked hash) s m in others s (not-vacant s node.0 node.1))

  abbrev chain-of : Bool → ℕ → List ℕ
  chain-of true hash = slot ∷ c.chain hash
  chain-of false hash = c.chain hash

  linked-by : (hash : ℕ) (b : Bool) → nat_eq version.hash hash ≡ b → IsChain new hash (cond b (Some slot) (heads hash)) (chain-of b hash)
  linked-by hash true e =
      let same = same-number version.hash hash e in
      (refl, record { version = version; below = heads version.hash }, filled, same, subst (λ (h : ℕ). IsChain new hash (heads h) (c.chain hash)) (sym same) (kept hash))
  linked-by hash false e = kept hash

  joined-by : (s : ℕ) (node : Node) → get_or new s None ≡ Some node → (b : Bool) → nat_eq s slot ≡ b → IsOneOf (chain-of (nat_eq version.hash node.version.hash) node.version.hash) s
  joined-by s node is true e =
      let same = same-number s slot e in
      let both : Some (record { version = version; below = heads version.hash }) ≡ Some node = sym filled ∙ (ap (λ (x : ℕ). get_or new x None) (sym same) ∙ is) in
      let node_is : (record { version = version; below = heads version.hash }) ≡ node = cc in
      let hash_is : version.hash ≡ node.version.hash = ap (λ (n : Node). n.version.hash) node_is in
      subst (λ (b : Bool). IsOneOf (chain-of b node.version.hash) s) (sym (ap (λ (h : ℕ). nat_eq version.hash h) (sym hash_is) ∙ number-itself version.hash)) (inl same)
  joined-by s node is false e =
      let was = c.complete s node (sym (others s (other-number s slot e)) ∙ is) in
      go (nat_eq version.hash node.version.hash) was
    where
      go : (b : Bool) → IsOneOf (c.chain node.version.hash) s → IsOneOf (chain-of b node.version.hash) s
      go true m = inr m
      go false m = m

  pub chained-more : Chained new after
  chained-more = record {
    chain = λ hash. chain-of (nat_eq version.hash hash) hash;
    linked = λ hash. subst (λ (first : Option ℕ). IsChain new hash first (chain-of (nat_eq version.hash hash) hash)) (sym (moved hash)) (linked-by hash (nat_eq version.hash hash) refl);
    complete = λ s node is. joined-by s node is (nat_eq s slot) refl;
  }

-- the slots but for this one
abbrev without : ℕ → List ℕ → List ℕ
without slot [] = []
without slot (x ∷ xs) = cond (nat_eq slot x) xs (x ∷ without slot xs)

still-one : (slot : ℕ) (xs : List ℕ) (s : ℕ) → s ≢ slot → IsOneOf xs s → IsOneOf (without slot xs) s
still-one slot [] s ne m = m
still-one slot (x ∷ xs) s ne m = go (still-one slot xs s ne) (nat_eq slot x) refl m
  where
    go : (IsOneOf xs s → IsOneOf (without slot xs) s) → (b : Bool) → nat_eq slot x ≡ b → IsOneOf (x ∷ xs) s → IsOneOf (cond b xs (x ∷ without slot xs)) s
    go rest true e (inl same) = absurd (ne (same ∙ sym (same-number slot x e)))
    go rest true e (inr m) = m
    go rest false e (inl same) = inl same
    go rest false e (inr m) = inr (rest m)

-- the head of a chain goes
without-head : (old last : List (Option Node)) (hash slot : ℕ) (n : Node) (first : Option ℕ) (xs : List ℕ) → get_or old slot None ≡ Some n
    → ((s : ℕ) → s ≢ slot → get_or last s None ≡ get_or old s None)
    → first ≡ Some slot → IsChain old hash first xs → IsChain last hash n.below (without slot xs)
without-head old last hash slot n first [] is others at p = let both : None ≡ Some slot = sym p ∙ at in cc
without-head old last hash slot n first (x ∷ xs) is others at p =
    let some : Some x ≡ Some slot = sym p.0 ∙ at in
    let x_is : x ≡ slot = cc in
    let both : Some p.1 ≡ Some n = sym p.2 ∙ (ap (λ (s : ℕ). get_or old s None) x_is ∙ is) in
    let node_is : p.1 ≡ n = cc in
    let here : nat_eq slot x ≡ true = ap (nat_eq slot) x_is ∙ number-itself slot in
    rw here (frame old last hash n.below xs (subst (λ (m : Node). IsChain old hash m.below xs) node_is p.4)
    (λ s m. others s (λ same. once old hash first x xs p (subst (IsOneOf xs) (same ∙ sym x_is) m))))

-- a slot behind the head goes: the node above it names the one below it
module _ (old last : List (Option Node)) (hash slot above : ℕ) (n a : Node) (is : get_or old slot None ≡ Some n) (up : get_or old above None ≡ Some a) (names : a.below ≡ Some slot)
    (moved : get_or last above None ≡ Some (record { version = a.version; below = n.below }))
    (others : (s : ℕ) → s ≢ slot → s ≢ above → get_or last s None ≡ get_or old s None) where
  -- behind the node above
  behind : (first : Option ℕ) (xs : List ℕ) → first ≡ Some slot → IsChain old hash first xs → (IsOneOf xs above → ⊥) → IsChain last hash n.below (without slot xs)
  behind first [] at p none = let both : None ≡ Some slot = sym p ∙ at in cc
  behind first (x ∷ xs) at p none =
      let some : Some x ≡ Some slot = sym p.0 ∙ at in
      let x_is : x ≡ slot = cc in
      let both : Some p.1 ≡ Some n = sym p.2 ∙ (ap (λ (s : ℕ). get_or old s None) x_is ∙ is) in
      let node_is : p.1 ≡ n = cc in
      let here : nat_eq slot x ≡ true = ap (nat_eq slot) x_is ∙ number-itself slot in
      rw here (frame old last hash n.below xs (subst (λ (m : Node). IsChain old hash m.below xs) node_is p.4)
      (λ s m. others s (λ same. once old hash first x xs p (subst (IsOneOf xs) (same ∙ sym x_is) m)) (λ same. none (inr (subst (IsOneOf xs) same m)))))

  pub without-behind : (first : Option ℕ) (xs : List ℕ) → IsChain old hash first xs → (first ≡ Some slot → ⊥) → IsOneOf xs above → IsChain last hash first (without slot xs)
  without-behind first [] p not_first m = absurd m
  without-behind first (x ∷ xs) p not_first m =
      let ne : x ≢ slot = λ same. not_first (p.0 ∙ ap Some same) in
      let skip : nat_eq slot x ≡ false = numbers-apart slot x (λ same. ne (sym same)) in
      rw skip (go ne (λ not_here m. without-behind p.1.below xs p.4 not_here m) (nat_eq x above) refl m)
    where
      go : x ≢ slot → ((p.1.below ≡ Some slot → ⊥) → IsOneOf xs above → IsChain last hash p.1.below (without slot xs)) → (b : Bool) → nat_eq x above ≡ b → IsOneOf (x ∷ xs) above → IsChain last hash first (x ∷ without slot xs)
      go ne more true e m =
          let same = same-number x above e in
          let both : Some p.1 ≡ Some a = sym p.2 ∙ (ap (λ (s : ℕ). get_or old s None) same ∙ up) in
          let node_is : p.1 ≡ a = cc in
          let hash_is : a.version.hash ≡ hash = ap (λ (m : Node). m.version.hash) (sym node_is) ∙ p.3 in (
            p.0,
            record { version = a.version; below = n.below },
            ap (λ (s : ℕ). get_or last s None) same ∙ moved,
            hash_is,
            behind p.1.below xs (ap (λ (m : Node). m.below) node_is ∙ names) p.4 (λ m. once old hash first x xs p (subst (IsOneOf xs) (sym same) m)),
          )
      go ne more false e (inl same) = absurd (other-number x above e (sym same))
      go ne more false e (inr m) =
          let rest = tail-of old hash p.1.below xs p.4 above a m up in
          let not_here : p.1.below ≡ Some slot → ⊥ = λ at. no-loop old hash p.1.below xs rest.0 p.4 (subst (λ (o : Option ℕ). IsChain old hash o rest.0) (names ∙ sym at) rest.1) rest.2 in
          (p.0, p.1, others x ne (other-number x above e) ∙ p.2, p.3, more not_here m)

-- a slot behind the head has a node above it
pub has-above : (nodes : List (Option Node)) (hash slot : ℕ) (first : Option ℕ) (xs : List ℕ) → IsChain nodes hash first xs → IsOneOf xs slot → (first ≡ Some slot → ⊥)
    → (above : ℕ) × (node : Node) × (get_or nodes above None ≡ Some node) × (node.version.hash ≡ hash) × (node.below ≡ Some slot)
has-above nodes hash slot first [] p m ne = absurd m
has-above nodes hash slot first (x ∷ xs) p (inl same) ne = absurd (ne (p.0 ∙ ap Some (sym same)))
has-above nodes hash slot first (x ∷ xs) p (inr m) ne = go (has-above nodes hash slot p.1.below xs p.4 m) p.1.below refl (is_slot slot p.1.below) refl
  where
    go : ((p.1.below ≡ Some slot → ⊥) → (above : ℕ) × (node : Node) × (get_or nodes above None ≡ Some node) × (node.version.hash ≡ hash) × (node.below ≡ Some slot))
        → (o : Option ℕ) → p.1.below ≡ o → (b : Bool) → is_slot slot p.1.below ≡ b → (above : ℕ) × (node : Node) × (get_or nodes above None ≡ Some node) × (node.version.hash ≡ hash) × (node.below ≡ Some slot)
    go more None e true h = let no : false ≡ true = ap (is_slot slot) (sym e) ∙ h in cc
    go more (Some y) e true h =
        let here : (y == slot) ≡ true = ap (is_slot slot) (sym e) ∙ h in
        let same : y ≡ slot = same-number y slot here in
        (x, p.1, p.2, p.3, e ∙ ap Some same)
    go more o e false h =
        more (λ at. let no : false ≡ true = sym h ∙ (ap (is_slot slot) at ∙ number-itself slot) in cc)

-- a version leaves its chain
module _ (old last : List (Option Node)) (heads after : ℕ → Option ℕ) (slot : ℕ) (n : Node) (is : get_or old slot None ≡ Some n) (vacant : get_or last slot None ≡ None) (c : Chained old heads) where
  abbrev chain-left : Bool → ℕ → List ℕ
  chain-left true hash = without slot (c.chain hash)
  chain-left false hash = c.chain hash

  not-mine : (hash : ℕ) → nat_eq n.version.hash hash ≡ false → (s : ℕ) (node : Node) → get_or old s None ≡ Some node → node.version.hash ≡ hash → (other : ℕ) (m : Node) → get_or old other None ≡ Some m → m.version.hash ≡ n.version.hash → s ≢ other
  not-mine hash e s node at of other m up mine same =
      let both : Some node ≡ Some m = sym at ∙ (ap (λ (x : ℕ). get_or old x None) same ∙ up) in
      let node_is : m ≡ node = cc in
      other-number n.version.hash hash e (sym mine ∙ (ap (λ (x : Node). x.version.hash) node_is ∙ of))

  left-in : (s : ℕ) (hash : ℕ) → s ≢ slot → IsOneOf (c.chain hash) s → IsOneOf (chain-left (nat_eq n.version.hash hash) hash) s
  left-in s hash ne m = go (nat_eq n.version.hash hash)
    where
      go : (b : Bool) → IsOneOf (chain-left b hash) s
      go true = still-one slot (c.chain hash) s ne m
      go false = m

  not-here : (s : ℕ) (node : Node) → get_or last s None ≡ Some node → s ≢ slot
  not-here s node at same = let both : None ≡ Some node = sym vacant ∙ (ap (λ (x : ℕ). get_or last x None) (sym same) ∙ at) in cc

  -- it was the head
  pub chained-lower : heads n.version.hash ≡ Some slot → ((s : ℕ) → s ≢ slot → get_or last s None ≡ get_or old s None)
      → ((hash : ℕ) → after hash ≡ cond (nat_eq n.version.hash hash) n.below (heads hash)) → Chained last after
  chained-lower head others moved = record {
    chain = λ hash. chain-left (nat_eq n.version.hash hash) hash;
    linked = λ hash. subst (λ (first : Option ℕ). IsChain last hash first (chain-left (nat_eq n.version.hash hash) hash)) (sym (moved hash)) (by-hash hash (nat_eq n.version.hash hash) refl);
    complete = λ s node at. let ne = not-here s node at in left-in s node.version.hash ne (c.complete s node (sym (others s ne) ∙ at));
  }
    where
      by-hash : (hash : ℕ) (b : Bool) → nat_eq n.version.hash hash ≡ b → IsChain last hash (cond b n.below (heads hash)) (chain-left b hash)
      by-hash hash true e = without-head old last hash slot n (heads hash) (c.chain hash) is others (ap heads (sym (same-number n.version.hash hash e)) ∙ head) (c.linked hash)
      by-hash hash false e =
          frame old last hash (heads hash) (c.chain hash) (c.linked hash)
          (λ s m. let node = node-of old hash (heads hash) (c.chain hash) (c.linked hash) s m in others s (not-mine hash e s node.0 node.1 node.2 slot n is refl))

  -- a node above named it
  pub chained-behind : (above : ℕ) (a : Node) → get_or old above None ≡ Some a → a.version.hash ≡ n.version.hash → a.below ≡ Some slot → (heads n.version.hash ≡ Some slot → ⊥)
      → get_or last above None ≡ Some (record { version = a.version; below = n.below })
      → ((s : ℕ) → s ≢ slot → s ≢ above → get_or last s None ≡ get_or old s None)
      → ((hash : ℕ) → after hash ≡ heads hash) → Chained last after
  chained-behind above a up mine names not_head moved others same = record {
    chain = λ hash. chain-left (nat_eq n.version.hash hash) hash;
    linked = λ hash. subst (λ (first : Option ℕ). IsChain last hash first (chain-left (nat_eq n.version.hash hash) hash)) (sym (same hash)) (by-hash hash (nat_eq n.version.hash hash) refl);
    complete = λ s node at. complete s node at (nat_eq s above) refl;
  }
    where
      by-hash : (hash : ℕ) (b : Bool) → nat_eq n.version.hash hash ≡ b → IsChain last hash (heads hash) (chain-left b hash)
      by-hash hash true e =
          let at = same-number n.version.hash hash e in
          without-behind old last hash slot above n a is up names moved others (heads hash) (c.chain hash) (c.linked hash)
          (λ head. not_head (ap heads at ∙ head)) (subst (λ (h : ℕ). IsOneOf (c.chain h) above) (mine ∙ at) (c.complete above a up))
      by-hash hash false e =
          frame old last hash (heads hash) (c.chain hash) (c.linked hash)
          (λ s m. let node = node-of old hash (heads hash) (c.chain hash) (c.linked hash) s m in others s (not-mine hash e s node.0 node.1 node.2 slot n is refl) (not-mine hash e s node.0 node.1 node.2 above a up mine))

      complete : (s : ℕ) (node : Node) → get_or last s None ≡ Some node → (b : Bool) → nat_eq s above ≡ b → IsOneOf (chain-left (nat_eq n.version.hash node.version.hash) node.version.hash) s
      complete s node at true e =
          let s_is = same-number s above e in
          let both : Some (record { version = a.version; below = n.below }) ≡ Some node = sym moved ∙ (ap (λ (x : ℕ). get_or last x None) (sym s_is) ∙ at) in
          let node_is : (record { version = a.version; below = n.below }) ≡ node = cc in
          let hash_is : a.version.hash ≡ node.version.hash = ap (λ (x : Node). x.version.hash) node_is in
          left-in s node.version.hash (not-here s node at) (subst (λ (h : ℕ). IsOneOf (c.chain h) s) hash_is (subst (λ (x : ℕ). IsOneOf (c.chain a.version.hash) x) (sym s_is) (c.complete above a up)))
      complete s node at false e =
          let ne = not-here s node at in
          left-in s node.version.hash ne (c.complete s node (sym (others s ne (other-number s above e)) ∙ at))

-- what versions show of a node that comes
pub puts-node : (old new : List (Option Node)) (slot : ℕ) (node : Node) → get_or old slot None ≡ None → get_or new slot None ≡ Some node
    → ((other : ℕ) → other ≢ slot → get_or new other None ≡ get_or old other None) → Puts (versions_of old) (versions_of new) slot node.version
puts-node old new slot node vacant filled others = record {
  vacant = version-at old slot ∙ ap version_of vacant;
  filled = version-at new slot ∙ ap version_of filled;
  others = λ other ne. version-at new other ∙ (ap version_of (others other ne) ∙ sym (version-at old other));
}

-- what versions show of a node that goes
pub frees-node : (old mid new : List (Option Node)) (slot : ℕ) → get_or new slot None ≡ None → ((other : ℕ) → other ≢ slot → get_or new other None ≡ get_or mid other None)
    → ((other : ℕ) → version_of (get_or mid other None) ≡ version_of (get_or old other None)) → Frees (versions_of old) (versions_of new) (Some slot)
frees-node old mid new slot vacant others same = record {
  freed = λ here e. let at : slot ≡ here = cc in version-at new here ∙ ap version_of (ap (λ (s : ℕ). get_or new s None) (sym at) ∙ vacant);
  others = λ other ne. version-at new other ∙ (ap version_of (others other (λ at. ne (ap Some (sym at)))) ∙ (same other ∙ sym (version-at old other)));
}

pub slot-named : (slot : ℕ) (o : Option ℕ) → is_slot slot o ≡ true → o ≡ Some slot
slot-named slot None h = cc
slot-named slot (Some named) h = let here : (named == slot) ≡ true = h in ap Some (same-number named slot here)

pub slot-unnamed : (slot : ℕ) (o : Option ℕ) → is_slot slot o ≡ false → o ≡ Some slot → ⊥
slot-unnamed slot o h e = let no : false ≡ true = sym h ∙ (ap (is_slot slot) e ∙ number-itself slot) in cc

-- a walk down a chain
module _ (nodes : List (Option Node)) (hash : ℕ) where
  pub at-slot : (at : Option ℕ) (rest : List ℕ) (here : ℕ) (node : Node) → IsChain nodes hash at rest → at ≡ Some here → get_or nodes here None ≡ Some node
      → (more : List ℕ) × (rest ≡ here ∷ more) × (node.version.hash ≡ hash) × IsChain nodes hash node.below more
  at-slot at [] here node p e is = let both : None ≡ Some here = sym p ∙ e in absurd (cc)
  at-slot at (x ∷ more) here node p e is =
      let some : Some x ≡ Some here = sym p.0 ∙ e in
      let x_is : x ≡ here = cc in
      let both : Some p.1 ≡ Some node = sym p.2 ∙ (ap (λ (s : ℕ). get_or nodes s None) x_is ∙ is) in
      let node_is : p.1 ≡ node = cc in
      (more, ap (λ (s : ℕ). s ∷ more) x_is, ap (λ (n : Node). n.version.hash) (sym node_is) ∙ p.3, subst (λ (n : Node). IsChain nodes hash n.below more) node_is p.4)

  pub not-vacant-at : (at : Option ℕ) (rest : List ℕ) (here : ℕ) → IsChain nodes hash at rest → at ≡ Some here → get_or nodes here None ≡ None → ⊥
  not-vacant-at at [] here p e is = let both : None ≡ Some here = sym p ∙ e in cc
  not-vacant-at at (x ∷ more) here p e is =
      let some : Some x ≡ Some here = sym p.0 ∙ e in
      let x_is : x ≡ here = cc in
      let both : Some p.1 ≡ None = sym p.2 ∙ (ap (λ (s : ℕ). get_or nodes s None) x_is ∙ is) in cc

  pub none-left : (at : Option ℕ) (rest : List ℕ) (slot : ℕ) → IsChain nodes hash at rest → at ≡ None → IsOneOf rest slot → ⊥
  none-left at [] slot p e m = m
  none-left at (x ∷ more) slot p e m = let both : Some x ≡ None = sym p.0 ∙ e in cc

  pub left-behind : (rest more : List ℕ) (here slot : ℕ) → rest ≡ here ∷ more → IsOneOf rest slot → (slot ≡ here → ⊥) → IsOneOf more slot
  left-behind rest more here slot e m ne = go (subst (λ (xs : List ℕ). IsOneOf xs slot) e m)
    where
      go : IsOneOf (here ∷ more) slot → IsOneOf more slot
      go (inl same) = absurd (ne same)
      go (inr m) = m

  -- no slot of a chain names itself
  pub not-itself : (first : Option ℕ) (xs : List ℕ) (slot : ℕ) (node : Node) → IsChain nodes hash first xs → IsOneOf xs slot → get_or nodes slot None ≡ Some node → node.below ≡ Some slot → ⊥
  not-itself first xs slot node p m is names =
      let rest = tail-of nodes hash first xs p slot node m is in
      let again = at-slot node.below rest.0 slot node rest.1 names is in
      let shorter : length rest.0 ≡ length (slot ∷ again.0) = ap length again.1 in
      no-loop nodes hash node.below rest.0 again.0 rest.1 again.3 (omega arith)

-- where there is no version, there is no chain
pub chained-none : (nodes : List (Option Node)) (heads : ℕ → Option ℕ) → nodes ≡ [] → ((hash : ℕ) → heads hash ≡ None) → Chained nodes heads
chained-none nodes heads empty none = record {
  chain = λ hash. [];
  linked = none;
  complete = λ slot node is. let both : None ≡ Some node = ap (λ (xs : List (Option Node)). get_or xs slot None) (sym empty) ∙ is in absurd (cc);
}

-- a version stands in a node
pub node-under : (nodes : List (Option Node)) (slot : ℕ) (version : Version) → get_or (versions_of nodes) slot None ≡ Some version → (node : Node) × (get_or nodes slot None ≡ Some node) × (node.version ≡ version)
node-under nodes slot version is = go (get_or nodes slot None) refl (sym (version-at nodes slot) ∙ is)
  where
    go : (o : Option Node) → get_or nodes slot None ≡ o → version_of o ≡ Some version → (node : Node) × (get_or nodes slot None ≡ Some node) × (node.version ≡ version)
    go None e h = absurd (cc)
    go (Some node) e h = (node, e, cc)

-- a version stands in the chain of its hash
pub version-in : (nodes : List (Option Node)) (heads : ℕ → Option ℕ) (c : Chained nodes heads) (slot hash : ℕ) (version : Version) → get_or (versions_of nodes) slot None ≡ Some version → version.hash ≡ hash → IsOneOf (c.chain hash) slot
version-in nodes heads c slot hash version is of =
    let node = node-under nodes slot version is in
    subst (λ (h : ℕ). IsOneOf (c.chain h) slot) (ap (λ (v : Version). v.hash) node.2 ∙ of) (c.complete slot node.0 node.1)
