-- Sorted lists, and trees whose list is sorted: what stands before and behind a key.
use Rattle.std.proofs.Common.{◌≡◌, Bool, true, false, List, [], ◌∷◌, sym, refl, ◌∙◌}
use Rattle.trees.specs.Trees.{Entry, Tree, leaf, node, entries_onto}
use Rattle.trees.specs.Lists.{KeyOrder, AllAfter, Sorted}

module _ {K : Type 0} (before : K → K → Bool) where
  -- every key of the tree goes before k
  abbrev pub AllBefore : {M : Type 0} → K → Tree M K → Type 0
  AllBefore k leaf = Unit {0}
  AllBefore k (node m c f l r) = AllBefore k l × (before f.key k ≡ true) × AllBefore k r

module _ {K : Type 0} {before : K → K → Bool} (o : KeyOrder before) where
  pub asymmetric : (a b : K) → before a b ≡ true → before b a ≡ false
  asymmetric a b h = go (before b a) refl
    where
      go : (x : Bool) → before b a ≡ x → before b a ≡ false
      go true e = let z : true ≡ false = sym (o.transitive a b a h e) ∙ o.irreflexive a in e ∙ z
      go false e = e

  pub after_earlier : (a b : K) (xs : List (Entry K)) → before a b ≡ true → AllAfter before b xs → AllAfter before a xs
  after_earlier a b [] h u = u
  after_earlier a b (x ∷ xs) h u = (o.transitive a b x.key h u.0, after_earlier a b xs h u.1)

  -- a does not come behind b
  pub after_not_later : (a b : K) (xs : List (Entry K)) → before b a ≡ false → AllAfter before b xs → AllAfter before a xs
  after_not_later a b [] h u = u
  after_not_later a b (x ∷ xs) h u = (go (before a b) refl, after_not_later a b xs h u.1)
    where
      go : (y : Bool) → before a b ≡ y → before a x.key ≡ true
      go true e = o.transitive a b x.key e u.0
      go false e = (o.alike a b e h x.key).1 ∙ u.0

  module _ {M : Type 0} where
    pub after_rest : (k : K) (t : Tree M K) (xs : List (Entry K)) → AllAfter before k (entries_onto t xs) → AllAfter before k xs
    after_rest k leaf xs h = h
    after_rest k (node m c f l r) xs h = after_rest k r xs (after_rest k l (f ∷ entries_onto r xs) h).1

    pub sorted_rest : (t : Tree M K) (xs : List (Entry K)) → Sorted before (entries_onto t xs) → Sorted before xs
    sorted_rest leaf xs h = h
    sorted_rest (node m c f l r) xs h = sorted_rest r xs (sorted_rest l (f ∷ entries_onto r xs) h).1

    pub before_later : (a b : K) (t : Tree M K) → before a b ≡ true → AllBefore before a t → AllBefore before b t
    before_later a b leaf h u = u
    before_later a b (node m c f l r) h u = (before_later a b l h u.0, o.transitive f.key a b u.1 h, before_later a b r h u.2)

    -- b does not go before a
    pub before_not_earlier : (a b : K) (t : Tree M K) → before b a ≡ false → AllBefore before a t → AllBefore before b t
    before_not_earlier a b leaf h u = u
    before_not_earlier a b (node m c f l r) h u = (before_not_earlier a b l h u.0, go (before a b) refl, before_not_earlier a b r h u.2)
      where
        go : (x : Bool) → before a b ≡ x → before f.key b ≡ true
        go true e = o.transitive f.key a b u.1 e
        go false e = sym (o.alike a b e h f.key).0 ∙ u.1

    -- the keys of a tree go before what stands right behind it
    pub before_next : (t : Tree M K) (f : Entry K) (xs : List (Entry K)) → Sorted before (entries_onto t (f ∷ xs)) → AllBefore before f.key t
    before_next leaf f xs h = tt
    before_next (node m c g l r) f xs h =
        let rest = sorted_rest l (g ∷ entries_onto r (f ∷ xs)) h in
        let less = (after_rest g.key r (f ∷ xs) rest.0).0 in
        (before_later g.key f.key l less (before_next l g (entries_onto r (f ∷ xs)) h), less, before_next r f xs rest.1)
