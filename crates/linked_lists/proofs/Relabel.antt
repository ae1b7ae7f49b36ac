-- One item more, near or with new labels: the chain stands, and its entries are those of the definitions.
use Rattle.std.proofs.Common.{◌≡◌, ℕ, suc, ◌+◌, ◌-◌, ◌/◌, ◌^◌, ◌<◌, ◌≤◌, true, leb, List, [], ◌∷◌, length, Some, Option, sym, refl, ap, ◌∙◌, subst, inl, inr, arith}
use Rattle.std.proofs.lemmas.Bool.{cases_eq, eq-eqb, ne_eqb, le-leb, lt-leb, false≢true, cond-true, cond-false}
use Rattle.labels.proofs.Spreading.{loose_placed, count_placed, spread_rising}
use Rattle.labels.proofs.Widening.{width_fits, capacity_le, base_le, below_base, base_top}
use Rattle.labels.specs.Capacity.{capacity}
use Rattle.labels.specs.Labels.{Entries, count_in, spread, placed, label_of, next_label, base_of, crowd, width, relabelled, inserted, inserted_by, marked}
use Rattle.labels.specs.Laws.{Rising}
use Rattle.labels.specs.Ranges.{first_from, Loose}
use Rattle.linked_lists.proofs.Chains.{Chained, Rising as RisingTable, chained}
use Rattle.linked_lists.proofs.Insert.{end_of}
use Rattle.linked_lists.proofs.Linking.{listed_linked, links_linked, rising_linked, tag_x, tag_n, next_fits}
use Rattle.linked_lists.proofs.Marked.{unmark, label_marked, next_marked, marked_behind, above_rising, rising_above}
use Rattle.linked_lists.proofs.Walks.{label_top, length_labelled}
use Rattle.linked_lists.specs.Chain.{Linked, Above, listed, labelled, label_at, next_at, linked_rows}
use Rattle.linked_lists.specs.Ranges.{Spreadable, Around}
use Rattle.linked_lists.specs.declared.range.Range.{Range}
use Rattle.linked_lists.specs.declared.row.Row.{Row}
use Rattle.order.proofs.Members.{member_cases}
use Rattle.order.specs.Items.{member, behind}

first_placed : (base : ℕ) (es : Entries) (a n l : ℕ) → label_of es a ≡ l → base ≤ l → first_from base (placed es a n l) ≡ first_from base es
first_placed base [] a n l e b = refl
first_placed base (x ∷ es) a n l e b =
    elim (cases_eq x.0 a) [
      | inl d ↦
          let same : x.1 ≡ l = simp (eq-eqb x.0 a d) at e in
          simp (eq-eqb x.0 a d, le-leb base x.1 (omega arith))
      | inr d ↦ simp (ne_eqb x.0 a d, first_placed base es a n l (simp (ne_eqb x.0 a d) at e) b)
    ]

-- the label of an item lies below that behind it
above_next : (f : ℕ → Option ℕ) (lab : ℕ → ℕ) (o : Option ℕ) (lo : ℕ) (xs : List ℕ) (a : ℕ) → Linked f o xs → Above lab lo xs → member xs a ≡ true → lab a < end_of lab (f a)
above_next f lab o lo [] a h ab m = absurd (false≢true m)
above_next f lab o lo (x ∷ xs) a h ab m =
    elim (member_cases x xs a m)
    [ inl e ↦ subst (λ (k : ℕ). lab k < end_of lab (f k)) e (go (f x) xs h.1 ab.1) | inr d ↦ above_next f lab (f x) (suc (lab x)) xs a h.1 ab.1 d.1 ]
  where
    go : (o : Option ℕ) (ys : List ℕ) → Linked f o ys → Above lab (suc (lab x)) ys → lab x < end_of lab o
    go o [] h ab = subst (λ (q : Option ℕ). lab x < end_of lab q) (sym h) ab
    go o (y ∷ ys) h ab = subst (λ (q : Option ℕ). lab x < end_of lab q) (sym h.0) ab.0

module _ (R : List (Row ℕ)) (n a : ℕ) (ch : Chained R (label_at R) n) (ha : a < n) (hn : n < length R) where
  es : Entries
  es = labelled R n

  l : ℕ
  l = label_at R a

  pub label_is : label_of (labelled R n) a ≡ label_at R a
  label_is = label_marked (label_at R) (listed R n) a (ch.links.known a ha)

  pub next_is : next_label (labelled R n) a ≡ end_of (label_at R) (next_at R a)
  next_is = next_marked (next_at R) (label_at R) (Some 0) (listed R n) a ch.links.linked (ch.links.known a ha)

  pub label_below : label_at R a < next_label (labelled R n) a
  label_below =
      subst (λ (k : ℕ). label_at R a < k) (sym next_is) (above_next (next_at R) (label_at R) (Some 0) 0 (listed R n) a ch.links.linked ch.rising (ch.links.known a ha))

  new : member (listed R n) n ≡ true → ⊥
  new m = let h = ch.links.within n m in omega arith

  -- the entries once n was linked behind a with the label v
  pub linked_labels : (v : ℕ) → labelled (linked_rows R a n v) (n + 1) ≡ placed (labelled R n) a n v
  linked_labels v =
      ap (marked (label_at (linked_rows R a n v))) (listed_linked R a n v ha hn (next_fits R n a ch.links ha) ch.links)
      ∙ marked_behind (label_at R) (label_at (linked_rows R a n v)) (listed R n) a n v
      (λ x m. tag_x R a n v ha hn (next_fits R n a ch.links ha) 0 x (λ e. new (subst (λ (k : ℕ). member (listed R n) k ≡ true) e m)))
      (tag_n R a n v ha hn (next_fits R n a ch.links ha) 0)

  pub linked_items : (v : ℕ) → listed (linked_rows R a n v) (n + 1) ≡ behind (listed R n) a n
  linked_items v = listed_linked R a n v ha hn (next_fits R n a ch.links ha) ch.links

  pub linked_rising : (v : ℕ) → label_at R a < v → v < next_label (labelled R n) a → Above (label_at (linked_rows R a n v)) 0 (listed (linked_rows R a n v) (n + 1))
  linked_rising v lower upper =
      rising_linked R a n v ha hn (next_fits R n a ch.links ha) ch.links (label_at R) (label_at (linked_rows R a n v)) v
      (tag_x R a n v ha hn (next_fits R n a ch.links ha) 0) (tag_n R a n v ha hn (next_fits R n a ch.links ha) 0) lower (subst (λ (k : ℕ). v < k) next_is upper) ch.rising

  -- the definition of `inserted`, near and far
  pub after_near : (e : ℕ) → e ≡ next_label (labelled R n) a → 2 ≤ e - label_at R a → inserted (labelled R n) a n ≡ placed (labelled R n) a n (label_at R a + (e - label_at R a) / 2)
  after_near e is g =
      args ∙ cond-true (leb 2 (e - label_at R a)) _ _ (le-leb 2 (e - label_at R a) g)
    where
      args : inserted (labelled R n) a n ≡ inserted_by (labelled R n) a n (label_at R a) (e - label_at R a)
      args = let y = label_is in cc

  pub after_far : (e : ℕ) → e ≡ next_label (labelled R n) a → e - label_at R a < 2 →
      inserted (labelled R n) a n ≡ relabelled (labelled R n) a n (label_at R a) (width (labelled R n) (label_at R a))
  after_far e is g =
      args ∙ cond-false (leb 2 (e - label_at R a)) _ _ (lt-leb 2 (e - label_at R a) g)
    where
      args : inserted (labelled R n) a n ≡ inserted_by (labelled R n) a n (label_at R a) (e - label_at R a)
      args = let y = label_is in cc

  module _ (few : n ≤ 4096) (r : Range) (around : Around (labelled R n) (label_at R a) (width (labelled R n) (label_at R a)) r) where
    i : ℕ
    i = width (labelled R n) (label_at R a)

    fit : (crowd (labelled R n) (label_at R a) i ≤ capacity i) × (i < 32)
    unfolding i
    fit = width_fits (labelled R n) (label_at R a) (let e = length_labelled R n ch in omega arith)

    at_i : r.base ≡ base_of i (label_at R a)
    unfolding i
    at_i = around.at

    wide_i : r.size ≡ 2 ^ i
    unfolding i
    wide_i = around.wide

    starts_i : r.first ≡ first_from (base_of i (label_at R a)) (labelled R n)
    unfolding i
    starts_i = around.starts

    full_i : r.crowd ≡ crowd (labelled R n) (label_at R a) i
    unfolding i
    full_i = around.full

    low : r.base ≤ label_at R a
    low = let b = base_le i (label_at R a) in let e = at_i in omega arith

    high : label_at R a < r.base + r.size
    high = let b = below_base i (label_at R a) in let e = at_i in let w = wide_i in omega arith

    top : r.base + r.size ≤ 2 ^ 31
    top = let b = base_top i (label_at R a) fit.1 (label_top R n a ch ha) in let e = at_i in let w = wide_i in omega arith

    fits : r.crowd ≤ r.size
    fits = let c = capacity_le i fit.1 in let f = fit.0 in let e = full_i in let w = wide_i in omega arith

    counts : count_in r.base r.size (placed (labelled R n) a n (label_at R a)) ≡ r.crowd
    counts =
        count_placed r.base r.size (labelled R n) a n (label_at R a) (subst (λ (ys : List ℕ). member ys a ≡ true) (sym (unmark (label_at R) (listed R n))) (ch.links.known a ha)) low high
        ∙ let e = at_i in let w = wide_i in let f = full_i in cc

    loose : Loose r.base r.size 0 (placed (labelled R n) a n (label_at R a))
    loose = loose_placed r.base r.size 0 (labelled R n) a n (label_at R a) label_is low high (above_rising (label_at R) 0 (listed R n) ch.rising)

    pub spreadable : Spreadable (linked_rows R a n (label_at R a)) (n + 1) r
    spreadable =
        let ls = links_linked R a n (label_at R a) ha hn (next_fits R n a ch.links ha) ch.links in
        let en = linked_labels (label_at R a) in
        record {
          linked = ls.linked;
          within = ls.within;
          distinct = ls.distinct;
          loose = subst (Loose r.base r.size 0) (sym en) loose;
          starts = starts_i ∙ (ap (λ (k : ℕ). first_from k (labelled R n)) (sym at_i) ∙ (sym (first_placed r.base (labelled R n) a n (label_at R a) label_is low) ∙ ap (first_from r.base) (sym en)));
          full = sym counts ∙ ap (count_in r.base r.size) (sym en);
          some = let f = full_i in omega arith;
          fits = fits;
          top = top;
        }

    module _ (F : List (Row ℕ)) (fi : listed F (n + 1) ≡ listed (linked_rows R a n (label_at R a)) (n + 1))
        (fl : labelled F (n + 1) ≡ spread r.base r.size r.crowd 0 (labelled (linked_rows R a n (label_at R a)) (n + 1))) where
      pub spread_items : listed F (n + 1) ≡ behind (listed R n) a n
      spread_items = fi ∙ linked_items (label_at R a)

      labels_placed : labelled F (n + 1) ≡ spread r.base r.size r.crowd 0 (placed (labelled R n) a n (label_at R a))
      labels_placed = fl ∙ ap (spread r.base r.size r.crowd 0) (linked_labels (label_at R a))

      pub spread_labels : labelled F (n + 1) ≡ relabelled (labelled R n) a n (label_at R a) (width (labelled R n) (label_at R a))
      spread_labels = labels_placed ∙ (let e = around.at in let w = around.wide in let f = around.full in cc)

      pub spread_rises : Above (label_at F) 0 (listed F (n + 1))
      spread_rises =
          rising_above (label_at F) 0 (listed F (n + 1))
          (subst (Rising 0) (sym labels_placed)
          (spread_rising r.base r.size r.crowd (let f = full_i in omega arith) fits top 0 (placed (labelled R n) a n (label_at R a)) (omega arith) loose counts))

-- F, of m items, is R with n put right behind a
pub record Placed (R F : List (Row ℕ)) (n m a : ℕ) : Type 0 where
  pub rising : Above (label_at F) 0 (listed F m)
  pub items : listed F m ≡ behind (listed R n) a n
  pub labels : labelled F m ≡ inserted (labelled R n) a n

-- and the items around a have new labels
pub record Respread (R F : List (Row ℕ)) (n m a : ℕ) : Type 0 where
  pub rising : Above (label_at F) 0 (listed F m)
  pub items : listed F m ≡ behind (listed R n) a n
  pub labels : labelled F m ≡ relabelled (labelled R n) a n (label_at R a) (width (labelled R n) (label_at R a))

-- as the code has it: v is the label of a that it read, and e that behind a
module _ {R : List (Row ℕ)} {n limit : ℕ} (s : RisingTable R (label_at R) n limit) (a : ℕ) (ha : a < n) (hl : n < limit) (v : ℕ) (ve : v ≡ label_at R a) where
  ch : Chained R (label_at R) n
  ch = chained s

  hn : n < length R
  hn = let r = s.table.room in omega arith

  pub code_below : (e : ℕ) → e ≡ next_label (labelled R n) a → v < e
  code_below e ee = let u = label_below R n a ch ha hn in omega arith

  pub near : (F : List (Row ℕ)) (m e : ℕ) → F ≡ linked_rows R a n (v + (e - v) / 2) → m ≡ n + 1 → e ≡ next_label (labelled R n) a → 2 ≤ e - v → Placed R F n m a
  near F m e f me ee g =
      let u = label_below R n a ch ha hn in
      let w : ℕ = label_at R a + (e - label_at R a) / 2 in
      let fw : linked_rows R a n w ≡ F = ap (λ (k : ℕ). linked_rows R a n (k + (e - k) / 2)) (sym ve) ∙ sym f in
      let two : 2 ≤ e - label_at R a = omega arith in
      subst (λ (k : ℕ). Placed R F n k a) (sym me)
      (subst (λ (G : List (Row ℕ)). Placed R G n (n + 1) a) fw
      (record {
        rising = linked_rising R n a ch ha hn w (omega arith) (omega arith);
        items = linked_items R n a ch ha hn w;
        labels = linked_labels R n a ch ha hn w ∙ sym (after_near R n a ch ha hn e ee two);
      }))

  pub far_labels : (e : ℕ) (es : Entries) → e ≡ next_label (labelled R n) a → e - v < 2 →
      es ≡ relabelled (labelled R n) a n (label_at R a) (width (labelled R n) (label_at R a)) → es ≡ inserted (labelled R n) a n
  far_labels e es ee g is = is ∙ sym (after_far R n a ch ha hn e ee (omega arith))

  -- L, of k items, has n right behind a, with the label of a
  module _ (r : Range) (ar : Around (labelled R n) (label_at R a) (width (labelled R n) (label_at R a)) r) (L : List (Row ℕ)) (k : ℕ)
      (f : L ≡ linked_rows R a n v) (ke : k ≡ n + 1) where
    few : n ≤ 4096
    few = let m = s.table.small in omega arith

    l_is : L ≡ linked_rows R a n (label_at R a)
    l_is = f ∙ ap (linked_rows R a n) ve

    linked : {A : Type 0} (of : List (Row ℕ) → ℕ → A) → of L k ≡ of (linked_rows R a n (label_at R a)) (n + 1)
    linked of = ap (λ (G : List (Row ℕ)). of G k) l_is ∙ ap (of (linked_rows R a n (label_at R a))) ke

    pub code_spreadable : Spreadable L k r
    code_spreadable =
        subst (λ (i : ℕ). Spreadable L i r) (sym ke) (subst (λ (G : List (Row ℕ)). Spreadable G (n + 1) r) (sym l_is) (spreadable R n a ch ha hn few r ar))

    pub code_spread : (F : List (Row ℕ)) (m : ℕ) → m ≡ k → listed F m ≡ listed L k → labelled F m ≡ spread r.base r.size r.crowd 0 (labelled L k) → Respread R F n m a
    code_spread F m me fi fl =
        let mn : m ≡ n + 1 = me ∙ ke in
        let gi : listed F (n + 1) ≡ listed (linked_rows R a n (label_at R a)) (n + 1) = ap (listed F) (sym mn) ∙ (fi ∙ linked listed) in
        let gl : labelled F (n + 1) ≡ spread r.base r.size r.crowd 0 (labelled (linked_rows R a n (label_at R a)) (n + 1)) =
        ap (labelled F) (sym mn) ∙ (fl ∙ ap (spread r.base r.size r.crowd 0) (linked labelled)) in
        subst (λ (i : ℕ). Respread R F n i a) (sym mn)
        (record {
          rising = spread_rises R n a ch ha hn few r ar F gi gl;
          items = spread_items R n a ch ha hn few r ar F gi gl;
          labels = spread_labels R n a ch ha hn few r ar F gi gl;
        })
