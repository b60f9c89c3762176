-- Pairs that lie packed: what one more pair makes of them, and where each name and value stands.
use Rattle.std.proofs.Common.{◌≡◌, ℕ, Bool, true, false, nat_eq, zero, suc, ◌+◌, ◌-◌, ◌*◌, ◌≤◌, ◌<◌, ◌^◌, List, [], ◌∷◌, ◌++◌, length, take, get_or, refl, sym, ap, ◌∙◌, subst, arith, append_assoc, length-append}
use Rattle.std.specs.Prelude.{slice_range}
use Rattle.std.specs.Bool.{Decides}
use Rattle.std.specs.Cmp.Lexicographic.{pointwise, pointwise_decides}
use Rattle.std.specs.List.{All}
use Rattle.std.specs.Str.{IsUtf8, IsCharBoundary}
use Rattle.std.proofs.lemmas.Bool.Decides.{Decides-eqb}
use Rattle.std.proofs.lemmas.List.{take_at, drop_at, append-nil}
use Rattle.std.proofs.lemmas.List.Elements.{All-push, All-weaker, filter-append}
use Rattle.std.proofs.lemmas.Str.{IsCharBoundary-end, IsCharBoundary-start}
use Rattle.pf_base.specs.LabelChanges.{is_other, metric_name, others}
use Rattle.pf_base.specs.LabelSets.{Pairs, name_at, value_at}
use Rattle.pf_base.specs.LabelOrder.{labels_eq, labels_decides}
use Rattle.pf_base.specs.LabelPacking.{pairs_after, pairs_in, joined, ends_after, bounds_of, IsPacked}
use Rattle.pf_base.specs.ShardHash.{hash_onto, label_bytes, labels_onto, labels_hash}

-- ---- what is packed is found again

part_at : (pre x post : List ℕ) (a b : ℕ) → a ≡ length pre → b ≡ a + length x → slice_range (pre ++ (x ++ post)) a b ≡ x
part_at pre x post a b p q =
    let n : length x ≡ b - a = omega arith in
    ap (take (b - a)) (drop_at pre (x ++ post) a (sym p)) ∙ take_at x post (b - a) n

part_is : (text pre x post : List ℕ) (a b : ℕ) → text ≡ pre ++ (x ++ post) → a ≡ length pre → b ≡ a + length x → slice_range text a b ≡ x
part_is text pre x post a b e p q = ap (λ t. slice_range t a b) e ∙ part_at pre x post a b p q

found_after : (ps : Pairs) (text pre : List ℕ) (start : ℕ) → text ≡ pre ++ joined ps → start ≡ length pre → pairs_after text start (ends_after start ps) ≡ ps
found_after [] text pre start e p = refl
found_after (q ∷ ps) text pre start e p =
    let a : ℕ = start + length q.0 in
    let b : ℕ = start + length q.0 + length q.1 in
    let pre_a : List ℕ = pre ++ q.0 in
    let pre_b : List ℕ = pre_a ++ q.1 in
    let ea : text ≡ pre_a ++ (q.1 ++ joined ps) = e ∙ sym (append_assoc pre q.0 (q.1 ++ joined ps)) in
    let eb : text ≡ pre_b ++ joined ps = ea ∙ sym (append_assoc pre_a q.1 (joined ps)) in
    let na : a ≡ length pre_a = ap (λ n. n + length q.0) p ∙ sym (length-append pre q.0) in
    let nb : b ≡ length pre_b = ap (λ n. n + length q.1) na ∙ sym (length-append pre_a q.1) in
    let name : slice_range text start a ≡ q.0 = part_is text pre q.0 (q.1 ++ joined ps) start a e p refl in
    let value : slice_range text a b ≡ q.1 = part_is text pre_a q.1 (joined ps) a b ea na refl in
    let rest : pairs_after text b (ends_after b ps) ≡ ps = found_after ps text pre_b b eb nb in
    λ i. (name i, value i) ∷ rest i

pub found : (ps : Pairs) → pairs_in (joined ps) (bounds_of ps) ≡ ps
found ps = found_after ps (joined ps) [] 0 refl refl

pub pairs_are : (ps : Pairs) (text bounds : List ℕ) → text ≡ joined ps → bounds ≡ bounds_of ps → pairs_in text bounds ≡ ps
pairs_are ps text bounds e p = (λ i. pairs_in (e i) (p i)) ∙ found ps

-- ---- one more pair

joined_push : (ps : Pairs) (q : List ℕ × List ℕ) → joined (ps ++ q ∷ []) ≡ (joined ps ++ q.0) ++ q.1
joined_push [] q = ap (λ l. q.0 ++ l) (append-nil q.1)
joined_push (p ∷ ps) q =
    ap (λ l. p.0 ++ (p.1 ++ l)) (joined_push ps q ∙ append_assoc (joined ps) q.0 q.1)
    ∙ ap (λ l. p.0 ++ l) (sym (append_assoc p.1 (joined ps) (q.0 ++ q.1)))
    ∙ sym (append_assoc p.0 (p.1 ++ joined ps) (q.0 ++ q.1))
    ∙ sym (append_assoc (p.0 ++ (p.1 ++ joined ps)) q.0 q.1)

length_joined : (p : List ℕ × List ℕ) (ps : Pairs) → length (joined (p ∷ ps)) ≡ length p.0 + length p.1 + length (joined ps)
length_joined p ps =
    let a = length-append p.0 (p.1 ++ joined ps) in
    let b = length-append p.1 (joined ps) in omega (arith, a, b)

ends_push : (ps : Pairs) (q : List ℕ × List ℕ) (start middle end : ℕ) → middle ≡ start + length (joined ps) + length q.0 → end ≡ middle + length q.1
    → ends_after start (ps ++ q ∷ []) ≡ (ends_after start ps ++ middle ∷ []) ++ end ∷ []
ends_push [] q start middle end e f =
    let m : start + length q.0 ≡ middle = omega arith in
    let n : start + length q.0 + length q.1 ≡ end = omega arith in
    λ i. m i ∷ n i ∷ []
ends_push (p ∷ ps) q start middle end e f =
    let k = length_joined p ps in
    ap (λ l. (start + length p.0) ∷ (start + length p.0 + length p.1) ∷ l)
    (ends_push ps q (start + length p.0 + length p.1) middle end (omega (arith, e, k)) f)

labels_onto_more : (ps qs : Pairs) (h : ℕ) → labels_onto h (ps ++ qs) ≡ labels_onto (labels_onto h ps) qs
labels_onto_more [] qs h = refl
labels_onto_more (p ∷ ps) qs h = labels_onto_more ps qs (hash_onto h (label_bytes p))

hash_push : (ps : Pairs) (q : List ℕ × List ℕ) (h : ℕ)
    → labels_onto h (others metric_name (ps ++ q ∷ [])) ≡ labels_onto (labels_onto h (others metric_name ps)) (others metric_name (q ∷ []))
hash_push ps q h =
    ap (labels_onto h) (filter-append (is_other metric_name) ps (q ∷ []))
    ∙ labels_onto_more (others metric_name ps) (others metric_name (q ∷ [])) h

-- where a text may be cut, it may be cut where more follows too
cut_before : (text more : List ℕ) (k : ℕ) → IsUtf8 more → IsCharBoundary text k → IsCharBoundary (text ++ more) k
cut_before [] more zero u c = IsCharBoundary-start more u
cut_before [] more (suc k) u c = absurd (omega (arith, c.0))
cut_before (b ∷ bs) more zero u c = (omega arith, λ _ h. c.1 (omega arith) h)
cut_before (b ∷ bs) more (suc k) u c =
    let t = cut_before bs more k u (omega (arith, c.0), λ l h. c.1 (omega (arith, l)) h) in (omega (arith, t.0), λ l h. t.1 (omega (arith, l)) h)

cuts_push : (text more bounds : List ℕ) (end : ℕ) → IsUtf8 more → All (IsCharBoundary text) bounds → end ≡ length (text ++ more) → All (IsCharBoundary (text ++ more)) (bounds ++ end ∷ [])
cuts_push text more bounds end u c e =
    let w : All (IsCharBoundary (text ++ more)) bounds = All-weaker (IsCharBoundary text) (IsCharBoundary (text ++ more)) (λ k h. cut_before text more k u h) bounds c in
    All-push (IsCharBoundary (text ++ more)) bounds end w (subst (IsCharBoundary (text ++ more)) (sym e) (IsCharBoundary-end (text ++ more)))

length_ends : (ps : Pairs) (start : ℕ) → length (ends_after start ps) ≡ 2 * length ps
length_ends [] start = refl
length_ends (p ∷ ps) start = let t = length_ends ps (start + length p.0 + length p.1) in omega (arith, t)

pub length_bounds : (ps : Pairs) → length (bounds_of ps) ≡ 2 * length ps + 1
length_bounds ps = let t = length_ends ps 0 in omega (arith, t)

pub one_more : (ps : Pairs) (text bounds name value named valued parted ended : List ℕ) (hash middle end next : ℕ) → IsPacked ps text bounds hash → IsUtf8 name → IsUtf8 value
    → named ≡ text ++ name → middle ≡ length named → valued ≡ named ++ value → end ≡ length valued → length bounds < 2 ^ 32
    → parted ≡ bounds ++ middle ∷ [] → ended ≡ parted ++ end ∷ [] → next ≡ labels_onto hash (others metric_name ((name, value) ∷ []))
    → IsPacked (ps ++ (name, value) ∷ []) valued ended next
one_more ps text bounds name value named valued parted ended hash middle end next h u v e m f n few' p q g =
    let q0 : List ℕ × List ℕ = (name, value) in
    let len : length bounds ≡ 2 * length ps + 1 = ap length h.bounds_are ∙ length_bounds ps in
    let a : middle ≡ length (joined ps) + length name = m ∙ ap length e ∙ length-append text name ∙ ap (λ t. length t + length name) h.text_is in
    let b : end ≡ middle + length value = n ∙ ap length f ∙ length-append named value ∙ ap (λ t. t + length value) (sym m) in
    record {
      text_is = f ∙ ap (λ t. t ++ value) (e ∙ ap (λ t. t ++ name) h.text_is) ∙ sym (joined_push ps q0);
      bounds_are = q ∙ ap (λ l. l ++ end ∷ []) (p ∙ ap (λ l. l ++ middle ∷ []) h.bounds_are) ∙ ap (λ l. 0 ∷ l) (sym (ends_push ps q0 0 middle end (omega (arith, a)) b));
      cuts =
          subst (λ l. All (IsCharBoundary l) ended) (sym f)
          (subst (All (IsCharBoundary (named ++ value))) (sym q)
          (cuts_push named value parted end v
          (subst (λ l. All (IsCharBoundary l) parted) (sym e)
          (subst (All (IsCharBoundary (text ++ name))) (sym p) (cuts_push text name bounds middle u h.cuts (m ∙ ap length e))))
          (n ∙ ap length f)));
      hashed = g ∙ ap (λ k. labels_onto k (others metric_name (q0 ∷ []))) h.hashed ∙ sym (hash_push ps q0 (labels_onto 14695981039346656037 []));
      few = let l = length-append ps (q0 ∷ []) in omega (arith, l);
    }

pub repacked : (ps : Pairs) (text bounds : List ℕ) (hash : ℕ) → IsPacked ps text bounds hash → IsPacked (pairs_in text bounds) text bounds hash
repacked ps text bounds hash h = subst (λ qs. IsPacked qs text bounds hash) (sym (pairs_are ps text bounds h.text_is h.bounds_are)) h

pub few_as : {ps qs : Pairs} → ps ≡ qs → length qs < 2 ^ 32 → length ps < 2 ^ 32
few_as e l = subst (λ rs. length rs < 2 ^ 32) (sym e) l

-- ---- where each name and value stands

at_after : (text : List ℕ) (start : ℕ) (ends : List ℕ) (i x y z : ℕ) (d : List ℕ × List ℕ) → i < length (pairs_after text start ends)
    → get_or (pairs_after text start ends) i d
    ≡ (slice_range text (get_or (start ∷ ends) (2 * i) x) (get_or (start ∷ ends) (2 * i + 1) y), slice_range text (get_or (start ∷ ends) (2 * i + 1) y) (get_or (start ∷ ends) (2 * i + 2) z))
at_after text start [] i x y z d l = absurd (omega (arith, l))
at_after text start (a ∷ []) i x y z d l = absurd (omega (arith, l))
at_after text start (a ∷ b ∷ ends) zero x y z d l = refl
at_after text start (a ∷ b ∷ ends) (suc k) x y z d l =
    let f : suc (suc (2 * k)) ≡ 2 * suc k = omega arith in
    let g : suc (suc (2 * k + 1)) ≡ 2 * suc k + 1 = omega arith in
    let h : suc (suc (2 * k + 2)) ≡ 2 * suc k + 2 = omega arith in
    let all : List ℕ = start ∷ a ∷ b ∷ ends in
    let t = at_after text b ends k x y z d (omega (arith, l)) in
    t ∙ (λ i. (slice_range text (get_or all (f i) x) (get_or all (g i) y), slice_range text (get_or all (g i) y) (get_or all (h i) z)))

rising_after : (ps : Pairs) (start i x y z : ℕ) → i < length ps
    → (get_or (start ∷ ends_after start ps) (2 * i) x ≤ get_or (start ∷ ends_after start ps) (2 * i + 1) y)
    × (get_or (start ∷ ends_after start ps) (2 * i + 1) y ≤ get_or (start ∷ ends_after start ps) (2 * i + 2) z)
rising_after [] start i x y z l = absurd (omega (arith, l))
rising_after (p ∷ ps) start zero x y z l = (omega arith, omega arith)
rising_after (p ∷ ps) start (suc k) x y z l =
    let f : suc (suc (2 * k)) ≡ 2 * suc k = omega arith in
    let g : suc (suc (2 * k + 1)) ≡ 2 * suc k + 1 = omega arith in
    let h : suc (suc (2 * k + 2)) ≡ 2 * suc k + 2 = omega arith in
    let a : ℕ = start + length p.0 in
    let b : ℕ = start + length p.0 + length p.1 in
    let all : List ℕ = start ∷ a ∷ b ∷ ends_after b ps in
    let t = rising_after ps b k x y z (omega (arith, l)) in (
      subst (λ n. get_or all n x ≤ get_or all (2 * suc k + 1) y) f (subst (λ n. get_or all (suc (suc (2 * k))) x ≤ get_or all n y) g t.0),
      subst (λ n. get_or all n y ≤ get_or all (2 * suc k + 2) z) g (subst (λ n. get_or all (suc (suc (2 * k + 1))) y ≤ get_or all n z) h t.1),
    )

-- what a reader of a text from a to b owes, and gets
pub record Stands (text part : List ℕ) (a b : ℕ) : Type 0 where
  pub rises : a ≤ b
  pub starts : IsCharBoundary text a
  pub ends : IsCharBoundary text b
  pub part_is : part ≡ slice_range text a b

pub as_seen : (qs ps : Pairs) (text bounds : List ℕ) (hash : ℕ) → IsPacked qs text bounds hash → qs ≡ ps → IsPacked ps text bounds hash
as_seen qs ps text bounds hash h e = subst (λ rs. IsPacked rs text bounds hash) e h

pub counted : (qs ps : Pairs) (text bounds : List ℕ) (hash : ℕ) → IsPacked qs text bounds hash → qs ≡ ps → length bounds ≡ 2 * length ps + 1
counted qs ps text bounds hash h e = ap length h.bounds_are ∙ length_bounds qs ∙ ap (λ l. 2 * length l + 1) e

module _ (ps : Pairs) (text bounds : List ℕ) (hash : ℕ) (h : IsPacked ps text bounds hash) (i : ℕ) (l : i < length ps) where
  len : length bounds ≡ 2 * length ps + 1
  len = counted ps ps text bounds hash h refl

  pair_is : (x y z : ℕ) → get_or ps i ([], []) ≡ (slice_range text (get_or bounds (2 * i) x) (get_or bounds (2 * i + 1) y), slice_range text (get_or bounds (2 * i + 1) y) (get_or bounds (2 * i + 2) z))
  pair_is x y z =
      let back : pairs_in text (bounds_of ps) ≡ ps = ap (pairs_in text) (sym h.bounds_are) ∙ pairs_are ps text bounds h.text_is h.bounds_are in
      let e = at_after text 0 (ends_after 0 ps) i x y z ([], []) (subst (λ qs. i < length qs) (sym back) l) in
      let b = sym h.bounds_are in
      ap (λ qs. get_or qs i ([], [])) (sym back) ∙ e
      ∙ (λ j. (slice_range text (get_or (b j) (2 * i) x) (get_or (b j) (2 * i + 1) y), slice_range text (get_or (b j) (2 * i + 1) y) (get_or (b j) (2 * i + 2) z)))

  rising : (x y z : ℕ) → (get_or bounds (2 * i) x ≤ get_or bounds (2 * i + 1) y) × (get_or bounds (2 * i + 1) y ≤ get_or bounds (2 * i + 2) z)
  rising x y z = subst (λ l. (get_or l (2 * i) x ≤ get_or l (2 * i + 1) y) × (get_or l (2 * i + 1) y ≤ get_or l (2 * i + 2) z)) (sym h.bounds_are) (rising_after ps 0 i x y z l)

  name_at_bounds : (x y : ℕ) → Stands text (name_at ps i) (get_or bounds (2 * i) x) (get_or bounds (2 * i + 1) y)
  name_at_bounds x y = record {
    rises = (rising x y 0).0;
    starts = h.cuts (2 * i) x (omega (arith, len));
    ends = h.cuts (2 * i + 1) y (omega (arith, len));
    part_is = ap (λ p. p.0) (pair_is x y 0);
  }

  value_at_bounds : (x y : ℕ) → Stands text (value_at ps i) (get_or bounds (2 * i + 1) x) (get_or bounds (2 * i + 2) y)
  value_at_bounds x y = record {
    rises = (rising 0 x y).1;
    starts = h.cuts (2 * i + 1) x (omega (arith, len));
    ends = h.cuts (2 * i + 2) y (omega (arith, len));
    part_is = ap (λ p. p.1) (pair_is 0 x y);
  }

module _ (qs ps : Pairs) (text bounds shown : List ℕ) (hash i a b : ℕ) (h : IsPacked qs text bounds hash) (e : qs ≡ ps) (s : shown ≡ text) (l : i < length ps) where
  at : (part : List ℕ) (x y : ℕ) → a ≡ x → b ≡ y → Stands text part x y → Stands shown part a b
  at part x y p q r =
      subst (λ t. Stands t part a b) (sym s) (subst (λ m. Stands text part m b) (sym p) (subst (λ n. Stands text part x n) (sym q) r))

  pub name_stands : a ≡ get_or bounds (2 * i) a → b ≡ get_or bounds (2 * i + 1) b → Stands shown (name_at ps i) a b
  name_stands p q = at (name_at ps i) (get_or bounds (2 * i) a) (get_or bounds (2 * i + 1) b) p q (name_at_bounds ps text bounds hash (as_seen qs ps text bounds hash h e) i l a b)

  pub value_stands : a ≡ get_or bounds (2 * i + 1) a → b ≡ get_or bounds (2 * i + 2) b → Stands shown (value_at ps i) a b
  value_stands p q = at (value_at ps i) (get_or bounds (2 * i + 1) a) (get_or bounds (2 * i + 2) b) p q (value_at_bounds ps text bounds hash (as_seen qs ps text bounds hash h e) i l a b)

-- ---- equality

both_ways : (a b : Bool) → (a ≡ true → b ≡ true) → (b ≡ true → a ≡ true) → a ≡ b
both_ways true b f g = sym (f refl)
both_ways false true f g = g refl
both_ways false false f g = refl

untrue : (b : Bool) → (b ≡ true → ⊥) → b ≡ false
untrue true f = absurd (f refl)
untrue false f = refl

pub apart_tested : (m n : ℕ) → (m ≡ n → ⊥) → nat_eq m n ≡ true → ⊥
apart_tested m n f e = f ((Decides-eqb m n).0 e)

texts_decide : (t u : List ℕ) → Decides (pointwise nat_eq t u) (t ≡ u)
texts_decide = pointwise_decides Decides-eqb

module _ (ps qs vs ws : Pairs) (t u b d : List ℕ) (h k : ℕ) (m : IsPacked vs t b h) (n : IsPacked ws u d k) (e : vs ≡ ps) (f : ws ≡ qs) where
  equal : labels_eq ps qs ≡ true → vs ≡ ws
  equal g = e ∙ (labels_decides ps qs).0 g ∙ sym f

  pub hashes_apart : (h ≡ k → ⊥) → false ≡ labels_eq ps qs
  hashes_apart g = sym (untrue (labels_eq ps qs) (λ l. g (m.hashed ∙ ap (λ ls. labels_hash (others metric_name ls)) (equal l) ∙ sym n.hashed)))

  pub bounds_apart : pointwise nat_eq b d ≡ false → false ≡ labels_eq ps qs
  bounds_apart g = sym (untrue (labels_eq ps qs) (λ l.
      let o : pointwise nat_eq b d ≡ true = (texts_decide b d).1 (m.bounds_are ∙ ap bounds_of (equal l) ∙ sym n.bounds_are) in cc))

  pub texts_tell : pointwise nat_eq b d ≡ true → pointwise nat_eq t u ≡ labels_eq ps qs
  texts_tell g = both_ways (pointwise nat_eq t u) (labels_eq ps qs)
      (λ l.
      let o : vs ≡ ws =
      sym (pairs_are vs t b m.text_is m.bounds_are) ∙ (λ i. pairs_in ((texts_decide t u).0 l i) ((texts_decide b d).0 g i)) ∙ pairs_are ws u d n.text_is n.bounds_are in
      (labels_decides ps qs).1 (sym e ∙ o ∙ f))
      (λ l. (texts_decide t u).1 (m.text_is ∙ ap joined (equal l) ∙ sym n.text_is))
