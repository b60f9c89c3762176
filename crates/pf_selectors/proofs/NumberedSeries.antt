-- Series that are numbered one after another by their keys, and what is noted of others.
use Rattle.std.proofs.Common.{◌≡◌, ℕ, zero, suc, ◌+◌, ◌<◌, Bool, true, false, cond, ◌||◌, Option, None, Some, List, [], ◌∷◌, ◌++◌, length, length-append, map, replicate, take, get_or, eqb, refl, sym, ap, ◌∙◌, subst, arith}
use Rattle.std.specs.List.{All, list_any}
use Rattle.std.proofs.lemmas.List.{map-append, get_or_append_left}
use Rattle.std.proofs.Math.Seq.{get_or-append_seam}
use Rattle.std.proofs.lemmas.List.Elements.{All-append, All-cons, All-head, All-nil, All-replicate, All-tail}
use Rattle.std.proofs.lemmas.List.Folds.{list_any-append, list_any_at}
use Rattle.pf_base.specs.LabelSets.{IsLabels, Pairs, value_of}
use Rattle.pf_base.specs.LabelChanges.{kept}
use Rattle.pf_block.specs.SeriesIds.{has_pair, ids_with}
use Rattle.pf_model.specs.Aggregation.{group_key}
use Rattle.pf_model.specs.Selection.{same_labels}
use Rattle.pf_selectors.specs.Grouping.{Adds, AreNoted, AreNumbered, key_at, keys_at}
use Rattle.pf_selectors.proofs.OneLabel.{listed_pair, one_kept, value_pair}

-- ---- a key that is there already, and one that is added

or_there : (b c : Bool) → (c ≡ true → b ≡ true) → b ≡ (b || c)
or_there true c f = refl
or_there false true f = f refl
or_there false false f = refl

pub adds_none : (key : Pairs) (keys : List Pairs) (n : ℕ) → n < length keys → get_or keys n [] ≡ key → Adds key keys keys n
adds_none key keys n h e = record {
  within = h;
  is = e;
  long = omega arith;
  keeps = λ m l. refl;
  stands = λ l. or_there (list_any (same_labels l) keys) (same_labels l key) (λ s. list_any_at (same_labels l) keys n [] h (ap (same_labels l) e ∙ s));
}

or_none : (b : Bool) → (b || false) ≡ b
or_none true = refl
or_none false = refl

any_more : (l : Pairs) (keys : List Pairs) (key : Pairs) → list_any (same_labels l) (keys ++ key ∷ []) ≡ (list_any (same_labels l) keys || same_labels l key)
any_more l keys key =
    list_any-append (same_labels l) keys (key ∷ []) ∙ ap (λ b. list_any (same_labels l) keys || b) (or_none (same_labels l key))

longer : (keys : List Pairs) (key : Pairs) → length (keys ++ key ∷ []) ≡ length keys + 1
longer keys key = length-append keys (key ∷ [])

adds_last : (key : Pairs) (keys : List Pairs) → Adds key keys (keys ++ key ∷ []) (length keys)
adds_last key keys = record {
  within = let n = longer keys key in omega (arith, n);
  is = get_or-append_seam keys key [] [];
  long = let n = longer keys key in omega (arith, n);
  keeps = λ m h. get_or_append_left keys (key ∷ []) [] m h;
  stands = λ l. any_more l keys key;
}

pub adds_one : (key made : Pairs) (keys new : List Pairs) (n : ℕ) → made ≡ key → new ≡ keys ++ made ∷ [] → n ≡ length keys → Adds key keys new n
adds_one key made keys new n m e h =
    subst (λ (p : ℕ). Adds key keys new p) (sym h)
    (subst (λ (ks : List Pairs). Adds key keys ks (length keys)) (sym (e ∙ ap (λ k. keys ++ k ∷ []) m)) (adds_last key keys))

-- ---- what is noted

-- of further keys
pub noted_on : (key : Pairs → Pairs) (ls keys new : List Pairs) (made : Pairs) (noted : List (Option ℕ)) → new ≡ keys ++ made ∷ [] → AreNoted key ls keys noted → AreNoted key ls new noted
noted_on key ls keys new made noted e a = subst (λ ks. AreNoted key ls ks noted) (sym e) (record {
  within = λ k n h. let l = longer keys made in let m = a.within k n h in omega (arith, l, m);
  same = λ k n h. get_or_append_left keys (made ∷ []) [] n (a.within k n h) ∙ a.same k n h;
})

inside : (xs : List (Option ℕ)) (k n : ℕ) → get_or xs k None ≡ Some n → k < length xs
inside [] k n h = cc
inside (x ∷ xs) zero n h = omega arith
inside (x ∷ xs) (suc k) n h = let l = inside xs k n h in omega (arith, l)

some_is : (x y : ℕ) → Some x ≡ Some y → x ≡ y
some_is x y p = cc

module _ (without : Bool) (names : List (List ℕ)) (name value : List ℕ) (ls keys : List Pairs) (known new : List (Option ℕ)) (list : List ℕ) (id number : ℕ)
    (by : without ≡ false) (alone : names ≡ name ∷ []) (lawful : All IsLabels ls) (within : id < length ls) (of : value ≡ value_of (get_or ls id []) name) (some : eqb (length value) 0 ≡ false)
    (listed : list ≡ ids_with name value ls) (count : length new ≡ length known)
    (noted : (k : ℕ) → k < length known → get_or new k None ≡ cond (list_any (eqb k) list) (Some number) (get_or known k None)) where
  key_is : (k : ℕ) → k < length ls → has_pair name value (get_or ls k []) ≡ true → key_at (group_key without names) ls k ≡ (name, value) ∷ []
  key_is k h p =
      let lawful_one : IsLabels (get_or ls k []) = lawful k [] h in
      (λ i. group_key (by i) (alone i) (get_or ls k [])) ∙ one_kept name value (get_or ls k []) lawful_one.rising p

  listed_key : (k : ℕ) → list_any (eqb k) list ≡ true → key_at (group_key without names) ls id ≡ key_at (group_key without names) ls k
  listed_key k h =
      let found = listed_pair name value ls k (ap (list_any (eqb k)) (sym listed) ∙ h) in
      key_is id within (value_pair name value (get_or ls id []) of some) ∙ sym (key_is k found.0 found.1)

  module _ (there : number < length keys) (is : get_or keys number [] ≡ key_at (group_key without names) ls id) (old : AreNoted (group_key without names) ls keys known) where
    within_by : (k n : ℕ) (b : Bool) → cond b (Some number) (get_or known k None) ≡ Some n → n < length keys
    within_by k n true g = subst (λ m. m < length keys) (some_is number n g) there
    within_by k n false g = old.within k n g

    same_by : (k n : ℕ) (b : Bool) → list_any (eqb k) list ≡ b → cond b (Some number) (get_or known k None) ≡ Some n → get_or keys n [] ≡ key_at (group_key without names) ls k
    same_by k n true e g = ap (λ m. get_or keys m []) (sym (some_is number n g)) ∙ is ∙ listed_key k e
    same_by k n false e g = old.same k n g

    now : (k n : ℕ) → get_or new k None ≡ Some n → cond (list_any (eqb k) list) (Some number) (get_or known k None) ≡ Some n
    now k n g = sym (noted k (subst (λ m. k < m) count (inside new k n g))) ∙ g

    -- the number of a key, noted for all that have its pair
    pub noted_alike : AreNoted (group_key without names) ls keys new
    noted_alike = record {
      within = λ k n g. within_by k n (list_any (eqb k) list) (now k n g);
      same = λ k n g. same_by k n (list_any (eqb k) list) refl (now k n g);
    }

-- ---- one more series

same_numbers : (old new : List Pairs) (numbers : List ℕ) → All (λ n. n < length old) numbers → ((m : ℕ) → m < length old → get_or new m [] ≡ get_or old m [])
    → map (λ n. get_or new n []) numbers ≡ map (λ n. get_or old n []) numbers
same_numbers old new [] a f = refl
same_numbers old new (n ∷ ns) a f =
    let first = f n (All-head (λ m. m < length old) n ns a) in
    let rest = same_numbers old new ns (All-tail (λ m. m < length old) n ns a) f in
    λ i. first i ∷ rest i

keys_more : (key : Pairs → Pairs) (ls : List Pairs) (done : List ℕ) (id : ℕ) → keys_at key ls (done ++ id ∷ []) ≡ keys_at key ls done ++ key_at key ls id ∷ []
keys_more key ls done id =
    ap (map key) (map-append (λ n. get_or ls n []) done (id ∷ [])) ∙ map-append key (map (λ n. get_or ls n []) done) (get_or ls id [] ∷ [])

numbered_last : (key : Pairs → Pairs) (ls old new : List Pairs) (done numbers : List ℕ) (id n : ℕ) → Adds (key_at key ls id) old new n → AreNumbered key ls done old numbers
    → AreNumbered key ls (done ++ id ∷ []) new (numbers ++ n ∷ [])
numbered_last key ls old new done numbers id n a d = record {
  within =
      All-append (λ m. m < length new) numbers (n ∷ []) (λ k e h. let l = d.within k e h in let m = a.long in omega (arith, l, m))
      (All-cons (λ m. m < length new) n [] a.within (All-nil (λ m. m < length new)));
  same =
      map-append (λ m. get_or new m []) numbers (n ∷ [])
      ∙ (λ i. (same_numbers old new numbers d.within a.keeps ∙ d.same) i ++ a.is i ∷ [])
      ∙ sym (keys_more key ls done id);
  stands = λ l.
      a.stands l ∙ ap (λ b. b || same_labels l (key_at key ls id)) (d.stands l)
      ∙ sym (any_more l (keys_at key ls done) (key_at key ls id)) ∙ ap (list_any (same_labels l)) (sym (keys_more key ls done id));
}

pub numbered_more : (key : Pairs → Pairs) (ls old new : List Pairs) (done before after : List ℕ) (id n : ℕ) → Adds (key_at key ls id) old new n → after ≡ before ++ n ∷ []
    → AreNumbered key ls done old before → AreNumbered key ls (done ++ id ∷ []) new after
numbered_more key ls old new done before after id n a e d =
    subst (AreNumbered key ls (done ++ id ∷ []) new) (sym e) (numbered_last key ls old new done before id n a d)

-- ---- series that all have one key

none_named : (names : List (List ℕ)) → length names ≡ 0 → names ≡ []
none_named [] h = refl
none_named (n ∷ ns) h = absurd (omega (arith, h))

none_kept : (l : Pairs) → kept [] l ≡ []
none_kept [] = refl
none_kept (p ∷ ps) = none_kept ps

module _ (key : Pairs → Pairs) (ls : List Pairs) (one : (l : Pairs) → key l ≡ []) where
  all_same : (f : ℕ → Pairs) (ids : List ℕ) → f 0 ≡ [] → map f (replicate (length ids) 0) ≡ keys_at key ls ids
  all_same f [] e = refl
  all_same f (id ∷ ids) e =
      let first : f 0 ≡ key_at key ls id = e ∙ sym (one (get_or ls id [])) in
      let rest = all_same f ids e in
      λ i. first i ∷ rest i

  or_twice : (b c : Bool) → (b || c) ≡ b → (b || (b || c)) ≡ b
  or_twice true c h = refl
  or_twice false c h = h

  any_rest : (l : Pairs) (ids : List ℕ) → (same_labels l [] || list_any (same_labels l) (keys_at key ls ids)) ≡ same_labels l []
  any_rest l [] = or_none (same_labels l [])
  any_rest l (id ∷ ids) =
      ap (λ k. same_labels l [] || (same_labels l k || list_any (same_labels l) (keys_at key ls ids))) (one (get_or ls id []))
      ∙ or_twice (same_labels l []) (list_any (same_labels l) (keys_at key ls ids)) (any_rest l ids)

  alike : (ids : List ℕ) → AreNumbered key ls ids (keys_at key ls (take 1 ids)) (replicate (length ids) 0)
  alike [] = record { within = All-nil (λ n. n < 0); same = refl; stands = λ l. refl }
  alike (id ∷ ids) =
      let k = key_at key ls id in
      record {
        within = All-replicate (λ n. n < 1) (length (id ∷ ids)) 0 (omega arith);
        same = all_same (λ n. get_or (k ∷ []) n []) (id ∷ ids) (one (get_or ls id []));
        stands = λ l.
            ap (λ x. same_labels l x || false) (one (get_or ls id [])) ∙ or_none (same_labels l [])
            ∙ sym (any_rest l ids) ∙ ap (λ x. same_labels l x || list_any (same_labels l) (keys_at key ls ids)) (sym (one (get_or ls id [])));
      }

-- under `by ()`
pub alike_numbered : (without : Bool) (names : List (List ℕ)) (ls keys : List Pairs) (ids numbers : List ℕ) → without ≡ false → length names ≡ 0
    → keys ≡ keys_at (group_key without names) ls (take 1 ids) → numbers ≡ replicate (length ids) 0 → AreNumbered (group_key without names) ls ids keys numbers
alike_numbered without names ls keys ids numbers b n e f =
    let one : (l : Pairs) → group_key without names l ≡ [] = λ l. (λ i. group_key (b i) (none_named names n i) l) ∙ none_kept l in
    subst (λ ks. AreNumbered (group_key without names) ls ids ks numbers) (sym e)
    (subst (AreNumbered (group_key without names) ls ids (keys_at (group_key without names) ls (take 1 ids))) (sym f) (alike (group_key without names) ls one ids))
