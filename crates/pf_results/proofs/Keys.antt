-- What is kept under a key: the steps are at its distance, and it is true.
use Rattle.std.proofs.Common.{◌≡◌, ℕ, inl, inr, true, ◌&&◌, Option, Some, None, List, [], ◌∷◌, ◌++◌, Contains, refl, sym, ap, subst, nat_eq}
use Rattle.std.proofs.lemmas.Bool.{eqb-true}
use Rattle.std.specs.Cmp.{first_so, second_so}
use Rattle.std.specs.Cmp.Lexicographic.{pointwise}
use Rattle.std.specs.Map.{lookup}
use Rattle.std.specs.Prelude.{not, IfOk, IfSome, OnErr, OnOk, Result, Ok, Err, unwrap_or}
use Rattle.lru.specs.LruCache.{LruCache, put_entries}
use Rattle.lru.proofs.CallerLemmas.{Contains-lookup, Contains-promoted, Contains-put_entries}
use Rattle.pf_extent.specs.Steps.{AreSpaced, Extents}
use Rattle.pf_base.specs.GridLists.{GridData}
use Rattle.pf_extent.specs.declared.extent.Asker.{Asker}
use Rattle.pf_extent.specs.declared.key.Key.{Key}
use Rattle.pf_model.specs.declared.cell.Element.{Element}
use Rattle.pf_model.specs.Direct.{Step}
use Rattle.pf_model.specs.Trees.{Tree}
use Rattle.pf_results.specs.Keeping.{KeepsOthers, kept_list}
use Rattle.pf_results.specs.Runs.{runs_of}
use Rattle.pf_results.specs.Serving.{is_served, served_steps, steps_of}
use Rattle.pf_results.specs.declared.frozen.Addition.{Addition}
use Rattle.pf_results.specs.declared.serving.Found.{Found}
use Rattle.pf_model.specs.Log.{Change, Rules}
use Rattle.pf_results.specs.Entries.{is_key, kept_under, put_under, touched}
use Rattle.pf_results.specs.Truth.{AreAllSpaced, AreTrue, IsTrueList}
use Rattle.pf_results.proofs.Growing.{none_true}

-- ---- keys

same_bytes : (xs ys : List ℕ) → pointwise nat_eq xs ys ≡ true → xs ≡ ys
same_bytes [] [] h = refl
same_bytes [] (y ∷ ys) h = cc
same_bytes (x ∷ xs) [] h = cc
same_bytes (x ∷ xs) (y ∷ ys) h =
    let a : x ≡ y = eqb-true x y (first_so (nat_eq x y) (pointwise nat_eq xs ys) h) in
    let b : xs ≡ ys = same_bytes xs ys (second_so (nat_eq x y) (pointwise nat_eq xs ys) h) in cc

key_is : (x y : Key) → is_key x y ≡ true → x ≡ y
key_is x y h =
    let others = second_so (nat_eq x.tenant y.tenant) (pointwise nat_eq x.text y.text && (nat_eq x.step y.step && nat_eq x.interval y.interval)) h in
    let numbers = second_so (pointwise nat_eq x.text y.text) (nat_eq x.step y.step && nat_eq x.interval y.interval) others in
    let a : x.tenant ≡ y.tenant = eqb-true x.tenant y.tenant (first_so (nat_eq x.tenant y.tenant) (pointwise nat_eq x.text y.text && (nat_eq x.step y.step && nat_eq x.interval y.interval)) h) in
    let b : x.text ≡ y.text = same_bytes x.text y.text (first_so (pointwise nat_eq x.text y.text) (nat_eq x.step y.step && nat_eq x.interval y.interval) others) in
    let c : x.step ≡ y.step = eqb-true x.step y.step (first_so (nat_eq x.step y.step) (nat_eq x.interval y.interval) numbers) in
    let d : x.interval ≡ y.interval = eqb-true x.interval y.interval (second_so (nat_eq x.step y.step) (nat_eq x.interval y.interval) numbers) in
    λ i. record { tenant = a i; text = b i; step = c i; interval = d i }

-- ---- what is found under a key

found_under : (entries : List (Key × Extents)) (k : Key) (es : Extents) → lookup (is_key k) entries ≡ Some es → Contains entries (k, es)
found_under entries k es h =
    let f = Contains-lookup (is_key k) entries es h in
    subst (λ (x : Key). Contains entries (x, es)) (sym (key_is k f.0 f.2)) f.1

pub spaced_under : (entries : List (Key × Extents)) (k : Key) (es : Extents) → AreAllSpaced entries → lookup (is_key k) entries ≡ Some es → AreSpaced k.step es
spaced_under entries k es a h = a k es (found_under entries k es h)

pub true_under : (rules : Rules) (interval : ℕ) (logs : ℕ → List Change) (c : LruCache Key Extents) (k : Key) → AreTrue rules interval logs c.entries
    → IsTrueList rules interval (logs k.tenant) k (kept_under k c)
true_under rules interval logs c k a = by (lookup (is_key k) c.entries) refl where
  by : (o : Option Extents) → lookup (is_key k) c.entries ≡ o → IsTrueList rules interval (logs k.tenant) k (unwrap_or o [])
  by None h = none_true rules interval (logs k.tenant) k
  by (Some es) h = a k es (found_under c.entries k es h)

-- ---- a key is the one used last

pub touched_spaced : (c : LruCache Key Extents) (k : Key) → AreAllSpaced c.entries → AreAllSpaced (touched k c).entries
touched_spaced c k a key es h = a key es (Contains-promoted (is_key k) c.entries (key, es) h)

pub touched_true : (rules : Rules) (interval : ℕ) (logs : ℕ → List Change) (c : LruCache Key Extents) (k : Key) → AreTrue rules interval logs c.entries
    → AreTrue rules interval logs (touched k c).entries
touched_true rules interval logs c k a key es h = a key es (Contains-promoted (is_key k) c.entries (key, es) h)

-- ---- a list is kept

module _ (P : Key → Extents → Type 0) (c : LruCache Key Extents) (k : Key) (new : Extents) (a : (key : Key) (es : Extents) → Contains c.entries (key, es) → P key es) (n : P k new) where
  pub put_all : (key : Key) (es : Extents) → Contains (put_entries is_key c k new) (key, es) → P key es
  put_all key es h = elim (Contains-put_entries is_key c k new (key, es) h) [
    | inl o ↦ a key es o
    | inr p ↦ elim p.1 [
      | inl same ↦ subst (λ (x : Extents). P key x) (sym p.0) (subst (λ (x : Key). P x new) (sym same) n)
      | inr was ↦ subst (λ (x : Extents). P key x) (sym p.0) (subst (λ (x : Key). P x new) (key_is k key was.2) n)
    ]
  ]

pub put_spaced : (c : LruCache Key Extents) (k : Key) (o : Option Extents) → AreAllSpaced c.entries → IfSome o (AreSpaced k.step) → AreAllSpaced (put_under k o c).entries
put_spaced c k None a n = a
put_spaced c k (Some new) a n = put_all (λ key es. AreSpaced key.step es) c k new a n

pub put_true : (rules : Rules) (interval : ℕ) (logs : ℕ → List Change) (c : LruCache Key Extents) (k : Key) (o : Option Extents) → AreTrue rules interval logs c.entries
    → IfSome o (IsTrueList rules interval (logs k.tenant) k) → AreTrue rules interval logs (put_under k o c).entries
put_true rules interval logs c k None a n = a
put_true rules interval logs c k (Some new) a n = put_all (λ key es. IsTrueList rules interval (logs key.tenant) key es) c k new a n

-- a call that keeps a list, or is refused
pub set_spaced : {X E : Type 0} (r : Result X E) (c new : LruCache Key Extents) (k : Key) (es : Extents) (o : Option Extents) → o ≡ Some es → IfSome o (AreSpaced k.step)
    → AreAllSpaced c.entries → OnOk r (new ≡ put_under k (Some es) c) → OnErr r (new ≡ c) → AreAllSpaced new.entries
set_spaced (Ok x) c new k es o e n a f g =
    subst (λ (d : LruCache Key Extents). AreAllSpaced d.entries) (sym f)
    (put_spaced c k (Some es) a (subst (λ (p : Option Extents). IfSome p (AreSpaced k.step)) e n))
set_spaced (Err x) c new k es o e n a f g = subst (λ (d : LruCache Key Extents). AreAllSpaced d.entries) (sym g) a

-- ---- by what is kept under a key

pub under_some : (c : LruCache Key Extents) (k : Key) (es : Extents) → lookup (is_key k) c.entries ≡ Some es → kept_under k c ≡ es
under_some c k es h = ap (λ (o : Option Extents). unwrap_or o []) h

module _ {E : Type 0} (kept es : Extents) (same : kept ≡ es) (q : Tree) (a : Asker) (run : GridData) (ts : List ℕ) where
  pub cached_by : (r : Result Found E) (old : List Step) → IfOk r (λ (f : Found). steps_of f.cached.items ≡ old ++ served_steps es q a ts)
      → IfOk r (λ (f : Found). steps_of f.cached.items ≡ old ++ served_steps kept q a ts)
  cached_by r old h = subst (λ (x : Extents). IfOk r (λ (f : Found). steps_of f.cached.items ≡ old ++ served_steps x q a ts)) (sym same) h

  pub runs_by : (r : Result Found E) (old : List GridData) → IfOk r (λ (f : Found). f.runs.items ≡ old ++ runs_of run.step (λ t. not (is_served es q a t)) ts)
      → IfOk r (λ (f : Found). f.runs.items ≡ old ++ runs_of run.step (λ t. not (is_served kept q a t)) ts)
  runs_by r old h =
      subst (λ (x : Extents). IfOk r (λ (f : Found). f.runs.items ≡ old ++ runs_of run.step (λ t. not (is_served x q a t)) ts)) (sym same) h

  pub list_by : (r : Result Addition E) (ns : Extents) → IfOk r (λ (d : Addition). d.list ≡ kept_list es ns) → IfOk r (λ (d : Addition). d.list ≡ kept_list kept ns)
  list_by r ns h = subst (λ (x : Extents). IfOk r (λ (d : Addition). d.list ≡ kept_list x ns)) (sym same) h

  pub others_by : (cells : List (List Element)) (r : Result Addition E) → IfOk r (λ (d : Addition). IfSome d.list (KeepsOthers q a run cells es))
      → IfOk r (λ (d : Addition). IfSome d.list (KeepsOthers q a run cells kept))
  others_by cells r h = subst (λ (x : Extents). IfOk r (λ (d : Addition). IfSome d.list (KeepsOthers q a run cells x))) (sym same) h
