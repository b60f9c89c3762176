-- Windows of which one block has all samples.
use Rattle.std.proofs.Common.{◌≡◌, ℕ, Bool, true, false, suc, ◌+◌, ◌<◌, ℤ, List, [], ◌∷◌, length, drop, get_or, refl, sym, ap, ◌∙◌, arith}
use Rattle.pf_base.specs.declared.plain.Sample.{Sample}
use Rattle.pf_block.specs.Blocks.{Entries, samples_in}
use Rattle.pf_block.specs.Samples.{is_within, merged_samples, rises, window_of}
use Rattle.pf_block.specs.Stacks.{read_in, series_in}
use Rattle.pf_block.proofs.MergedSamples.{merged_filter}
use Rattle.pf_block.proofs.Pairing.{drop_at}
use Rattle.pf_block.proofs.Searches.{window_rises}
use Rattle.pf_block.proofs.Series.{drop_rises}
use Rattle.pf_block.proofs.Stretches.{merged_none}

-- ---- a first block and those behind it

module _ (id : ℕ) (a u : ℤ) (b : Entries) (bs : List Entries) (r : rises (series_in id (b ∷ bs)) ≡ true) where
  both : window_of (series_in id (b ∷ bs)) a u ≡ merged_samples (window_of (samples_in id b) a u) (window_of (series_in id bs) a u)
  both = sym (merged_filter (is_within a u) (samples_in id b) (series_in id bs) r)

  -- where the first has none
  none_first : window_of (samples_in id b) a u ≡ [] → window_of (series_in id bs) a u ≡ window_of (series_in id (b ∷ bs)) a u
  none_first e = sym (both ∙ ap (λ l. merged_samples l (window_of (series_in id bs) a u)) e)

  -- where those behind it have none
  none_behind : window_of (series_in id bs) a u ≡ [] → window_of (series_in id (b ∷ bs)) a u ≡ window_of (samples_in id b) a u
  none_behind e = both ∙ ap (merged_samples (window_of (samples_in id b) a u)) e ∙ merged_none (window_of (samples_in id b) a u)

-- ---- a walk over blocks

-- what was found is the whole if nothing is left, and where nothing was found, all is left
pub record IsAllBefore (found left whole : List Sample) : Type 0 where
  pub all : left ≡ [] → whole ≡ found
  pub none : found ≡ [] → left ≡ whole

module _ (id : ℕ) (a u : ℤ) (bs : List Entries) (n : ℕ) (b : Entries) (ws whole : List Sample) (l : n < length bs) (is : b ≡ get_or bs n []) (w : ws ≡ window_of (samples_in id b) a u) (r : rises (series_in id bs) ≡ true) where
  split : drop n bs ≡ b ∷ drop (n + 1) bs
  split =
      let e : suc n ≡ n + 1 = omega arith in
      drop_at n bs [] l ∙ ap (λ x. x ∷ drop (suc n) bs) (sym is) ∙ ap (λ k. b ∷ drop k bs) e

  here : window_of (series_in id (drop n bs)) a u ≡ window_of (series_in id (b ∷ drop (n + 1) bs)) a u
  here = ap (λ cs. window_of (series_in id cs) a u) split

  rises_here : rises (series_in id (b ∷ drop (n + 1) bs)) ≡ true
  rises_here = ap (λ cs. rises (series_in id cs)) (sym split) ∙ drop_rises id n bs r

  pub passed : (found : List Sample) → ws ≡ [] → IsAllBefore found (window_of (series_in id (drop n bs)) a u) whole → IsAllBefore found (window_of (series_in id (drop (n + 1) bs)) a u) whole
  passed found e h =
      let f = none_first id a u b (drop (n + 1) bs) rises_here (sym w ∙ e) ∙ sym here in
      record {
        all = λ z. h.all (sym f ∙ z);
        none = λ z. f ∙ h.none z;
      }

  pub first : (found : List Sample) → found ≡ [] → IsAllBefore found (window_of (series_in id (drop n bs)) a u) whole → IsAllBefore ws (window_of (series_in id (drop (n + 1) bs)) a u) whole
  first found e h = record {
    all = λ z. sym (h.none e) ∙ here ∙ none_behind id a u b (drop (n + 1) bs) rises_here z ∙ sym w;
    none = λ z. none_first id a u b (drop (n + 1) bs) rises_here (sym w ∙ z) ∙ sym here ∙ h.none e;
  }

-- ---- what is lent

pub lent_rises : (ws xs : List Sample) (a u : ℤ) → ws ≡ window_of xs a u → rises xs ≡ true → rises ws ≡ true
lent_rises ws xs a u is r = ap rises is ∙ window_rises a u xs r

-- no samples are read from no blocks
pub none_read : (joined : Bool) (id : ℕ) → read_in joined id [] ≡ []
none_read true id = refl
none_read false id = refl
