-- Files that are let go.
use Rattle.std.proofs.Common.{◌≡◌, ℕ, ◌<◌, Bool, true, false, cond, nat_lt, Some, None, Option, List, refl, sym, ap, ◌∙◌, subst, arith, inl, inr}
use Rattle.std.specs.BTreeMap.{UpdatesBy, get_by_text}
use Rattle.std.specs.Cmp.Lexicographic.{slice_cmp}
use Rattle.std.specs.Ordering.{nat_cmp}
use Rattle.std.specs.Str.{bytes_eq}
use Rattle.std.specs.String.{string_bytes, string_cmp}
use Rattle.std.proofs.lemmas.Bool.Decides.{nat_tests}
use Rattle.std.proofs.lemmas.Map.Text.{btree_map_updates_text}
use Rattle.std.proofs.lemmas.Slice.Eq.{bytes_eq-Decides}
use Rattle.pf_client.specs.Replays.{Held}
use Rattle.pf_client.specs.Files.{AreHeld, Contents, HaveLast, IsKept, LetsGo, LetsGoOf, still_needed}
use Rattle.pf_journal.specs.Scripts.{Numbered}
use Rattle.pf_client.specs.declared.loaded.ReadFile.{ReadFile}
use Rattle.pf_client.proofs.Cases.{bool_cases}

-- ---- what lets a file go

above : (number last : ℕ) → number < last → nat_lt number last ≡ true
above number last h = grind (arith, nat_tests, h)

not_above : (number last : ℕ) → (number < last → ⊥) → nat_lt number last ≡ false
not_above number last h = elim (bool_cases (nat_lt number last)) [
  | inl t ↦ absurd (h (grind (arith, nat_tests, t)))
  | inr f ↦ f
]

goes_by : (old new : Contents) (name : List ℕ) (number : ℕ) (found : Option ReadFile) → get_by_text old name ≡ found
    → ((other : List ℕ) → get_by_text new other ≡ cond (bytes_eq name other) (still_needed number found) (get_by_text old other)) → LetsGo old name number new
goes_by old new name number found is h other = elim (bool_cases (bytes_eq name other)) [
  | inl t ↦
      let same : name ≡ other = (bytes_eq-Decides name other).0 t in
      let here : get_by_text old other ≡ found = subst (λ n. get_by_text old n ≡ found) same is in
      h other ∙ ap (λ (o : Option ReadFile). cond (bytes_eq name other) (still_needed number o) (get_by_text old other)) (sym here)
  | inr f ↦ let g = h other in rw f (let g2 = rw f at g in g2)
]

-- the file is removed
pub goes : (old : Contents) (name : List ℕ) (number : ℕ) (new : Contents) (file : ReadFile) → get_by_text old name ≡ Some file → (number < file.last → ⊥)
    → UpdatesBy string_cmp (λ k. slice_cmp nat_cmp name (string_bytes k)) old new None → LetsGo old name number new
goes old name number new file there done up =
    goes_by old new name number (Some file) there (λ other. rw (not_above number file.last done) (btree_map_updates_text name old new None up other))

-- ---- what is left

left_of : (number : ℕ) (o : Option ReadFile) (file : ReadFile) → still_needed number o ≡ Some file → o ≡ Some file
left_of number None file h = cc
left_of number (Some f) file h = by (nat_lt number f.last) h where
  by : (b : Bool) → cond b (Some f) None ≡ Some file → Some f ≡ Some file
  by true g = g
  by false g = cc

-- what is left was kept
pub left_kept : (old : Contents) (name : List ℕ) (number : ℕ) (new : Contents) → LetsGo old name number new
    → (other : List ℕ) (file : ReadFile) → get_by_text new other ≡ Some file → get_by_text old other ≡ Some file
left_kept old name number new go other file g = by (bytes_eq name other) (sym (go other) ∙ g) where
  by : (b : Bool) → cond b (still_needed number (get_by_text old other)) (get_by_text old other) ≡ Some file → get_by_text old other ≡ Some file
  by true h = left_of number (get_by_text old other) file h
  by false h = h

-- and what a line behind names is left
pub left_needed : (old : Contents) (name : List ℕ) (number : ℕ) (new : Contents) → LetsGo old name number new
    → (other : List ℕ) (file : ReadFile) → get_by_text old other ≡ Some file → number < file.last → get_by_text new other ≡ Some file
left_needed old name number new go other file g needed = go other ∙ by (bytes_eq name other) where
  still : still_needed number (get_by_text old other) ≡ Some file
  still = ap (still_needed number) g ∙ rw (above number file.last needed) refl

  by : (b : Bool) → cond b (still_needed number (get_by_text old other)) (get_by_text old other) ≡ Some file
  by true = still
  by false = g

-- the same of the file that a line names
pub part_kept : (old : Contents) (named : Option (List ℕ)) (number : ℕ) (new : Contents) → LetsGoOf old named number new
    → (other : List ℕ) (file : ReadFile) → get_by_text new other ≡ Some file → get_by_text old other ≡ Some file
part_kept old None number new go other file g = subst (λ (m : Contents). get_by_text m other ≡ Some file) go g
part_kept old (Some name) number new go other file g = left_kept old name number new go other file g

pub part_needed : (old : Contents) (named : Option (List ℕ)) (number : ℕ) (new : Contents) → LetsGoOf old named number new
    → (other : List ℕ) (file : ReadFile) → get_by_text old other ≡ Some file → number < file.last → get_by_text new other ≡ Some file
part_needed old None number new go other file g needed = subst (λ (m : Contents). get_by_text m other ≡ Some file) (sym go) g
part_needed old (Some name) number new go other file g needed = left_needed old name number new go other file g needed

-- ---- of a script

-- what is left of files is held, and no line behind the last names one
pub left_held : (held : Held) (old : Contents) (name : List ℕ) (number : ℕ) (new : Contents) → LetsGo old name number new → AreHeld held old → AreHeld held new
left_held held old name number new go are other file g = are other file (left_kept old name number new go other file g)

pub left_last : (lines : List Numbered) (old : Contents) (name : List ℕ) (number : ℕ) (new : Contents) → LetsGo old name number new → HaveLast lines old → HaveLast lines new
left_last lines old name number new go lasts other file g = lasts other file (left_kept old name number new go other file g)

pub left_there : (old : Contents) (named : Option (List ℕ)) (number : ℕ) (new : Contents) → LetsGoOf old named number new
    → (other : List ℕ) (kept : IsKept old other) → number < kept.file.last → IsKept new other
left_there old named number new go other kept needed =
    record { file = kept.file; there = part_needed old named number new go other kept.file kept.there needed; short = kept.short }
