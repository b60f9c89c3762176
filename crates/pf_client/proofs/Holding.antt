-- One reading of each file that gave what is told and what was read.
use Rattle.std.proofs.Common.{◌≡◌, ℕ, zero, suc, ◌<◌, cond, Option, Some, None, List, [], ◌∷◌, length, refl, sym, ap, arith, subst, inl, inr}
use Rattle.std.specs.Option.{option_map}
use Rattle.std.specs.BTreeMap.{get_by_text}
use Rattle.std.specs.Str.{bytes_eq}
use Rattle.std.proofs.lemmas.Slice.Eq.{bytes_eq-Decides}
use Rattle.pf_io.specs.Outside.{Holds}
use Rattle.pf_journal.specs.Scripts.{most_bytes}
use Rattle.pf_client.specs.Replays.{Agree, Held}
use Rattle.pf_client.specs.Files.{AreHeld, AreTold, Contents, HoldsContent, TellsContent}
use Rattle.pf_client.specs.declared.loaded.Content.{Content}
use Rattle.pf_client.specs.declared.loaded.Content.TheVariants.{Bytes, TooLong}
use Rattle.pf_client.specs.declared.loaded.ReadFile.{ReadFile}
use Rattle.pf_client.proofs.Lists.{some_is}
use Rattle.pf_client.proofs.Cases.{bool_cases}

-- some bytes are longer than a length
longer : (n : ℕ) → (bytes : List ℕ) × (n < length bytes)
longer zero = (0 ∷ [], omega arith)
longer (suc n) = let l = longer n in (0 ∷ l.0, let p = l.1 in omega (arith, p))

-- what was read; or what is told; or anything
abbrev held_at : Option Content → Option (List ℕ) → List ℕ
held_at (Some (Bytes bytes)) told = bytes.items
held_at (Some TooLong) (Some there) = there
held_at (Some TooLong) None = (longer most_bytes).0
held_at None (Some there) = there
held_at None None = []

agree_at : (read : Option Content) (told : Option (List ℕ)) → ((c : Content) → read ≡ Some c → TellsContent told c) → Holds told (held_at read told)
agree_at (Some (Bytes bytes)) told h = (h (Bytes bytes) refl).0
agree_at (Some TooLong) (Some there) h = refl
agree_at (Some TooLong) None h = tt
agree_at None (Some there) h = refl
agree_at None None h = tt

same_at : (read : Option Content) (told : Option (List ℕ)) → ((c : Content) → read ≡ Some c → TellsContent told c)
    → (c : Content) → read ≡ Some c → HoldsContent (held_at read told) c
same_at (Some (Bytes bytes)) told h c e = subst (HoldsContent bytes.items) (some_is (Bytes bytes) c e) (refl, (h (Bytes bytes) refl).1)
same_at (Some TooLong) (Some there) h c e = subst (HoldsContent there) (some_is TooLong c e) (h TooLong refl)
same_at (Some TooLong) None h c e = subst (HoldsContent (longer most_bytes).0) (some_is TooLong c e) (longer most_bytes).1
same_at None told h c e = cc

-- of what is kept
abbrev content_of : Option ReadFile → Option Content
content_of = option_map (λ (f : ReadFile). f.content)

of_content : (P : Content → Type 0) (o : Option ReadFile) → ((f : ReadFile) → o ≡ Some f → P f.content) → (c : Content) → content_of o ≡ Some c → P c
of_content P None h c e = cc
of_content P (Some f) h c e = subst P (some_is f.content c e) (h f refl)

pub holding : (told : List ℕ → Option (List ℕ)) (kept : Contents) → AreTold told kept → (held : Held) × (Agree told held × AreHeld held kept)
holding told kept h = (
  λ name. held_at (content_of (get_by_text kept name)) (told name),
  (
    λ name. agree_at (content_of (get_by_text kept name)) (told name) (of_content (TellsContent (told name)) (get_by_text kept name) (h name)),
    λ name file e. same_at (content_of (get_by_text kept name)) (told name) (of_content (TellsContent (told name)) (get_by_text kept name) (h name)) file.content (ap content_of e),
  ),
)

-- of one file
pub holding_one : (told : Option (List ℕ)) (content : Content) → TellsContent told content → (bytes : List ℕ) × (Holds told bytes × HoldsContent bytes content)
holding_one told content h =
    let all : (c : Content) → Some content ≡ Some c → TellsContent told c = λ c e. subst (TellsContent told) (some_is content c e) h in
    (held_at (Some content) told, (agree_at (Some content) told all, same_at (Some content) told all content refl))

-- of no file
pub holding_none : (told : List ℕ → Option (List ℕ)) → (held : Held) × Agree told held
holding_none told = (λ name. held_at None (told name), λ name. agree_at None (told name) (λ c e. cc))

-- of a file with these bytes
pub holding_bytes : (told : List ℕ → Option (List ℕ)) (name bytes : List ℕ) → Holds (told name) bytes → (held : Held) × (Agree told held × (held name ≡ bytes))
holding_bytes told name bytes h = (
  λ n. cond (bytes_eq n name) bytes (held_at None (told n)),
  (
    λ n. elim (bool_cases (bytes_eq n name)) [
      | inl t ↦
          let same : n ≡ name = (bytes_eq-Decides n name).0 t in
          rw t (subst (λ (m : List ℕ). Holds (told m) bytes) (sym same) h)
      | inr t ↦ rw t (agree_at None (told n) (λ c e. cc))
    ],
    (let t = (bytes_eq-Decides name name).1 refl in rw t refl),
  ),
)
