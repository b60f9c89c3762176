-- What is written of a text, piece by piece.
use Rattle.std.proofs.Common.{◌≡◌, ℕ, suc, ◌+◌, ◌<◌, ◌≤◌, Option, Some, None, List, [], ◌∷◌, ◌++◌, length, take, drop, get_or, map, refl, sym, ap, ◌∙◌, subst, append-nil, append_assoc, add-one, drop-cons}
use Rattle.std.proofs.Math.Seq.{take-append_seam}
use Rattle.std.proofs.lemmas.List.{take-append-drop}
use Rattle.pf_io.proofs.Growing.{grows_more}
use Rattle.pf_io.specs.Outside.{Grows}
use Rattle.pf_core.specs.Entries.{entry_of}
use Rattle.pf_core.specs.declared.entry.Entry as code
use Rattle.pf_journal.specs.Report.{entries_from, entry_text}
use Rattle.pf_client.specs.Sent.{WritesFront, WritesTo}

-- ---- what is left

pub grows_none : (told : Option (List ℕ)) → Grows told told []
grows_none None = tt
grows_none (Some bytes) = ap Some (sym (append-nil bytes))

-- nothing was written
pub writes_none : (told : Option (List ℕ)) (text : List ℕ) → WritesTo told told text text
writes_none told text = record { sent = []; grown = grows_none told; whole = refl }

-- these bytes were written
pub writes_sent : (old new : Option (List ℕ)) (sent left : List ℕ) → Grows old new sent → WritesTo old new (sent ++ left) left
writes_sent old new sent left grown = record { sent = sent; grown = grown; whole = refl }

pub writes_all : (old new : Option (List ℕ)) (text : List ℕ) → Grows old new text → WritesTo old new text []
writes_all old new text grown = record { sent = text; grown = grown; whole = sym (append-nil text) }

pub all_written : (old new : Option (List ℕ)) (text : List ℕ) → WritesTo old new text [] → Grows old new text
all_written old new text w = subst (Grows old new) (sym (w.whole ∙ append-nil w.sent)) w.grown

-- a front of these bytes was written
pub writes_front : (old new : Option (List ℕ)) (text : List ℕ) → (n : ℕ) × (n ≤ length text) × Grows old new (take n text) → WritesFront old new text
writes_front old new text f = (drop f.0 text, record { sent = take f.0 text; grown = f.2; whole = sym (take-append-drop f.0 text) })

-- of what is left more was written
pub writes_then : (a b c : Option (List ℕ)) (text held left : List ℕ) → WritesTo a b text held → WritesTo b c held left → WritesTo a c text left
writes_then a b c text held left p q = record {
  sent = p.sent ++ q.sent;
  grown = grows_more a b c p.sent q.sent p.grown q.grown;
  whole = p.whole ∙ (ap (λ (bytes : List ℕ). p.sent ++ bytes) q.whole ∙ sym (append_assoc p.sent q.sent left));
}

-- and more is left behind it
pub writes_beside : (old new : Option (List ℕ)) (held left rest : List ℕ) → WritesTo old new held left → WritesTo old new (held ++ rest) (left ++ rest)
writes_beside old new held left rest w = record {
  sent = w.sent;
  grown = w.grown;
  whole = ap (λ (bytes : List ℕ). bytes ++ rest) w.whole ∙ append_assoc w.sent left rest;
}

pub writes_on : (a b c : Option (List ℕ)) (text held left rest : List ℕ) → WritesTo a b text (held ++ rest) → WritesTo b c held left → WritesTo a c text (left ++ rest)
writes_on a b c text held left rest p q = writes_then a b c text (held ++ rest) (left ++ rest) p (writes_beside b c held left rest q)

pub part_written : (old new : Option (List ℕ)) (text left : List ℕ) → WritesTo old new text left → (n : ℕ) × Grows old new (take n text)
part_written old new text left w =
    (length w.sent, subst (Grows old new) (sym (ap (take (length w.sent)) w.whole ∙ take-append_seam w.sent left)) w.grown)

-- a front of a text is one of a longer text
pub part_of : (old new : Option (List ℕ)) (front rest left : List ℕ) → WritesTo old new front left → (n : ℕ) × Grows old new (take n (front ++ rest))
part_of old new front rest left w = part_written old new (front ++ rest) (left ++ rest) (writes_beside old new front left rest w)

-- ---- the journal's entries

-- an entry's line was added, and of what was held then a front was written
pub entry_written : (a b c : Option (List ℕ)) (text : List ℕ) (names : List (List ℕ)) (place : ℕ) (entries : List code.Entry) (i : ℕ) (entry : code.Entry) (held more left : List ℕ)
    → i < length entries → entry ≡ get_or entries i entry
    → WritesTo a b text (held ++ entries_from names place (map entry_of (drop i entries)))
    → more ≡ held ++ entry_text names place (entry_of entry) → WritesTo b c more left
    → WritesTo a c text (left ++ entries_from names (place + 1) (map entry_of (drop (i + 1) entries)))
entry_written a b c text names place entries i entry held more left inside is so_far added on =
    let rest = entries_from names (place + 1) (map entry_of (drop (i + 1) entries)) in
    let next : drop i entries ≡ entry ∷ drop (i + 1) entries =
    drop-cons entries i entry inside ∙ (ap (λ (e : code.Entry). e ∷ drop (suc i) entries) (sym is) ∙ ap (λ (j : ℕ). entry ∷ drop j entries) (sym (add-one i))) in
    let split : held ++ entries_from names place (map entry_of (drop i entries)) ≡ more ++ rest =
    ap (λ (es : List code.Entry). held ++ entries_from names place (map entry_of es)) next
    ∙ (sym (append_assoc held (entry_text names place (entry_of entry)) rest) ∙ ap (λ (bytes : List ℕ). bytes ++ rest) (sym added)) in
    writes_on a b c text more left rest (subst (WritesTo a b text) split so_far) on
