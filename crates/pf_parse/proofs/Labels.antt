-- Labels and matchers with commas between them are read.
use Rattle.std.proofs.Common.{◌≡◌, ◌∙◌, sym, refl, ap, subst, ℕ, Bool, true, false, not, ◌&&◌, List, [], ◌∷◌, ◌++◌, map, Some, codes}
use Rattle.std.proofs.lemmas.List.{append_assoc, append-nil}
use Rattle.pf_lex.specs.declared.token.Mark.TheVariants as mark
use Rattle.pf_model.specs.Grammar.{Terminal, Labels, labels_terminals, listed, commas_before, comma_if, label, has_colon, IsCommaLawful}
use Rattle.pf_model.specs.Grammar as grammar
use Rattle.pf_model.specs.Tokens as token
use Rattle.pf_parse.specs.Lexemes.{Lexeme}
use Rattle.pf_parse.specs.Reading.{Frame, State, step, Purpose, labels, labelled, labels_read, to_if}
use Rattle.pf_parse.proofs.Goes.{Goes, Fit, on, one, then, by_mark}
use Rattle.pf_parse.proofs.Seen.{Word, at_label}

abbrev pub label_texts : List (List ℕ) → List (List Terminal)
label_texts ns = map (λ n. label n ∷ []) ns

abbrev close : List Terminal → List Terminal
close zs = grammar.sign (codes ")") ∷ zs

pub labels_onto : (l : Labels) (zs : List Terminal)
    → labels_terminals l ++ zs ≡ grammar.sign (codes "(") ∷ (listed (label_texts l.labels) ++ (comma_if l.comma ++ close zs))
labels_onto l zs =
    ap (λ xs. grammar.sign (codes "(") ∷ xs)
    (append_assoc (listed (label_texts l.labels)) (comma_if l.comma ++ (grammar.sign (codes ")") ∷ [])) zs
    ∙ ap (λ xs. listed (label_texts l.labels) ++ xs) (append_assoc (comma_if l.comma) (grammar.sign (codes ")") ∷ []) zs))

to_label : (p : Purpose) (ls : List (List ℕ)) (k : List Frame) (n : List ℕ) (x : Lexeme)
    → Word n x × (has_colon n ≡ false) → step (labels p ls) k x ≡ Some (on (labelled p (ls ++ (n ∷ []))) k)
to_label p ls k n x w =
    ap (step (labels p ls) k) w.0.is ∙ ap (λ b. to_if (not b) (labelled p (ls ++ (n ∷ []))) k) w.1

-- a label leads on
by_label : (p : Purpose) (ls : List (List ℕ)) (k : List Frame) (n : List ℕ) (zs : List Terminal) (us : List token.Sort)
    → Fit (label n ∷ zs) us → Goes (on (labels p ls) k) (on (labelled p (ls ++ (n ∷ []))) k) zs us
by_label p ls k n zs us h =
    one (on (labels p ls) k) (on (labelled p (ls ++ (n ∷ []))) k) (label n) zs us
    (λ u f. to_label p ls k n _ (at_label n u f)) h

no_comma : (c : Bool) → (c && true) ≡ false → c ≡ false
no_comma false h = refl
no_comma true h = h

ends_labels : (p : Purpose) (ls : List (List ℕ)) (k : List Frame) (c : Bool) (zs : List Terminal) (us : List token.Sort)
    → Fit (comma_if c ++ close zs) us → Goes (on (labelled p ls) k) (labels_read p ls k) zs us
ends_labels p ls k false zs us h = by_mark mark.Close (on (labelled p ls) k) (labels_read p ls k) zs us refl h
ends_labels p ls k true zs us h =
    then (by_mark mark.Comma (on (labelled p ls) k) (on (labels p ls) k) (close zs) us refl h)
    (λ vs f. by_mark mark.Close (on (labels p ls) k) (labels_read p ls k) zs vs refl f)

abbrev read_all : Purpose → List (List ℕ) → List Frame → State
read_all p ls k = labels_read p ls k

more_labels : (p : Purpose) (ls ns : List (List ℕ)) (k : List Frame) (c : Bool) (zs : List Terminal) (us : List token.Sort)
    → Fit (commas_before (label_texts ns) ++ (comma_if c ++ close zs)) us
    → Goes (on (labelled p ls) k) (labels_read p (ls ++ ns) k) zs us
more_labels p ls [] k c zs us h =
    subst (λ xs. Goes (on (labelled p ls) k) (labels_read p xs k) zs us) (sym (append-nil ls))
    (ends_labels p ls k c zs us h)
more_labels p ls (n ∷ ns) k c zs us h =
    subst (λ xs. Goes (on (labelled p ls) k) (labels_read p xs k) zs us) (append_assoc ls (n ∷ []) ns)
    (then (by_mark mark.Comma (on (labelled p ls) k) (on (labels p ls) k) _ us refl h)
    (λ vs f. then (by_label p ls k n _ vs f) (λ ws g. more_labels p (ls ++ (n ∷ [])) ns k c zs ws g)))

-- labels behind their bracket
pub all_labels : (p : Purpose) (k : List Frame) (ns : List (List ℕ)) (c : Bool) (zs : List Terminal) (us : List token.Sort)
    → IsCommaLawful ns c → Fit (listed (label_texts ns) ++ (comma_if c ++ close zs)) us
    → Goes (on (labels p []) k) (labels_read p ns k) zs us
all_labels p k [] c zs us l h =
    by_mark mark.Close (on (labels p []) k) (labels_read p [] k) zs us refl
    (subst (λ b. Fit (comma_if b ++ close zs) us) (no_comma c l) h)
all_labels p k (n ∷ ns) c zs us l h =
    then (by_label p [] k n _ us h) (λ vs f. more_labels p (n ∷ []) ns k c zs vs f)
