-- The tokens of a label set, and their text.
use Rattle.std.proofs.Common.{◌≡◌, ℕ, ◌+◌, ◌<◌, ◌≤◌, List, [], ◌∷◌, ◌++◌, length, get_or, take, true, false, refl, ap, sym, ◌∙◌, append_assoc}
use Rattle.std.proofs.lemmas.List.{take_all, take_more}
use Rattle.json.specs.Token.{Token, begin_object, end_object, key, string}
use Rattle.json.specs.Print.{print, print_from, quoted}
use Rattle.pf_base.specs.LabelSets.{Pairs}
use Rattle.pf_model.specs.Json.{labels_text, pair_text}
use Rattle.pf_model.specs.Lists.{comma_before, comma_joined}

abbrev pub tokens_of : Pairs → List Token
tokens_of [] = []
tokens_of (p ∷ ps) = key p.0 ∷ (string p.1 ∷ tokens_of ps)

pub tokens_append : (ps qs : Pairs) → tokens_of (ps ++ qs) ≡ tokens_of ps ++ tokens_of qs
tokens_append [] qs = refl
tokens_append (p ∷ ps) qs = ap (λ ts. key p.0 ∷ (string p.1 ∷ ts)) (tokens_append ps qs)

pub tokens_more : (ps : Pairs) (i : ℕ) → i < length ps
    → tokens_of (take (i + 1) ps)
    ≡ (tokens_of (take i ps) ++ key ((get_or ps i ([], [])).0) ∷ []) ++ string ((get_or ps i ([], [])).1) ∷ []
tokens_more ps i h =
    ap tokens_of (take_more ps i ([], []) h) ∙ tokens_append (take i ps) (get_or ps i ([], []) ∷ [])
    ∙ sym (append_assoc (tokens_of (take i ps)) (key ((get_or ps i ([], [])).0) ∷ []) (string ((get_or ps i ([], [])).1) ∷ []))

pair_piece : (n v rest : List ℕ) → (quoted n ++ 58 ∷ []) ++ ([] ++ (quoted v ++ rest)) ≡ pair_text (n, v) ++ rest
pair_piece n v rest =
    append_assoc (quoted n) (58 ∷ []) (quoted v ++ rest) ∙ sym (append_assoc (quoted n) (58 ∷ quoted v) rest)

text_after : (ps : Pairs) → print_from true (tokens_of ps ++ end_object ∷ []) ≡ comma_before pair_text ps ++ 125 ∷ []
unfolding print_from
text_after [] = refl
text_after (p ∷ ps) =
    ap (λ t. 44 ∷ t)
    (pair_piece p.0 p.1 (print_from true (tokens_of ps ++ end_object ∷ []))
    ∙ ap (λ t. pair_text (p.0, p.1) ++ t) (text_after ps)
    ∙ sym (append_assoc (pair_text (p.0, p.1)) (comma_before pair_text ps) (125 ∷ [])))

text_first : (ps : Pairs) → print_from false (tokens_of ps ++ end_object ∷ []) ≡ comma_joined pair_text ps ++ 125 ∷ []
unfolding print_from
text_first [] = refl
text_first (p ∷ ps) =
    pair_piece p.0 p.1 (print_from true (tokens_of ps ++ end_object ∷ []))
    ∙ ap (λ t. pair_text (p.0, p.1) ++ t) (text_after ps)
    ∙ sym (append_assoc (pair_text (p.0, p.1)) (comma_before pair_text ps) (125 ∷ []))

pub labels_print : (ps : Pairs) → print ((begin_object ∷ tokens_of ps) ++ end_object ∷ []) ≡ labels_text ps
unfolding print_from
labels_print ps = ap (λ t. 123 ∷ t) (text_first ps)

-- a step of the loop over the pairs
pub pair_step : (ps : Pairs) (i : ℕ) (n v : List ℕ) (t t' t'' : List Token) → i < length ps → n ≡ (get_or ps i ([], [])).0
    → v ≡ (get_or ps i ([], [])).1 → t ≡ begin_object ∷ tokens_of (take i ps) → t' ≡ t ++ key n ∷ []
    → t'' ≡ t' ++ string v ∷ [] → t'' ≡ begin_object ∷ tokens_of (take (i + 1) ps)
pair_step ps i n v t t' t'' h en ev inv p q =
    q ∙ ap (λ l. l ++ string v ∷ []) (p ∙ ap (λ l. l ++ key n ∷ []) inv)
    ∙ ap (λ m. ((begin_object ∷ tokens_of (take i ps)) ++ key m ∷ []) ++ string v ∷ []) en
    ∙ ap (λ m. ((begin_object ∷ tokens_of (take i ps)) ++ key ((get_or ps i ([], [])).0) ∷ []) ++ string m ∷ []) ev
    ∙ ap (λ l. begin_object ∷ l) (sym (tokens_more ps i h))

-- what the writer leaves
pub labels_written : (ps : Pairs) (i : ℕ) (b b' items : List ℕ) (t t' : List Token) → length ps ≤ i → b ≡ [] → b' ≡ b
    → t ≡ begin_object ∷ tokens_of (take i ps) → t' ≡ t ++ end_object ∷ [] → items ≡ b' ++ print t'
    → items ≡ labels_text ps
labels_written ps i b b' items t t' h eb eb' et et' e =
    e ∙ ap (λ l. l ++ print t') (eb' ∙ eb)
    ∙ ap print (et' ∙ ap (λ l. l ++ end_object ∷ []) (et ∙ ap (λ l. begin_object ∷ tokens_of l) (take_all i ps h)))
    ∙ labels_print ps
