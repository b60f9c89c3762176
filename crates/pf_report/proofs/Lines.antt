-- Lines, word by word.
use Rattle.std.proofs.Common.{◌≡◌, ℕ, ◌+◌, ◌<◌, List, [], ◌∷◌, ◌++◌, length, get_or, drop, map, refl, ap, sym, ◌∙◌, append_assoc, append-nil, arith}
use Rattle.std.proofs.lemmas.List.{drop_more}
use Rattle.pf_journal.specs.Replies.{line_text}
use Rattle.pf_report.specs.Words.{words_behind, words_joined}

line_behind : (w : List ℕ) (ws : List (List ℕ)) → line_text (w ∷ ws) ≡ (w ++ words_behind ws) ++ 10 ∷ []
line_behind w [] = sym (append_assoc w [] (10 ∷ []))
line_behind w (v ∷ ws) =
    ap (λ t. w ++ 32 ∷ t) (line_behind v ws) ∙ sym (append_assoc w (32 ∷ (v ++ words_behind ws)) (10 ∷ []))

line_is : (ws : List (List ℕ)) → line_text ws ≡ words_joined ws ++ 10 ∷ []
line_is [] = refl
line_is (w ∷ ws) = line_behind w ws

pub line_after : (a b c : List ℕ) (ws : List (List ℕ)) → b ≡ a ++ words_joined ws → c ≡ b ++ 10 ∷ [] → c ≡ a ++ line_text ws
line_after a b c ws p q =
    q ∙ ap (λ l. l ++ 10 ∷ []) p ∙ append_assoc a (words_joined ws) (10 ∷ []) ∙ ap (λ l. a ++ l) (sym (line_is ws))

behind_both : (hs ws : List (List ℕ)) → words_behind (hs ++ ws) ≡ words_behind hs ++ words_behind ws
behind_both [] ws = refl
behind_both (h ∷ hs) ws =
    ap (λ t. 32 ∷ (h ++ t)) (behind_both hs ws)
    ∙ ap (λ t. 32 ∷ t) (sym (append_assoc h (words_behind hs) (words_behind ws)))

joined_both : {X : Type 0} (f : X → List ℕ) (xs : List X) (ws : List (List ℕ)) → 0 < length xs
    → words_joined (map f xs ++ ws) ≡ words_joined (map f xs) ++ words_behind ws
joined_both f [] ws h = absurd (omega arith)
joined_both f (x ∷ xs) ws _ =
    ap (λ t. f x ++ t) (behind_both (map f xs) ws) ∙ sym (append_assoc (f x) (words_behind (map f xs)) (words_behind ws))

-- a line whose first words and further words are written one after another
pub line_after_both : {X : Type 0} (f : X → List ℕ) (xs ys : List X) (a b c d : List ℕ) → 0 < length xs
    → b ≡ a ++ words_joined (map f xs) → c ≡ b ++ words_behind (map f ys) → d ≡ c ++ 10 ∷ []
    → d ≡ a ++ line_text (map f xs ++ map f ys)
line_after_both f xs ys a b c d h p q r =
    line_after a c d (map f xs ++ map f ys)
    (q ∙ ap (λ l. l ++ words_behind (map f ys)) p ∙ append_assoc a (words_joined (map f xs)) (words_behind (map f ys))
    ∙ ap (λ l. a ++ l) (sym (joined_both f xs (map f ys) h)))
    r

-- a line whose last word is written behind the others
pub line_with_last : {X : Type 0} (f : X → List ℕ) (xs : List X) (a b c d w : List ℕ) → 0 < length xs
    → b ≡ a ++ words_joined (map f xs) → c ≡ b ++ 32 ∷ w → d ≡ c ++ 10 ∷ [] → d ≡ a ++ line_text (map f xs ++ w ∷ [])
line_with_last f xs a b c d w h p q r =
    line_after a c d (map f xs ++ w ∷ [])
    (q ∙ ap (λ l. l ++ 32 ∷ w) p ∙ append_assoc a (words_joined (map f xs)) (32 ∷ w)
    ∙ ap (λ l. a ++ (words_joined (map f xs) ++ 32 ∷ l)) (sym (append-nil w))
    ∙ ap (λ l. a ++ l) (sym (joined_both f xs (w ∷ []) h)))
    r

-- one more word behind a blank
pub blank_step : {X : Type 0} (f : X → List ℕ) (xs : List X) (i : ℕ) (d : X) (a c z : List ℕ) → i < length xs
    → c ≡ a ++ 32 ∷ f (get_or xs i d) → a ++ words_behind (map f (drop i xs)) ≡ z
    → c ++ words_behind (map f (drop (i + 1) xs)) ≡ z
blank_step f xs i d a c z h p inv =
    ap (λ l. l ++ words_behind (map f (drop (i + 1) xs))) p
    ∙ append_assoc a (32 ∷ f (get_or xs i d)) (words_behind (map f (drop (i + 1) xs)))
    ∙ ap (λ l. a ++ words_behind (map f l)) (sym (drop_more xs i d h)) ∙ inv
