-- The tokens of the body of an error, and their text.
use Rattle.std.proofs.Common.{◌≡◌, ℕ, List, [], ◌∷◌, ◌++◌, codes, refl, ap, ◌∙◌, append_assoc}
use Rattle.json.specs.Token.{Token, begin_object, end_object, key, string}
use Rattle.json.specs.Print.{print, print_from, escape_byte}
use Rattle.pf_model.specs.Json.{error_text}
use Rattle.pf_report.specs.ErrorTokens.{error_members}

-- members one after another
pub members_after : (a b c d : List Token) (k m : List ℕ)
    → b ≡ a ++ key (codes "status") ∷ (string (codes "error") ∷ [])
    → c ≡ b ++ key (codes "errorType") ∷ (string k ∷ [])
    → d ≡ c ++ key (codes "error") ∷ (string m ∷ [])
    → d ≡ a ++ error_members k m
members_after a b c d k m p q r =
    r ∙ ap (λ l. l ++ key (codes "error") ∷ (string m ∷ [])) (q ∙ ap (λ l. l ++ key (codes "errorType") ∷ (string k ∷ [])) p)
    ∙ append_assoc (a ++ key (codes "status") ∷ (string (codes "error") ∷ [])) (key (codes "errorType") ∷ (string k ∷ [])) (key (codes "error") ∷ (string m ∷ []))
    ∙ append_assoc a (key (codes "status") ∷ (string (codes "error") ∷ [])) (key (codes "errorType") ∷ (string k ∷ (key (codes "error") ∷ (string m ∷ []))))

pub error_print : (k m : List ℕ) → print ((begin_object ∷ error_members k m) ++ end_object ∷ []) ≡ error_text k m
unfolding print_from escape_byte
error_print k m = refl

-- what the writer leaves
pub error_written : (a b c d items : List ℕ) (s t u v : List Token) (k m : List ℕ) → a ≡ [] → s ≡ []
    → b ≡ a → c ≡ b → d ≡ c → t ≡ s ++ begin_object ∷ [] → u ≡ t ++ error_members k m → v ≡ u ++ end_object ∷ []
    → items ≡ d ++ print v → items ≡ error_text k m
error_written a b c d items s t u v k m ea es eb ec ed et eu ev e =
    e ∙ ap (λ l. l ++ print v) (ed ∙ ec ∙ eb ∙ ea)
    ∙ ap print (ev ∙ ap (λ l. l ++ end_object ∷ []) (eu ∙ ap (λ l. l ++ error_members k m) (et ∙ ap (λ l. l ++ begin_object ∷ []) es)))
    ∙ error_print k m
