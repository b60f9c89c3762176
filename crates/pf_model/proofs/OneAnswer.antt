-- A text has one list of tokens, and none where it has a bad token.
use Rattle.std.proofs.Common.{◌≡◌, ◌<◌, ◌∙◌, sym, subst, ℕ, List, [], ◌∷◌, drop, length, refl, ap, arith, Bool, false, Option, Some, None}
use Rattle.pf_model.specs.TokenScans.{AreNext, lawful, longest, token_at}
use Rattle.pf_model.specs.Tokens.{AreTokens, IsBadToken, Token, end_of, inside_after, inside_behind, next_at}
use Rattle.pf_model.proofs.ScannedTokens.{are_found, is_stop}

unwrapped : Token → Option Token → Token
unwrapped t None = t
unwrapped t (Some u) = u

abbrev count : Option Token → ℕ
count None = 0
count (Some t) = 1

same_token : (inside : Bool) (text : List ℕ) (at : ℕ) (t u : Token)
    → next_at text at ≡ t.from → token_at inside text t.from ≡ Some t
    → next_at text at ≡ u.from → token_at inside text u.from ≡ Some u → t ≡ u
unfolding unwrapped
same_token inside text at t u a h b k =
    ap (unwrapped t) (sym h ∙ (ap (token_at inside text) (sym a ∙ b) ∙ k))

all_dropped : (text : List ℕ) → drop (length text) text ≡ []
all_dropped [] = refl
all_dropped (b ∷ bs) = all_dropped bs

-- no token begins at the end
none_at_end : (inside : Bool) (text : List ℕ) → token_at inside text (length text) ≡ None
none_at_end inside text =
    ap (λ bs. lawful text (longest inside (length text) bs (length bs))) (all_dropped text)

ended : (inside : Bool) (text : List ℕ) (at : ℕ) (t : Token) → next_at text at ≡ length text
    → next_at text at ≡ t.from → token_at inside text t.from ≡ Some t → ⊥
ended inside text at t e a h =
    omega (arith, ap count (sym h ∙ (ap (token_at inside text) (sym a ∙ e) ∙ none_at_end inside text)))

one_list : (text : List ℕ) (inside : Bool) (at : ℕ) (ts us : List Token)
    → AreNext text inside at ts → next_at text (end_of at ts) ≡ length text
    → AreNext text inside at us → next_at text (end_of at us) ≡ length text → ts ≡ us
one_list text inside at [] [] h e k f = refl
one_list text inside at [] (u ∷ us) h e k f = absurd (ended inside text at u e k.0 k.1)
one_list text inside at (t ∷ ts) [] h e k f = absurd (ended inside text at t f h.0 h.1)
one_list text inside at (t ∷ ts) (u ∷ us) h e k f =
    let same : t ≡ u = same_token inside text at t u h.0 h.1 k.0 k.1 in
    let rest : AreNext text (inside_behind inside t.sort) t.to us =
    subst (λ x. AreNext text (inside_behind inside x.sort) x.to us) (sym same) k.2 in
    let end : next_at text (end_of t.to us) ≡ length text =
    subst (λ x. next_at text (end_of x.to us) ≡ length text) (sym same) f in
    ap (λ x. x ∷ ts) same ∙ ap (λ xs. u ∷ xs) (one_list text (inside_behind inside t.sort) t.to ts us h.2 e rest end)

pub tokens_are_one : (text : List ℕ) (ts us : List Token) → AreTokens text ts → AreTokens text us → ts ≡ us
tokens_are_one text ts us h k =
    let f = are_found h in
    let g = are_found k in
    one_list text false 0 ts us f.begins f.whole g.begins g.whole

not_bad : (text : List ℕ) (inside : Bool) (at place : ℕ) (ts bs : List Token)
    → AreNext text inside at ts → next_at text (end_of at ts) ≡ length text
    → AreNext text inside at bs → next_at text (end_of at bs) ≡ place → place < length text
    → token_at (inside_after inside bs) text place ≡ None → ⊥
not_bad text inside at place [] [] h e k f l n = omega (arith, e, f, l)
not_bad text inside at place (t ∷ ts) [] h e k f l n =
    omega (arith, ap count (sym h.1 ∙ (ap (token_at inside text) (sym h.0 ∙ f) ∙ n)))
not_bad text inside at place [] (b ∷ bs) h e k f l n = ended inside text at b e k.0 k.1
not_bad text inside at place (t ∷ ts) (b ∷ bs) h e k f l n =
    let same : t ≡ b = same_token inside text at t b h.0 h.1 k.0 k.1 in
    let rest : AreNext text (inside_behind inside b.sort) b.to ts =
    subst (λ x. AreNext text (inside_behind inside x.sort) x.to ts) same h.2 in
    let end : next_at text (end_of b.to ts) ≡ length text =
    subst (λ x. next_at text (end_of x.to ts) ≡ length text) same e in
    not_bad text (inside_behind inside b.sort) b.to place ts bs rest end k.2 f l n

-- and no bad token
pub none_bad : (text : List ℕ) (ts : List Token) (at : ℕ) → AreTokens text ts → IsBadToken text at → ⊥
none_bad text ts at h k =
    let f = are_found h in
    let g = is_stop k in
    not_bad text false 0 at ts g.before f.begins f.whole g.begins g.place g.within g.bad
