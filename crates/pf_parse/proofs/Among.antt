-- The first of a list that is looked for.
use Rattle.std.proofs.Common.{◌≡◌, ◌∙◌, sym, refl, ap, ℕ, ◌<◌, ◌+◌, Bool, true, false, cond, List, drop, length, get_or, Some}
use Rattle.std.proofs.lemmas.List.{drop_more}
use Rattle.std.proofs.lemmas.Slice.Eq.{bytes_eq-Decides}
use Rattle.std.specs.Str.{bytes_eq, str_to_ascii_lowercase}
use Rattle.pf_model.specs.declared.expr.Function.{Function}
use Rattle.pf_model.specs.declared.functions.AggOp.TheVariants as aggregation
use Rattle.pf_model.specs.declared.functions.Sign.TheVariants as operator
use Rattle.pf_model.specs.Words.{function_name, named_among}
use Rattle.pf_parse.specs.declared.keyword.Keyword.{Keyword}
use Rattle.pf_parse.specs.declared.keyword.Keyword.TheVariants as keyword
use Rattle.pf_parse.specs.Lexemes.{keyword_among, keyword_text}

equal : (a b : List ℕ) → a ≡ b → bytes_eq a b ≡ true
equal a b e = (bytes_eq-Decides a b).1 e

unequal : (a b : List ℕ) → (a ≡ b → ⊥) → bytes_eq a b ≡ false
unequal a b n = by_test (bytes_eq a b) refl
  where
    by_test : (t : Bool) → bytes_eq a b ≡ t → t ≡ false
    by_test true h = absurd (n ((bytes_eq-Decides a b).0 h))
    by_test false h = refl

-- a keyword is written in small letters
small : (k : Keyword) → str_to_ascii_lowercase (keyword_text k) ≡ keyword_text k
small (keyword.Operator operator.Add) = refl
small (keyword.Operator operator.Sub) = refl
small (keyword.Operator operator.Mul) = refl
small (keyword.Operator operator.Div) = refl
small (keyword.Operator operator.Rem) = refl
small (keyword.Operator operator.Equal) = refl
small (keyword.Operator operator.NotEqual) = refl
small (keyword.Operator operator.Less) = refl
small (keyword.Operator operator.LessOrEqual) = refl
small (keyword.Operator operator.Greater) = refl
small (keyword.Operator operator.GreaterOrEqual) = refl
small (keyword.Operator operator.And) = refl
small (keyword.Operator operator.Or) = refl
small (keyword.Operator operator.Unless) = refl
small keyword.Bool = refl
small (keyword.Keys true) = refl
small (keyword.Keys false) = refl
small (keyword.Group true) = refl
small (keyword.Group false) = refl
small (keyword.Clause true) = refl
small (keyword.Clause false) = refl
small keyword.Offset = refl
small (keyword.Aggregation aggregation.Sum) = refl
small (keyword.Aggregation aggregation.Avg) = refl
small (keyword.Aggregation aggregation.Min) = refl
small (keyword.Aggregation aggregation.Max) = refl
small (keyword.Aggregation aggregation.Count) = refl
small (keyword.Aggregation aggregation.Group) = refl
small (keyword.Aggregation aggregation.Topk) = refl
small (keyword.Aggregation aggregation.Bottomk) = refl
small (keyword.Aggregation aggregation.Quantile) = refl

pub keyword_found : (ks : List Keyword) (w : List ℕ) (i : ℕ) (d : Keyword) → i < length ks
    → str_to_ascii_lowercase w ≡ str_to_ascii_lowercase (keyword_text (get_or ks i d))
    → keyword_among (drop i ks) (str_to_ascii_lowercase w) ≡ Some (get_or ks i d)
keyword_found ks w i d l h =
    ap (λ xs. keyword_among xs (str_to_ascii_lowercase w)) (drop_more ks i d l)
    ∙ ap (λ b. cond b (Some (get_or ks i d)) (keyword_among (drop (i + 1) ks) (str_to_ascii_lowercase w)))
    (equal (str_to_ascii_lowercase w) (keyword_text (get_or ks i d)) (h ∙ small (get_or ks i d)))

pub keyword_passed : (ks : List Keyword) (w : List ℕ) (i : ℕ) (d : Keyword) → i < length ks
    → (str_to_ascii_lowercase w ≡ str_to_ascii_lowercase (keyword_text (get_or ks i d)) → ⊥)
    → keyword_among (drop (i + 1) ks) (str_to_ascii_lowercase w) ≡ keyword_among (drop i ks) (str_to_ascii_lowercase w)
keyword_passed ks w i d l h =
    sym (ap (λ xs. keyword_among xs (str_to_ascii_lowercase w)) (drop_more ks i d l)
    ∙ ap (λ b. cond b (Some (get_or ks i d)) (keyword_among (drop (i + 1) ks) (str_to_ascii_lowercase w)))
    (unequal (str_to_ascii_lowercase w) (keyword_text (get_or ks i d)) (λ e. h (e ∙ sym (small (get_or ks i d))))))

pub function_found : (fs : List Function) (n : List ℕ) (i : ℕ) (d : Function) → i < length fs
    → function_name (get_or fs i d) ≡ n → named_among (drop i fs) n ≡ Some (get_or fs i d)
function_found fs n i d l h =
    ap (λ xs. named_among xs n) (drop_more fs i d l)
    ∙ ap (λ b. cond b (Some (get_or fs i d)) (named_among (drop (i + 1) fs) n)) (equal (function_name (get_or fs i d)) n h)

pub function_passed : (fs : List Function) (n : List ℕ) (i : ℕ) (d : Function) → i < length fs
    → (function_name (get_or fs i d) ≡ n → ⊥) → named_among (drop (i + 1) fs) n ≡ named_among (drop i fs) n
function_passed fs n i d l h =
    sym (ap (λ xs. named_among xs n) (drop_more fs i d l)
    ∙ ap (λ b. cond b (Some (get_or fs i d)) (named_among (drop (i + 1) fs) n)) (unequal (function_name (get_or fs i d)) n h))
