-- The first terminal of a query, and what it does where an operand may begin.
use Rattle.std.proofs.Common.{◌≡◌, ◌∙◌, sym, refl, ap, subst, ℕ, ℤ, Bool, true, false, cond, List, [], ◌∷◌, ◌++◌, Option, Some, None, codes}
use Rattle.std.specs.Option.{option_and_then}
use Rattle.pf_lex.specs.declared.token.Mark.TheVariants as mark
use Rattle.pf_model.specs.Clauses.{Matched}
use Rattle.pf_model.specs.declared.expr.BinaryOp.{BinaryOp}
use Rattle.pf_model.specs.declared.expr.Function.{Function}
use Rattle.pf_model.specs.declared.functions.AggOp.{AggOp}
use Rattle.pf_model.specs.declared.functions.AggOp.TheVariants as aggregation
use Rattle.pf_model.specs.Grammar.{Terminal, Fits, Written, number, text, brackets, call, aggregate, unary, binary, select, subquery, terminals_of, IsLawful, begins_with_bracket, Braces, selected_terminals, AreSelected}
use Rattle.pf_model.specs.Grammar as grammar
use Rattle.pf_model.specs.Tokens as token
use Rattle.pf_model.specs.Words.{aggregation_word}
use Rattle.pf_parse.specs.declared.keyword.Keyword.TheVariants as keyword
use Rattle.pf_parse.specs.Held.{Held}
use Rattle.pf_parse.specs.Lexemes.{Lexeme, lexeme_of, keyword_among, all_keywords, keyword_text}
use Rattle.pf_parse.specs.Reading.{Frame, State, left, calling, function, step, due_step, operated_step, keyed_step, grouped_step, first_step, no_keys}
use Rattle.pf_parse.proofs.Goes.{Fit, value, lexemes}
use Rattle.pf_parse.proofs.Seen.{at_mark, at_key, at_number, at_string, at_name}

pub record Begun (x : Lexeme) : Type 0 where
  pub operated : (op : BinaryOp) (a : Held) (k : List Frame) → operated_step op a k x ≡ due_step (left op no_keys a ∷ k) x
  pub keyed : (op : BinaryOp) (m : Matched) (a : Held) (k : List Frame) → keyed_step op m a k x ≡ due_step (left op m a ∷ k) x
  pub first : (f : Option Function) (k : List Frame) → first_step f k x ≡ due_step (calling (function f) (Some []) ∷ k) x

pub record Unopened (x : Lexeme) : Type 0 where
  pub grouped : (op : BinaryOp) (m : Matched) (a : Held) (k : List Frame) → grouped_step op m a k x ≡ due_step (left op m a ∷ k) x

pub record Front (xs : List Terminal) : Type 0 where
  pub first : Terminal
  pub behind : List Terminal
  pub is : xs ≡ first ∷ behind
  pub begun : (u : token.Sort) → Fits first u → Begun (lexeme_of u)
  pub unopened : begins_with_bracket (first ∷ []) ≡ false → (u : token.Sort) → Fits first u → Unopened (lexeme_of u)

pub front_onto : (xs ys : List Terminal) → Front xs → Front (xs ++ ys)
front_onto xs ys f =
    record {
      first = f.first;
      behind = f.behind ++ ys;
      is = ap (λ zs. zs ++ ys) f.is;
      begun = f.begun;
      unopened = f.unopened;
    }

begun_as : (x y : Lexeme) → x ≡ y → Begun y → Begun x
begun_as x y e b = subst Begun (sym e) b

unopened_as : (x y : Lexeme) → x ≡ y → Unopened y → Unopened x
unopened_as x y e b = subst Unopened (sym e) b

number_front : (n : ℤ) (zs : List Terminal) → Front (grammar.number n ∷ zs)
number_front n zs =
    record {
      first = grammar.number n;
      behind = zs;
      is = refl;
      begun = λ u f. begun_as _ _ (at_number n u f)
          (record { operated = λ op a k. refl; keyed = λ op m a k. refl; first = λ g k. refl });
      unopened = λ h u f. unopened_as _ _ (at_number n u f) (record { grouped = λ op m a k. refl });
    }

text_front : (s : List ℕ) (zs : List Terminal) → Front (grammar.string s ∷ zs)
text_front s zs =
    record {
      first = grammar.string s;
      behind = zs;
      is = refl;
      begun = λ u f. begun_as _ _ (at_string s u f)
          (record { operated = λ op a k. refl; keyed = λ op m a k. refl; first = λ g k. refl });
      unopened = λ h u f. unopened_as _ _ (at_string s u f) (record { grouped = λ op m a k. refl });
    }

name_front : (n : List ℕ) (zs : List Terminal) → Front (grammar.name n ∷ zs)
name_front n zs =
    record {
      first = grammar.name n;
      behind = zs;
      is = refl;
      begun = λ u f. begun_as _ _ (at_name n u f)
          (record { operated = λ op a k. refl; keyed = λ op m a k. refl; first = λ g k. refl });
      unopened = λ h u f. unopened_as _ _ (at_name n u f) (record { grouped = λ op m a k. refl });
    }

aggregation_front : (op : AggOp) (zs : List Terminal)
    → keyword_among all_keywords (keyword_text (keyword.Aggregation op)) ≡ Some (keyword.Aggregation op)
    → Front (grammar.key (aggregation_word op) ∷ zs)
aggregation_front op zs e =
    record {
      first = grammar.key (aggregation_word op);
      behind = zs;
      is = refl;
      begun = λ u f. begun_as _ _ (at_key (keyword.Aggregation op) u e f).is
          (record { operated = λ o a k. refl; keyed = λ o m a k. refl; first = λ g k. refl });
      unopened = λ h u f. unopened_as _ _ (at_key (keyword.Aggregation op) u e f).is (record { grouped = λ o m a k. refl });
    }

pub aggregation_found : (op : AggOp) → keyword_among all_keywords (keyword_text (keyword.Aggregation op)) ≡ Some (keyword.Aggregation op)
aggregation_found aggregation.Sum = refl
aggregation_found aggregation.Avg = refl
aggregation_found aggregation.Min = refl
aggregation_found aggregation.Max = refl
aggregation_found aggregation.Count = refl
aggregation_found aggregation.Group = refl
aggregation_found aggregation.Topk = refl
aggregation_found aggregation.Bottomk = refl
aggregation_found aggregation.Quantile = refl

brace_front : (zs : List Terminal) → Front (grammar.sign (codes "{") ∷ zs)
brace_front zs =
    record {
      first = grammar.sign (codes "{");
      behind = zs;
      is = refl;
      begun = λ u f. begun_as _ _ (at_mark mark.OpenBrace u f)
          (record { operated = λ op a k. refl; keyed = λ op m a k. refl; first = λ g k. refl });
      unopened = λ h u f. unopened_as _ _ (at_mark mark.OpenBrace u f) (record { grouped = λ op m a k. refl });
    }

open_front : (zs : List Terminal) → Front (grammar.sign (codes "(") ∷ zs)
open_front zs =
    record {
      first = grammar.sign (codes "(");
      behind = zs;
      is = refl;
      begun = λ u f. begun_as _ _ (at_mark mark.Open u f)
          (record { operated = λ op a k. refl; keyed = λ op m a k. refl; first = λ g k. refl });
      unopened = λ h. absurd (never h);
    }
  where
    never : true ≡ false → ⊥
    never h = cc

sign_front : (minus : Bool) (zs : List Terminal) → Front (grammar.sign (cond minus (codes "-") (codes "+")) ∷ zs)
sign_front true zs =
    record {
      first = grammar.sign (codes "-");
      behind = zs;
      is = refl;
      begun = λ u f. begun_as _ _ (at_mark mark.Minus u f)
          (record { operated = λ op a k. refl; keyed = λ op m a k. refl; first = λ g k. refl });
      unopened = λ h u f. unopened_as _ _ (at_mark mark.Minus u f) (record { grouped = λ op m a k. refl });
    }
sign_front false zs =
    record {
      first = grammar.sign (codes "+");
      behind = zs;
      is = refl;
      begun = λ u f. begun_as _ _ (at_mark mark.Plus u f)
          (record { operated = λ op a k. refl; keyed = λ op m a k. refl; first = λ g k. refl });
      unopened = λ h u f. unopened_as _ _ (at_mark mark.Plus u f) (record { grouped = λ op m a k. refl });
    }

selected_front : (n : Option (List ℕ)) (b : Option Braces) → AreSelected n b
    → Front (selected_terminals (record { metric = n; braces = b }))
selected_front None None h = absurd h
selected_front None (Some b) h = brace_front _
selected_front (Some n) None h = name_front n _
selected_front (Some n) (Some b) h = name_front n _

pub front_of : (e : Written) → IsLawful e → Front (terminals_of e)
front_of (number n) l = number_front n []
front_of (text s) l = text_front s []
front_of (brackets e) l = open_front _
front_of (call f args) l = name_front f _
front_of (aggregate op clause args) l = aggregation_front op _ (aggregation_found op)
front_of (unary minus e) l = sign_front minus _
front_of (binary op keys a b) l = front_onto (terminals_of a) _ (front_of a l.5)
front_of (select s range mods) l = front_onto (selected_terminals s) _ (selected_front s.metric s.braces l.0)
front_of (subquery e range resolution mods) l = front_onto (terminals_of e) _ (front_of e l.1)

first_alike : (s t : State) (xs : List Terminal) (f : Front xs)
    → ((u : token.Sort) → Fits f.first u → step s.mode s.stack (lexeme_of u) ≡ step t.mode t.stack (lexeme_of u))
    → (us : List token.Sort) → Fit (f.first ∷ f.behind) us → value s (lexemes us) ≡ value t (lexemes us)
first_alike s t xs f g [] h = absurd h.all
first_alike s t xs f g (u ∷ us) h = ap (option_and_then (λ r. value r (lexemes us))) (g u h.all.0)

-- states that take the first token of a query alike have the same value before it
pub fronts_alike : (s t : State) (e : Written) (zs : List Terminal) (us : List token.Sort) → IsLawful e
    → ((x : Lexeme) → Begun x → step s.mode s.stack x ≡ step t.mode t.stack x)
    → Fit (terminals_of e ++ zs) us → value s (lexemes us) ≡ value t (lexemes us)
fronts_alike s t e zs us l g h =
    let f = front_onto (terminals_of e) zs (front_of e l) in
    first_alike s t (terminals_of e ++ zs) f (λ u k. g (lexeme_of u) (f.begun u k)) us (subst (λ xs. Fit xs us) f.is h)

pub bracket_first : (c : Terminal) (cs : List Terminal) → begins_with_bracket (c ∷ cs) ≡ begins_with_bracket (c ∷ [])
bracket_first (grammar.sign s) cs = refl
bracket_first (grammar.key k) cs = refl
bracket_first (grammar.name k) cs = refl
bracket_first (grammar.label k) cs = refl
bracket_first (grammar.exactly k) cs = refl
bracket_first (grammar.number k) cs = refl
bracket_first (grammar.duration k) cs = refl
bracket_first (grammar.string k) cs = refl

-- the same of a query that begins with no bracket
pub unopened_alike : (s t : State) (e : Written) (zs : List Terminal) (us : List token.Sort) → IsLawful e
    → begins_with_bracket (terminals_of e) ≡ false
    → ((x : Lexeme) → Unopened x → step s.mode s.stack x ≡ step t.mode t.stack x)
    → Fit (terminals_of e ++ zs) us → value s (lexemes us) ≡ value t (lexemes us)
unfolding front_onto
unopened_alike s t e zs us l b g h =
    let d = front_of e l in
    let f = front_onto (terminals_of e) zs d in
    let c : begins_with_bracket (d.first ∷ []) ≡ false = sym (bracket_first d.first d.behind) ∙ (sym (ap begins_with_bracket d.is) ∙ b) in
    first_alike s t (terminals_of e ++ zs) f (λ u k. g (lexeme_of u) (d.unopened c u k)) us (subst (λ xs. Fit xs us) f.is h)
