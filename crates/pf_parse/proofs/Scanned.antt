-- What the scans for called names and for times say of a query that the tokens write.
use Rattle.std.proofs.Common.{◌≡◌, ◌∙◌, sym, refl, ap, subst, ℕ, ◌/◌, nat_abs, Bool, true, false, not, cond, ◌&&◌, ◌||◌, List, [], ◌∷◌, ◌++◌, map, nat_lt, Option, Some, None, codes}
use Rattle.std.specs.Option.{is_none}
use Rattle.std.specs.Str.{bytes_eq}
use Rattle.pf_base.specs.Limits.{greatest_time}
use Rattle.pf_base.specs.NumberTexts as front
use Rattle.pf_model.specs.declared.expr.BinaryOp.{BinaryOp}
use Rattle.pf_model.specs.declared.expr.Matcher.{Matcher}
use Rattle.pf_model.specs.declared.expr.MatchSign.{MatchSign}
use Rattle.pf_model.specs.declared.expr.MatchSign.TheVariants as match
use Rattle.pf_model.specs.declared.functions.Sign.{Sign}
use Rattle.pf_model.specs.declared.functions.Sign.TheVariants as operator
use Rattle.pf_model.specs.Grammar.{Terminal, Fits, FitAll, key, name, label, exactly, Written, Arguments, terminals_of, all_terminals, more_terminals, none, more, call, aggregate, unary, binary, select, subquery, brackets, begins_with_bracket, operator_terminal, Labels, labels_terminals, Braces, braces_terminals, Keys, keys_terminals, modifiers_terminals, Offset, offset_terminals, AtModifier, at_modifier_terminals, these, bool_terminals, selected_terminals, range_terminals, before_terminals, behind_terminals, without_terminals, Clause, listed, commas_before, comma_if, minus_if, Group, group_terminals, matcher_terminals}
use Rattle.pf_model.specs.Grammar as grammar
use Rattle.pf_model.specs.Parsing as parsing
use Rattle.pf_model.specs.Parsing.{sorts, is_the_sign, unknown_at, too_large_at, is_unknown, is_too_large, is_behind_at}
use Rattle.pf_model.specs.Tokens as token
use Rattle.pf_model.specs.Words.{is_keyword, function_of, operator_text, is_set_operator, match_text}

-- ---- the scan for names, over terminals

abbrev pub is_at : Terminal → Bool
is_at (grammar.sign s) = bytes_eq s (codes "@")
is_at _ = false

-- a name before a bracket that is no function's
abbrev pub is_lost : Terminal → List Terminal → Bool
is_lost (name n) zs = begins_with_bracket zs && is_none (function_of n)
is_lost _ zs = false

abbrev pub Known : Bool → List Terminal → Type 0
Known b [] = Unit {0}
Known b (x ∷ xs) = ((not b && is_lost x xs) ≡ false) × Known (is_at x) xs

-- the flag behind terminals
abbrev pub behind : Bool → List Terminal → Bool
behind b [] = b
behind b (x ∷ xs) = behind (is_at x) xs

at_same : (x : Terminal) (u : token.Sort) → Fits x u → is_the_sign (codes "@") u ≡ is_at x
at_same (grammar.sign s) (token.sign t) h = ap (λ b. bytes_eq b (codes "@")) h
at_same (grammar.sign s) (token.word w) h = absurd h
at_same (grammar.sign s) (token.number w) h = absurd h
at_same (grammar.sign s) (token.duration w) h = absurd h
at_same (grammar.sign s) (token.string w) h = absurd h
at_same (key k) (token.word w) h = refl
at_same (key k) (token.sign w) h = absurd h
at_same (key k) (token.number w) h = absurd h
at_same (key k) (token.duration w) h = absurd h
at_same (key k) (token.string w) h = absurd h
at_same (name k) (token.word w) h = refl
at_same (name k) (token.sign w) h = absurd h
at_same (name k) (token.number w) h = absurd h
at_same (name k) (token.duration w) h = absurd h
at_same (name k) (token.string w) h = absurd h
at_same (label k) (token.word w) h = refl
at_same (label k) (token.sign w) h = absurd h
at_same (label k) (token.number w) h = absurd h
at_same (label k) (token.duration w) h = absurd h
at_same (label k) (token.string w) h = absurd h
at_same (exactly k) (token.word w) h = refl
at_same (exactly k) (token.sign w) h = absurd h
at_same (exactly k) (token.number w) h = absurd h
at_same (exactly k) (token.duration w) h = absurd h
at_same (exactly k) (token.string w) h = absurd h
at_same (grammar.number k) (token.number w) h = refl
at_same (grammar.number k) (token.word w) h = absurd h
at_same (grammar.number k) (token.sign w) h = absurd h
at_same (grammar.number k) (token.duration w) h = absurd h
at_same (grammar.number k) (token.string w) h = absurd h
at_same (grammar.duration k) (token.duration w) h = refl
at_same (grammar.duration k) (token.word w) h = absurd h
at_same (grammar.duration k) (token.sign w) h = absurd h
at_same (grammar.duration k) (token.number w) h = absurd h
at_same (grammar.duration k) (token.string w) h = absurd h
at_same (grammar.string k) (token.string w) h = refl
at_same (grammar.string k) (token.word w) h = absurd h
at_same (grammar.string k) (token.sign w) h = absurd h
at_same (grammar.string k) (token.number w) h = absurd h
at_same (grammar.string k) (token.duration w) h = absurd h

begins_same : (xs : List Terminal) (ts : List token.Token) → FitAll xs (sorts ts) → begins_with_bracket xs ≡ true
    → parsing.begins_with_bracket ts ≡ true
begins_same [] ts h b = absurd (never b)
  where
    never : false ≡ true → ⊥
    never b = cc
begins_same (x ∷ xs) [] h b = absurd h
begins_same (x ∷ xs) (t ∷ ts) h b = first_same x t.sort h.0 b
  where
    never : false ≡ true → ⊥
    never b = cc

    first_same : (x : Terminal) (u : token.Sort) → Fits x u → begins_with_bracket (x ∷ xs) ≡ true → is_the_sign (codes "(") u ≡ true
    first_same (grammar.sign s) (token.sign t) h b = ap (λ c. bytes_eq c (codes "(")) h ∙ b
    first_same (grammar.sign s) (token.word w) h b = absurd h
    first_same (grammar.sign s) (token.number w) h b = absurd h
    first_same (grammar.sign s) (token.duration w) h b = absurd h
    first_same (grammar.sign s) (token.string w) h b = absurd h
    first_same (key k) u h b = absurd (never b)
    first_same (name k) u h b = absurd (never b)
    first_same (label k) u h b = absurd (never b)
    first_same (exactly k) u h b = absurd (never b)
    first_same (grammar.number k) u h b = absurd (never b)
    first_same (grammar.duration k) u h b = absurd (never b)
    first_same (grammar.string k) u h b = absurd (never b)

none_or : (b : Bool) (x : ℕ) (o : Option ℕ) → cond b (Some x) o ≡ None → (b ≡ false) × (o ≡ None)
none_or true x o h = absurd (never h)
  where
    never : Some x ≡ None → ⊥
    never h = cc
none_or false x o h = (refl, h)

and_no : (b : Bool) → (b && false) ≡ false
and_no true = refl
and_no false = refl

lost_not : (b k g j f : Bool) → k ≡ false → (g ≡ true → j ≡ true) → (not b && (not k && j && f)) ≡ false → (not b && (g && f)) ≡ false
lost_not true k g j f h i p = refl
lost_not false k false j f h i p = refl
lost_not false true true j f h i p = absurd (never h)
  where
    never : true ≡ false → ⊥
    never b = cc
lost_not false false true false f h i p = absurd (never (i refl))
  where
    never : false ≡ true → ⊥
    never b = cc
lost_not false false true true f h i p = p

lost_same : (x : Terminal) (u : token.Sort) (xs : List Terminal) (ts : List token.Token) (b : Bool) → Fits x u
    → (begins_with_bracket xs ≡ true → parsing.begins_with_bracket ts ≡ true)
    → (not b && is_unknown u ts) ≡ false → (not b && is_lost x xs) ≡ false
lost_same (name n) (token.word w) xs ts b f i p =
    lost_not b (is_keyword w) (begins_with_bracket xs) (parsing.begins_with_bracket ts) (is_none (function_of n)) f.1 i
    (subst (λ v. (not b && (not (is_keyword w) && parsing.begins_with_bracket ts && is_none (function_of v))) ≡ false) f.0 p)
lost_same (name n) (token.number w) xs ts b f i p = absurd f
lost_same (name n) (token.duration w) xs ts b f i p = absurd f
lost_same (name n) (token.string w) xs ts b f i p = absurd f
lost_same (name n) (token.sign w) xs ts b f i p = absurd f
lost_same (grammar.sign n) u xs ts b f i p = and_no (not b)
lost_same (key n) u xs ts b f i p = and_no (not b)
lost_same (label n) u xs ts b f i p = and_no (not b)
lost_same (exactly n) u xs ts b f i p = and_no (not b)
lost_same (grammar.number n) u xs ts b f i p = and_no (not b)
lost_same (grammar.duration n) u xs ts b f i p = and_no (not b)
lost_same (grammar.string n) u xs ts b f i p = and_no (not b)

known_of : (b : Bool) (xs : List Terminal) (ts : List token.Token) → FitAll xs (sorts ts) → unknown_at b ts ≡ None → Known b xs
known_of b [] ts h e = tt
known_of b (x ∷ xs) [] h e = absurd h
known_of b (x ∷ xs) (t ∷ ts) h e =
    let p = none_or (not b && is_unknown t.sort ts) t.from (unknown_at (is_the_sign (codes "@") t.sort) ts) e in (
      lost_same x t.sort xs ts b h.0 (begins_same xs ts h.1) p.0,
      subst (λ c. Known c xs) (at_same x t.sort h.0) (known_of (is_the_sign (codes "@") t.sort) xs ts h.1 p.1),
    )

-- ---- the scan for times, over terminals

abbrev pub is_front : Terminal → Bool
is_front (grammar.sign s) = bytes_eq s (codes "+") || bytes_eq s (codes "-")
is_front _ = false

abbrev pub is_late : Bool → Terminal → Bool
is_late b (grammar.number n) = b && nat_lt greatest_time (nat_abs n / 1000)
is_late b (grammar.duration d) = nat_lt greatest_time d
is_late b _ = false

abbrev pub next : Bool → Terminal → Bool
next b x = is_at x || (b && is_front x)

abbrev pub Timely : Bool → List Terminal → Type 0
Timely b [] = Unit {0}
Timely b (x ∷ xs) = (is_late b x ≡ false) × Timely (next b x) xs

abbrev pub later : Bool → List Terminal → Bool
later b [] = b
later b (x ∷ xs) = later (next b x) xs

late_same : (x : Terminal) (u : token.Sort) (b : Bool) → Fits x u → is_too_large b u ≡ false → is_late b x ≡ false
late_same (grammar.number n) (token.number m) b f h = ap (λ k. b && nat_lt greatest_time (nat_abs k / 1000)) (sym f) ∙ h
late_same (grammar.number n) (token.word w) b f h = absurd f
late_same (grammar.number n) (token.duration w) b f h = absurd f
late_same (grammar.number n) (token.string w) b f h = absurd f
late_same (grammar.number n) (token.sign w) b f h = absurd f
late_same (grammar.duration n) (token.duration m) b f h = ap (λ k. nat_lt greatest_time k) (sym f) ∙ h
late_same (grammar.duration n) (token.word w) b f h = absurd f
late_same (grammar.duration n) (token.number w) b f h = absurd f
late_same (grammar.duration n) (token.string w) b f h = absurd f
late_same (grammar.duration n) (token.sign w) b f h = absurd f
late_same (grammar.sign n) u b f h = refl
late_same (key n) u b f h = refl
late_same (name n) u b f h = refl
late_same (label n) u b f h = refl
late_same (exactly n) u b f h = refl
late_same (grammar.string n) u b f h = refl

abbrev is_plus_or_minus : token.Sort → Bool
is_plus_or_minus u = is_the_sign (codes "+") u || is_the_sign (codes "-") u

front_same : (x : Terminal) (u : token.Sort) → Fits x u → is_plus_or_minus u ≡ is_front x
front_same (grammar.sign s) (token.sign t) h = ap (λ b. bytes_eq b (codes "+") || bytes_eq b (codes "-")) h
front_same (grammar.sign s) (token.word w) h = absurd h
front_same (grammar.sign s) (token.number w) h = absurd h
front_same (grammar.sign s) (token.duration w) h = absurd h
front_same (grammar.sign s) (token.string w) h = absurd h
front_same (key k) (token.word w) h = refl
front_same (key k) (token.sign w) h = absurd h
front_same (key k) (token.number w) h = absurd h
front_same (key k) (token.duration w) h = absurd h
front_same (key k) (token.string w) h = absurd h
front_same (name k) (token.word w) h = refl
front_same (name k) (token.sign w) h = absurd h
front_same (name k) (token.number w) h = absurd h
front_same (name k) (token.duration w) h = absurd h
front_same (name k) (token.string w) h = absurd h
front_same (label k) (token.word w) h = refl
front_same (label k) (token.sign w) h = absurd h
front_same (label k) (token.number w) h = absurd h
front_same (label k) (token.duration w) h = absurd h
front_same (label k) (token.string w) h = absurd h
front_same (exactly k) (token.word w) h = refl
front_same (exactly k) (token.sign w) h = absurd h
front_same (exactly k) (token.number w) h = absurd h
front_same (exactly k) (token.duration w) h = absurd h
front_same (exactly k) (token.string w) h = absurd h
front_same (grammar.number k) (token.number w) h = refl
front_same (grammar.number k) (token.word w) h = absurd h
front_same (grammar.number k) (token.sign w) h = absurd h
front_same (grammar.number k) (token.duration w) h = absurd h
front_same (grammar.number k) (token.string w) h = absurd h
front_same (grammar.duration k) (token.duration w) h = refl
front_same (grammar.duration k) (token.word w) h = absurd h
front_same (grammar.duration k) (token.sign w) h = absurd h
front_same (grammar.duration k) (token.number w) h = absurd h
front_same (grammar.duration k) (token.string w) h = absurd h
front_same (grammar.string k) (token.string w) h = refl
front_same (grammar.string k) (token.word w) h = absurd h
front_same (grammar.string k) (token.sign w) h = absurd h
front_same (grammar.string k) (token.number w) h = absurd h
front_same (grammar.string k) (token.duration w) h = absurd h

timely_of : (b : Bool) (xs : List Terminal) (ts : List token.Token) → FitAll xs (sorts ts) → too_large_at b ts ≡ None → Timely b xs
timely_of b [] ts h e = tt
timely_of b (x ∷ xs) [] h e = absurd h
timely_of b (x ∷ xs) (t ∷ ts) h e =
    let p = none_or (is_too_large b t.sort) t.from (too_large_at (is_behind_at b t.sort) ts) e in (
      late_same x t.sort b h.0 p.0,
      subst (λ c. Timely c xs)
          (ap (λ c. c || (b && is_plus_or_minus t.sort)) (at_same x t.sort h.0) ∙ ap (λ c. is_at x || (b && c)) (front_same x t.sort h.0))
          (timely_of (is_behind_at b t.sort) xs ts h.1 p.1),
    )

-- ---- both scans, past terminals that end with no `@`

pub record Scanned (xs : List Terminal) : Type 0 where
  pub known : Known false xs
  pub timely : Timely false xs

pub record Clean (xs : List Terminal) : Type 0 where
  pub no_at : behind false xs ≡ false
  pub no_time : later false xs ≡ false

known_past : (b : Bool) (xs zs : List Terminal) → Known b (xs ++ zs) → Known (behind b xs) zs
known_past b [] zs h = h
known_past b (x ∷ xs) zs h = known_past (is_at x) xs zs h.1

timely_past : (b : Bool) (xs zs : List Terminal) → Timely b (xs ++ zs) → Timely (later b xs) zs
timely_past b [] zs h = h
timely_past b (x ∷ xs) zs h = timely_past (next b x) xs zs h.1

pub passed : (xs zs : List Terminal) → Clean xs → Scanned (xs ++ zs) → Scanned zs
passed xs zs c s =
    record {
      known = subst (λ b. Known b zs) c.no_at (known_past false xs zs s.known);
      timely = subst (λ b. Timely b zs) c.no_time (timely_past false xs zs s.timely);
    }

behind_append : (b : Bool) (xs ys : List Terminal) → behind b (xs ++ ys) ≡ behind (behind b xs) ys
behind_append b [] ys = refl
behind_append b (x ∷ xs) ys = behind_append (is_at x) xs ys

later_append : (b : Bool) (xs ys : List Terminal) → later b (xs ++ ys) ≡ later (later b xs) ys
later_append b [] ys = refl
later_append b (x ∷ xs) ys = later_append (next b x) xs ys

clean_both : (xs ys : List Terminal) → Clean xs → Clean ys → Clean (xs ++ ys)
clean_both xs ys c d =
    record {
      no_at = behind_append false xs ys ∙ (ap (λ b. behind b ys) c.no_at ∙ d.no_at);
      no_time = later_append false xs ys ∙ (ap (λ b. later b ys) c.no_time ∙ d.no_time);
    }

pub clean_none : Clean []
clean_none = record { no_at = refl; no_time = refl }

pub clean_onto : (x : Terminal) (xs : List Terminal) → is_at x ≡ false → Clean xs → Clean (x ∷ xs)
clean_onto x xs h c =
    record {
      no_at = ap (λ b. behind b xs) h ∙ c.no_at;
      no_time = ap (λ b. later (b || false) xs) h ∙ c.no_time;
    }

clean_commas : (ls : List (List ℕ)) → Clean (commas_before (map (λ n. label n ∷ []) ls))
clean_commas [] = clean_none
clean_commas (l ∷ ls) = clean_onto _ _ refl (clean_onto _ _ refl (clean_commas ls))

clean_listed : (ls : List (List ℕ)) → Clean (listed (map (λ n. label n ∷ []) ls))
clean_listed [] = clean_none
clean_listed (l ∷ ls) = clean_onto _ _ refl (clean_commas ls)

clean_comma : (c : Bool) → Clean (comma_if c)
clean_comma true = clean_onto _ _ refl clean_none
clean_comma false = clean_none

clean_labels : (l : Labels) → Clean (labels_terminals l)
clean_labels l =
    clean_onto _ _ refl (clean_both (listed (map (λ n. label n ∷ []) l.labels)) _ (clean_listed l.labels)
    (clean_both (comma_if l.comma) _ (clean_comma l.comma) (clean_onto _ _ refl clean_none)))

match_not_at : (s : MatchSign) → is_at (grammar.sign (match_text s)) ≡ false
match_not_at match.Equal = refl
match_not_at match.NotEqual = refl
match_not_at match.Like = refl
match_not_at match.NotLike = refl

clean_matcher : (m : Matcher) → Clean (matcher_terminals m)
clean_matcher m = clean_onto _ _ refl (clean_onto _ _ (match_not_at m.sign) (clean_onto _ _ refl clean_none))

clean_matcher_commas : (ms : List Matcher) → Clean (commas_before (map matcher_terminals ms))
clean_matcher_commas [] = clean_none
clean_matcher_commas (m ∷ ms) = clean_onto _ _ refl (clean_both (matcher_terminals m) _ (clean_matcher m) (clean_matcher_commas ms))

clean_matchers : (ms : List Matcher) → Clean (listed (map matcher_terminals ms))
clean_matchers [] = clean_none
clean_matchers (m ∷ ms) = clean_both (matcher_terminals m) _ (clean_matcher m) (clean_matcher_commas ms)

clean_braces : (b : Braces) → Clean (braces_terminals b)
clean_braces b =
    clean_onto _ _ refl (clean_both (listed (map matcher_terminals b.matchers)) _ (clean_matchers b.matchers)
    (clean_both (comma_if b.comma) _ (clean_comma b.comma) (clean_onto _ _ refl clean_none)))

pub clean_selected : (n : Option (List ℕ)) (b : Option Braces) → Clean (selected_terminals (record { metric = n; braces = b }))
clean_selected None None = clean_none
clean_selected (Some n) None = clean_onto _ _ refl clean_none
clean_selected None (Some b) = clean_braces b
clean_selected (Some n) (Some b) = clean_onto _ _ refl (clean_braces b)

pub clean_range : (r : Option ℕ) → Clean (these range_terminals r)
clean_range None = clean_none
clean_range (Some d) = clean_onto _ _ refl (clean_onto _ _ refl (clean_onto _ _ refl clean_none))

clean_offset : (o : Offset) → Clean (offset_terminals o)
clean_offset o = clean_onto _ _ refl (signed o.minus)
  where
    signed : (m : Bool) → Clean (minus_if m ++ (grammar.duration o.millis ∷ []))
    signed true = clean_onto _ _ refl (clean_onto _ _ refl clean_none)
    signed false = clean_onto _ _ refl clean_none

clean_moment : (m : AtModifier) → Clean (at_modifier_terminals m)
clean_moment (grammar.time front.bare n) = record { no_at = refl; no_time = refl }
clean_moment (grammar.time front.plus n) = record { no_at = refl; no_time = refl }
clean_moment (grammar.time front.minus n) = record { no_at = refl; no_time = refl }
clean_moment grammar.start = record { no_at = refl; no_time = refl }
clean_moment grammar.end = record { no_at = refl; no_time = refl }

pub clean_offsets : (o : Option Offset) → Clean (these offset_terminals o)
clean_offsets None = clean_none
clean_offsets (Some o) = clean_offset o

pub clean_moments : (m : Option AtModifier) → Clean (these at_modifier_terminals m)
clean_moments None = clean_none
clean_moments (Some m) = clean_moment m

clean_modifiers : (f : Bool) (o : Option Offset) (m : Option AtModifier) → Clean (modifiers_terminals (record { offset = o; at = m; at_first = f }))
clean_modifiers true o m = clean_both (these at_modifier_terminals m) (these offset_terminals o) (clean_moments m) (clean_offsets o)
clean_modifiers false o m = clean_both (these offset_terminals o) (these at_modifier_terminals m) (clean_offsets o) (clean_moments m)

clean_without : (w : Bool) (l : Labels) → Clean (without_terminals w l)
clean_without true l = clean_onto _ _ refl (clean_labels l)
clean_without false l = clean_onto _ _ refl (clean_labels l)

pub clean_before : (c : Clause) → Clean (before_terminals c)
clean_before grammar.absent = clean_none
clean_before (grammar.before w l) = clean_without w l
clean_before (grammar.behind w l) = clean_none

clean_behind : (c : Clause) → Clean (behind_terminals c)
clean_behind grammar.absent = clean_none
clean_behind (grammar.before w l) = clean_none
clean_behind (grammar.behind w l) = clean_without w l

pub operator_not_at : (op : BinaryOp) → is_at (operator_terminal op) ≡ false
operator_not_at op = by_sign op.sign
  where
    by_sign : (s : Sign) → is_at (cond (is_set_operator s) (key (operator_text s)) (grammar.sign (operator_text s))) ≡ false
    by_sign operator.Add = refl
    by_sign operator.Sub = refl
    by_sign operator.Mul = refl
    by_sign operator.Div = refl
    by_sign operator.Rem = refl
    by_sign operator.Equal = refl
    by_sign operator.NotEqual = refl
    by_sign operator.Less = refl
    by_sign operator.LessOrEqual = refl
    by_sign operator.Greater = refl
    by_sign operator.GreaterOrEqual = refl
    by_sign operator.And = refl
    by_sign operator.Or = refl
    by_sign operator.Unless = refl

pub clean_bool : (b : Bool) → Clean (bool_terminals b)
clean_bool true = clean_onto _ _ refl clean_none
clean_bool false = clean_none

clean_include : (l : Option Labels) → Clean (these labels_terminals l)
clean_include None = clean_none
clean_include (Some l) = clean_labels l

clean_group : (g : Option Group) → Clean (these group_terminals g)
clean_group None = clean_none
clean_group (Some g) = clean_onto _ _ refl (clean_include g.include)

pub clean_keys : (k : Option Keys) → Clean (these keys_terminals k)
clean_keys None = clean_none
clean_keys (Some k) = clean_onto _ _ refl (clean_both (labels_terminals k.labels) _ (clean_labels k.labels) (clean_group k.group))

pub clean_resolution : (r : Option ℕ) → Clean (these (λ d. grammar.duration d ∷ []) r)
clean_resolution None = clean_none
clean_resolution (Some r) = clean_onto _ _ refl clean_none

pub sign_not_at : (minus : Bool) → is_at (grammar.sign (cond minus (codes "-") (codes "+"))) ≡ false
sign_not_at true = refl
sign_not_at false = refl

mutual
  pub clean_text : (e : Written) → Clean (terminals_of e)
  clean_text (grammar.number n) = clean_onto _ _ refl clean_none
  clean_text (grammar.text s) = clean_onto _ _ refl clean_none
  clean_text (brackets e) = clean_onto _ _ refl (clean_both (terminals_of e) _ (clean_text e) (clean_onto _ _ refl clean_none))
  clean_text (call f args) =
      clean_onto _ _ refl (clean_onto _ _ refl (clean_both (all_terminals args) _ (clean_texts args) (clean_onto _ _ refl clean_none)))
  clean_text (aggregate op c args) =
      clean_onto _ _ refl (clean_both (before_terminals c) _ (clean_before c)
      (clean_onto _ _ refl (clean_both (all_terminals args) _ (clean_texts args) (clean_onto _ _ refl (clean_behind c)))))
  clean_text (unary minus e) = clean_onto _ _ (sign_not_at minus) (clean_text e)
  clean_text (binary op k a b) =
      clean_both (terminals_of a) _ (clean_text a)
      (clean_onto _ _ (operator_not_at op) (clean_both (bool_terminals op.with_bool) _ (clean_bool op.with_bool)
      (clean_both (these keys_terminals k) _ (clean_keys k) (clean_text b))))
  clean_text (select s r m) =
      clean_both (selected_terminals s) _ (clean_selected s.metric s.braces)
      (clean_both (these range_terminals r) _ (clean_range r) (clean_modifiers m.at_first m.offset m.at))
  clean_text (subquery e d r m) =
      clean_both (terminals_of e) _ (clean_text e)
      (clean_onto _ _ refl (clean_onto _ _ refl (clean_onto _ _ refl
      (clean_both (these (λ d. grammar.duration d ∷ []) r) _ (clean_resolution r)
      (clean_onto _ _ refl (clean_modifiers m.at_first m.offset m.at))))))

  clean_texts : (es : Arguments) → Clean (all_terminals es)
  clean_texts none = clean_none
  clean_texts (more e es) = clean_both (terminals_of e) _ (clean_text e) (clean_more es)

  clean_more : (es : Arguments) → Clean (more_terminals es)
  clean_more none = clean_none
  clean_more (more e es) = clean_onto _ _ refl (clean_both (terminals_of e) _ (clean_text e) (clean_more es))

pub scanned_of : (xs : List Terminal) (ts : List token.Token) → FitAll xs (sorts ts) → unknown_at false ts ≡ None
    → too_large_at false ts ≡ None → Scanned xs
scanned_of xs ts h k t = record { known = known_of false xs ts h k; timely = timely_of false xs ts h t }
