-- Queries and selectors that were read.
use Rattle.std.proofs.Common.{◌≡◌, ◌≢◌, ℕ, ℤ, zero, suc, ◌+◌, ◌<◌, pos, inl, inr, Bool, true, false, Option, Some, None, cond, get_or, map, take, List, [], ◌∷◌, ◌++◌, length, refl, sym, ap, ◌∙◌, subst, is_some, true≢false, arith, Err}
use Rattle.std.specs.BTreeMap.{get_by_text}
use Rattle.std.specs.Prelude.{◌&&◌, not, Box, Vec}
use Rattle.std.specs.Option.{is_none}
use Rattle.std.specs.Ordering.{int_eq}
use Rattle.std.proofs.Math.Bool.{and-false}
use Rattle.std.proofs.lemmas.Bool.Decides.{Decides-int_eq}
use Rattle.std.specs.Str.{bytes_eq}
use Rattle.std.specs.declared.alloc.Global.{Global}
use Rattle.std.specs.Arc.{arc_value}
use Rattle.std.specs.declared.sync.Arc.{Arc}
use Rattle.std.proofs.lemmas.List.{take_all, take_more}
use Rattle.std.proofs.lemmas.Slice.Eq.{bytes_eq-Decides}
use Rattle.pf_model.specs.declared.expr.Matcher.{Matcher}
use Rattle.pf_model.specs.declared.expr.Mods.{Mods}
use Rattle.pf_model.specs.declared.expr.At.{At}
use Rattle.pf_model.specs.declared.expr.BinaryOp.{BinaryOp}
use Rattle.pf_model.specs.declared.expr.Expr.{Expr}
use Rattle.pf_model.specs.declared.expr.Expr.TheVariants as expr
use Rattle.pf_model.specs.declared.expr.Function.{Function}
use Rattle.pf_model.specs.declared.functions.AggOp.{AggOp}
use Rattle.pf_model.specs.Clauses.{Grouped, Matched}
use Rattle.pf_model.proofs.TreeOf.{number_tree, text_tree, unary_tree, binary_tree, call_tree, aggregate_tree, select_tree, subquery_tree}
use Rattle.pf_model.specs.declared.matchers.Matchers.{Matchers}
use Rattle.pf_model.specs.ErrorTexts.{QueryFault, of_grammar, of_kinds, refused_pattern, empty_selector}
use Rattle.pf_model.specs.Lists.{Each}
use Rattle.pf_model.specs.Queries.{bind_fault, IsFaultOf, IsNoSelector, IsQuery, IsReading, is_plain_selector, is_unmodified, lawful, no_selector, selecting, selector}
use Rattle.pf_journal.specs.Scripts.{Numbered}
use Rattle.pf_model.specs.Selection.{accepts_empty, any_refused}
use Rattle.pf_model.specs.Trees.{Tree, number, text, unary, binary, call, aggregate, select, subquery, instant, no_mods, tree_of}
use Rattle.pf_model.specs.Typing.{TypeFault, asked_fault}
use Rattle.pf_script.specs.Lines.{numbered_of}
use Rattle.pf_script.specs.declared.script.NumberedLine.{NumberedLine}
use Rattle.pf_types.specs.Counted.{IsBindFate}
use Rattle.pf_types.specs.declared.bound.BindError.{BindError}
use Rattle.pf_types.specs.declared.bound.BindError.TheVariants as bind
use Rattle.pf_types.specs.Errors.{IsFaultFor, query_fault}
use Rattle.pf_types.specs.declared.query.QueryError.{QueryError}
use Rattle.pf_types.specs.declared.query.QueryError.TheVariants as query_error
use Rattle.pf_types.specs.declared.bound.BoundQuery.{BoundQuery}
use Rattle.pf_client.specs.Queries.{AreReadBy, IsKept, IsKeptFor, IsLineRead, IsQueryRead, IsReadAs, IsSelectorRead, IsTextRead, Queries, SelectsAs, StayRead, text_in}
use Rattle.pf_client.specs.declared.queries.QueryRead.{QueryRead}
use Rattle.pf_client.specs.declared.queries.QueryRead.TheVariants as query
use Rattle.pf_client.specs.declared.queries.SelectorRead.{SelectorRead}
use Rattle.pf_client.specs.declared.queries.SelectorRead.TheVariants as chosen
use Rattle.pf_client.specs.declared.queries.TextRead.{TextRead}
use Rattle.pf_client.proofs.Lists.{each_push, map_push, some_is}
use Rattle.pf_client.proofs.Cases.{bool_cases}

-- ---- trees as selectors

-- a tree that is no instant selector without modifiers is no selector
pub other_tree : (refs : List (List ℕ)) (t : Tree) → is_plain_selector t ≡ false → selecting refs t ≡ no_selector
other_tree refs (number v) h = refl
other_tree refs (text b) h = refl
other_tree refs (unary m e) h = refl
other_tree refs (binary op m a b) h = refl
other_tree refs (call f args) h = refl
other_tree refs (aggregate op g args) h = refl
other_tree refs (select ms None mods) h = rw h refl
other_tree refs (select ms (Some range) mods) h = refl
other_tree refs (subquery e range resolution mods) h = refl

-- a tree whose kinds are wrong is no selector
ill_typed : (refs : List (List ℕ)) (t : Tree) (f : TypeFault) → asked_fault t ≡ Some f → selecting refs t ≡ no_selector
ill_typed refs (number v) f h = refl
ill_typed refs (text b) f h = refl
ill_typed refs (unary m e) f h = refl
ill_typed refs (binary op m a b) f h = refl
ill_typed refs (call f args) g h = refl
ill_typed refs (aggregate op g args) f h = refl
ill_typed refs (select ms None mods) f h = absurd (none_is f h) where
  none_is : (g : TypeFault) → None ≡ Some g → ⊥
  none_is g e = cc
ill_typed refs (select ms (Some range) mods) f h = refl
ill_typed refs (subquery e range resolution mods) f h = refl

-- one with a refused pattern or an empty selector neither
unbound_tree : (refs : List (List ℕ)) (t : Tree) (f : QueryFault) → bind_fault refs t ≡ Some f → selecting refs t ≡ no_selector
unbound_tree refs (number v) f h = refl
unbound_tree refs (text b) f h = refl
unbound_tree refs (unary m e) f h = refl
unbound_tree refs (binary op m a b) f h = refl
unbound_tree refs (call g args) f h = refl
unbound_tree refs (aggregate op g args) f h = refl
unbound_tree refs (select ms None mods) f h = by (is_unmodified mods) (any_refused refs ms) (accepts_empty ms) h where
  by : (u r e : Bool) → cond {A = Option QueryFault} r (Some (refused_pattern 0)) (cond e (Some (empty_selector 0)) None) ≡ Some f
      → cond (u && (not r && not e)) (selector ms) no_selector ≡ no_selector
  by u true e g = ap (λ b. cond b (selector ms) no_selector) (and-false u)
  by u false true g = ap (λ b. cond b (selector ms) no_selector) (and-false u)
  by u false false g = cc
unbound_tree refs (select ms (Some range) mods) f h = refl
unbound_tree refs (subquery e range resolution mods) f h = refl

-- ---- instant selectors among trees, by their variants

unmodified : (mods : Mods) → is_unmodified mods ≡ true → mods ≡ no_mods
unmodified mods h = made mods.at mods.offset h where
  made : (at : Option At) (offset : ℤ) → (is_none at && int_eq offset (pos 0)) ≡ true → record { at = at; offset = offset } ≡ no_mods
  made None offset h = let zero_offset : offset ≡ pos 0 = (Decides-int_eq offset (pos 0)).0 h in ap (λ o. record { at = None; offset = o }) zero_offset
  made (Some time) offset h = absurd (true≢false (sym h))

pub number_other : (e : Expr) (v : ℤ) → e ≡ expr.Number v → is_plain_selector (tree_of e) ≡ false
number_other e v is = ap is_plain_selector (ap tree_of is ∙ number_tree v)

pub text_other : (e : Expr) (s : List ℕ) → e ≡ expr.Text s → is_plain_selector (tree_of e) ≡ false
text_other e s is = ap is_plain_selector (ap tree_of is ∙ text_tree s)

pub unary_other : (e : Expr) (m : Bool) (b : Box Expr _) → e ≡ expr.Unary m b → is_plain_selector (tree_of e) ≡ false
unary_other e m b is = ap is_plain_selector (ap tree_of is ∙ unary_tree m b)

pub binary_other : (e : Expr) (op : BinaryOp) (m : Matched) (a b : Box Expr _) → e ≡ expr.Binary op m a b → is_plain_selector (tree_of e) ≡ false
binary_other e op m a b is = ap is_plain_selector (ap tree_of is ∙ binary_tree op m a b)

pub call_other : (e : Expr) (f : Function) (v : Vec Expr _) → e ≡ expr.Call f v → is_plain_selector (tree_of e) ≡ false
call_other e f v is = ap is_plain_selector (ap tree_of is ∙ call_tree f v)

pub aggregate_other : (e : Expr) (op : AggOp) (g : Grouped) (v : Vec Expr _) → e ≡ expr.Aggregate op g v → is_plain_selector (tree_of e) ≡ false
aggregate_other e op g v is = ap is_plain_selector (ap tree_of is ∙ aggregate_tree op g v)

pub subquery_other : (e : Expr) (b : Box Expr _) (range : ℕ) (resolution : Option ℕ) (mods : Mods) → e ≡ expr.Subquery b range resolution mods
    → is_plain_selector (tree_of e) ≡ false
subquery_other e b range resolution mods is = ap is_plain_selector (ap tree_of is ∙ subquery_tree b range resolution mods)

pub select_other : (e : Expr) (s : List Matcher) (range : Option ℕ) (mods : Mods) → e ≡ expr.Select s range mods
    → (is_none range && is_unmodified mods) ≡ false → is_plain_selector (tree_of e) ≡ false
select_other e s range mods is h = ap is_plain_selector (ap tree_of is ∙ select_tree s range mods) ∙ by_range range h where
  by_range : (r : Option ℕ) → (is_none r && is_unmodified mods) ≡ false → is_plain_selector (select s r mods) ≡ false
  by_range None g = g
  by_range (Some x) g = refl

pub select_plain : (e : Expr) (s : List Matcher) (range : Option ℕ) (mods : Mods) → e ≡ expr.Select s range mods
    → (is_none range && is_unmodified mods) ≡ true → tree_of e ≡ instant s
select_plain e s range mods is h = (ap tree_of is ∙ select_tree s range mods) ∙ by_range range h where
  by_range : (r : Option ℕ) → (is_none r && is_unmodified mods) ≡ true → select s r mods ≡ instant s
  by_range None g = ap (select s None) (unmodified mods g)
  by_range (Some x) g = absurd (true≢false (sym g))

-- ---- what a text is read as

-- a query that is lawful
pub lawful_right : (refs : List (List ℕ)) (words : List ℕ) (t : Tree) (q : Arc BoundQuery Global) → arc_value q ≡ t → bind_fault refs t ≡ None → IsQuery words t
    → IsQueryRead refs words (query.Lawful q)
lawful_right refs words t q is selects h = subst (λ (u : Tree). IsReading refs words (lawful u)) (sym is) (h, selects)

-- a query that was bound
pub bound_right : (refs : List (List ℕ)) (words : List ℕ) (t u : Tree) (q : QueryRead) → u ≡ t → ((rs : List (List ℕ)) → bind_fault rs u ≡ None → (w : List ℕ) → IsQuery w u → IsQueryRead rs w q)
    → bind_fault refs t ≡ None → IsQuery words t → IsQueryRead refs words q
bound_right refs words t u q is h selects g = h refs (ap (bind_fault refs) is ∙ selects) words (subst (IsQuery words) (sym is) g)

-- a refused pattern, and an empty selector
pub refused_pattern_right : (refs : List (List ℕ)) (words : List ℕ) (t : Tree) (n : ℕ) → bind_fault refs t ≡ Some (refused_pattern n) → IsQuery words t
    → IsQueryRead refs words (query.Refused (query_error.Pattern n))
refused_pattern_right refs words t n c q = (refused_pattern n, (refl, (t, (q, c))))

pub empty_selector_right : (refs : List (List ℕ)) (words : List ℕ) (t : Tree) (n : ℕ) → bind_fault refs t ≡ Some (empty_selector n) → IsQuery words t
    → IsQueryRead refs words (query.Refused (query_error.Empty n))
empty_selector_right refs words t n some q = (empty_selector n, (refl, (t, (q, some))))

-- of a query that was not bound
pub pattern_fate : (T : Type 0) (refs : List (List ℕ)) (t : Tree) (e : BindError) (n : ℕ) → e ≡ bind.Pattern n → IsBindFate {T = T} refs t (Err e)
    → bind_fault refs t ≡ Some (refused_pattern n)
pattern_fate T refs t e n is h = subst (λ (x : BindError). IsBindFate {T = T} refs t (Err x)) is h

pub empty_fate : (T : Type 0) (refs : List (List ℕ)) (t : Tree) (e : BindError) (n : ℕ) → e ≡ bind.Empty n → IsBindFate {T = T} refs t (Err e)
    → bind_fault refs t ≡ Some (empty_selector n)
empty_fate T refs t e n is h = subst (λ (x : BindError). IsBindFate {T = T} refs t (Err x)) is h

-- what trees say as selectors
pub other_refused : (refs : List (List ℕ)) (t : Tree) → is_plain_selector t ≡ false → SelectsAs refs t chosen.Refused
other_refused refs t h = other_tree refs t h

pub plain_selects : (refs : List (List ℕ)) (t : Tree) (s : List Matcher) (m : Arc Matchers Global) → t ≡ instant s → arc_value m ≡ s → any_refused refs s ≡ false
    → accepts_empty s ≡ false → SelectsAs refs t (chosen.Built m)
plain_selects refs t s m is same taken some =
    ap (selecting refs) is ∙ ap (λ b. cond (not b && not (accepts_empty s)) (selector s) no_selector) taken
    ∙ ap (λ b. cond (not b) (selector s) no_selector) some ∙ ap selector (sym same)

pub pattern_refused : (refs : List (List ℕ)) (t : Tree) (s : List Matcher) → t ≡ instant s → any_refused refs s ≡ true → SelectsAs refs t chosen.Refused
pattern_refused refs t s is bad = ap (selecting refs) is ∙ ap (λ b. cond (not b && not (accepts_empty s)) (selector s) no_selector) bad

pub empty_refused : (refs : List (List ℕ)) (t : Tree) (s : List Matcher) → t ≡ instant s → accepts_empty s ≡ true → SelectsAs refs t chosen.Refused
empty_refused refs t s is none =
    ap (selecting refs) is ∙ ap (λ b. cond (not (any_refused refs s) && not b) (selector s) no_selector) none
    ∙ ap (λ b. cond b (selector s) no_selector) (and-false (not (any_refused refs s)))

selector_read : (refs : List (List ℕ)) (words : List ℕ) (t : Tree) (s : SelectorRead) → SelectsAs refs t s → IsQuery words t → IsSelectorRead refs words s
selector_read refs words t (chosen.Built ms) h q = (t, (q.parses, h))
selector_read refs words t chosen.Refused h q = inr (t, (q.parses, h))

-- both together
pub lawful_read : (refs : List (List ℕ)) (words : List ℕ) (t : Tree) (q : QueryRead) (s : SelectorRead) → ((w : List ℕ) → IsQuery w t → IsQueryRead refs w q) → SelectsAs refs t s
    → IsQuery words t → IsReadAs refs words (record { query = q; selector = s })
lawful_read refs words t q s h g is = (h words is, selector_read refs words t s g is)

-- what is no query is no selector
pub fault_selects_none : (refs : List (List ℕ)) (words : List ℕ) (fault : QueryFault) → IsFaultOf refs words fault → IsNoSelector refs words
fault_selects_none refs words (of_grammar refusal) h = inl (refusal, h)
fault_selects_none refs words (of_kinds f) h = inr (h.0, (h.1.0, ill_typed refs h.0 f h.1.1))
fault_selects_none refs words (refused_pattern n) h = inr (h.0, (h.1.0.parses, unbound_tree refs h.0 (refused_pattern n) h.1.1))
fault_selects_none refs words (empty_selector n) h = inr (h.0, (h.1.0.parses, unbound_tree refs h.0 (empty_selector n) h.1.1))

pub refused_right : (refs : List (List ℕ)) (words : List ℕ) (e : QueryError) → is_some (query_fault e) ≡ true → IsFaultFor refs words (query_fault e)
    → IsReadAs refs words (record { query = query.Refused e; selector = chosen.Refused })
refused_right refs words e some h = by_fault (query_fault e) refl some h where
  by_fault : (o : Option QueryFault) → query_fault e ≡ o → is_some o ≡ true → IsFaultFor refs words o
      → IsReadAs refs words (record { query = query.Refused e; selector = chosen.Refused })
  by_fault None is s f = absurd (true≢false (sym s))
  by_fault (Some fault) is s f = ((fault, (is, f)), fault_selects_none refs words fault f)

-- ---- readings

-- ---- texts that are read one by one

apart : (words other : List ℕ) → bytes_eq other words ≡ false → other ≢ words
apart words other t same = let u = (bytes_eq-Decides other words).1 same in true≢false (sym u ∙ t)

-- a further text
pub read_new : (old new : Queries) (words : List ℕ) (q : TextRead) → get_by_text old words ≡ None → get_by_text new words ≡ Some q
    → ((other : List ℕ) → other ≢ words → get_by_text new other ≡ get_by_text old other) → IsTextRead old words new
read_new old new words q absent there others = record {
  read = q;
  there = there;
  still = λ other p g. elim (bool_cases (bytes_eq other words)) [
    | inl t ↦
        let same : other ≡ words = (bytes_eq-Decides other words).0 t in
        let none : get_by_text old other ≡ None = subst (λ n. get_by_text old n ≡ None) (sym same) absent in
        let wrong : Some p ≡ None = sym g ∙ none in
        cc
    | inr t ↦ others other (apart words other t) ∙ g
  ];
}

pub right_new : (refs : List (List ℕ)) (old new : Queries) (words : List ℕ) (q : TextRead) → AreReadBy refs old → IsReadAs refs words q → get_by_text new words ≡ Some q
    → ((other : List ℕ) → other ≢ words → get_by_text new other ≡ get_by_text old other) → AreReadBy refs new
right_new refs old new words q right is there others other p g = elim (bool_cases (bytes_eq other words)) [
  | inl t ↦
      let same : other ≡ words = (bytes_eq-Decides other words).0 t in
      let here : get_by_text new other ≡ Some q = subst (λ n. get_by_text new n ≡ Some q) (sym same) there in
      subst (IsReadAs refs other) (some_is q p (sym here ∙ g)) (subst (λ n. IsReadAs refs n q) (sym same) is)
  | inr t ↦ right other p (sym (others other (apart words other t)) ∙ g)
]

pub read_before : (kept : Queries) (words : List ℕ) (q : TextRead) → get_by_text kept words ≡ Some q → IsTextRead kept words kept
read_before kept words q there = record { read = q; there = there; still = λ other p g. g }

kept_still : (old new : Queries) → StayRead old new → (words : Option (List ℕ)) → IsKept old words → IsKept new words
kept_still old new still None k = tt
kept_still old new still (Some words) k = record { read = k.read; there = still words k.read k.there }

lines_still : (old new : Queries) → StayRead old new → (ls : List Numbered) → Each (λ l. IsKeptFor old l.line) ls → Each (λ l. IsKeptFor new l.line) ls
lines_still old new still [] h = tt
lines_still old new still (l ∷ ls) h = (kept_still old new still (text_in l.line) h.0, lines_still old new still ls h.1)

-- the text of a further line
pub read_more : (ls : List NumberedLine) (i : ℕ) (l : NumberedLine) (old new : Queries) → i < length ls → l ≡ get_or ls i l
    → Each (λ x. IsKeptFor old x.line) (map numbered_of (take i ls)) → IsLineRead old (numbered_of l).line new
    → Each (λ x. IsKeptFor new x.line) (map numbered_of (take (i + 1) ls))
read_more ls i l old new p is h r =
    let more : map numbered_of (take (i + 1) ls) ≡ map numbered_of (take i ls) ++ numbered_of l ∷ [] =
    ap (map numbered_of) (take_more ls i l p) ∙ map_push numbered_of (take i ls) (get_or ls i l)
    ∙ ap (λ (x : NumberedLine). map numbered_of (take i ls) ++ numbered_of x ∷ []) (sym is) in
    subst (Each (λ (x : Numbered). IsKeptFor new x.line)) (sym more)
    (each_push (λ (x : Numbered). IsKeptFor new x.line) (map numbered_of (take i ls)) (numbered_of l)
    (lines_still old new r.still (map numbered_of (take i ls)) h) r.kept)

-- the texts of all lines
pub all_kept : (ls : List NumberedLine) (i : ℕ) (kept : Queries) → (i < length ls → ⊥) → Each (λ x. IsKeptFor kept x.line) (map numbered_of (take i ls))
    → Each (λ x. IsKeptFor kept x.line) (map numbered_of ls)
all_kept ls i kept h = subst (λ (xs : List NumberedLine). Each (λ x. IsKeptFor kept x.line) (map numbered_of xs)) (take_all i ls (omega (arith, h)))
