-- A token leads from a draft to a draft, wherever it leads from a state to a state.
use Rattle.std.proofs.Common.{◌≡◌, ◌∙◌, sym, refl, ap, subst, ℕ, ◌≤◌, Bool, true, false, not, cond, ◌&&◌, List, [], ◌∷◌, ◌++◌, map, Option, Some, None, codes, arith}
use Rattle.std.proofs.lemmas.List.{append_assoc, map-append}
use Rattle.pf_lex.specs.declared.token.Mark.TheVariants as mark
use Rattle.pf_model.proofs.Levels.{level_positive}
use Rattle.pf_model.specs.declared.expr.BinaryOp.{BinaryOp}
use Rattle.pf_model.specs.declared.functions.AggOp.{AggOp}
use Rattle.pf_model.specs.declared.functions.Sign.{Sign}
use Rattle.pf_model.specs.Grammar.{Terminal, Fits, Written, terminals_of, all_terminals, level, IsLawful, AreLawful, IsClause, AreLabels, Labels, labels_terminals, is_nil, has_colon, operator_terminal, without_terminals, comma_if, listed, Keys, keys_terminals}
use Rattle.pf_model.specs.Grammar as grammar
use Rattle.pf_model.specs.Words.{function_of, level_of, is_comparison, aggregation_word}
use Rattle.pf_parse.specs.declared.keyword.Keyword.TheVariants as keyword
use Rattle.pf_parse.specs.Held.{held_aggregate, held_call}
use Rattle.pf_parse.specs.Lexemes.{follow_of}
use Rattle.pf_parse.specs.Lexemes as lexeme
use Rattle.pf_parse.specs.Reading as mode
use Rattle.pf_parse.proofs.Drafts.{Draft, Frame, Mode, Purpose, ClauseBefore, signed, left, bracket, calling, function, aggregation, operand, groups_next, groups, matches, includes, at_mode, image, images, text, stack_text, IsDraft, AreFrames, IsMode, Room, tops_group, Operation, IsStand, purpose_text, purpose_image, IsPurpose, fronts, arguments, held_all, aggregated_text, operated_text, only_keys, group_keys, without_key}
use Rattle.pf_parse.proofs.Drafts as draft
use Rattle.pf_parse.proofs.Labels.{label_texts, labels_onto}
use Rattle.pf_parse.proofs.ReadOf.{read_of}
use Rattle.pf_parse.proofs.Rows.{ended, with_last, with_next, arguments_text, next_text, held_next, lawful_next}
use Rattle.pf_parse.proofs.Settling.{Settled, settled, and_no}
use Rattle.pf_parse.proofs.Toks.{Tok, sort, seen, Followed, operation, square, comma, close, nothing, followed_of}
use Rattle.pf_parse.proofs.Toks as tok

pub record Advanced (d : Draft) (t : Tok) (s : mode.State) : Type 0 where
  pub to : Draft
  pub is : image to ≡ s
  pub terminal : Terminal
  pub fits : Fits terminal (sort t)
  pub spells : (zs : List Terminal) → text to zs ≡ text d (terminal ∷ zs)
  pub lawful : IsDraft to

abbrev pub Advance : Draft → Tok → Option mode.State → Type 0
Advance d t None = Unit {0}
Advance d t (Some s) = Advanced d t s

-- a draft with the same text in another mode
pub respelled : (d e : Draft) (t : Tok) (o : Option mode.State) → ((zs : List Terminal) → text e zs ≡ text d zs)
    → Advance e t o → Advance d t o
respelled d e t None h a = tt
respelled d e t (Some s) h a =
    record { to = a.to; is = a.is; terminal = a.terminal; fits = a.fits; spells = λ zs. a.spells zs ∙ h (a.terminal ∷ zs); lawful = a.lawful }

pub moved : (d : Draft) (t : Tok) (m : Mode) (k : List Frame) (c : Terminal) → Fits c (sort t)
    → ((zs : List Terminal) → text (at_mode m k) zs ≡ text d (c ∷ zs)) → IsMode m k → AreFrames k
    → Advanced d t (image (at_mode m k))
moved d t m k c f h l a =
    record { to = at_mode m k; is = refl; terminal = c; fits = f; spells = h; lawful = record { mode = l; stack = a } }

pub as_image : (d : Draft) (t : Tok) (s r : mode.State) → s ≡ r → Advanced d t s → Advanced d t r
as_image d t s r h a =
    record { to = a.to; is = a.is ∙ h; terminal = a.terminal; fits = a.fits; spells = a.spells; lawful = a.lawful }

-- a test decides
pub tested : (d : Draft) (t : Tok) (m : mode.Mode) (k : List mode.Frame) (b : Bool)
    → (b ≡ true → Advanced d t (record { mode = m; stack = k })) → Advance d t (mode.to_if b m k)
tested d t m k true f = f refl
tested d t m k false f = tt

-- ---- operands

pub advance_due : (k : List Frame) (t : Tok) → (seen t ≡ lexeme.sign (Some mark.Open) → tops_group k ≡ false) → AreFrames k
    → Advance (at_mode draft.due k) t (mode.due_step (images k) (seen t))
advance_due k (tok.number n) o a =
    moved _ _ (draft.whole (grammar.number n)) k (grammar.number n) refl (λ zs. refl) (omega arith, tt, and_no (tops_group k)) a
advance_due k (tok.string s) o a =
    moved _ _ (draft.whole (grammar.text s)) k (grammar.string s) refl (λ zs. refl) (omega arith, tt, and_no (tops_group k)) a
advance_due k (tok.sign mark.Open) o a =
    moved _ _ draft.due (bracket ∷ k) (grammar.sign (codes "(")) refl (λ zs. refl) refl (o refl, a)
advance_due k (tok.sign mark.OpenBrace) o a =
    moved _ _ (draft.label_due (record { metric = None; matchers = [] })) k (grammar.sign (codes "{")) refl (λ zs. refl) refl a
advance_due k (tok.sign mark.Plus) o a =
    moved _ _ draft.due (signed false ∷ k) (grammar.sign (codes "+")) refl (λ zs. refl) refl a
advance_due k (tok.sign mark.Minus) o a =
    moved _ _ draft.due (signed true ∷ k) (grammar.sign (codes "-")) refl (λ zs. refl) refl a
advance_due k (tok.key (keyword.Aggregation op) w h f) o a =
    moved _ _ (draft.clause_due op) k (grammar.key (aggregation_word op)) h (λ zs. refl) tt a
advance_due k (tok.plain w h) o a =
    moved _ _ (draft.named w) k (grammar.name w) (refl, h) (λ zs. refl) tt a
advance_due k _ o a = tt

first_as_due : (n : List ℕ) (k : List Frame) (t : Tok) → AreFrames k
    → Advance (at_mode (draft.first_due n) k) t (mode.due_step (mode.calling (mode.function (function_of n)) (Some []) ∷ images k) (seen t))
first_as_due n k t a =
    respelled (at_mode (draft.first_due n) k) (at_mode draft.due (calling (function n) [] ∷ k)) t
    (mode.due_step (mode.calling (mode.function (function_of n)) (Some []) ∷ images k) (seen t)) (λ zs. refl)
    (advance_due (calling (function n) [] ∷ k) t (λ h. refl) (tt, tt, a))

pub advance_first : (n : List ℕ) (k : List Frame) (t : Tok) → AreFrames k
    → Advance (at_mode (draft.first_due n) k) t (mode.first_step (function_of n) (images k) (seen t))
advance_first n k (tok.sign mark.Close) a =
    moved _ _ (draft.whole (grammar.call n grammar.none)) k (grammar.sign (codes ")")) refl (λ zs. refl)
    (omega arith, tt, and_no (tops_group k)) a
advance_first n k t a = first_as_due n k t a

-- ---- behind a whole operand

whole_operates : (s : Sign) (e : Written) (k : List Frame) (t : Tok)
    → Fits (operator_terminal (record { sign = s; with_bool = false })) (sort t)
    → Settled (level_of s) e k
    → Advance (at_mode (draft.whole e) k) t (mode.operates_on s (mode.settle (level_of s) (read_of e) (images k)))
whole_operates s e k t f q =
    subst (λ x. Advance (at_mode (draft.whole e) k) t (mode.operates_on s x)) (sym q.is)
    (moved _ _ (draft.operated (record { sign = s; with_bool = false }) q.written) q.stack
    (operator_terminal (record { sign = s; with_bool = false })) f
    (λ zs. q.spells (operator_terminal (record { sign = s; with_bool = false }) ∷ zs))
    (record { lower = q.low; compares = refl; lawful = q.lawful; room = q.room; fronted = q.fronted }) q.frames)

whole_separates : (e : Written) (k : List Frame) (t : Tok) → Fits (grammar.sign (codes ",")) (sort t)
    → (d : Written) (j : List Frame) → IsLawful d → AreFrames j
    → ((zs : List Terminal) → stack_text j (terminals_of d ++ zs) ≡ stack_text k (terminals_of e ++ zs))
    → Advance (at_mode (draft.whole e) k) t (mode.separated (read_of d) (images j))
whole_separates e k t f d [] l a g = tt
whole_separates e k t f d (signed minus ∷ j) l a g = tt
whole_separates e k t f d (left op keys b ∷ j) l a g = tt
whole_separates e k t f d (bracket ∷ j) l a g = tt
whole_separates e k t f d (calling c es ∷ j) l a g =
    as_image _ _ (image (at_mode draft.due (calling c (es ++ (d ∷ [])) ∷ j))) _
    (ap (λ x. record { mode = mode.due; stack = mode.calling (draft.callee_image c) x ∷ images j }) (held_next es d))
    (moved _ _ draft.due (calling c (es ++ (d ∷ [])) ∷ j) (grammar.sign (codes ",")) f
    (λ zs. ap (λ us. stack_text j (draft.callee_text c (grammar.sign (codes "(") ∷ us))) (next_text es d zs)
    ∙ g (grammar.sign (codes ",") ∷ zs))
    refl (a.0, lawful_next es d a.1 l, a.2))

call_text : (n : List ℕ) (es : List Written) (d : Written) (zs : List Terminal)
    → terminals_of (grammar.call n (arguments (es ++ (d ∷ [])))) ++ zs
    ≡ grammar.name n ∷ grammar.sign (codes "(") ∷ fronts (map terminals_of es) (terminals_of d ++ (grammar.sign (codes ")") ∷ zs))
call_text n es d zs =
    ap (λ us. grammar.name n ∷ grammar.sign (codes "(") ∷ us)
    (append_assoc (all_terminals (arguments (es ++ (d ∷ [])))) (grammar.sign (codes ")") ∷ []) zs
    ∙ arguments_text es d (grammar.sign (codes ")") ∷ zs))

before_text : (op : AggOp) (c : ClauseBefore) (es : List Written) (d : Written) (zs : List Terminal)
    → terminals_of (grammar.aggregate op (grammar.before c.without c.labels) (arguments (es ++ (d ∷ [])))) ++ zs
    ≡ grammar.key (aggregation_word op) ∷ (without_terminals c.without c.labels
    ++ (grammar.sign (codes "(") ∷ fronts (map terminals_of es) (terminals_of d ++ (grammar.sign (codes ")") ∷ zs))))
before_text op c es d zs =
    ap (λ us. grammar.key (aggregation_word op) ∷ us)
    (append_assoc (without_terminals c.without c.labels)
    (grammar.sign (codes "(") ∷ (all_terminals (arguments (es ++ (d ∷ []))) ++ (grammar.sign (codes ")") ∷ []))) zs
    ∙ ap (λ us. without_terminals c.without c.labels ++ (grammar.sign (codes "(") ∷ us))
    (append_assoc (all_terminals (arguments (es ++ (d ∷ [])))) (grammar.sign (codes ")") ∷ []) zs
    ∙ arguments_text es d (grammar.sign (codes ")") ∷ zs)))

pub plain_text : (op : AggOp) (es : List Written) (d : Written) (zs : List Terminal)
    → terminals_of (grammar.aggregate op grammar.absent (arguments (es ++ (d ∷ [])))) ++ zs ≡ aggregated_text op es d zs
plain_text op es d zs =
    ap (λ us. grammar.key (aggregation_word op) ∷ grammar.sign (codes "(") ∷ us)
    (append_assoc (all_terminals (arguments (es ++ (d ∷ [])))) (grammar.sign (codes ")") ∷ []) zs
    ∙ arguments_text es d (grammar.sign (codes ")") ∷ zs))

behind_text : (op : AggOp) (es : List Written) (d : Written) (w : Bool) (l : Labels) (zs : List Terminal)
    → terminals_of (grammar.aggregate op (grammar.behind w l) (arguments (es ++ (d ∷ [])))) ++ zs
    ≡ aggregated_text op es d (without_terminals w l ++ zs)
behind_text op es d w l zs =
    ap (λ us. grammar.key (aggregation_word op) ∷ grammar.sign (codes "(") ∷ us)
    (append_assoc (all_terminals (arguments (es ++ (d ∷ [])))) (grammar.sign (codes ")") ∷ without_terminals w l) zs
    ∙ arguments_text es d (grammar.sign (codes ")") ∷ (without_terminals w l ++ zs)))

pub aggregate_lawful : (op : AggOp) (c : grammar.Clause) (es : List Written) (d : Written) → IsClause c → AreLawful (arguments es) → IsLawful d
    → IsLawful (grammar.aggregate op c (arguments (es ++ (d ∷ []))))
aggregate_lawful op c [] d p l m = (p, m, tt)
aggregate_lawful op c (e ∷ es) d p l m = (p, l.0, lawful_next es d l.1 m)

call_lawful : (n : List ℕ) (es : List Written) (d : Written) → AreLawful (arguments es) → IsLawful d
    → IsLawful (grammar.call n (arguments (es ++ (d ∷ []))))
call_lawful n es d l m = lawful_next es d l m

bracket_text : (d : Written) (zs : List Terminal)
    → terminals_of (grammar.brackets d) ++ zs ≡ grammar.sign (codes "(") ∷ (terminals_of d ++ (grammar.sign (codes ")") ∷ zs))
bracket_text d zs = ap (λ us. grammar.sign (codes "(") ∷ us) (append_assoc (terminals_of d) (grammar.sign (codes ")") ∷ []) zs)

whole_closes : (e : Written) (k : List Frame) (t : Tok) → Fits (grammar.sign (codes ")")) (sort t)
    → (d : Written) (j : List Frame) → IsLawful d → AreFrames j
    → ((zs : List Terminal) → stack_text j (terminals_of d ++ zs) ≡ stack_text k (terminals_of e ++ zs))
    → Advance (at_mode (draft.whole e) k) t (mode.closed (read_of d) (images j))
whole_closes e k t f d [] l a g = tt
whole_closes e k t f d (signed minus ∷ j) l a g = tt
whole_closes e k t f d (left op keys b ∷ j) l a g = tt
whole_closes e k t f d (bracket ∷ j) l a g =
    moved _ _ (draft.whole (grammar.brackets d)) j (grammar.sign (codes ")")) f
    (λ zs. ap (stack_text j) (bracket_text d zs) ∙ g (grammar.sign (codes ")") ∷ zs))
    (omega arith, l, ap (λ b. b && true) a.0) a.1
whole_closes e k t f d (calling (function n) es ∷ j) l a g =
    as_image _ _ (image (at_mode (draft.whole (grammar.call n (arguments (es ++ (d ∷ []))))) j)) _
    (ap (λ x. record { mode = mode.whole (held_call (function_of n) x); stack = images j }) (held_next es d))
    (moved _ _ (draft.whole (grammar.call n (arguments (es ++ (d ∷ []))))) j (grammar.sign (codes ")")) f
    (λ zs. ap (stack_text j) (call_text n es d zs) ∙ g (grammar.sign (codes ")") ∷ zs))
    (omega arith, call_lawful n es d a.1 l, and_no (tops_group j)) a.2)
whole_closes e k t f d (calling (aggregation op (Some c)) es ∷ j) l a g =
    as_image _ _ (image (at_mode (draft.whole (grammar.aggregate op (grammar.before c.without c.labels) (arguments (es ++ (d ∷ []))))) j)) _
    (ap (λ x. record { mode = mode.whole (held_aggregate op (draft.grouped_before c) x); stack = images j }) (held_next es d))
    (moved _ _ (draft.whole (grammar.aggregate op (grammar.before c.without c.labels) (arguments (es ++ (d ∷ []))))) j
    (grammar.sign (codes ")")) f
    (λ zs. ap (stack_text j) (before_text op c es d zs) ∙ g (grammar.sign (codes ")") ∷ zs))
    (omega arith, aggregate_lawful op (grammar.before c.without c.labels) es d a.0 a.1 l, and_no (tops_group j)) a.2)
whole_closes e k t f d (calling (aggregation op None) es ∷ j) l a g =
    as_image _ _ (image (at_mode (draft.aggregated op es d) j)) _
    (ap (λ x. record { mode = mode.aggregated op x; stack = images j }) (held_next es d))
    (moved _ _ (draft.aggregated op es d) j (grammar.sign (codes ")")) f
    (λ zs. g (grammar.sign (codes ")") ∷ zs)) (a.1, l) a.2)

pub settled_at : (l : ℕ) (e : Written) (k : List Frame) → 2 ≤ l → IsStand (operand e) k → AreFrames k → Settled l e k
settled_at l e k p s a = settled l k e p s.1 (omega (arith, p, s.0)) (room_low e k s.0) s.2 a
  where
    room_low : (e : Written) (k : List Frame) → level e ≤ 0 → Room (level e) k
    room_low e [] z = tt
    room_low e (signed minus ∷ k) z = omega (arith, z)
    room_low e (left op keys b ∷ k) z = omega (arith, z, level_positive op.sign)
    room_low e (bracket ∷ k) z = tt
    room_low e (calling c es ∷ k) z = tt

whole_followed : (e : Written) (k : List Frame) (t : Tok) → Followed t → IsStand (operand e) k → AreFrames k
    → Advance (at_mode (draft.whole e) k) t (mode.followed (follow_of (seen t)) (read_of e) (images k))
whole_followed e k t (operation s h f) l a =
    subst (λ x. Advance (at_mode (draft.whole e) k) t (mode.followed x (read_of e) (images k))) (sym h)
    (whole_operates s e k t f (settled_at (level_of s) e k (level_positive s) l a))
whole_followed e k t (square h f) l a =
    subst (λ x. Advance (at_mode (draft.whole e) k) t (mode.followed x (read_of e) (images k))) (sym h)
    (moved _ _ (draft.range_due (operand e)) k (grammar.sign (codes "[")) f (λ zs. refl) l a)
whole_followed e k t (comma h f) l a =
    let q = settled_at 6 e k (omega arith) l a in
    subst (λ x. Advance (at_mode (draft.whole e) k) t (mode.followed x (read_of e) (images k))) (sym h)
    (subst (λ x. Advance (at_mode (draft.whole e) k) t (mode.separated x.held x.stack)) (sym q.is)
    (whole_separates e k t f q.written q.stack q.lawful q.frames q.spells))
whole_followed e k t (close h f) l a =
    let q = settled_at 6 e k (omega arith) l a in
    subst (λ x. Advance (at_mode (draft.whole e) k) t (mode.followed x (read_of e) (images k))) (sym h)
    (subst (λ x. Advance (at_mode (draft.whole e) k) t (mode.closed x.held x.stack)) (sym q.is)
    (whole_closes e k t f q.written q.stack q.lawful q.frames q.spells))
whole_followed e k t (nothing h) l a =
    subst (λ x. Advance (at_mode (draft.whole e) k) t (mode.followed x (read_of e) (images k))) (sym h) tt

pub advance_whole : (e : Written) (k : List Frame) (t : Tok) → IsStand (operand e) k → AreFrames k
    → Advance (at_mode (draft.whole e) k) t (mode.whole_step (read_of e) (images k) (seen t))
advance_whole e k t l a = whole_followed e k t (followed_of t) l a

-- ---- operators

operated_as_due : (op : BinaryOp) (b : Written) (k : List Frame) (t : Tok) → Operation op b k → AreFrames k
    → Advance (at_mode (draft.operated op b) k) t (mode.right_step op mode.no_keys (read_of b) (images k) (seen t))
operated_as_due op b k t l a =
    respelled (at_mode (draft.operated op b) k) (at_mode draft.due (left op None b ∷ k)) t
    (mode.right_step op mode.no_keys (read_of b) (images k) (seen t)) (λ zs. refl)
    (advance_due (left op None b ∷ k) t (λ h. refl) (l, tt, a))

compared : (op : BinaryOp) → (is_comparison op.sign && not op.with_bool) ≡ true → (op.with_bool ≡ false) × ((true && not (is_comparison op.sign)) ≡ false)
compared op h = parts (is_comparison op.sign) op.with_bool h
  where
    parts : (c b : Bool) → (c && not b) ≡ true → (b ≡ false) × ((true && not c) ≡ false)
    parts true false h = (refl, refl)
    parts true true h = absurd (grind arith)
    parts false b h = absurd (grind arith)

bool_read : (op : BinaryOp) (b : Written) (k : List Frame) (w : List ℕ) (h : Rattle.std.specs.Str.str_to_ascii_lowercase w ≡ codes "bool")
    (f : lexeme.keyword_among lexeme.all_keywords (codes "bool") ≡ Some keyword.Bool)
    → Operation op b k → AreFrames k → (is_comparison op.sign && not op.with_bool) ≡ true
    → Advanced (at_mode (draft.operated op b) k) (tok.key keyword.Bool w h f)
    (record { mode = mode.operated (mode.with_bool op) (read_of b); stack = images k })
bool_read op b k w h f l a e =
    let c = compared op e in
    moved (at_mode (draft.operated op b) k) (tok.key keyword.Bool w h f) (draft.operated (mode.with_bool op) b) k (grammar.key (codes "bool")) h
    (λ zs. ap (λ x. stack_text k (terminals_of b ++ (operator_terminal op ∷ (grammar.bool_terminals x ++ (grammar.key (codes "bool") ∷ zs))))) (sym c.0))
    (record { lower = l.lower; compares = c.1; lawful = l.lawful; room = l.room; fronted = l.fronted }) a

pub advance_operated : (op : BinaryOp) (b : Written) (k : List Frame) (t : Tok) → Operation op b k → AreFrames k
    → Advance (at_mode (draft.operated op b) k) t (mode.operated_step op (read_of b) (images k) (seen t))
advance_operated op b k (tok.key keyword.Bool w h f) l a =
    tested (at_mode (draft.operated op b) k) (tok.key keyword.Bool w h f) (mode.operated (mode.with_bool op) (read_of b)) (images k)
    (is_comparison op.sign && not op.with_bool) (bool_read op b k w h f l a)
advance_operated op b k (tok.key (keyword.Keys is_on) w h f) l a =
    moved _ _ (draft.labels_due (matches op b is_on)) k (draft.on_key is_on) h (λ zs. refl) l a
advance_operated op b k t l a = operated_as_due op b k t l a

keyed_as_due : (op : BinaryOp) (is_on : Bool) (ls : Labels) (b : Written) (k : List Frame) (t : Tok)
    → Operation op b k × AreLabels ls → AreFrames k
    → Advance (at_mode (draft.keyed op is_on ls b) k) t
    (mode.right_step op (grammar.matched_of (Some (only_keys is_on ls))) (read_of b) (images k) (seen t))
keyed_as_due op is_on ls b k t l a =
    respelled (at_mode (draft.keyed op is_on ls b) k) (at_mode draft.due (left op (Some (only_keys is_on ls)) b ∷ k)) t
    (mode.right_step op (grammar.matched_of (Some (only_keys is_on ls))) (read_of b) (images k) (seen t)) (λ zs. refl)
    (advance_due (left op (Some (only_keys is_on ls)) b ∷ k) t (λ h. refl) (l.0, (l.1, tt), a))

group_text : (is_on : Bool) (ls : Labels) (is_left : Bool) (zs : List Terminal)
    → keys_terminals (group_keys is_on ls is_left) ++ zs
    ≡ keys_terminals (only_keys is_on ls) ++ (grammar.key (cond is_left (codes "group_left") (codes "group_right")) ∷ zs)
group_text is_on ls is_left zs =
    ap (λ us. draft.on_key is_on ∷ us)
    (append_assoc (labels_terminals ls) (grammar.key (cond is_left (codes "group_left") (codes "group_right")) ∷ []) zs
    ∙ sym (append_assoc (labels_terminals ls) [] (grammar.key (cond is_left (codes "group_left") (codes "group_right")) ∷ zs)))

pub advance_keyed : (op : BinaryOp) (is_on : Bool) (ls : Labels) (b : Written) (k : List Frame) (t : Tok)
    → Operation op b k × AreLabels ls → AreFrames k
    → Advance (at_mode (draft.keyed op is_on ls b) k) t
    (mode.keyed_step op (grammar.matched_of (Some (only_keys is_on ls))) (read_of b) (images k) (seen t))
advance_keyed op is_on ls b k (tok.key (keyword.Group is_left) w h f) l a =
    moved _ _ (draft.grouped op is_on ls is_left b) k (grammar.key (cond is_left (codes "group_left") (codes "group_right"))) h
    (λ zs. ap (λ us. stack_text k (operated_text op b us)) (group_text is_on ls is_left zs)) l a
advance_keyed op is_on ls b k t l a = keyed_as_due op is_on ls b k t l a

grouped_as_due : (op : BinaryOp) (is_on : Bool) (ls : Labels) (is_left : Bool) (b : Written) (k : List Frame) (t : Tok)
    → (seen t ≡ lexeme.sign (Some mark.Open) → true ≡ false) → Operation op b k × AreLabels ls → AreFrames k
    → Advance (at_mode (draft.grouped op is_on ls is_left b) k) t
    (mode.right_step op (grammar.matched_of (Some (group_keys is_on ls is_left))) (read_of b) (images k) (seen t))
grouped_as_due op is_on ls is_left b k t n l a =
    respelled (at_mode (draft.grouped op is_on ls is_left b) k) (at_mode draft.due (left op (Some (group_keys is_on ls is_left)) b ∷ k)) t
    (mode.right_step op (grammar.matched_of (Some (group_keys is_on ls is_left))) (read_of b) (images k) (seen t)) (λ zs. refl)
    (advance_due (left op (Some (group_keys is_on ls is_left)) b ∷ k) t n (l.0, (l.1, tt), a))

pub advance_grouped : (op : BinaryOp) (is_on : Bool) (ls : Labels) (is_left : Bool) (b : Written) (k : List Frame) (t : Tok)
    → Operation op b k × AreLabels ls → AreFrames k
    → Advance (at_mode (draft.grouped op is_on ls is_left b) k) t
    (mode.grouped_step op (grammar.matched_of (Some (group_keys is_on ls is_left))) (read_of b) (images k) (seen t))
advance_grouped op is_on ls is_left b k (tok.sign mark.Open) l a =
    moved _ _ (draft.labels (includes op is_on ls is_left b) []) k (grammar.sign (codes "(")) refl (λ zs. refl) l a
advance_grouped op is_on ls is_left b k t l a = grouped_as_due op is_on ls is_left b k t (λ h. absurd (grind arith)) l a

-- ---- aggregations

clause_key : (without : Bool) (w : List ℕ) → Rattle.std.specs.Str.str_to_ascii_lowercase w ≡ cond without (codes "without") (codes "by")
    → Fits (without_key without) (Rattle.pf_model.specs.Tokens.word w)
clause_key true w h = h
clause_key false w h = h

pub advance_clause : (op : AggOp) (k : List Frame) (t : Tok) → AreFrames k
    → Advance (at_mode (draft.clause_due op) k) t (mode.clause_step op (images k) (seen t))
advance_clause op k (tok.key (keyword.Clause without) w h f) a =
    moved _ _ (draft.labels_due (groups_next op without)) k (without_key without) (clause_key without w h) (λ zs. refl) tt a
advance_clause op k (tok.sign mark.Open) a =
    moved _ _ draft.due (calling (aggregation op None) [] ∷ k) (grammar.sign (codes "(")) refl (λ zs. refl) refl (tt, tt, a)
advance_clause op k _ a = tt

pub advance_arguments : (op : AggOp) (c : ClauseBefore) (k : List Frame) (t : Tok) → AreLabels c.labels → AreFrames k
    → Advance (at_mode (draft.arguments_due op c) k) t (mode.arguments_step op (draft.grouped_before c) (images k) (seen t))
advance_arguments op c k (tok.sign mark.Open) l a =
    moved _ _ draft.due (calling (aggregation op (Some c)) [] ∷ k) (grammar.sign (codes "(")) refl (λ zs. refl) refl (l, tt, a)
advance_arguments op c k _ l a = tt

aggregated_as_whole : (op : AggOp) (es : List Written) (e : Written) (k : List Frame) (t : Tok)
    → AreLawful (arguments es) × IsLawful e → AreFrames k
    → Advance (at_mode (draft.aggregated op es e) k) t (mode.whole_step (held_aggregate op mode.by_none (held_all (es ++ (e ∷ [])))) (images k) (seen t))
aggregated_as_whole op es e k t l a =
    respelled (at_mode (draft.aggregated op es e) k) (at_mode (draft.whole (grammar.aggregate op grammar.absent (arguments (es ++ (e ∷ []))))) k) t
    (mode.whole_step (held_aggregate op mode.by_none (held_all (es ++ (e ∷ [])))) (images k) (seen t))
    (λ zs. ap (stack_text k) (plain_text op es e zs))
    (advance_whole (grammar.aggregate op grammar.absent (arguments (es ++ (e ∷ [])))) k t
    (omega arith, aggregate_lawful op grammar.absent es e tt l.0 l.1, and_no (tops_group k)) a)

pub advance_aggregated : (op : AggOp) (es : List Written) (e : Written) (k : List Frame) (t : Tok)
    → AreLawful (arguments es) × IsLawful e → AreFrames k
    → Advance (at_mode (draft.aggregated op es e) k) t (mode.aggregated_step op (held_all (es ++ (e ∷ []))) (images k) (seen t))
advance_aggregated op es e k (tok.key (keyword.Clause without) w h f) l a =
    moved _ _ (draft.labels_due (groups op es e without)) k (without_key without) (clause_key without w h) (λ zs. refl) l a
advance_aggregated op es e k t l a = aggregated_as_whole op es e k t l a

-- ---- labels

pub advance_labels_due : (p : Purpose) (k : List Frame) (t : Tok) → IsPurpose p k → AreFrames k
    → Advance (at_mode (draft.labels_due p) k) t (mode.labels_open_step (purpose_image p) (images k) (seen t))
advance_labels_due p k (tok.sign mark.Open) l a =
    moved _ _ (draft.labels p []) k (grammar.sign (codes "(")) refl (λ zs. refl) l a
advance_labels_due p k _ l a = tt

without_onto : (w : Bool) (ls : Labels) (zs : List Terminal) → without_terminals w ls ++ zs ≡ without_key w ∷ (labels_terminals ls ++ zs)
without_onto true ls zs = refl
without_onto false ls zs = refl

-- what was read once the labels are whole
labels_done : (d : Draft) (t : Tok) (p : Purpose) (ls : Labels) (k : List Frame) → Fits (grammar.sign (codes ")")) (sort t)
    → ((zs : List Terminal) → stack_text k (purpose_text p (labels_terminals ls ++ zs)) ≡ text d (grammar.sign (codes ")") ∷ zs))
    → AreLabels ls → IsPurpose p k → AreFrames k → Advanced d t (mode.labels_read (purpose_image p) ls.labels (images k))
labels_done d t (groups_next op w) ls k f g m l a =
    moved d t (draft.arguments_due op (record { without = w; labels = ls })) k (grammar.sign (codes ")")) f
    (λ zs. ap (λ us. stack_text k (grammar.key (aggregation_word op) ∷ us)) (without_onto w ls zs) ∙ g zs) m a
labels_done d t (groups op es e w) ls k f g m l a =
    moved d t (draft.whole (grammar.aggregate op (grammar.behind w ls) (arguments (es ++ (e ∷ []))))) k (grammar.sign (codes ")")) f
    (λ zs. ap (stack_text k) (behind_text op es e w ls zs ∙ ap (aggregated_text op es e) (without_onto w ls zs)) ∙ g zs)
    (omega arith, aggregate_lawful op (grammar.behind w ls) es e m l.0 l.1, and_no (tops_group k)) a
labels_done d t (matches op b is_on) ls k f g m l a =
    moved d t (draft.keyed op is_on ls b) k (grammar.sign (codes ")")) f
    (λ zs. ap (λ us. stack_text k (operated_text op b (draft.on_key is_on ∷ us))) (append_assoc (labels_terminals ls) [] zs) ∙ g zs)
    (l, m) a
labels_done d t (includes op is_on ks is_left b) ls k f g m l a =
    moved d t draft.due
    (left op (Some (record { on = is_on; labels = ks; group = Some (record { left = is_left; include = Some ls }) })) b ∷ k)
    (grammar.sign (codes ")")) f
    (λ zs. ap (λ us. stack_text k (operated_text op b us)) (include_text is_on ks is_left ls zs) ∙ g zs)
    refl (l.0, (l.1, m), a)
  where
    include_text : (is_on : Bool) (ks : Labels) (is_left : Bool) (ls : Labels) (zs : List Terminal)
        → keys_terminals (record { on = is_on; labels = ks; group = Some (record { left = is_left; include = Some ls }) }) ++ zs
        ≡ keys_terminals (group_keys is_on ks is_left) ++ (labels_terminals ls ++ zs)
    include_text is_on ks is_left ls zs =
        ap (λ us. draft.on_key is_on ∷ us)
        (append_assoc (labels_terminals ks) (grammar.key (cond is_left (codes "group_left") (codes "group_right")) ∷ labels_terminals ls) zs
        ∙ sym (append_assoc (labels_terminals ks) (grammar.key (cond is_left (codes "group_left") (codes "group_right")) ∷ []) (labels_terminals ls ++ zs)))

not_true : (b : Bool) → not b ≡ true → b ≡ false
not_true true h = absurd (grind arith)
not_true false h = refl

label_moved : (p : Purpose) (ls : List (List ℕ)) (k : List Frame) (t : Tok) (w : List ℕ)
    → (has_colon w ≡ false → Fits (grammar.label w) (sort t)) → IsPurpose p k → AreFrames k
    → Advance (at_mode (draft.labels p ls) k) t
    (mode.to_if (not (has_colon w)) (mode.labelled (purpose_image p) (ls ++ (w ∷ []))) (images k))
label_moved p ls k t w f l a =
    tested (at_mode (draft.labels p ls) k) t (mode.labelled (purpose_image p) (ls ++ (w ∷ []))) (images k) (not (has_colon w))
    (λ h. moved (at_mode (draft.labels p ls) k) t (draft.labelled p ls w) k (grammar.label w) (f (not_true (has_colon w) h)) (λ zs. refl) l a)

comma_law : (ls : List (List ℕ)) → (not (is_nil ls) && is_nil ls) ≡ false
comma_law [] = refl
comma_law (l ∷ ls) = refl

label_rows : (ls : List (List ℕ)) (l : List ℕ) → label_texts (ls ++ (l ∷ [])) ≡ label_texts ls ++ ((grammar.label l ∷ []) ∷ [])
label_rows ls l = map-append (λ n. grammar.label n ∷ []) ls (l ∷ [])

pub advance_labels : (p : Purpose) (ls : List (List ℕ)) (k : List Frame) (t : Tok) → IsPurpose p k → AreFrames k
    → Advance (at_mode (draft.labels p ls) k) t (mode.labels_step (purpose_image p) ls (images k) (seen t))
advance_labels p ls k (tok.key j w h f) l a = label_moved p ls k (tok.key j w h f) w (λ c. (refl, c)) l a
advance_labels p ls k (tok.plain w h) l a = label_moved p ls k (tok.plain w h) w (λ c. (refl, c)) l a
advance_labels p ls k (tok.sign mark.Close) l a =
    labels_done (at_mode (draft.labels p ls) k) (tok.sign mark.Close) p (record { labels = ls; comma = not (is_nil ls) }) k refl
    (λ zs. ap (λ us. stack_text k (purpose_text p us)) (labels_onto (record { labels = ls; comma = not (is_nil ls) }) zs
    ∙ ap (λ us. grammar.sign (codes "(") ∷ us) (sym (rows ls (grammar.sign (codes ")") ∷ zs)))))
    (comma_law ls) l a
  where
    rows : (ls : List (List ℕ)) (zs : List Terminal)
        → fronts (label_texts ls) zs ≡ listed (label_texts ls) ++ (comma_if (not (is_nil ls)) ++ zs)
    rows [] zs = refl
    rows (l ∷ ls) zs = ended (label_texts (l ∷ ls)) zs
advance_labels p ls k _ l a = tt

pub advance_labelled : (p : Purpose) (ls : List (List ℕ)) (n : List ℕ) (k : List Frame) (t : Tok) → IsPurpose p k → AreFrames k
    → Advance (at_mode (draft.labelled p ls n) k) t (mode.labelled_step (purpose_image p) (ls ++ (n ∷ [])) (images k) (seen t))
advance_labelled p ls n k (tok.sign mark.Comma) l a =
    moved _ _ (draft.labels p (ls ++ (n ∷ []))) k (grammar.sign (codes ",")) refl
    (λ zs. ap (λ us. stack_text k (purpose_text p (grammar.sign (codes "(") ∷ us)))
    (ap (λ us. fronts us zs) (label_rows ls n) ∙ with_next (label_texts ls) (grammar.label n ∷ []) zs)) l a
advance_labelled p ls n k (tok.sign mark.Close) l a =
    labels_done (at_mode (draft.labelled p ls n) k) (tok.sign mark.Close) p (record { labels = ls ++ (n ∷ []); comma = false }) k refl
    (λ zs. ap (λ us. stack_text k (purpose_text p us)) (labels_onto (record { labels = ls ++ (n ∷ []); comma = false }) zs
    ∙ ap (λ us. grammar.sign (codes "(") ∷ us)
    (ap (λ us. listed us ++ (grammar.sign (codes ")") ∷ zs)) (label_rows ls n)
    ∙ sym (with_last (label_texts ls) (grammar.label n ∷ []) (grammar.sign (codes ")") ∷ zs)))))
    refl l a
advance_labelled p ls n k _ l a = tt
