-- What is read was derived.
use Rattle.std.proofs.Common.{◌≡◌, ◌∙◌, sym, refl, ap, subst, List, [], ◌∷◌, ◌++◌, Option, Some, None, arith}
use Rattle.std.proofs.lemmas.List.{append-nil}
use Rattle.std.specs.Option.{option_and_then}
use Rattle.pf_model.specs.Grammar.{Terminal, Written, terminals_of, FitAll, IsLawful}
use Rattle.pf_model.specs.Grammar as grammar
use Rattle.pf_model.specs.Tokens as token
use Rattle.pf_parse.specs.Held.{Held, held_target}
use Rattle.pf_parse.specs.Reading as mode
use Rattle.pf_parse.proofs.Advancing.{Advanced, Advance, settled_at, plain_text, aggregate_lawful}
use Rattle.pf_parse.proofs.Selections.{advance, goal_onto, goal_stands, goal_read}
use Rattle.pf_parse.proofs.Drafts.{Draft, Frame, Mode, selects, bare, operand, at_mode, image, images, text, stack_text, IsDraft, AreFrames, IsMode, IsStand, modifiers, goal_written, goal_image, arguments, tops_group}
use Rattle.pf_parse.proofs.Drafts as draft
use Rattle.pf_parse.proofs.Goes.{value, lexemes}
use Rattle.pf_parse.proofs.ReadOf.{read_of}
use Rattle.pf_parse.proofs.Settling.{and_no}
use Rattle.pf_parse.proofs.Toks.{Tok, sort, seen, tok_of}

pub record Spelled (d : Draft) (us : List token.Sort) (a : Held) : Type 0 where
  pub written : Written
  pub behind : List Terminal
  pub fits : FitAll behind us
  pub spells : text d behind ≡ terminals_of written
  pub lawful : IsLawful written
  pub is : read_of written ≡ a

-- ---- the end

some_same : (a b : Held) → ◌≡◌ {A = Option Held} (Some a) (Some b) → a ≡ b
some_same a b h = cc

none_some : {A : Type 0} (a : Held) → ◌≡◌ {A = Option Held} None (Some a) → A
none_some a h = absurd (never h)
  where
    never : ◌≡◌ {A = Option Held} None (Some a) → ⊥
    never h = cc

bottom : (e d : Written) (j k : List Frame) (a : Held) → mode.ended (record { held = read_of d; stack = images j }) ≡ Some a
    → ((zs : List Terminal) → stack_text j (terminals_of d ++ zs) ≡ stack_text k (terminals_of e ++ zs)) → IsLawful d
    → Spelled (at_mode (draft.whole e) k) [] a
bottom e d [] k a h g l =
    record {
      written = d;
      behind = [];
      fits = tt;
      spells = sym (g []) ∙ append-nil (terminals_of d);
      lawful = l;
      is = some_same (read_of d) a h;
    }
bottom e d (f ∷ j) k a h g l = none_some a h

whole_ends : (e : Written) (k : List Frame) (a : Held) → IsStand (operand e) k → AreFrames k
    → mode.whole_ends (read_of e) (images k) ≡ Some a → Spelled (at_mode (draft.whole e) k) [] a
whole_ends e k a l fs h =
    let q = settled_at 6 e k (omega arith) l fs in
    bottom e q.written q.stack k a (sym (ap mode.ended q.is) ∙ h) q.spells q.lawful

as_whole : (d : Draft) (e : Written) (k : List Frame) (a : Held)
    → ((zs : List Terminal) → text (at_mode (draft.whole e) k) zs ≡ text d zs)
    → Spelled (at_mode (draft.whole e) k) [] a → Spelled d [] a
as_whole d e k a g s =
    record { written = s.written; behind = s.behind; fits = s.fits; spells = sym (g s.behind) ∙ s.spells; lawful = s.lawful; is = s.is }

modified_ends : (g : draft.Goal) (w : draft.Given) (k : List Frame) (a : Held) → draft.IsGoal g k × grammar.AreModifiers (modifiers w) → AreFrames k
    → mode.whole_ends (held_target (goal_image g) (draft.read_of_given w)) (images k) ≡ Some a
    → Spelled (at_mode (draft.modified g w) k) [] a
modified_ends g w k a l fs h =
    as_whole (at_mode (draft.modified g w) k) (goal_written g (modifiers w)) k a (λ zs. ap (stack_text k) (goal_onto g (modifiers w) zs))
    (whole_ends (goal_written g (modifiers w)) k a (goal_stands g (modifiers w) k l.0 l.1) fs
    (ap (λ x. mode.whole_ends x (images k)) (goal_read g (modifiers w)) ∙ h))

ends_spelled : (m : Mode) (k : List Frame) (a : Held) → IsMode m k → AreFrames k
    → mode.ends (draft.mode_image m) (images k) ≡ Some a → Spelled (at_mode m k) [] a
ends_spelled (draft.named n) k a l fs h =
    let g = selects (record { metric = Some n; braces = None }) None in
    let s = modified_ends g bare k a ((tt, tt), tt) fs h in
    record { written = s.written; behind = s.behind; fits = s.fits; spells = s.spells; lawful = s.lawful; is = s.is }
ends_spelled (draft.modified g w) k a l fs h = modified_ends g w k a l fs h
ends_spelled (draft.whole e) k a l fs h = whole_ends e k a l fs h
ends_spelled (draft.aggregated op es e) k a l fs h =
    let w = grammar.aggregate op grammar.absent (arguments (es ++ (e ∷ []))) in
    as_whole (at_mode (draft.aggregated op es e) k) w k a (λ zs. ap (stack_text k) (plain_text op es e zs))
    (whole_ends w k a (omega arith, aggregate_lawful op grammar.absent es e tt l.0 l.1, and_no (tops_group k)) fs h)
ends_spelled _ k a l fs h = none_some a h

-- ---- the tokens

abbrev value_onto : List token.Sort → Option mode.State → Option Held
value_onto us o = option_and_then (λ s. value s (lexemes us)) o

onto : (d : Draft) (t : Tok) (u : token.Sort) (us : List token.Sort) (a : Held) (s : mode.State) → sort t ≡ u
    → (v : Advanced d t s) → Spelled v.to us a → Spelled d (u ∷ us) a
onto d t u us a s e v p =
    record {
      written = p.written;
      behind = v.terminal ∷ p.behind;
      fits = (subst (grammar.Fits v.terminal) e v.fits, p.fits);
      spells = sym (v.spells p.behind) ∙ p.spells;
      lawful = p.lawful;
      is = p.is;
    }

by_step : (d : Draft) (t : Tok) (u : token.Sort) (us : List token.Sort) (a : Held) → sort t ≡ u
    → (o : Option mode.State) → Advance d t o → value_onto us o ≡ Some a
    → ((e : Draft) → IsDraft e → value (image e) (lexemes us) ≡ Some a → Spelled e us a) → Spelled d (u ∷ us) a
by_step d t u us a e None v h f = none_some a h
by_step d t u us a e (Some s) v h f =
    onto d t u us a s e v (f v.to v.lawful (ap (λ r. value r (lexemes us)) v.is ∙ h))

spelled_from : (us : List token.Sort) (d : Draft) (a : Held) → IsDraft d → value (image d) (lexemes us) ≡ Some a → Spelled d us a
spelled_from [] d a l h = ends_spelled d.mode d.stack a l.mode l.stack h
spelled_from (u ∷ us) d a l h =
    let t = tok_of u in
    by_step d t.tok u us a t.is (mode.step (draft.mode_image d.mode) (images d.stack) (seen t.tok))
    (advance d.mode d.stack t.tok l.mode l.stack)
    (sym (ap (λ x. value_onto us (mode.step (draft.mode_image d.mode) (images d.stack) x)) t.as_seen) ∙ h)
    (λ e m g. spelled_from us e a m g)

pub record Derivation (us : List token.Sort) (a : Held) : Type 0 where
  pub written : Written
  pub fits : FitAll (terminals_of written) us
  pub lawful : IsLawful written
  pub is : read_of written ≡ a

-- a text that is read is derived, and what is held is of its derivation
pub read_derived : (us : List token.Sort) (a : Held) → value mode.start (lexemes us) ≡ Some a → Derivation us a
read_derived us a h =
    let s = spelled_from us (at_mode draft.due []) a (record { mode = refl; stack = tt }) h in
    record { written = s.written; fits = subst (λ zs. FitAll zs us) s.spells s.fits; lawful = s.lawful; is = s.is }
