use Rattle.std.proofs.Common.{◌≡◌, ◌∙◌, ap, sym, subst, ℕ, ◌+◌, ◌<◌, List, length, get_or, Option, Some, None, Result, Err}
use Rattle.pf_lex.specs.declared.token.Token.{Token}
use Rattle.pf_parse.specs.Held.{Held}
use Rattle.pf_parse.specs.Reading.{Frame, Mode, step}
use Rattle.pf_parse.specs.Shown.{lexeme_at}
use Rattle.pf_parse.specs.Stacks.{Leads, mode_of}
use Rattle.pf_parse.specs.declared.mode.Mode.{Mode as Shown}
use Rattle.pf_parse.proofs.Past.{from, run_goes, run_stops}
use Rattle.pf_parse.proofs.reader.read.Goals as goal

goes_on : (text : List ℕ) (ts : List Token) (i : ℕ) (d : Token) (m : Mode) (k : List Frame) (o : Option Shown) (next : Shown) (new : List Frame) (r : Result Held ℕ)
    → i < length ts → d ≡ get_or ts i d → Leads o new (step m k (lexeme_at text d)) → o ≡ Some next
    → from text ts i (record { mode = m; stack = k }) ≡ r → from text ts (i + 1) (record { mode = mode_of next; stack = new }) ≡ r
goes_on text ts i d m k o next new r l e h n inv =
    run_goes text ts i d (record { mode = m; stack = k }) (record { mode = mode_of next; stack = new }) l
    (ap (λ (x : Token). step m k (lexeme_at text x)) (sym e) ∙ subst (λ (p : Option Shown). Leads p new (step m k (lexeme_at text d))) n h)
    ∙ inv

stops_at : (text : List ℕ) (ts : List Token) (i : ℕ) (d : Token) (m : Mode) (k : List Frame) (o : Option Shown) (new : List Frame) (r : Result Held ℕ)
    → i < length ts → d ≡ get_or ts i d → Leads o new (step m k (lexeme_at text d)) → o ≡ None → from text ts i (record { mode = m; stack = k }) ≡ r → Err i ≡ r
stops_at text ts i d m k o new r l e h n inv =
    sym (run_stops text ts i d (record { mode = m; stack = k }) l
    (ap (λ (x : Token). step m k (lexeme_at text x)) (sym e) ∙ subst (λ (p : Option Shown). Leads p new (step m k (lexeme_at text d))) n h))
    ∙ inv

pub loop-i-preserved : goal.loop-i-preserved
loop-i-preserved c =
    goes_on c.args.text.now c.args.tokens.now c.loop-i.i c.index-tokens-i.result (mode_of c.loop-i.mode) c.loop-i.stack c.in_ok-next.field-0 c.in-Some.next c.step_at.new.stack _
    c.loop-i-test.true c.index-tokens-i.is c.in_ok-next.ensures c.in-Some.is c.loop-i.invariant

pub returns-in_default : goal.returns-in_default
returns-in_default c =
    stops_at c.args.text.now c.args.tokens.now c.loop-i.i c.index-tokens-i.result (mode_of c.loop-i.mode) c.loop-i.stack c.in_ok-next.field-0 c.step_at.new.stack _
    c.loop-i-test.true c.index-tokens-i.is c.in_ok-next.ensures c.in_default.is c.loop-i.invariant
