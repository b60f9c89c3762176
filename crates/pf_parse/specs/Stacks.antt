-- A stack as a list, its top first, and the steps of the reading as the code makes them. This project's own.
use Rattle.std.specs.Prelude.{◌≡◌, ℕ, Bool, true, false, nat_le, List, [], ◌∷◌, Option, Some, None}
use Rattle.pf_model.specs.Words.{level_of}
use Rattle.pf_parse.specs.Held.{Held, Target, Read, held_unary, held_binary}
use Rattle.pf_parse.specs.declared.mode.Aggregating.{Aggregating}
use Rattle.pf_parse.specs.declared.mode.Aggregating.TheVariants as aggregating
use Rattle.pf_parse.specs.declared.mode.Labelling.{Labelling}
use Rattle.pf_parse.specs.declared.mode.Labelling.TheVariants as labelling
use Rattle.pf_parse.specs.declared.mode.Mode.{Mode as Shown}
use Rattle.pf_parse.specs.declared.mode.Mode.TheVariants as shown
use Rattle.pf_parse.specs.declared.mode.ModifierDue.{ModifierDue}
use Rattle.pf_parse.specs.declared.mode.ModifierDue.TheVariants as modifier_due
use Rattle.pf_parse.specs.declared.mode.Operating.{Operating}
use Rattle.pf_parse.specs.declared.mode.Operating.TheVariants as operating
use Rattle.pf_parse.specs.declared.mode.Ranging.{Ranging}
use Rattle.pf_parse.specs.declared.mode.Ranging.TheVariants as ranging
use Rattle.pf_parse.specs.declared.mode.Selecting.{Selecting}
use Rattle.pf_parse.specs.declared.mode.SelectorDue.{SelectorDue}
use Rattle.pf_parse.specs.declared.mode.SelectorDue.TheVariants as selector_due
use Rattle.pf_parse.specs.declared.modifiers.ModifierStep.{ModifierStep}
use Rattle.pf_parse.specs.declared.modifiers.ModifierStep.TheVariants as modifier_step
use Rattle.pf_parse.specs.Reading.{Frame, Mode, State, signed, left, bracket, calling, due, first_due, named, label_due, sign_due, text_due, matched, modified, offset_due, minus_offset_due, time_due, signed_time_due, end_open_due, end_close_due, range_due, range, resolution_due, resolution, whole, operated, keyed, grouped, clause_due, arguments_due, aggregated, labels_due, labels, labelled}

abbrev pub Popped : List Frame → List Frame → Option Frame → Type 0
Popped old new None = (old ≡ []) × (new ≡ [])
Popped old new (Some f) = old ≡ f ∷ new

-- ---- what the code's own forms of modes stand for

abbrev pub selecting_mode : Selecting → SelectorDue → Mode
selecting_mode s selector_due.Label = label_due s.has_name s.selector
selecting_mode s (selector_due.Sign l) = sign_due s.has_name s.selector l
selecting_mode s (selector_due.Text l m) = text_due s.has_name s.selector l m
selecting_mode s selector_due.Comma = matched s.has_name s.selector

abbrev pub modifier_mode : Option Target → Read → ModifierDue → Mode
modifier_mode target r modifier_due.Offset = offset_due target r
modifier_mode target r modifier_due.MinusOffset = minus_offset_due target r
modifier_mode target r modifier_due.Time = time_due target r
modifier_mode target r (modifier_due.SignedTime minus) = signed_time_due target r minus
modifier_mode target r (modifier_due.Open at) = end_open_due target r at
modifier_mode target r (modifier_due.Close at) = end_close_due target r at

abbrev pub ranging_mode : Ranging → Mode
ranging_mode (ranging.RangeDue b) = range_due b
ranging_mode (ranging.Range b d) = range b d
ranging_mode (ranging.ResolutionDue e d) = resolution_due e d
ranging_mode (ranging.Resolution e d r) = resolution e d r

abbrev pub operating_mode : Operating → Mode
operating_mode (operating.Operated op a) = operated op a
operating_mode (operating.Keyed o) = keyed o.op o.matching o.left
operating_mode (operating.Grouped o) = grouped o.op o.matching o.left

abbrev pub aggregating_mode : Aggregating → Mode
aggregating_mode (aggregating.ClauseDue op) = clause_due op
aggregating_mode (aggregating.ArgumentsDue op g) = arguments_due op g
aggregating_mode (aggregating.Aggregated op args) = aggregated op args

abbrev pub labelling_mode : Labelling → Mode
labelling_mode (labelling.BracketDue p) = labels_due p
labelling_mode (labelling.LabelDue p ls) = labels p ls
labelling_mode (labelling.CommaDue p ls) = labelled p ls

abbrev pub mode_of : Shown → Mode
mode_of shown.Due = due
mode_of (shown.FirstDue f) = first_due f
mode_of (shown.Named n) = named n
mode_of (shown.Selecting s d) = selecting_mode s d
mode_of (shown.Modified m) = modified m.target m.read
mode_of (shown.Modifying m d) = modifier_mode m.target m.read d
mode_of (shown.Ranging r) = ranging_mode r
mode_of (shown.Whole e) = whole e
mode_of (shown.Operating o) = operating_mode o
mode_of (shown.Aggregating a) = aggregating_mode a
mode_of (shown.Labelling l) = labelling_mode l

-- ---- steps

-- a step leads to a mode and a stack, or nowhere
abbrev pub Leads : Option Shown → List Frame → Option State → Type 0
Leads None k s = s ≡ None
Leads (Some m) k s = s ≡ Some (record { mode = mode_of m; stack = k })

-- the same of a step that leaves the stack
abbrev pub Stays : Option Shown → (List Frame → Option State) → Type 0
Stays m f = (k : List Frame) → Leads m k (f k)

-- the same of a modifier's step, whatever the modifiers stand behind
abbrev pub behind : Option Target → Read → ModifierStep → Mode
behind target r (modifier_step.Due d) = modifier_mode target r d
behind target r (modifier_step.Read s) = modified target s

abbrev pub Modifies : Option ModifierStep → Read → (Option Target → List Frame → Option State) → Type 0
Modifies None r f = (target : Option Target) (k : List Frame) → f target k ≡ None
Modifies (Some s) r f = (target : Option Target) (k : List Frame) → f target k ≡ Some (record { mode = behind target r s; stack = k })

-- the top takes the operand before it where something of a level follows
abbrev pub takes : ℕ → List Frame → Bool
takes level [] = false
takes level (signed minus ∷ k) = true
takes level (left op m a ∷ k) = nat_le (level_of op.sign) level
takes level (bracket ∷ k) = false
takes level (calling c args ∷ k) = false

-- signs and operators take operands
abbrev pub IsTaker : Frame → Type 0
IsTaker (signed minus) = Unit {0}
IsTaker (left op m a) = Unit {0}
IsTaker bracket = ⊥
IsTaker (calling c args) = ⊥

abbrev pub taken : Frame → Held → Held
taken (signed minus) e = held_unary minus e
taken (left op m a) e = held_binary op m a e
taken bracket e = e
taken (calling c args) e = e

-- the top is taken off where it takes the operand before it
abbrev pub PoppedTaker : ℕ → List Frame → List Frame → Option Frame → Type 0
PoppedTaker level old new None = (takes level old ≡ false) × (new ≡ old)
PoppedTaker level old new (Some f) = (takes level old ≡ true) × (old ≡ f ∷ new)
