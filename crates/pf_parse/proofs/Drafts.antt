-- A query as far as it is written: what was read, with the commas, the order and the brackets that a state of the reading
-- does not keep.
use Rattle.std.proofs.Common.{◌≡◌, ℕ, ◌≤◌, ◌<◌, Bool, true, false, not, cond, ◌&&◌, List, [], ◌∷◌, ◌++◌, map, Option, Some, None, IfSome, codes, option_map}
use Rattle.std.specs.List.{list_any}
use Rattle.std.specs.Option.{is_some}
use Rattle.pf_model.specs.Clauses.{Grouped}
use Rattle.pf_model.specs.declared.expr.At.TheVariants as at
use Rattle.pf_model.specs.declared.expr.BinaryOp.{BinaryOp}
use Rattle.pf_model.specs.declared.expr.Matcher.{Matcher}
use Rattle.pf_model.specs.declared.expr.MatchSign.{MatchSign}
use Rattle.pf_model.specs.declared.functions.AggOp.{AggOp}
use Rattle.pf_model.specs.Grammar.{Terminal, key, name, label, exactly, sign, duration, Written, Arguments, none, more, terminals_of, these, Labels, Selected, selected_terminals, matcher_terminals, Offset, offset_terminals, AtModifier, at_modifier_terminals, front_terminals, Modifiers, modifiers_terminals, range_terminals, without_terminals, operator_terminal, bool_terminals, Keys, keys_terminals, level, IsLawful, AreLawful, AreLabels, AreKeys, AreSelected, is_named, AreModifiers, IsAtModifier, IsPositive, ends_with_group, begins_with_bracket, metric_matcher, matched_of}
use Rattle.pf_model.specs.Grammar as grammar
use Rattle.pf_model.specs.Trees.{Tree}
use Rattle.pf_model.specs.declared.expr.At.{At}
use Rattle.pf_model.specs.Words.{aggregation_word, function_of, level_of, is_comparison, match_text}
use Rattle.pf_parse.specs.Held.{Read, Target}
use Rattle.pf_parse.specs.Lexemes.{within_limit}
use Rattle.pf_parse.specs.Reading as mode
use Rattle.pf_parse.proofs.Labels.{label_texts}
use Rattle.pf_parse.proofs.ReadOf.{read_of, arguments_of, selected_matchers, selected_target, subquery_target}
use Rattle.pf_parse.proofs.Selecting.{read_offset, read_moment, read_modifiers}

abbrev pub resolved : Option ℕ → List Terminal
resolved r = these (λ d. duration d ∷ []) r

-- ---- texts in a row, each with a comma behind it

abbrev pub fronts : List (List Terminal) → List Terminal → List Terminal
fronts [] zs = zs
fronts (x ∷ xs) zs = x ++ (sign (codes ",") ∷ fronts xs zs)

abbrev pub arguments : List Written → Arguments
arguments [] = none
arguments (e ∷ es) = more e (arguments es)

abbrev pub held_all : List Written → Option (List Tree)
held_all es = arguments_of (arguments es) (Some [])

-- ---- frames

pub record ClauseBefore : Type 0 where
  pub without : Bool
  pub labels : Labels

pub data Callee : Type 0 where
  function : List ℕ → Callee
  aggregation : AggOp → Option ClauseBefore → Callee

pub data Frame : Type 0 where
  signed : Bool → Frame
  left : BinaryOp → Option Keys → Written → Frame
  bracket : Frame
  calling : Callee → List Written → Frame

abbrev pub grouped_before : ClauseBefore → Grouped
grouped_before c = record { without = c.without; labels = c.labels.labels }

abbrev pub callee_image : Callee → mode.Callee
callee_image (function n) = mode.function (function_of n)
callee_image (aggregation op None) = mode.aggregation op None
callee_image (aggregation op (Some c)) = mode.aggregation op (Some (grouped_before c))

abbrev pub frame_image : Frame → mode.Frame
frame_image (signed minus) = mode.signed minus
frame_image (left op keys a) = mode.left op (matched_of keys) (read_of a)
frame_image bracket = mode.bracket
frame_image (calling c es) = mode.calling (callee_image c) (held_all es)

abbrev pub images : List Frame → List mode.Frame
images k = map frame_image k

abbrev pub callee_text : Callee → List Terminal → List Terminal
callee_text (function n) zs = name n ∷ zs
callee_text (aggregation op None) zs = key (aggregation_word op) ∷ zs
callee_text (aggregation op (Some c)) zs = key (aggregation_word op) ∷ (without_terminals c.without c.labels ++ zs)

abbrev pub frame_text : Frame → List Terminal → List Terminal
frame_text (signed minus) zs = sign (cond minus (codes "-") (codes "+")) ∷ zs
frame_text (left op keys a) zs =
    terminals_of a ++ (operator_terminal op ∷ (bool_terminals op.with_bool ++ (these keys_terminals keys ++ zs)))
frame_text bracket zs = sign (codes "(") ∷ zs
frame_text (calling c es) zs = callee_text c (sign (codes "(") ∷ fronts (map terminals_of es) zs)

abbrev pub stack_text : List Frame → List Terminal → List Terminal
stack_text [] zs = zs
stack_text (f ∷ k) zs = stack_text k (frame_text f zs)

abbrev pub Room : ℕ → List Frame → Type 0
Room l [] = Unit {0}
Room l (signed minus ∷ k) = l ≤ 1
Room l (left op keys a ∷ k) = l < level_of op.sign
Room l (bracket ∷ k) = Unit {0}
Room l (calling c es ∷ k) = Unit {0}

-- `group_left` or `group_right` without labels was read last
abbrev pub tops_group : List Frame → Bool
tops_group [] = false
tops_group (signed minus ∷ k) = false
tops_group (left op keys a ∷ k) = ends_with_group keys
tops_group (bracket ∷ k) = false
tops_group (calling c es ∷ k) = false

-- an operand that begins so may stand there
abbrev pub Fronted : List Frame → List Terminal → Type 0
Fronted k zs = (tops_group k && begins_with_bracket zs) ≡ false

pub record Operation (op : BinaryOp) (a : Written) (k : List Frame) : Type 0 where
  pub lower : level a ≤ level_of op.sign
  pub compares : (op.with_bool && not (is_comparison op.sign)) ≡ false
  pub lawful : IsLawful a
  pub room : Room (level_of op.sign) k
  pub fronted : Fronted k (terminals_of a)

abbrev pub IsCallee : Callee → Type 0
IsCallee (function n) = Unit {0}
IsCallee (aggregation op None) = Unit {0}
IsCallee (aggregation op (Some c)) = AreLabels c.labels

abbrev pub AreFrames : List Frame → Type 0
AreFrames [] = Unit {0}
AreFrames (signed minus ∷ k) = AreFrames k
AreFrames (left op keys a ∷ k) = Operation op a k × IfSome keys AreKeys × AreFrames k
AreFrames (bracket ∷ k) = (tops_group k ≡ false) × AreFrames k
AreFrames (calling c es ∷ k) = IsCallee c × AreLawful (arguments es) × AreFrames k

-- ---- modes

-- a selector's name and the matchers that have a comma behind them
pub record Chosen : Type 0 where
  pub metric : Option (List ℕ)
  pub matchers : List Matcher

pub data Goal : Type 0 where
  selects : Selected → Option ℕ → Goal
  over : Written → ℕ → Option ℕ → Goal

pub data Given : Type 0 where
  bare : Given
  offset_given : Offset → Given
  at_given : AtModifier → Given
  both_given : (at_first : Bool) → Offset → AtModifier → Given

pub data Stand : Type 0 where
  selection : Selected → Stand
  operand : Written → Stand

pub data Purpose : Type 0 where
  groups_next : AggOp → Bool → Purpose
  groups : AggOp → List Written → Written → Bool → Purpose
  matches : BinaryOp → Written → Bool → Purpose
  includes : BinaryOp → Bool → Labels → Bool → Written → Purpose

pub data Mode : Type 0 where
  due : Mode
  first_due : List ℕ → Mode
  named : List ℕ → Mode
  label_due : Chosen → Mode
  sign_due : Chosen → List ℕ → Mode
  text_due : Chosen → List ℕ → MatchSign → Mode
  matched : Chosen → Matcher → Mode
  modified : Goal → Given → Mode
  offset_due : Goal → Option AtModifier → Mode
  minus_offset_due : Goal → Option AtModifier → Mode
  time_due : Goal → Option Offset → Mode
  signed_time_due : Goal → Option Offset → Bool → Mode
  end_open_due : Goal → Option Offset → Bool → Mode
  end_close_due : Goal → Option Offset → Bool → Mode
  range_due : Stand → Mode
  range : Stand → ℕ → Mode
  resolution_due : Written → ℕ → Mode
  resolution : Written → ℕ → ℕ → Mode
  whole : Written → Mode
  operated : BinaryOp → Written → Mode
  keyed : BinaryOp → Bool → Labels → Written → Mode
  grouped : BinaryOp → Bool → Labels → Bool → Written → Mode
  clause_due : AggOp → Mode
  arguments_due : AggOp → ClauseBefore → Mode
  aggregated : AggOp → List Written → Written → Mode
  labels_due : Purpose → Mode
  labels : Purpose → List (List ℕ) → Mode
  labelled : Purpose → List (List ℕ) → List ℕ → Mode

abbrev pub modifiers : Given → Modifiers
modifiers bare = record { offset = None; at = None; at_first = false }
modifiers (offset_given o) = record { offset = Some o; at = None; at_first = false }
modifiers (at_given m) = record { offset = None; at = Some m; at_first = false }
modifiers (both_given at_first o m) = record { offset = Some o; at = Some m; at_first = at_first }

abbrev pub goal_image : Goal → Option Target
goal_image (selects s r) = selected_target (selected_matchers s) r
goal_image (over e d r) = subquery_target (read_of e) d r

abbrev pub goal_text : Goal → List Terminal → List Terminal
goal_text (selects s r) zs = selected_terminals s ++ (these range_terminals r ++ zs)
goal_text (over e d r) zs =
    terminals_of e ++ (sign (codes "[") ∷ duration d ∷ sign (codes ":") ∷ (resolved r ++ (sign (codes "]") ∷ zs)))

abbrev pub goal_written : Goal → Modifiers → Written
goal_written (selects s r) m = grammar.select s r m
goal_written (over e d r) m = grammar.subquery e d r m

abbrev pub IsGoal : Goal → List Frame → Type 0
IsGoal (selects s r) k = AreSelected s.metric s.braces × IfSome r IsPositive
IsGoal (over e d r) k = (level e ≤ 0) × IsLawful e × IsPositive d × IfSome r IsPositive × Fronted k (terminals_of e)

abbrev pub chosen_text : Chosen → List Terminal → List Terminal
chosen_text c zs = these (λ n. name n ∷ []) c.metric ++ (sign (codes "{") ∷ fronts (map matcher_terminals c.matchers) zs)

abbrev pub chosen_matchers : Chosen → List Matcher
chosen_matchers c = metric_matcher c.metric ++ c.matchers

abbrev pub IsChosen : Chosen → Type 0
IsChosen c = (is_some c.metric && list_any is_named c.matchers) ≡ false

-- a label that may stand there
abbrev pub IsChoice : Chosen → List ℕ → Type 0
IsChoice c l = (is_some c.metric && mode.is_name l) ≡ false

abbrev pub stand_image : Stand → mode.Base
stand_image (selection s) = mode.matchers (selected_matchers s)
stand_image (operand e) = mode.operand (read_of e)

abbrev pub stand_text : Stand → List Terminal → List Terminal
stand_text (selection s) zs = selected_terminals s ++ zs
stand_text (operand e) zs = terminals_of e ++ zs

abbrev pub IsStand : Stand → List Frame → Type 0
IsStand (selection s) k = AreSelected s.metric s.braces
IsStand (operand e) k = (level e ≤ 0) × IsLawful e × Fronted k (terminals_of e)

abbrev pub end_word : Bool → List ℕ
end_word true = codes "start"
end_word false = codes "end"

abbrev pub end_moment : Bool → AtModifier
end_moment true = grammar.start
end_moment false = grammar.end

abbrev pub end_at : Bool → At
end_at true = at.Start
end_at false = at.End

abbrev pub without_key : Bool → Terminal
without_key false = key (codes "by")
without_key true = key (codes "without")

abbrev pub on_key : Bool → Terminal
on_key on = key (cond on (codes "on") (codes "ignoring"))

abbrev pub operated_text : BinaryOp → Written → List Terminal → List Terminal
operated_text op a zs = terminals_of a ++ (operator_terminal op ∷ (bool_terminals op.with_bool ++ zs))

abbrev pub only_keys : Bool → Labels → Keys
only_keys on l = record { on = on; labels = l; group = None }

abbrev pub group_keys : Bool → Labels → Bool → Keys
group_keys on l is_left = record { on = on; labels = l; group = Some (record { left = is_left; include = None }) }

abbrev pub aggregated_text : AggOp → List Written → Written → List Terminal → List Terminal
aggregated_text op es e zs =
    key (aggregation_word op) ∷ sign (codes "(") ∷ fronts (map terminals_of es) (terminals_of e ++ (sign (codes ")") ∷ zs))

abbrev pub purpose_text : Purpose → List Terminal → List Terminal
purpose_text (groups_next op w) zs = key (aggregation_word op) ∷ without_key w ∷ zs
purpose_text (groups op es e w) zs = aggregated_text op es e (without_key w ∷ zs)
purpose_text (matches op a on) zs = operated_text op a (on_key on ∷ zs)
purpose_text (includes op on l is_left a) zs = operated_text op a (keys_terminals (group_keys on l is_left) ++ zs)

abbrev pub purpose_image : Purpose → mode.Purpose
purpose_image (groups_next op w) = mode.groups_next op w
purpose_image (groups op es e w) = mode.groups op (held_all (es ++ (e ∷ []))) w
purpose_image (matches op a on) = mode.matches op (read_of a) on
purpose_image (includes op on l is_left a) = mode.includes op (matched_of (Some (group_keys on l is_left))) (read_of a)

abbrev pub IsPurpose : Purpose → List Frame → Type 0
IsPurpose (groups_next op w) k = Unit {0}
IsPurpose (groups op es e w) k = AreLawful (arguments es) × IsLawful e
IsPurpose (matches op a on) k = Operation op a k
IsPurpose (includes op on l is_left a) k = Operation op a k × AreLabels l

abbrev pub read_of_given : Given → Read
read_of_given w = read_modifiers (modifiers w)

abbrev pub some_at : Option AtModifier → Read
some_at m = record { offset = None; at = option_map read_moment m }

abbrev pub some_offset : Option Offset → Read
some_offset o = record { offset = option_map read_offset o; at = None }

abbrev pub mode_image : Mode → mode.Mode
mode_image due = mode.due
mode_image (first_due n) = mode.first_due (function_of n)
mode_image (named n) = mode.named n
mode_image (label_due c) = mode.label_due (is_some c.metric) (chosen_matchers c)
mode_image (sign_due c l) = mode.sign_due (is_some c.metric) (chosen_matchers c) l
mode_image (text_due c l s) = mode.text_due (is_some c.metric) (chosen_matchers c) l s
mode_image (matched c m) = mode.matched (is_some c.metric) (chosen_matchers c ++ (m ∷ []))
mode_image (modified g w) = mode.modified (goal_image g) (read_of_given w)
mode_image (offset_due g m) = mode.offset_due (goal_image g) (some_at m)
mode_image (minus_offset_due g m) = mode.minus_offset_due (goal_image g) (some_at m)
mode_image (time_due g o) = mode.time_due (goal_image g) (some_offset o)
mode_image (signed_time_due g o s) = mode.signed_time_due (goal_image g) (some_offset o) s
mode_image (end_open_due g o b) = mode.end_open_due (goal_image g) (some_offset o) (end_at b)
mode_image (end_close_due g o b) = mode.end_close_due (goal_image g) (some_offset o) (end_at b)
mode_image (range_due s) = mode.range_due (stand_image s)
mode_image (range s d) = mode.range (stand_image s) (within_limit d)
mode_image (resolution_due e d) = mode.resolution_due (read_of e) (within_limit d)
mode_image (resolution e d r) = mode.resolution (read_of e) (within_limit d) (within_limit r)
mode_image (whole e) = mode.whole (read_of e)
mode_image (operated op a) = mode.operated op (read_of a)
mode_image (keyed op on l a) = mode.keyed op (matched_of (Some (only_keys on l))) (read_of a)
mode_image (grouped op on l is_left a) = mode.grouped op (matched_of (Some (group_keys on l is_left))) (read_of a)
mode_image (clause_due op) = mode.clause_due op
mode_image (arguments_due op c) = mode.arguments_due op (grouped_before c)
mode_image (aggregated op es e) = mode.aggregated op (held_all (es ++ (e ∷ [])))
mode_image (labels_due p) = mode.labels_due (purpose_image p)
mode_image (labels p ls) = mode.labels (purpose_image p) ls
mode_image (labelled p ls l) = mode.labelled (purpose_image p) (ls ++ (l ∷ []))

abbrev pub mode_text : Mode → List Terminal → List Terminal
mode_text due zs = zs
mode_text (first_due n) zs = name n ∷ sign (codes "(") ∷ zs
mode_text (named n) zs = name n ∷ zs
mode_text (label_due c) zs = chosen_text c zs
mode_text (sign_due c l) zs = chosen_text c (label l ∷ zs)
mode_text (text_due c l s) zs = chosen_text c (label l ∷ sign (match_text s) ∷ zs)
mode_text (matched c m) zs = chosen_text c (matcher_terminals m ++ zs)
mode_text (modified g w) zs = goal_text g (modifiers_terminals (modifiers w) ++ zs)
mode_text (offset_due g m) zs = goal_text g (these at_modifier_terminals m ++ (key (codes "offset") ∷ zs))
mode_text (minus_offset_due g m) zs = goal_text g (these at_modifier_terminals m ++ (key (codes "offset") ∷ sign (codes "-") ∷ zs))
mode_text (time_due g o) zs = goal_text g (these offset_terminals o ++ (sign (codes "@") ∷ zs))
mode_text (signed_time_due g o s) zs = goal_text g (these offset_terminals o ++ (sign (codes "@") ∷ (front_terminals (mode.sign_of s) ++ zs)))
mode_text (end_open_due g o b) zs = goal_text g (these offset_terminals o ++ (sign (codes "@") ∷ exactly (end_word b) ∷ zs))
mode_text (end_close_due g o b) zs =
    goal_text g (these offset_terminals o ++ (sign (codes "@") ∷ exactly (end_word b) ∷ sign (codes "(") ∷ zs))
mode_text (range_due s) zs = stand_text s (sign (codes "[") ∷ zs)
mode_text (range s d) zs = stand_text s (sign (codes "[") ∷ duration d ∷ zs)
mode_text (resolution_due e d) zs = terminals_of e ++ (sign (codes "[") ∷ duration d ∷ sign (codes ":") ∷ zs)
mode_text (resolution e d r) zs = terminals_of e ++ (sign (codes "[") ∷ duration d ∷ sign (codes ":") ∷ duration r ∷ zs)
mode_text (whole e) zs = terminals_of e ++ zs
mode_text (operated op a) zs = operated_text op a zs
mode_text (keyed op on l a) zs = operated_text op a (keys_terminals (only_keys on l) ++ zs)
mode_text (grouped op on l is_left a) zs = operated_text op a (keys_terminals (group_keys on l is_left) ++ zs)
mode_text (clause_due op) zs = key (aggregation_word op) ∷ zs
mode_text (arguments_due op c) zs = key (aggregation_word op) ∷ (without_terminals c.without c.labels ++ zs)
mode_text (aggregated op es e) zs = aggregated_text op es e zs
mode_text (labels_due p) zs = purpose_text p zs
mode_text (labels p ls) zs = purpose_text p (sign (codes "(") ∷ fronts (label_texts ls) zs)
mode_text (labelled p ls l) zs = purpose_text p (sign (codes "(") ∷ fronts (label_texts ls) (label l ∷ zs))

abbrev pub IsMode : Mode → List Frame → Type 0
IsMode due k = tops_group k ≡ false
IsMode (first_due n) k = Unit {0}
IsMode (named n) k = Unit {0}
IsMode (label_due c) k = IsChosen c
IsMode (sign_due c l) k = IsChosen c × IsChoice c l
IsMode (text_due c l s) k = IsChosen c × IsChoice c l
IsMode (matched c m) k = IsChosen c × IsChoice c m.label
IsMode (modified g w) k = IsGoal g k × AreModifiers (modifiers w)
IsMode (offset_due g m) k = IsGoal g k × IfSome m IsAtModifier
IsMode (minus_offset_due g m) k = IsGoal g k × IfSome m IsAtModifier
IsMode (time_due g o) k = IsGoal g k
IsMode (signed_time_due g o s) k = IsGoal g k
IsMode (end_open_due g o b) k = IsGoal g k
IsMode (end_close_due g o b) k = IsGoal g k
IsMode (range_due s) k = IsStand s k
IsMode (range s d) k = IsStand s k × IsPositive d
IsMode (resolution_due e d) k = IsStand (operand e) k × IsPositive d
IsMode (resolution e d r) k = IsStand (operand e) k × IsPositive d × IsPositive r
IsMode (whole e) k = IsStand (operand e) k
IsMode (operated op a) k = Operation op a k
IsMode (keyed op on l a) k = Operation op a k × AreLabels l
IsMode (grouped op on l is_left a) k = Operation op a k × AreLabels l
IsMode (clause_due op) k = Unit {0}
IsMode (arguments_due op c) k = AreLabels c.labels
IsMode (aggregated op es e) k = AreLawful (arguments es) × IsLawful e
IsMode (labels_due p) k = IsPurpose p k
IsMode (labels p ls) k = IsPurpose p k
IsMode (labelled p ls l) k = IsPurpose p k

-- ---- drafts

pub record Draft : Type 0 where
  pub mode : Mode
  pub stack : List Frame

abbrev pub at_mode : Mode → List Frame → Draft
at_mode m k = record { mode = m; stack = k }

abbrev pub image : Draft → mode.State
image d = record { mode = mode_image d.mode; stack = images d.stack }

-- the text of a draft with terminals behind it
abbrev pub text : Draft → List Terminal → List Terminal
text d zs = stack_text d.stack (mode_text d.mode zs)

pub record IsDraft (d : Draft) : Type 0 where
  pub mode : IsMode d.mode d.stack
  pub stack : AreFrames d.stack
