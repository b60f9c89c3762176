-- Words that are taken one after another give what the definition says.
use Rattle.std.proofs.Common.{◌≡◌, ℕ, ◌≤◌, Bool, true, false, Option, Some, None, cond, List, [], ◌∷◌, refl, sym, ap, ◌∙◌, subst, map, arith, nat_le, ◌&&◌, codes}
use Rattle.std.specs.Prelude.{option_map}
use Rattle.std.specs.Option.{unwrap_or}
use Rattle.std.specs.Result.{result_ok}
use Rattle.std.specs.Str.{bytes_eq}
use Rattle.std.proofs.lemmas.Bool.Decides.{nat_tests}
use Rattle.pf_base.specs.DurationScans.{duration_of}
use Rattle.pf_base.specs.declared.plain.Limits.{Limits}
use Rattle.pf_core.specs.Cores.{AreLimits}
use Rattle.pf_model.specs.Cuts.{only_if, ◌>>=◌}
use Rattle.pf_journal.specs.Scripts.{number_of}
use Rattle.pf_top.specs.Words.{OptionName, Part, Replay, Word, plain, last_dashes, named, valued, of_limit, of_window, of_interval, of_shards, of_extents, of_journal, at_most_once, duration_from, exactly_one, is_dashed, limits_with, number_within, option, others_of, parts_of, replay_behind, replay_of, replay_words, values_of, with_part, word_of}
use Rattle.pf_top.specs.Words as words
use Rattle.pf_top.specs.WordSteps.{Given, Next, any, before, nothing_given, once, read_all, replay_by, step, value_of, with_option, with_script, with_word}
use Rattle.pf_top.specs.WordSteps as steps

-- ---- what further parts give

-- what values give behind one that stood before, and other words behind a script's
further : (List ℕ → Option ℕ) → List (List ℕ) → Option ℕ → Option (Option ℕ)
further read [] o = Some o
further read (v ∷ []) None = option_map Some (read v)
further read (v ∷ (u ∷ vs)) None = None
further read (v ∷ vs) (Some n) = None

script_with : List (List ℕ) → Option (List ℕ) → Option (List ℕ)
script_with [] s = s
script_with (w ∷ []) None = Some w
script_with (w ∷ (x ∷ ws)) None = None
script_with (w ∷ ws) (Some s) = None

chosen : Option (Option ℕ) → Option (Option ℕ) → Option (Option ℕ) → Option (Option ℕ) → Option (Option ℕ) → Option (Option ℕ) → Option (List ℕ) → Option Replay
chosen limits windows intervals shards extents journals scripts = do
  limit ← limits
  window ← windows
  interval ← intervals
  shards ← shards
  extents ← extents
  journal ← journals
  script ← scripts
  Some (record { limit = limit; window = window; interval = interval; shards = shards; extents = extents; journal = journal; script = script })

abbrev limits_in : Given → List Part → Option (Option ℕ)
limits_in g ps = further (number_within 1 10000) (values_of of_limit ps) g.limit

abbrev windows_in : Given → List Part → Option (Option ℕ)
windows_in g ps = further (duration_from 0) (values_of of_window ps) g.window

abbrev intervals_in : Given → List Part → Option (Option ℕ)
intervals_in g ps = further (duration_from 1000) (values_of of_interval ps) g.interval

abbrev shards_in : Given → List Part → Option (Option ℕ)
shards_in g ps = further (number_within 1 64) (values_of of_shards ps) g.shards

abbrev extents_in : Given → List Part → Option (Option ℕ)
extents_in g ps = further (number_within 1 4096) (values_of of_extents ps) g.extents

abbrev journals_in : Given → List Part → Option (Option ℕ)
journals_in g ps = further (number_within 1 4000000) (values_of of_journal ps) g.journal

abbrev scripts_in : Given → List Part → Option (List ℕ)
scripts_in g ps = script_with (others_of ps) g.script

replay_on : Given → List Part → Option Replay
replay_on g ps = chosen (limits_in g ps) (windows_in g ps) (intervals_in g ps) (shards_in g ps) (extents_in g ps) (journals_in g ps) (scripts_in g ps)

-- ---- none of them, and the first of them

chosen_1 : (b c d e f : Option (Option ℕ)) (g : Option (List ℕ)) → chosen None b c d e f g ≡ None
unfolding chosen
chosen_1 b c d e f g = refl

chosen_2 : (a c d e f : Option (Option ℕ)) (g : Option (List ℕ)) → chosen a None c d e f g ≡ None
unfolding chosen
chosen_2 None c d e f g = refl
chosen_2 (Some x) c d e f g = refl

chosen_3 : (a b d e f : Option (Option ℕ)) (g : Option (List ℕ)) → chosen a b None d e f g ≡ None
unfolding chosen
chosen_3 None b d e f g = refl
chosen_3 (Some x) None d e f g = refl
chosen_3 (Some x) (Some y) d e f g = refl

chosen_4 : (a b c e f : Option (Option ℕ)) (g : Option (List ℕ)) → chosen a b c None e f g ≡ None
unfolding chosen
chosen_4 None b c e f g = refl
chosen_4 (Some x) None c e f g = refl
chosen_4 (Some x) (Some y) None e f g = refl
chosen_4 (Some x) (Some y) (Some z) e f g = refl

chosen_5 : (a b c d f : Option (Option ℕ)) (g : Option (List ℕ)) → chosen a b c d None f g ≡ None
unfolding chosen
chosen_5 None b c d f g = refl
chosen_5 (Some x) None c d f g = refl
chosen_5 (Some x) (Some y) None d f g = refl
chosen_5 (Some x) (Some y) (Some z) None f g = refl
chosen_5 (Some x) (Some y) (Some z) (Some w) f g = refl

chosen_6 : (a b c d e : Option (Option ℕ)) (g : Option (List ℕ)) → chosen a b c d e None g ≡ None
unfolding chosen
chosen_6 None b c d e g = refl
chosen_6 (Some x) None c d e g = refl
chosen_6 (Some x) (Some y) None d e g = refl
chosen_6 (Some x) (Some y) (Some z) None e g = refl
chosen_6 (Some x) (Some y) (Some z) (Some w) None g = refl
chosen_6 (Some x) (Some y) (Some z) (Some w) (Some v) g = refl

chosen_7 : (a b c d e f : Option (Option ℕ)) → chosen a b c d e f None ≡ None
unfolding chosen
chosen_7 None b c d e f = refl
chosen_7 (Some x) None c d e f = refl
chosen_7 (Some x) (Some y) None d e f = refl
chosen_7 (Some x) (Some y) (Some z) None e f = refl
chosen_7 (Some x) (Some y) (Some z) (Some w) None f = refl
chosen_7 (Some x) (Some y) (Some z) (Some w) (Some v) None = refl
chosen_7 (Some x) (Some y) (Some z) (Some w) (Some v) (Some u) = refl

none_further : (read : List ℕ → Option ℕ) (v : List ℕ) (vs : List (List ℕ)) (o : Option ℕ) → once o (read v) ≡ None → further read (v ∷ vs) o ≡ None
unfolding further
none_further read v [] None h = ap (option_map Some) h
none_further read v (u ∷ us) None h = refl
none_further read v [] (Some n) h = refl
none_further read v (u ∷ us) (Some n) h = refl

one_further : (read : List ℕ → Option ℕ) (v : List ℕ) (vs : List (List ℕ)) (o : Option ℕ) (n : ℕ) → once o (read v) ≡ Some n → further read (v ∷ vs) o ≡ further read vs (Some n)
unfolding further
one_further read v [] None n h = ap (option_map Some) h
one_further read v (u ∷ us) None n h = refl
one_further read v vs (Some m) n h = cc

by_once : (read : List ℕ → Option ℕ) (v : List ℕ) (vs : List (List ℕ)) (o : Option ℕ) (give : Option (Option ℕ) → Option Replay)
    → give None ≡ None → give (further read (v ∷ vs) o) ≡ (once o (read v) >>= λ n. give (further read vs (Some n)))
by_once read v vs o give none = by (once o (read v)) refl where
  by : (m : Option ℕ) → once o (read v) ≡ m → give (further read (v ∷ vs) o) ≡ (m >>= λ n. give (further read vs (Some n)))
  by None h = ap give (none_further read v vs o h) ∙ none
  by (Some n) h = ap give (one_further read v vs o n h)

map_then : {A B C : Type 0} (f : A → B) (k : B → Option C) (o : Option A) → (option_map f o >>= k) ≡ (o >>= λ x. k (f x))
map_then f k None = refl
map_then f k (Some x) = refl

option_first : (g : Given) (name : OptionName) (value : List ℕ) (ps : List Part)
    → replay_on g (option name value ∷ ps) ≡ (with_option g name value >>= λ h. replay_on h ps)
unfolding replay_on
option_first g of_limit value ps =
    by_once (number_within 1 10000) value (values_of of_limit ps) g.limit
    (λ a. chosen a (windows_in g ps) (intervals_in g ps) (shards_in g ps) (extents_in g ps) (journals_in g ps) (scripts_in g ps))
    (chosen_1 (windows_in g ps) (intervals_in g ps) (shards_in g ps) (extents_in g ps) (journals_in g ps) (scripts_in g ps))
    ∙ sym (map_then (λ n. record g { limit = Some n }) (λ h. replay_on h ps) (once g.limit (number_within 1 10000 value)))
option_first g of_window value ps =
    by_once (duration_from 0) value (values_of of_window ps) g.window
    (λ b. chosen (limits_in g ps) b (intervals_in g ps) (shards_in g ps) (extents_in g ps) (journals_in g ps) (scripts_in g ps))
    (chosen_2 (limits_in g ps) (intervals_in g ps) (shards_in g ps) (extents_in g ps) (journals_in g ps) (scripts_in g ps))
    ∙ sym (map_then (λ n. record g { window = Some n }) (λ h. replay_on h ps) (once g.window (duration_from 0 value)))
option_first g of_interval value ps =
    by_once (duration_from 1000) value (values_of of_interval ps) g.interval
    (λ c. chosen (limits_in g ps) (windows_in g ps) c (shards_in g ps) (extents_in g ps) (journals_in g ps) (scripts_in g ps))
    (chosen_3 (limits_in g ps) (windows_in g ps) (shards_in g ps) (extents_in g ps) (journals_in g ps) (scripts_in g ps))
    ∙ sym (map_then (λ n. record g { interval = Some n }) (λ h. replay_on h ps) (once g.interval (duration_from 1000 value)))
option_first g of_shards value ps =
    by_once (number_within 1 64) value (values_of of_shards ps) g.shards
    (λ d. chosen (limits_in g ps) (windows_in g ps) (intervals_in g ps) d (extents_in g ps) (journals_in g ps) (scripts_in g ps))
    (chosen_4 (limits_in g ps) (windows_in g ps) (intervals_in g ps) (extents_in g ps) (journals_in g ps) (scripts_in g ps))
    ∙ sym (map_then (λ n. record g { shards = Some n }) (λ h. replay_on h ps) (once g.shards (number_within 1 64 value)))
option_first g of_extents value ps =
    by_once (number_within 1 4096) value (values_of of_extents ps) g.extents
    (λ e. chosen (limits_in g ps) (windows_in g ps) (intervals_in g ps) (shards_in g ps) e (journals_in g ps) (scripts_in g ps))
    (chosen_5 (limits_in g ps) (windows_in g ps) (intervals_in g ps) (shards_in g ps) (journals_in g ps) (scripts_in g ps))
    ∙ sym (map_then (λ n. record g { extents = Some n }) (λ h. replay_on h ps) (once g.extents (number_within 1 4096 value)))
option_first g of_journal value ps =
    by_once (number_within 1 4000000) value (values_of of_journal ps) g.journal
    (λ f. chosen (limits_in g ps) (windows_in g ps) (intervals_in g ps) (shards_in g ps) (extents_in g ps) f (scripts_in g ps))
    (chosen_6 (limits_in g ps) (windows_in g ps) (intervals_in g ps) (shards_in g ps) (extents_in g ps) (scripts_in g ps))
    ∙ sym (map_then (λ n. record g { journal = Some n }) (λ h. replay_on h ps) (once g.journal (number_within 1 4000000 value)))

script_first : (w : List ℕ) (ws : List (List ℕ)) (s : Option (List ℕ)) (give : Option (List ℕ) → Option Replay)
    → give None ≡ None → give (script_with (w ∷ ws) s) ≡ (once s (Some w) >>= λ x. give (script_with ws (Some x)))
unfolding script_with
script_first w [] None give none = refl
script_first w (x ∷ ws) None give none = refl
script_first w [] (Some s) give none = none
script_first w (x ∷ ws) (Some s) give none = none

other_first : (g : Given) (word : List ℕ) (ps : List Part) → replay_on g (words.other word ∷ ps) ≡ (with_script g word >>= λ h. replay_on h ps)
unfolding replay_on
other_first g word ps =
    script_first word (others_of ps) g.script (chosen (limits_in g ps) (windows_in g ps) (intervals_in g ps) (shards_in g ps) (extents_in g ps) (journals_in g ps))
    (chosen_7 (limits_in g ps) (windows_in g ps) (intervals_in g ps) (shards_in g ps) (extents_in g ps) (journals_in g ps))
    ∙ sym (map_then (λ s. record g { script = Some s }) (λ h. replay_on h ps) (once g.script (Some word)))

-- ---- word by word

-- the parts of words where this may be the next
parts_in : Next → List (List ℕ) → Option (List Part)
parts_in any ws = parts_of None ws
parts_in (value_of name) ws = parts_of (Some name) ws
parts_in steps.other ws = Some (map words.other ws)

-- what the words behind give, for all that was chosen before
abbrev Follows : List (List ℕ) → Next → Type 0
Follows ws next = (h : Given) → (read_all h next ws >>= λ s. replay_by s.0 s.0.script s.1) ≡ (parts_in next ws >>= replay_on h)

-- one part, and the words behind it
module _ (ws : List (List ℕ)) (next : Next) (rest : Follows ws next) (part : Part) (first : (g : Given) → Option Given)
    (is_first : (g : Given) (ps : List Part) → replay_on g (part ∷ ps) ≡ (first g >>= λ h. replay_on h ps)) where
  part_taken : (g : Given) → ((before next (first g) >>= λ s. read_all s.0 s.1 ws) >>= λ s. replay_by s.0 s.0.script s.1)
      ≡ (with_part part (parts_in next ws) >>= replay_on g)
  part_taken g = by (first g) refl where
    parts : (m : Option Given) (ps : Option (List Part)) → first g ≡ m
        → (with_part part ps >>= replay_on g) ≡ (m >>= λ h. ps >>= replay_on h)
    parts None None e = refl
    parts (Some h) None e = refl
    parts m (Some ps) e = is_first g ps ∙ ap (λ o. o >>= λ h. replay_on h ps) e

    by : (m : Option Given) → first g ≡ m
        → ((before next m >>= λ s. read_all s.0 s.1 ws) >>= λ s. replay_by s.0 s.0.script s.1) ≡ (with_part part (parts_in next ws) >>= replay_on g)
    by None e = sym (parts None (parts_in next ws) e)
    by (Some h) e = rest h ∙ sym (parts (Some h) (parts_in next ws) e)

-- where nothing is behind
further_none : (read : List ℕ → Option ℕ) (o : Option ℕ) → further read [] o ≡ Some o
unfolding further
further_none read o = refl

last_one : (g : Given) (next : Next) → replay_by g g.script next ≡ (parts_in next [] >>= replay_on g)
unfolding parts_in replay_on further script_with chosen
last_one g next = by g.script refl next where
  by : (s : Option (List ℕ)) → g.script ≡ s → (next : Next) → replay_by g s next ≡ (parts_in next [] >>= λ ps. chosen (limits_in g ps) (windows_in g ps) (intervals_in g ps) (shards_in g ps) (extents_in g ps) (journals_in g ps) (script_with (others_of ps) s))
  by s e (value_of name) = refl
  by None e any = refl
  by (Some x) e any = refl
  by None e steps.other = refl
  by (Some x) e steps.other = refl

-- by a word where an option may stand
by_word : (h : Given) (w : List ℕ) (ws : List (List ℕ)) (x : Option Word) → ((next : Next) → Follows ws next)
    → (((x >>= λ y. steps.with_word h y w) >>= λ s. read_all s.0 s.1 ws) >>= λ s. replay_by s.0 s.0.script s.1)
    ≡ ((x >>= λ y. words.with_word y w ws (λ name. parts_of (Some name) ws) (parts_of None ws)) >>= replay_on h)
unfolding parts_in
by_word h w ws (Some plain) rest = part_taken ws any (rest any) (words.other w) (λ g. with_script g w) (λ g ps. other_first g w ps) h
by_word h w ws (Some last_dashes) rest = rest steps.other h
by_word h w ws (Some (named name)) rest = rest (value_of name) h
by_word h w ws (Some (valued name value)) rest =
    part_taken ws any (rest any) (option name value) (λ g. with_option g name value) (λ g ps. option_first g name value ps) h
by_word h w ws None rest = refl

-- and by one that is a value, unless it begins with `-`
by_value : (h : Given) (name : OptionName) (w : List ℕ) (ws : List (List ℕ)) (dashed : Bool) → Follows ws any
    → ((cond dashed None (before any (with_option h name w)) >>= λ s. read_all s.0 s.1 ws) >>= λ s. replay_by s.0 s.0.script s.1)
    ≡ (cond dashed None (with_part (option name w) (parts_of None ws)) >>= replay_on h)
unfolding parts_in
by_value h name w ws true rest = refl
by_value h name w ws false rest = part_taken ws any rest (option name w) (λ g. with_option g name w) (λ g ps. option_first g name w ps) h

follows : (ws : List (List ℕ)) (next : Next) → Follows ws next
unfolding parts_in
follows [] next h = last_one h next
follows (w ∷ ws) (value_of name) h = by_value h name w ws (is_dashed w) (follows ws any)
follows (w ∷ ws) steps.other h = part_taken ws steps.other (follows ws steps.other) (words.other w) (λ g. with_script g w) (λ g ps. other_first g w ps) h
follows (w ∷ ws) any h = by_word h w ws (word_of w) (λ next. follows ws next)

-- ---- from nothing on

once_at_most : (read : List ℕ → Option ℕ) (vs : List (List ℕ)) → further read vs None ≡ at_most_once read vs
unfolding further
once_at_most read [] = refl
once_at_most read (v ∷ []) = refl
once_at_most read (v ∷ (u ∷ vs)) = refl

one_script : (ws : List (List ℕ)) → script_with ws None ≡ exactly_one ws
unfolding script_with
one_script [] = refl
one_script (w ∷ []) = refl
one_script (w ∷ (x ∷ ws)) = refl

same_chosen : (a a' b b' c c' d d' e e' f f' : Option (Option ℕ)) (g g' : Option (List ℕ)) → a ≡ a' → b ≡ b' → c ≡ c' → d ≡ d' → e ≡ e' → f ≡ f' → g ≡ g'
    → chosen a b c d e f g ≡ chosen a' b' c' d' e' f' g'
same_chosen a a' b b' c c' d d' e e' f f' g g' p q r s t u v = cc

from_nothing : (ps : List Part) → replay_on nothing_given ps ≡ replay_of ps
unfolding replay_on chosen
from_nothing ps = same_chosen _ _ _ _ _ _ _ _ _ _ _ _ _ _
    (once_at_most (number_within 1 10000) (values_of of_limit ps)) (once_at_most (duration_from 0) (values_of of_window ps))
    (once_at_most (duration_from 1000) (values_of of_interval ps)) (once_at_most (number_within 1 64) (values_of of_shards ps))
    (once_at_most (number_within 1 4096) (values_of of_extents ps)) (once_at_most (number_within 1 4000000) (values_of of_journal ps))
    (one_script (others_of ps))

read_behind : (ws : List (List ℕ)) → (read_all nothing_given any ws >>= λ s. replay_by s.0 s.0.script s.1) ≡ replay_behind ws
unfolding parts_in
read_behind ws = follows ws any nothing_given ∙ by (parts_of None ws) where
  by : (ps : Option (List Part)) → (ps >>= replay_on nothing_given) ≡ (ps >>= replay_of)
  by None = refl
  by (Some ps) = from_nothing ps

pub all_read : (ws : List (List ℕ)) (s : Given × Next) → Some s ≡ read_all nothing_given any ws → replay_by s.0 s.0.script s.1 ≡ replay_behind ws
all_read ws s e = ap (λ o. o >>= λ s. replay_by s.0 s.0.script s.1) e ∙ read_behind ws

pub none_read : (ws : List (List ℕ)) → None ≡ read_all nothing_given any ws → None ≡ replay_behind ws
none_read ws e = ap (λ o. o >>= λ s. replay_by s.0 s.0.script s.1) e ∙ read_behind ws

-- ---- the limits that words choose are within their ranges

-- a value that is chosen, if one is
abbrev Chosen : (ℕ → Type 0) → Option ℕ → Type 0
Chosen P None = Unit {0}
Chosen P (Some n) = P n

read_within : (P : ℕ → Type 0) (read : List ℕ → Option ℕ) (vs : List (List ℕ)) (o : Option ℕ)
    → ((v : List ℕ) (n : ℕ) → read v ≡ Some n → P n) → at_most_once read vs ≡ Some o → Chosen P o
read_within P read [] o within e = subst_option P None o (some_same None o e) tt where
  some_same : (x y : Option ℕ) → ◌≡◌ {A = Option (Option ℕ)} (Some x) (Some y) → x ≡ y
  some_same x y h = cc

  subst_option : (P : ℕ → Type 0) (x y : Option ℕ) → x ≡ y → Chosen P x → Chosen P y
  subst_option P x y h p = subst (Chosen P) h p
read_within P read (v ∷ []) o within e = by (read v) refl o e where
  by : (m : Option ℕ) → read v ≡ m → (o : Option ℕ) → option_map Some m ≡ Some o → Chosen P o
  by None h o e = cc
  by (Some n) h None e = cc
  by (Some n) h (Some k) e = let same : n ≡ k = cc in subst P same (within v n h)
read_within P read (v ∷ (u ∷ vs)) o within e = cc

number_in : (least most : ℕ) (v : List ℕ) (n : ℕ) → number_within least most v ≡ Some n → (least ≤ n) × (n ≤ most)
number_in least most v n e = by (number_of v) e where
  tested : (k : ℕ) (a b : Bool) → nat_le least k ≡ a → nat_le k most ≡ b → only_if (a && b) k ≡ Some n → (least ≤ n) × (n ≤ most)
  tested k true true p q e = let same : k ≡ n = cc in (grind (arith, nat_tests), grind (arith, nat_tests))
  tested k true false p q e = cc
  tested k false b p q e = cc

  by : (m : Option ℕ) → (m >>= (λ k. only_if (nat_le least k && nat_le k most) k)) ≡ Some n → (least ≤ n) × (n ≤ most)
  by None e = cc
  by (Some k) e = tested k (nat_le least k) (nat_le k most) refl refl e

duration_in : (least : ℕ) (v : List ℕ) (n : ℕ) → duration_from least v ≡ Some n → least ≤ n
duration_in least v n e = by (result_ok (duration_of v)) e where
  tested : (k : ℕ) (a : Bool) → nat_le least k ≡ a → only_if a k ≡ Some n → least ≤ n
  tested k true p e = let same : k ≡ n = cc in grind (arith, nat_tests)
  tested k false p e = cc

  by : (m : Option ℕ) → (m >>= (λ k. only_if (nat_le least k) k)) ≡ Some n → least ≤ n
  by None e = cc
  by (Some k) e = tested k (nat_le least k) refl e

-- of the values that make a replay those that have a range
pub record AreChosen (a c d e f : Option (Option ℕ)) (r : Replay) : Type 0 where
  pub limit : a ≡ Some r.limit
  pub interval : c ≡ Some r.interval
  pub shards : d ≡ Some r.shards
  pub extents : e ≡ Some r.extents
  pub journal : f ≡ Some r.journal

chosen_is : (a b c d e f : Option (Option ℕ)) (g : Option (List ℕ)) (r : Replay) → chosen a b c d e f g ≡ Some r → AreChosen a c d e f r
unfolding chosen
chosen_is None b c d e f g r h = cc
chosen_is (Some x) None c d e f g r h = cc
chosen_is (Some x) (Some y) None d e f g r h = cc
chosen_is (Some x) (Some y) (Some z) None e f g r h = cc
chosen_is (Some x) (Some y) (Some z) (Some w) None f g r h = cc
chosen_is (Some x) (Some y) (Some z) (Some w) (Some v) None g r h = cc
chosen_is (Some x) (Some y) (Some z) (Some w) (Some v) (Some u) None r h = cc
chosen_is (Some x) (Some y) (Some z) (Some w) (Some v) (Some u) (Some s) r h =
    let same : record { limit = x; window = y; interval = z; shards = w; extents = v; journal = u; script = s } ≡ r = cc in
    record {
      limit = ap (λ (r : Replay). Some r.limit) same;
      interval = ap (λ (r : Replay). Some r.interval) same;
      shards = ap (λ (r : Replay). Some r.shards) same;
      extents = ap (λ (r : Replay). Some r.extents) same;
      journal = ap (λ (r : Replay). Some r.journal) same;
    }

or_else : (P : ℕ → Type 0) (o : Option ℕ) (n : ℕ) → Chosen P o → P n → P (unwrap_or o n)
or_else P None n h p = p
or_else P (Some k) n h p = h

right_by : (ps : List Part) (l : Limits) (r : Replay) → replay_of ps ≡ Some r → AreLimits l → AreLimits (limits_with l r)
unfolding chosen
right_by ps l r e right =
    let is = chosen_is (at_most_once (number_within 1 10000) (values_of of_limit ps)) (at_most_once (duration_from 0) (values_of of_window ps))
    (at_most_once (duration_from 1000) (values_of of_interval ps)) (at_most_once (number_within 1 64) (values_of of_shards ps))
    (at_most_once (number_within 1 4096) (values_of of_extents ps)) (at_most_once (number_within 1 4000000) (values_of of_journal ps)) (exactly_one (others_of ps)) r e in
    record {
      some = or_else (λ n. 1 ≤ n) r.limit l.outstanding
          (read_within (λ n. 1 ≤ n) (number_within 1 10000) (values_of of_limit ps) r.limit (λ v n h. (number_in 1 10000 v n h).0) is.limit) right.some;
      interval = or_else (λ n. 1000 ≤ n) r.interval l.interval
          (read_within (λ n. 1000 ≤ n) (duration_from 1000) (values_of of_interval ps) r.interval (λ v n h. duration_in 1000 v n h) is.interval) right.interval;
      shards = or_else (λ n. 1 ≤ n) r.shards l.shards
          (read_within (λ n. 1 ≤ n) (number_within 1 64) (values_of of_shards ps) r.shards (λ v n h. (number_in 1 64 v n h).0) is.shards) right.shards;
      most_shards = or_else (λ n. n ≤ 64) r.shards l.shards
          (read_within (λ n. n ≤ 64) (number_within 1 64) (values_of of_shards ps) r.shards (λ v n h. (number_in 1 64 v n h).1) is.shards) right.most_shards;
      extents = or_else (λ n. 1 ≤ n) r.extents l.extents
          (read_within (λ n. 1 ≤ n) (number_within 1 4096) (values_of of_extents ps) r.extents (λ v n h. (number_in 1 4096 v n h).0) is.extents) right.extents;
      bounded = or_else (λ n. n ≤ 4000000) r.journal l.journal
          (read_within (λ n. n ≤ 4000000) (number_within 1 4000000) (values_of of_journal ps) r.journal (λ v n h. (number_in 1 4000000 v n h).1) is.journal) right.bounded;
    }

pub limits_right : (ws : List (List ℕ)) (l : Limits) (r : Replay) → replay_words ws ≡ Some r → AreLimits l → AreLimits (limits_with l r)
limits_right [] l r e right = cc
limits_right (command ∷ ws) l r e right = by (bytes_eq command (codes "replay")) e where
  parts : (ps : Option (List Part)) → (ps >>= replay_of) ≡ Some r → AreLimits (limits_with l r)
  parts None h = cc
  parts (Some ps) h = right_by ps l r h right

  by : (b : Bool) → cond b (replay_behind ws) None ≡ Some r → AreLimits (limits_with l r)
  by true h = parts (parts_of None ws) h
  by false h = cc
