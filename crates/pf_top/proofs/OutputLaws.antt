-- What the commands give is what the program says.
use Rattle.std.proofs.Common.{◌≡◌, ℕ, ◌<◌, ◌≤◌, inl, inr, Bool, true, false, cond, nat_le, Option, Some, None, Result, Ok, Err, List, [], ◌∷◌, refl, arith, sym, ap, ◌∙◌, length, take, subst}
use Rattle.std.specs.BTreeMap.{get_by_text}
use Rattle.std.specs.Option.{option_or}
use Rattle.std.specs.Prelude.{◌⊎◌, option_map}
use Rattle.std.proofs.lemmas.Bool.Decides.{nat_tests}
use Rattle.std.specs.declared.vec.Vec.{Vec}
use Rattle.std.specs.declared.alloc.Global.{Global}
use Rattle.pf_base.specs.declared.plain.Limits.{Limits}
use Rattle.pf_io.specs.Outside.{Holds, Grows, LongerThan, StayKnown}
use Rattle.pf_io.proofs.Growing.{grows_more}
use Rattle.pf_model.specs.Exposition.{file_lines}
use Rattle.pf_model.specs.Lists.{Each}
use Rattle.pf_journal.specs.Rest.{Why, at_end, at_full}
use Rattle.pf_journal.specs.Scripts.{Numbered, lines_from, most_bytes, script_of}
use Rattle.pf_core.specs.Cores.{AreLimits}
use Rattle.pf_script.specs.Lines.{AllFollow}
use Rattle.pf_client.specs.Drives.{IsAnyReport, IsReport}
use Rattle.pf_client.specs.Files.{AreHeld, AreLoaded, Contents, HasContent, HoldsContent, IsKept, LetsGo, NamesFile, TellsContent}
use Rattle.pf_client.specs.Replays.{Agree, HasFailed, Held, Reaches, files_of, why_by}
use Rattle.pf_client.specs.Sent.{WritesTo}
use Rattle.pf_client.specs.Tries.{HaveCause}
use Rattle.pf_client.specs.Written.{Begins, Writes, WritesPart}
use Rattle.pf_client.specs.declared.loaded.Content.{Content}
use Rattle.pf_client.specs.declared.loaded.Content.TheVariants.{Bytes, TooLong}
use Rattle.pf_client.proofs.Gone.{left_held, left_there}
use Rattle.pf_client.proofs.Holding.{holding, holding_bytes, holding_none, holding_one}
use Rattle.pf_client.proofs.Lines.{all_first, last_behind}
use Rattle.pf_client.proofs.Texts.{each_file, failed_since, read_there}
use Rattle.pf_client.proofs.Writing.{part_written, writes_all, writes_front, writes_none, writes_then}
use Rattle.pf_top.specs.Commands.{Command, EvaluationTells, IsReported, ReplayTells, Reported, Says, Tells, command_of, evaluate, load, needed, replay, script_files}
use Rattle.pf_top.specs.Outputs.{IsReplay, Prints}
use Rattle.pf_top.specs.Refusals.{refused_read, refused_script}
use Rattle.pf_top.specs.Seen.{AllRead, FilesSeen, HopsSeen, Unread}
use Rattle.pf_top.specs.Words.{Evaluation, Replay, evaluation_words, limits_with, load_words, replay_words}
use Rattle.pf_top.specs.WordSteps.{command_in}
use Rattle.pf_top.specs.declared.words.Command.{Command as CommandCode}
use Rattle.pf_top.proofs.WordLaws.{limits_right}

-- ---- what is written

-- all is left of what nothing was written of
pub prints_whole : (IsText : List ℕ → Type 0) (told : Option (List ℕ)) (text : List ℕ) → IsText text → Prints IsText told told text
prints_whole IsText told text is = (text, (is, writes_none told text))

pub prints_map : (P Q : List ℕ → Type 0) (old new : Option (List ℕ)) (left : List ℕ) → ((text : List ℕ) → P text → Q text) → Prints P old new left → Prints Q old new left
prints_map P Q old new left f p = (p.0, (f p.0 p.1.0, p.1.1))

pub part_map : (P Q : List ℕ → Type 0) (old new : Option (List ℕ)) → ((text : List ℕ) → P text → Q text) → WritesPart P old new → WritesPart Q old new
part_map P Q old new f p = (p.0, (f p.0 p.1.0, p.1.1))

pub begins_map : (P Q : List ℕ → Type 0) (old new : Option (List ℕ)) → ((text : List ℕ) → P text → Q text) → Begins P old new → Begins Q old new
begins_map P Q old new f (inl none) = inl none
begins_map P Q old new f (inr p) = inr (part_map P Q old new f p)

-- what was left was written, or a front of it
pub whole_on : (a b c : Option (List ℕ)) (text left : List ℕ) → WritesTo a b text left → Grows b c left → Grows a c text
whole_on a b c text left w g = subst (Grows a c) (sym w.whole) (grows_more a b c w.sent left w.grown g)

pub front_on : (a b c : Option (List ℕ)) (text left : List ℕ) → WritesTo a b text left → (n : ℕ) × (n ≤ length left) × Grows b c (take n left) → (n : ℕ) × Grows a c (take n text)
front_on a b c text left w f =
    let g = writes_front b c left f in
    part_written a c text g.0 (writes_then a b c text left g.0 w g.1)

-- ---- once the script is read

-- the bytes of the script are kept as they are held
script_held : (held : Held) (kept : Contents) (script : List ℕ) (bytes : Vec ℕ Global) → AreHeld held kept
    → HasContent kept script (Bytes bytes) → held script ≡ bytes.items
script_held held kept script bytes h has = (h script (record { content = Bytes bytes; last = has.last }) has.there).0

-- what a run gives, over one reading of each file
module _ (limits : Limits) (hops : HopsSeen) (files : FilesSeen) (script : List ℕ) (bytes : Vec ℕ Global) (lines : List Numbered) (first kept left : Contents) (old new : Option (List ℕ))
    (loaded : AreLoaded files.told files.lost first lines kept) (at_hand : get_by_text first script ≡ Some (record { content = Bytes bytes; last = 0 })) (steady : files.after ≡ files.before)
    (go : LetsGo kept script 0 left) where
  reading : (held : Held) × (Agree files.told held × AreHeld held kept)
  reading = holding files.told kept loaded.held

  are_held : AreHeld reading.0 left
  are_held = left_held reading.0 kept script 0 left go reading.1.1

  replay_text : (status : ℕ) (text : List ℕ) → IsReported limits hops reading.0 (lines ∷ []) status text → IsReplay limits hops files script bytes.items lines status text
  replay_text status text r = record {
    held = reading.0;
    agree = reading.1.0;
    same = script_held reading.0 kept script bytes reading.1.1 (loaded.still script (record { content = Bytes bytes; last = 0 }) at_hand);
    output = inl (record { there = each_file (λ name. files.lost name ≡ false) lines (read_there files.told files.lost first kept lines loaded); steady = steady }, r);
  }

  pub replayed : (status : ℕ) (rest : List ℕ) → ((held : Held) → AreHeld held left → Prints (IsReported limits hops held (lines ∷ []) status) old new rest)
      → Prints (IsReplay limits hops files script bytes.items lines status) old new rest
  replayed status rest run =
      prints_map (IsReported limits hops reading.0 (lines ∷ []) status) (IsReplay limits hops files script bytes.items lines status) old new rest (replay_text status) (run reading.0 are_held)

  pub replay_begun : ((held : Held) → AreHeld held left → Begins (IsReported limits hops held (lines ∷ []) 6) old new) → Begins (IsReplay limits hops files script bytes.items lines 6) old new
  replay_begun run = begins_map (IsReported limits hops reading.0 (lines ∷ []) 6) (IsReplay limits hops files script bytes.items lines 6) old new (replay_text 6) (run reading.0 are_held)

  pub replay_broken : ((held : Held) → AreHeld held left → WritesPart (IsReported limits hops held (lines ∷ []) 6) old new) → WritesPart (IsReplay limits hops files script bytes.items lines 6) old new
  replay_broken run = part_map (IsReported limits hops reading.0 (lines ∷ []) 6) (IsReplay limits hops files script bytes.items lines 6) old new (replay_text 6) (run reading.0 are_held)

-- the files that lines name are left where the script is let go
pub left_files : (told : List ℕ → Option (List ℕ)) (lost : List ℕ → Bool) (first : Contents) (lines : List Numbered) (kept : Contents) (script : List ℕ) (left : Contents)
    → AllFollow [] lines → AreLoaded told lost first lines kept → LetsGo kept script 0 left → (name : List ℕ) → NamesFile lines name → IsKept left name
left_files told lost first lines kept script left following loaded go name named =
    let k = loaded.there name named in
    left_there kept (Some script) 0 left go name k (last_behind lines 0 k.file.last name named (all_first [] lines following) (loaded.lasts name k.file k.there))

-- a file of the script was not read
pub replay_failed : (limits : Limits) (hops : HopsSeen) (files : FilesSeen) (script bytes name given : List ℕ) (lines : List Numbered) (status : ℕ) (text : List ℕ)
    → Holds (files.told script) bytes → Reaches files.lost (files_of lines) name
    → HasFailed files.sure files.before files.after files.failed name → (status ≡ 4) × (text ≡ refused_read given) → given ≡ name
    → IsReplay limits hops files script bytes lines status text
replay_failed limits hops files script bytes name given lines status text holds reached fault p e =
    let h = holding_bytes files.told script bytes holds in
    record {
      held = h.0;
      agree = h.1.0;
      same = h.1.1;
      output = inr (p.0, record { name = name; reached = reached; fault = fault; whole = p.1 ∙ ap refused_read e });
    }

-- what a run gives, once the script and the files are read, by its report
reported : (limits : Limits) (hops : HopsSeen) (after : ℕ) (held : Held) (lines : List Numbered) (why : Why) (text : List ℕ) → IsReport limits held lines (HaveCause hops.most hops.before after) why text → Reported limits hops held (lines ∷ []) why text
reported limits hops after held lines why text r = record {
  journal = r.journal;
  names = r.names;
  refused = r.refused;
  readings = r.readings;
  rest = r.rest;
  legal = r.legal;
  named = r.named;
  woven = r.woven;
  stopped = r.stopped;
  spared = r.tries.spared;
  whole = r.whole;
}

run_ended : (limits : Limits) (hops : HopsSeen) (after : ℕ) (held : Held) (lines : List Numbered) (full : Bool) (status : ℕ) (text : List ℕ)
    → status ≡ cond full 8 0 → IsReport limits held lines (HaveCause hops.most hops.before after) (why_by full) text → IsReported limits hops held (lines ∷ []) status text
run_ended limits hops after held lines false status text is r = inl (is, reported limits hops after held lines at_end text r)
run_ended limits hops after held lines true status text is r = inr (inl (is, reported limits hops after held lines at_full text r))

pub run_printed : (limits : Limits) (hops : HopsSeen) (after : ℕ) (held : Held) (lines : List Numbered) (full : Bool) (status : ℕ) (rest : List ℕ) (old new : Option (List ℕ))
    → status ≡ cond full 8 0 → rest ≡ [] → Writes (IsReport limits held lines (HaveCause hops.most hops.before after) (why_by full)) old new → Prints (IsReported limits hops held (lines ∷ []) status) old new rest
run_printed limits hops after held lines full status rest old new is none w =
    (w.0, (run_ended limits hops after held lines full status w.0 is w.1.0, subst (WritesTo old new w.0) (sym none) (writes_all old new w.0 w.1.1)))

pub run_stopped : (limits : Limits) (hops : HopsSeen) (after : ℕ) (held : Held) (lines : List Numbered) (text : List ℕ) → IsAnyReport limits held lines (HaveCause hops.most hops.before after) text → IsReported limits hops held (lines ∷ []) 6 text
run_stopped limits hops after held lines text (why, r) = inr (inr (refl, (why, reported limits hops after held lines why text r)))

-- ---- by the command

-- the one that the words name
pub named_by : (words : List (List ℕ)) (read named : CommandCode) → Some (command_in read) ≡ command_of words → read ≡ named → Some (command_in named) ≡ command_of words
named_by words read named is same = ap (λ (c : CommandCode). Some (command_in c)) (sym same) ∙ is

-- the limits of a replay
abbrev replay_or : Replay → Option Command → Replay
replay_or r (Some (replay chosen)) = chosen
replay_or r _ = r

pub limits_chosen : (words : List (List ℕ)) (limits : Limits) (r : Replay) → command_of words ≡ Some (replay r) → AreLimits limits → AreLimits (limits_with limits r)
limits_chosen words limits r e right = by (replay_words words) (evaluation_words words) (load_words words) refl e where
  by : (p : Option Replay) (q : Option Evaluation) (n : Option ℕ) → replay_words words ≡ p
      → option_or (option_map replay p) (option_or (option_map evaluate q) (option_map load n)) ≡ Some (replay r) → AreLimits (limits_with limits r)
  by (Some s) q n is h = limits_right words limits r (is ∙ ap (λ (c : Option Command). Some (replay_or s c)) h) right
  by None (Some s) n is h = cc
  by None None (Some seed) is h = cc
  by None None None is h = cc

-- no file is needed
pub plain_said : (limits : Limits) (hops : HopsSeen) (files : FilesSeen) (command : Option Command) (status : ℕ) (text : List ℕ)
    → ((held : Held) → needed held command ≡ []) → files.after ≡ files.before → ((held : Held) → Tells limits hops held command status text)
    → Says limits hops files command status text
plain_said limits hops files command status text nothing steady tells =
    let h = holding_none files.told in
    record {
      held = h.0;
      agree = h.1;
      said = inl (subst (AllRead files) (sym (nothing h.0)) (record { there = tt; steady = steady }), tells h.0);
    }

-- a file that is needed was not read
pub unread_said : (limits : Limits) (hops : HopsSeen) (files : FilesSeen) (command : Option Command) (name : List ℕ) (status : ℕ) (text : List ℕ)
    → ((held : Held) → Reaches files.lost (needed held command) name) → HasFailed files.sure files.before files.after files.failed name
    → (status ≡ 4) × (text ≡ refused_read name) → Says limits hops files command status text
unread_said limits hops files command name status text reached fault p =
    let h = holding_none files.told in
    record { held = h.0; agree = h.1; said = inr (p.0, record { name = name; reached = reached h.0; fault = fault; whole = p.1 }) }

-- the file of an evaluation was read
pub evaluation_said : (limits : Limits) (hops : HopsSeen) (files : FilesSeen) (e : Evaluation) (content : Content) (status : ℕ) (text : List ℕ)
    → TellsContent (files.told e.file) content → files.lost e.file ≡ false → files.after ≡ files.before
    → ((bytes : List ℕ) → HoldsContent bytes content → EvaluationTells bytes e status text) → Says limits hops files (Some (evaluate e)) status text
evaluation_said limits hops files e content status text holds found steady output =
    let one = holding_one (files.told e.file) content holds in
    let h = holding_bytes files.told e.file one.0 one.1.0 in
    record {
      held = h.0;
      agree = h.1.0;
      said = inl (
        record { there = (found, tt); steady = steady },
        subst (λ (bytes : List ℕ). EvaluationTells bytes e status text) (sym h.1.1) (output one.0 one.1.1),
      );
    }

-- ---- a script

module _ (held : Held) (r : Replay) (read : Result (List Numbered) ℕ) (is : script_of true (held r.script) ≡ read) where
  needed_script : needed held (Some (replay r)) ≡ r.script ∷ script_files read
  needed_script = ap (λ (s : Result (List Numbered) ℕ). r.script ∷ script_files s) is

  all_read : (files : FilesSeen) → files.lost r.script ≡ false → AllRead files (script_files read) → AllRead files (needed held (Some (replay r)))
  all_read files found a = subst (AllRead files) (sym needed_script) (record { there = (found, a.there); steady = a.steady })

  none_read : (files : FilesSeen) (text : List ℕ) → files.lost r.script ≡ false → Unread files (script_files read) text → Unread files (needed held (Some (replay r))) text
  none_read files text found u = record {
    name = u.name;
    reached = subst (λ (names : List (List ℕ)). Reaches files.lost names u.name) (sym needed_script) (inr (found, u.reached));
    fault = u.fault;
    whole = u.whole;
  }

-- what is seen since the script was read is seen since before
module _ (old : FilesSeen) (told : List ℕ → Option (List ℕ)) (sure lost : List ℕ → Bool) (middle : ℕ)
    (same_told : (name : List ℕ) → told name ≡ old.told name) (same_lost : (name : List ℕ) → lost name ≡ old.lost name) (known : StayKnown old.sure sure) (still : middle ≡ old.before) where
  abbrev since : FilesSeen
  since = record { told = told; sure = sure; lost = lost; before = middle; after = old.after; failed = old.failed }

  all_lost : lost ≡ old.lost
  all_lost = λ i name. same_lost name i

  all_since : (names : List (List ℕ)) → AllRead since names → AllRead old names
  all_since names a = record { there = subst (λ (l : List ℕ → Bool). Each (λ name. l name ≡ false) names) all_lost a.there; steady = a.steady ∙ still }

  unread_since : (names : List (List ℕ)) (text : List ℕ) → Unread since names text → Unread old names text
  unread_since names text u = record {
    name = u.name;
    reached = subst (λ (l : List ℕ → Bool). Reaches l names u.name) all_lost u.reached;
    fault = failed_since old.sure sure old.before middle old.after old.failed u.name known (omega (arith, still)) u.fault;
    whole = u.whole;
  }

  pub replay_said : (limits chosen : Limits) (hops : HopsSeen) (r : Replay) (bytes given : List ℕ) (lines : List Numbered) (status : ℕ) (text : List ℕ)
      → chosen ≡ limits_with limits r → given ≡ bytes → script_of true given ≡ Ok lines → old.lost r.script ≡ false
      → IsReplay chosen hops (record { told = told; sure = sure; lost = lost; before = middle; after = old.after; failed = old.failed }) r.script bytes lines status text
      → Says limits hops old (Some (replay r)) status text
  replay_said limits chosen hops r bytes given lines status text by_words same read found p = record {
    held = p.held;
    agree = λ name. subst (λ (t : Option (List ℕ)). Holds t (p.held name)) (same_told name) (p.agree name);
    said = said p.output;
  } where
    is : script_of true (p.held r.script) ≡ Ok lines
    is = ap (script_of true) (p.same ∙ sym same) ∙ read

    said : (AllRead since (files_of lines) × IsReported chosen hops p.held (lines ∷ []) status text) ⊎ ((status ≡ 4) × Unread since (files_of lines) text)
        → (AllRead old (needed p.held (Some (replay r))) × ReplayTells limits hops p.held r status text) ⊎ ((status ≡ 4) × Unread old (needed p.held (Some (replay r))) text)
    said (inl (a, run)) = inl (
      all_read p.held r (Ok lines) is old found (all_since (files_of lines) a),
      inl (lines, (is, subst (λ (l : Limits). IsReported l hops p.held (lines ∷ []) status text) by_words run)),
    )
    said (inr (four, u)) = inr (four, none_read p.held r (Ok lines) is old text found (unread_since (files_of lines) text u))

-- a script that is refused
pub refused_said : (limits : Limits) (hops : HopsSeen) (files : FilesSeen) (r : Replay) (bytes given : List ℕ) (line printed status : ℕ) (text : List ℕ)
    → Holds (files.told r.script) bytes → given ≡ bytes → script_of true given ≡ Err line → files.lost r.script ≡ false → files.after ≡ files.before
    → (status ≡ 3) × (text ≡ refused_script 0 printed) → printed ≡ line → Says limits hops files (Some (replay r)) status text
refused_said limits hops files r bytes given line printed status text holds e bad found steady p same =
    let h = holding_bytes files.told r.script bytes holds in
    let is : script_of true (h.0 r.script) ≡ Err line = ap (script_of true) (h.1.1 ∙ sym e) ∙ bad in
    record {
      held = h.0;
      agree = h.1.0;
      said = inl (
        all_read h.0 r (Err line) is files found (record { there = tt; steady = steady }),
        inr (p.0, (line, (is, p.1 ∙ ap (refused_script 0) same))),
      );
    }

past : (n most : ℕ) → most < n → nat_le n most ≡ false
past n most h = grind (arith, nat_tests)

long_script : (bytes : List ℕ) → most_bytes < length bytes → script_of true bytes ≡ Err 0
unfolding script_of
long_script bytes h = ap (λ (b : Bool). cond b (lines_from true 1 [] (file_lines bytes)) (Err 0)) (past (length bytes) most_bytes h)

-- a script that is too long
pub long_said : (limits : Limits) (hops : HopsSeen) (files : FilesSeen) (r : Replay) (status : ℕ) (text : List ℕ)
    → LongerThan (files.told r.script) most_bytes → files.lost r.script ≡ false → files.after ≡ files.before
    → (status ≡ 3) × (text ≡ refused_script 0 0) → Says limits hops files (Some (replay r)) status text
long_said limits hops files r status text long found steady p =
    let h = holding_one (files.told r.script) TooLong long in
    refused_said limits hops files r h.0 h.0 0 0 status text h.1.0 refl (long_script h.0 h.1.1) found steady p refl

-- bytes that were read are those that are told
pub bytes_told : (told : Option (List ℕ)) (content : Content) (bytes : Vec ℕ Global) → content ≡ Bytes bytes → TellsContent told content
    → Holds told bytes.items × (length bytes.items ≤ most_bytes)
bytes_told told content bytes is h = subst (TellsContent told) is h
