-- Maps by text.
use Rattle.std.proofs.Common.{◌≡◌, ◌≢◌, ℕ, zero, suc, ◌+◌, ◌<◌, ◌≤◌, Bool, true, false, get_or, length, map, take, arith, List, [], ◌∷◌, ◌++◌, refl, sym, ap, ◌∙◌, subst, true≢false, Some, None, Option, Result, Err, ◌⊎◌, inl, inr}
use Rattle.std.specs.BTreeMap.{BTreeMap, UpdatesBy, get_by_text}
use Rattle.std.specs.declared.string.String.{String}
use Rattle.std.specs.String.{string_bytes, string_cmp}
use Rattle.std.specs.Str.{bytes_eq}
use Rattle.std.specs.Ordering.{nat_cmp}
use Rattle.std.specs.Cmp.Lexicographic.{slice_cmp}
use Rattle.std.specs.declared.alloc.Global.{Global}
use Rattle.std.proofs.lemmas.Map.Text.{btree_map_updates_text}
use Rattle.std.proofs.lemmas.Slice.Eq.{bytes_eq-Decides}
use Rattle.std.proofs.lemmas.List.{take_more}
use Rattle.pf_io.specs.Outside.{Rose, StayKnown}
use Rattle.pf_model.specs.Lists.{Each}
use Rattle.pf_journal.specs.Scripts.{Numbered}
use Rattle.pf_script.specs.Lines.{AllFollow, line_of, numbered_of}
use Rattle.pf_script.specs.declared.script.Line.{Line}
use Rattle.pf_script.specs.declared.script.Line.TheVariants.{Ingest, Delete, Ask, Instant, Cancel, Answer, Plan, Keep, Take, Done}
use Rattle.pf_script.specs.declared.script.NumberedLine.{NumberedLine}
use Rattle.pf_client.specs.Replays.{HasFailed, Reaches, file_of, files_of, with_file}
use Rattle.pf_client.specs.Files.{Contents, AreLoaded, AreThere, AreTold, HasContent, IsFile, IsKept, IsNoted, IsShort, IsLoaded, IsUnread, LineNames, NamesFile, StayKept, TellsContent}
use Rattle.pf_client.specs.declared.loaded.LoadError.{LoadError}
use Rattle.pf_client.specs.declared.loaded.LoadError.TheVariants.{Unread, OutOfMemory}
use Rattle.pf_client.specs.declared.loaded.Content.{Content}
use Rattle.pf_client.specs.declared.loaded.Content.TheVariants.{Bytes, TooLong}
use Rattle.pf_client.specs.declared.loaded.ReadFile.{ReadFile}
use Rattle.pf_io.specs.declared.outside.ReadError.{ReadError}
use Rattle.pf_io.specs.declared.outside.ReadError.TheVariants.{Failed}
use Rattle.pf_client.proofs.Lines.{rising_at}
use Rattle.pf_client.proofs.Lists.{each_push, map_push, some_is}
use Rattle.pf_client.proofs.Cases.{bool_cases}

-- an insertion leaves what stands under other texts
pub other_text : {X : Type 0} (key name other : List ℕ) (m n : BTreeMap (String Global) X) (w : Option X) → key ≡ name
    → UpdatesBy string_cmp (λ k. slice_cmp nat_cmp key (string_bytes k)) m n w → other ≢ name → get_by_text n other ≡ get_by_text m other
other_text key name other m n w is up d = elim (bool_cases (bytes_eq key other)) [
  | inl t ↦ absurd (d (sym ((bytes_eq-Decides key other).0 t) ∙ is))
  | inr t ↦ let u = btree_map_updates_text key m n w up other in rw t at u
]

pub short_by : (told : Option (List ℕ)) (content : Content) → TellsContent told content → IsShort content
short_by told (Bytes bytes) h = h.1
short_by told TooLong h = tt

pub held_short : (told : List ℕ → Option (List ℕ)) (kept : Contents) (name : List ℕ) (file : ReadFile) → AreTold told kept → get_by_text kept name ≡ Some file → IsShort file.content
held_short told kept name file h g = short_by (told name) file.content (h name file g)

module _ (old new : Contents) (name : List ℕ) (file : ReadFile) (there : get_by_text new name ≡ Some file)
    (others : (other : List ℕ) → other ≢ name → get_by_text new other ≡ get_by_text old other) where
  -- what holds of what was kept, and of what is kept now under the name, holds of all that is kept
  each_new : (P : List ℕ → ReadFile → Type 0) → ((other : List ℕ) (f : ReadFile) → other ≢ name → get_by_text old other ≡ Some f → P other f) → P name file
      → (other : List ℕ) (f : ReadFile) → get_by_text new other ≡ Some f → P other f
  each_new P before now other f g = elim (bool_cases (bytes_eq other name)) [
    | inl t ↦
        let same : other ≡ name = (bytes_eq-Decides other name).0 t in
        let here : get_by_text new other ≡ Some file = subst (λ n. get_by_text new n ≡ Some file) (sym same) there in
        let found : file ≡ f = some_is file f (sym here ∙ g) in
        subst (λ n. P n f) (sym same) (subst (P name) found now)
    | inr t ↦
        let differ : other ≢ name = λ s. let u = (bytes_eq-Decides other name).1 s in let v = rw t at u in cc in
        before other f differ (sym (others other differ) ∙ g)
  ]

  pub held_new : (told : List ℕ → Option (List ℕ)) → AreTold told old → TellsContent (told name) file.content → AreTold told new
  held_new told h holds = each_new (λ n f. TellsContent (told n) f.content) (λ n f d g. h n f g) holds

  pub there_new : (lost : List ℕ → Bool) → AreThere lost old → lost name ≡ false → AreThere lost new
  there_new lost p found = each_new (λ n f. lost n ≡ false) (λ n f d g. p n f g) found

  -- what was kept is kept, where nothing else was kept under the name
  still_new : ((f : ReadFile) → get_by_text old name ≡ Some f → f.content ≡ file.content) → StayKept old new
  still_new same_content other f g = elim (bool_cases (bytes_eq other name)) [
    | inl t ↦
        let same : other ≡ name = (bytes_eq-Decides other name).0 t in
        let content : f.content ≡ file.content = same_content f (subst (λ n. get_by_text old n ≡ Some f) same g) in
        subst (λ n. HasContent new n f.content) (sym same)
        (subst (HasContent new name) (sym content) (record { last = file.last; there = there }))
    | inr t ↦
        let differ : other ≢ name = λ s. let u = (bytes_eq-Decides other name).1 s in let v = rw t at u in cc in
        record { last = f.last; there = others other differ ∙ g }
  ]

  pub loaded_new : (told : List ℕ → Option (List ℕ)) (lost : List ℕ → Bool) (number : ℕ) → AreTold told old → AreThere lost old
      → ((f : ReadFile) → get_by_text old name ≡ Some f → f.content ≡ file.content) → TellsContent (told name) file.content → lost name ≡ false → file.last ≡ number
      → IsLoaded told lost old (λ n. name ≡ n) number new
  loaded_new told lost number h p same holds found last = record {
    held = held_new told h holds;
    present = there_new lost p found;
    there = λ n e. subst (IsKept new) e (record { file = file; there = there; short = short_by (told name) file.content holds });
    still = still_new same;
    lasts = each_new (λ n f. (f.last ≡ number) ⊎ ((name ≡ n → ⊥) × (get_by_text old n ≡ Some f))) (λ n f d g. inr (λ e. d (sym e), g)) (inl last);
  }

-- a file that was read before
pub loaded_noted : (told : List ℕ → Option (List ℕ)) (lost : List ℕ → Bool) (old : Contents) (name : List ℕ) (number : ℕ) (new : Contents)
    → AreTold told old → AreThere lost old → IsNoted old name number new → IsLoaded told lost old (λ n. name ≡ n) number new
loaded_noted told lost old name number new h p n =
    let noted : ReadFile = record { content = n.file.content; last = number } in
    loaded_new old new name noted n.now n.others told lost number h p (λ f g. ap (λ (x : ReadFile). x.content) (some_is f n.file (sym g ∙ n.before)))
    (h name n.file n.before) (p name n.file n.before) refl

-- a file that is read now
pub loaded_read : (old new : Contents) (name : List ℕ) (file : ReadFile) → get_by_text new name ≡ Some file
    → ((other : List ℕ) → other ≢ name → get_by_text new other ≡ get_by_text old other)
    → (told : List ℕ → Option (List ℕ)) (lost : List ℕ → Bool) (number : ℕ) → AreTold told old → AreThere lost old → get_by_text old name ≡ None
    → TellsContent (told name) file.content → lost name ≡ false → file.last ≡ number → IsLoaded told lost old (λ n. name ≡ n) number new
loaded_read old new name file there others told lost number h p none holds found last =
    loaded_new old new name file there others told lost number h p (λ f g. let impossible : None ≡ Some f = sym none ∙ g in cc) holds found last

-- a line names a file that was read before
pub noted : (old new : Contents) (name : List ℕ) (file : ReadFile) (number : ℕ) → get_by_text old name ≡ Some file
    → UpdatesBy string_cmp (λ k. slice_cmp nat_cmp name (string_bytes k)) old new (Some (record { content = file.content; last = number })) → IsNoted old name number new
noted old new name file number before up = record {
  file = file;
  before = before;
  now = up.1;
  others = λ other d. other_text name name other old new (Some (record { content = file.content; last = number })) refl up d;
}

names_push : (ls : List Numbered) (l : Numbered) (name : List ℕ) → NamesFile (ls ++ l ∷ []) name → NamesFile ls name ⊎ LineNames l.line name
names_push [] l name (inl h) = inr h
names_push [] l name (inr h) = absurd h
names_push (k ∷ ls) l name (inl h) = inl (inl h)
names_push (k ∷ ls) l name (inr h) = elim (names_push ls l name h) [
  | inl there ↦ inl (inr there)
  | inr here ↦ inr here
]

still_kept : (old new : Contents) → StayKept old new → (name : List ℕ) → IsKept old name → IsKept new name
still_kept old new still name k =
    let s = still name k.file k.there in
    record { file = record { content = k.file.content; last = s.last }; there = s.there; short = k.short }

each_low : (name : List ℕ) (number last : ℕ) (ls : List Numbered) → number ≡ last → Each (λ b. b.number < number) ls → Each (λ l. LineNames l.line name → l.number ≤ last) ls
each_low name number last [] e h = tt
each_low name number last (l ∷ ls) e h = (λ named. let low = h.0 in omega (arith, low, e), each_low name number last ls e h.1)

-- before the first line
pub loaded_first : (told : List ℕ → Option (List ℕ)) (lost : List ℕ → Bool) (first : Contents) → AreTold told first → AreThere lost first → AreLoaded told lost first [] first
loaded_first told lost first h p = record {
  held = h;
  present = p;
  there = λ name named. absurd named;
  still = λ name file g. record { last = file.last; there = g };
  lasts = λ name file g. tt;
}

-- a line that names no file
pub no_file : (line : Line) → ((tenant file : List ℕ) (time : ℕ) → line ≡ Ingest tenant file time → ⊥) → (name : List ℕ) → LineNames (line_of line) name → ⊥
no_file (Ingest tenant file time) h name named = h tenant file time refl
no_file (Delete tenant from to selector) h name named = named
no_file (Ask id tenant start end step query) h name named = named
no_file (Instant id tenant time query) h name named = named
no_file (Cancel id asked tenant) h name named = named
no_file (Answer id asked) h name named = named
no_file (Plan id asked) h name named = named
no_file (Keep id asked) h name named = named
no_file (Take worker) h name named = named
no_file (Done worker) h name named = named

pub loaded_none : (told : List ℕ → Option (List ℕ)) (lost : List ℕ → Bool) (old : Contents) (line : Line) (number : ℕ) → AreTold told old → AreThere lost old
    → ((name : List ℕ) → LineNames (line_of line) name → ⊥) → IsLoaded told lost old (LineNames (line_of line)) number old
loaded_none told lost old line number h p none = record {
  held = h;
  present = p;
  there = λ name named. absurd (none name named);
  still = λ name file g. record { last = file.last; there = g };
  lasts = λ name file g. inr (none name, g);
}

-- the file of a further line
pub loaded_more : (told again : List ℕ → Option (List ℕ)) (lost relost : List ℕ → Bool) (ls : List NumberedLine) (i : ℕ) (l : NumberedLine) (first old new : Contents)
    → i < length ls → l ≡ get_or ls i l → AllFollow [] (map numbered_of ls)
    → ((name : List ℕ) → again name ≡ told name) → ((name : List ℕ) → relost name ≡ lost name)
    → AreLoaded told lost first (map numbered_of (take i ls)) old → IsLoaded again relost old (LineNames (numbered_of l).line) l.number new
    → AreLoaded told lost first (map numbered_of (take (i + 1) ls)) new
loaded_more told again lost relost ls i l first old new p is following same same_lost h n =
    let more : map numbered_of (take (i + 1) ls) ≡ map numbered_of (take i ls) ++ numbered_of l ∷ [] =
    ap (map numbered_of) (take_more ls i l p) ∙ map_push numbered_of (take i ls) (get_or ls i l)
    ∙ ap (λ (x : NumberedLine). map numbered_of (take i ls) ++ numbered_of x ∷ []) (sym is) in
    record {
      held = λ name file g. subst (λ (t : Option (List ℕ)). TellsContent t file.content) (same name) (n.held name file g);
      present = λ name file g. sym (same_lost name) ∙ n.present name file g;
      there = λ name named. elim (names_push (map numbered_of (take i ls)) (numbered_of l) name (subst (λ (xs : List Numbered). NamesFile xs name) more named)) [
        | inl before ↦ still_kept old new n.still name (h.there name before)
        | inr here ↦ n.there name here
      ];
      still = λ name file g. let s = h.still name file g in n.still name (record { content = file.content; last = s.last }) s.there;
      lasts = λ name file g. subst (Each (λ b. LineNames b.line name → b.number ≤ file.last)) (sym more) (elim (n.lasts name file g) [
        | inl last ↦ each_push (λ b. LineNames b.line name → b.number ≤ file.last) (map numbered_of (take i ls)) (numbered_of l)
            (each_low name l.number file.last (map numbered_of (take i ls)) (sym last)
            (rising_at ls i l p is following))
            (λ named. omega (arith, last))
        | inr before ↦ each_push (λ b. LineNames b.line name → b.number ≤ file.last) (map numbered_of (take i ls)) (numbered_of l)
            (h.lasts name file before.1) (λ named. absurd (before.0 named))
      ]);
    }

-- a file that was read is not lost
pub read_there : (told : List ℕ → Option (List ℕ)) (lost : List ℕ → Bool) (first kept : Contents) (lines : List Numbered) → AreLoaded told lost first lines kept
    → (name : List ℕ) → NamesFile lines name → lost name ≡ false
read_there told lost first kept lines l name named = let k = l.there name named in l.present name k.file k.there

each_with : (P : List ℕ → Type 0) (file : Option (List ℕ)) (names : List (List ℕ)) → ((name : List ℕ) → IsFile file name → P name) → Each P names → Each P (with_file file names)
each_with P None names h e = e
each_with P (Some file) names h e = (h file refl, e)

-- what holds of each file that lines name
pub each_file : (P : List ℕ → Type 0) (lines : List Numbered) → ((name : List ℕ) → NamesFile lines name → P name) → Each P (files_of lines)
each_file P [] h = tt
each_file P (l ∷ ls) h = each_with P (file_of l.line) (files_of ls) (λ name n. h name (inl n)) (each_file P ls (λ name n. h name (inr n)))

reach_here : (lost : List ℕ → Bool) (file : Option (List ℕ)) (names : List (List ℕ)) (name : List ℕ) → IsFile file name → Reaches lost (with_file file names) name
reach_here lost None names name h = absurd h
reach_here lost (Some file) names name h = inl h

reach_past : (lost : List ℕ → Bool) (file : Option (List ℕ)) (names : List (List ℕ)) (name : List ℕ) → ((n : List ℕ) → IsFile file n → lost n ≡ false)
    → Reaches lost names name → Reaches lost (with_file file names) name
reach_past lost None names name h r = r
reach_past lost (Some file) names name h r = inr (h file refl, r)

-- where no file of the lines before is lost, a line's file is come to
pub reaches_at : (lost : List ℕ → Bool) (ls : List NumberedLine) (i : ℕ) (l : NumberedLine) (name : List ℕ) → i < length ls → l ≡ get_or ls i l
    → ((n : List ℕ) → NamesFile (map numbered_of (take i ls)) n → lost n ≡ false) → LineNames (numbered_of l).line name
    → Reaches lost (files_of (map numbered_of ls)) name
reaches_at lost [] i l name p is h here = absurd (omega (arith, p))
reaches_at lost (k ∷ ks) zero l name p is h here =
    reach_here lost (file_of (numbered_of k).line) (files_of (map numbered_of ks)) name (subst (λ (x : NumberedLine). LineNames (numbered_of x).line name) is here)
reaches_at lost (k ∷ ks) (suc i) l name p is h here =
    reach_past lost (file_of (numbered_of k).line) (files_of (map numbered_of ks)) name (λ n named. h n (inl named))
    (reaches_at lost ks i l name (omega (arith, p)) is (λ n named. h n (inr named)) here)

unsure_before : (a b : Bool) → (a ≡ true → b ≡ true) → b ≡ false → a ≡ false
unsure_before true b h e = absurd (true≢false (sym (h refl) ∙ e))
unsure_before false b h e = refl

-- a read that failed later failed since an earlier time
pub failed_since : (sure again : List ℕ → Bool) (before middle after : ℕ) (failed : Bool) (name : List ℕ) → StayKnown sure again → before ≤ middle
    → HasFailed again middle after failed name → HasFailed sure before after failed name
failed_since sure again before middle after failed name s p h =
    record { unsure = unsure_before (sure name) (again name) (s name) h.unsure; rose = rise h.rose; last = h.last } where
      rise : Rose middle after → Rose before after
      rise (inl r) = inl (omega (arith, p, r))
      rise (inr r) = inr r

pub unread_by : (IsNeeded wider : List ℕ → Type 0) (sure again : List ℕ → Bool) (before middle after : ℕ) (failed : Bool) (e : LoadError)
    → ((name : List ℕ) → IsNeeded name → wider name) → StayKnown sure again → before ≤ middle
    → IsUnread IsNeeded again middle after failed e → IsUnread wider sure before after failed e
unread_by IsNeeded wider sure again before middle after failed (Unread name) w s p h =
    (w name h.0, failed_since sure again before middle after failed name s p h.1)
unread_by IsNeeded wider sure again before middle after failed OutOfMemory w s p h = tt

-- a name of which a read did not fail is not lost, and one of which a read failed is not sure
pub not_lost : (lost : Bool) (r : Result (Unit {0}) ReadError) → (lost ≡ true → r ≡ Err Failed) → (r ≡ Err Failed → ⊥) → lost ≡ false
not_lost true r h d = absurd (d (h refl))
not_lost false r h d = refl

not_sure : (sure : Bool) (r : Result (Unit {0}) ReadError) → (sure ≡ true → r ≡ Err Failed → ⊥) → r ≡ Err Failed → sure ≡ false
not_sure true r h e = absurd (h refl e)
not_sure false r h e = refl

pub has_failed : (sure : List ℕ → Bool) (name : List ℕ) (before after : ℕ) (failed : Bool) (r : Result (Unit {0}) ReadError)
    → (sure name ≡ true → r ≡ Err Failed → ⊥) → r ≡ Err Failed → Rose before after → failed ≡ true → HasFailed sure before after failed name
has_failed sure name before after failed r h e rose last = record { unsure = not_sure (sure name) r h e; rose = rose; last = last }
