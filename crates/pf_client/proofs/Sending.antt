-- A report that is written in pieces.
use Rattle.std.proofs.Common.{◌≡◌, ℕ, ◌≤◌, Option, List, [], ◌∷◌, ◌++◌, codes, decimal, length, map, refl, sym, ap, ◌∙◌, subst, append-nil, append_assoc}
use Rattle.std.specs.declared.alloc.Global.{Global}
use Rattle.std.specs.declared.vec.Vec.{Vec}
use Rattle.pf_base.specs.declared.plain.Limits.{Limits}
use Rattle.pf_core.specs.Cores.{CoreData, Stands}
use Rattle.pf_core.specs.Entries.{entry_of}
use Rattle.pf_core.specs.declared.entry.Entry as code
use Rattle.pf_io.proofs.Growing.{grows_more}
use Rattle.pf_io.specs.Outside.{Grows}
use Rattle.pf_journal.proofs.Ending.{begins_report}
use Rattle.pf_journal.specs.Replies.{line_text}
use Rattle.pf_journal.specs.Machine.{Entry}
use Rattle.pf_journal.specs.Report.{actors_from, client_text, entries_from, journal_text, report}
use Rattle.pf_journal.specs.Rest.{Known, Rest, Why, at_end}
use Rattle.pf_journal.specs.Scripts.{Numbered}
use Rattle.pf_journal.specs.Weave.{Woven}
use Rattle.pf_model.specs.Lists.{Each}
use Rattle.pf_script.specs.Lines.{AllFollow}
use Rattle.pf_client.proofs.Lines.{numbers_rise}
use Rattle.pf_client.proofs.Reports.{all_read, itself, journal_said, reported, stopped_as, tried_so_far}
use Rattle.pf_client.proofs.Writing.{all_written, grows_none, part_of, part_written, writes_beside, writes_none, writes_sent, writes_then}
use Rattle.pf_client.specs.Drives.{BreaksOff, IsAnyReport, IsReport, left_text, why_of}
use Rattle.pf_client.specs.Files.{AreHeld}
use Rattle.pf_client.specs.Going.{HasStopped, IsGoing, own_of}
use Rattle.pf_client.specs.Hands.{HoldsJobs}
use Rattle.pf_client.specs.Queries.{AreReadAs, readings_in}
use Rattle.pf_client.specs.Replays.{Held}
use Rattle.pf_client.specs.Sent.{WritesFront, WritesTo}
use Rattle.pf_client.specs.Written.{Writes, WritesPart}
use Rattle.pf_client.specs.declared.client.Client.{Client}
use Rattle.pf_client.specs.declared.client.LineRun.{LineRun}
use Rattle.pf_client.specs.declared.loaded.Loaded.{Loaded}

-- ---- what the client held is sent

abbrev pub holding : Client → Vec ℕ Global → Client
holding c out = record { alloc = c.alloc; client = c.client; core = c.core; stepped = c.stepped; slots = c.slots; hands = c.hands; out = out }

-- a client goes on with what was sent of what it held
pub going_sent : (loaded : Loaded) (limits : Limits) (lines : List Numbered) (n : ℕ) (sent more : List ℕ) (c : Client) (out : Vec ℕ Global)
    → c.out.items ≡ more ++ out.items → IsGoing loaded limits lines n sent c → IsGoing loaded limits lines n (sent ++ more) (holding c out)
going_sent loaded limits lines n sent more c out split going known told kn =
    let g = going known told kn in
    let h = g.has_told in
    record {
      limited = g.limited;
      told = g.told;
      many = g.many;
      has_told = record {
        woven = h.woven;
        said = append_assoc sent more out.items ∙ (ap (λ (bytes : List ℕ). sent ++ bytes) (sym split) ∙ h.said);
        alone = h.alone;
        tried = h.tried;
      };
      goes = g.goes;
      slots = g.slots;
      kept = g.kept;
      hands = record { order = g.hands.order; in_order = g.hands.in_order; told_is = g.hands.told_is; in_hand = g.hands.in_hand };
    }

pub all_sent : (held left : List ℕ) → left ≡ [] → held ≡ held ++ left
all_sent held left none = sym (ap (λ (bytes : List ℕ). held ++ bytes) none ∙ append-nil held)

pub holds_sent : (c : Client) (out : Vec ℕ Global) → HoldsJobs c → HoldsJobs (holding c out)
holds_sent c out h = record { many = h.many; stands = h.stands; below = h.below; idle = h.idle }

-- what was sent, as far as the client went on
abbrev pub Sends : (old new : Option (List ℕ)) → (loaded : Loaded) → List Numbered → (first : Client) → ℕ → Client → Type 0
Sends old new loaded lines first n c =
    (sent : List ℕ) × (Grows old new sent × ((limits : Limits) → IsGoing loaded limits lines 0 [] first → IsGoing loaded limits lines n sent c))

pub sends_on : (a b d : Option (List ℕ)) (loaded : Loaded) (lines : List Numbered) (first : Client) (n : ℕ) (c : Client) (out : Vec ℕ Global)
    → Sends a b loaded lines first n c → WritesTo b d c.out.items out.items → Sends a d loaded lines first n (holding c out)
sends_on a b d loaded lines first n c out s w = (
  s.0 ++ w.sent,
  (
    grows_more a b d s.0 w.sent s.1.0 w.grown,
    λ limits going. going_sent loaded limits lines n s.0 w.sent c out w.whole (s.1.1 limits going),
  ),
)

pub sends_first : (told : Option (List ℕ)) (loaded : Loaded) (lines : List Numbered) (c : Client) → Sends told told loaded lines c 0 c
sends_first told loaded lines c = ([], (grows_none told, λ limits going. going))

-- the output failed on the way
pub breaks_off : (a b d : Option (List ℕ)) (loaded : Loaded) (limits : Limits) (lines : List Numbered) (first : Client) (n : ℕ) (c : Client) → c.client ≡ first.client → Stands c.core
    → Sends a b loaded lines first n c → WritesFront b d c.out.items → (IsCore : CoreData → Type 0) → IsCore c.core → IsGoing loaded limits lines 0 [] first
    → BreaksOff first.client loaded limits lines IsCore a d
breaks_off a b d loaded limits lines first n c numbered stands s f IsCore core going = record {
  n = n;
  sent = s.0;
  client = c;
  numbered = numbered;
  going = s.1.1 limits going;
  stands = stands;
  core = core;
  front = (f.0, writes_then a b d (s.0 ++ c.out.items) c.out.items f.0 (writes_sent a b s.0 c.out.items s.1.0) f.1);
}

-- memory failed behind what was sent
pub broke_off : (a b : Option (List ℕ)) (loaded : Loaded) (limits : Limits) (lines : List Numbered) (first : Client) (n : ℕ) (c : Client) → c.client ≡ first.client → Stands c.core
    → Sends a b loaded lines first n c → (IsCore : CoreData → Type 0) → IsCore c.core → IsGoing loaded limits lines 0 [] first → BreaksOff first.client loaded limits lines IsCore a b
broke_off a b loaded limits lines first n c numbered stands s IsCore core going =
    breaks_off a b b loaded limits lines first n c numbered stands s (c.out.items, writes_none b c.out.items) IsCore core going

-- ---- the journal and the actors

-- the head of the journal was held, and its entries were written
pub journal_written : (a b : Option (List ℕ)) (names named : List (List ℕ)) (entries : List code.Entry) (journal : List Entry) (held mid left : List ℕ)
    → named ≡ names → mid ≡ held ++ line_text (codes "journal" ∷ decimal (length entries) ∷ []) → map entry_of entries ≡ journal
    → WritesTo a b (mid ++ entries_from named 0 (map entry_of entries)) left → WritesTo a b (held ++ journal_text names journal) left
journal_written a b names named entries journal held mid left same head is w =
    subst (λ (text : List ℕ). WritesTo a b text left)
    (journal_said named entries journal held mid _ head refl is ∙ ap (λ (ns : List (List ℕ)). held ++ journal_text ns journal) same) w

-- what is written up to the journal's end is a front of what is left to say
rest_of : (a b : Option (List ℕ)) (c : Client) (left : List ℕ) → WritesTo a b (c.out.items ++ journal_text c.core.names c.core.journal) left
    → WritesTo a b (left_text c) (left ++ actors_from 0 c.core.failed)
rest_of a b c left w =
    let actors = actors_from 0 c.core.failed in
    subst (λ (text : List ℕ). WritesTo a b text (left ++ actors)) (append_assoc c.out.items (journal_text c.core.names c.core.journal) actors)
    (writes_beside a b (c.out.items ++ journal_text c.core.names c.core.journal) left actors w)

pub rest_begun : (a b : Option (List ℕ)) (c : Client) → WritesFront a b (c.out.items ++ journal_text c.core.names c.core.journal) → WritesFront a b (left_text c)
rest_begun a b c f = (f.0 ++ actors_from 0 c.core.failed, rest_of a b c f.0 f.1)

pub rest_written : (a b d : Option (List ℕ)) (c : Client) (held more left failed : List ℕ) → WritesTo a b (c.out.items ++ journal_text c.core.names c.core.journal) held
    → failed ≡ c.core.failed → more ≡ held ++ actors_from 0 failed → WritesTo b d more left → WritesTo a d (left_text c) left
rest_written a b d c held more left failed w same is on =
    writes_then a b d (left_text c) (held ++ actors_from 0 c.core.failed) left (rest_of a b c held w)
    (subst (λ (text : List ℕ). WritesTo b d text left) (is ∙ ap (λ (fs : List ℕ). held ++ actors_from 0 fs) same) on)

-- ---- the report

module _ (limits : Limits) (loaded : Loaded) (lines : List Numbered) (held : Held) (are : AreHeld held loaded.files) (right : AreReadAs loaded.queries)
    (short : length lines ≤ 18446744073709551615) (AreTries : List ℕ → Type 0) where
  -- of a client that broke off: the lines left can be ended
  pub begun_short : AllFollow [] lines → (IsCore : CoreData → Type 0) → ((core : CoreData) → IsCore core → AreTries core.failed) → (number : ℕ) → number ≡ 0 → (old new : Option (List ℕ))
      → BreaksOff number loaded limits lines IsCore old new → WritesPart (IsAnyReport limits held lines AreTries) old new
  begun_short following IsCore tries number zeroth old new b =
      let c = b.client in
      let first : c.client ≡ 0 = b.numbered ∙ zeroth in
      let known : Known = record { limits = c.core.limits; names = c.core.names; files = held; refused = right.refs; readings = readings_in loaded.queries } in
      let g = b.going known (record { held = are; readings = refl; right = right.right }) (itself c.core held right.refs loaded) in
      let r = begins_report known c.core.journal lines g.told c.core.failed b.stands.legal b.stands.names (subst (λ (i : ℕ). Each (λ (e : Entry). e.client ≡ i) c.core.journal) first g.has_told.alone)
      (subst (λ (i : ℕ). Woven known (own_of i c.core) lines (record { told = g.told; why = at_end })) first g.has_told.woven) g.goes (numbers_rise lines following)
      right.too_big (λ text reading e. all_read right.refs loaded.queries right.right text reading e) (tried_so_far c lines g.told at_end b.stands g.has_told.tried g.has_told.woven.few short) in
      let rest : Rest = record { clients = r.client ∷ []; failed = c.core.failed } in
      let whole : (b.sent ++ c.out.items) ++ r.text ≡ report known r.whole (lines ∷ []) rest =
      ap (λ (bytes : List ℕ). bytes ++ r.text)
      (subst (λ (i : ℕ). b.sent ++ c.out.items ≡ client_text known (own_of i c.core) i lines (record { told = g.told; why = at_end })) first g.has_told.said)
      ∙ sym r.said in (
        (b.sent ++ c.out.items) ++ r.text,
        (
          (
            r.client.why,
            subst (λ (l : Limits). IsReport l held lines AreTries r.client.why ((b.sent ++ c.out.items) ++ r.text)) g.limited (record {
              journal = r.whole;
              names = c.core.names;
              refused = right.refs;
              readings = readings_in loaded.queries;
              rest = rest;
              legal = r.legal;
              named = r.named;
              woven = r.woven;
              stopped = stopped_as r.client;
              tries = tries c.core b.core;
              whole = whole;
            }),
          ),
          part_of old new (b.sent ++ c.out.items) r.text b.front.0 b.front.1,
        ),
      )

  -- of a client that stopped
  module _ (stopped : LineRun) (old mid new : Option (List ℕ)) (c : Client) (first : c.client ≡ 0) (stands : Stands c.core)
      (s : (sent : List ℕ) × (Grows old mid sent × HasStopped loaded limits lines (why_of stopped) sent c)) (tries : AreTries c.core.failed) where
    whole : IsReport limits held lines AreTries (why_of stopped) (s.0 ++ left_text c)
    whole = reported limits loaded lines stopped s.0 c held first are right short stands s.1.1 AreTries tries

    to_end : (left : List ℕ) → WritesTo mid new (left_text c) left → WritesTo old new (s.0 ++ left_text c) left
    to_end left w = writes_then old mid new (s.0 ++ left_text c) (left_text c) left (writes_sent old mid s.0 (left_text c) s.1.0) w

    pub report_written : (why : Why) → why ≡ why_of stopped → WritesTo mid new (left_text c) [] → Writes (IsReport limits held lines AreTries why) old new
    report_written why e w =
        (s.0 ++ left_text c, (subst (λ (y : Why). IsReport limits held lines AreTries y (s.0 ++ left_text c)) (sym e) whole, all_written old new (s.0 ++ left_text c) (to_end [] w)))

    pub report_begun : WritesFront mid new (left_text c) → WritesPart (IsAnyReport limits held lines AreTries) old new
    report_begun f = (s.0 ++ left_text c, ((why_of stopped, whole), part_written old new (s.0 ++ left_text c) f.0 (to_end f.0 f.1)))
