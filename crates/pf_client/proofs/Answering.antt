-- Lines that answer, and the bodies of answers.
use Rattle.std.proofs.Common.{◌≡◌, ℕ, inl, inr, Bool, true, false, cond, nat_eq, filter, Option, Some, None, List, [], ◌∷◌, ◌++◌, sum, refl, sym, ap, ◌∙◌, subst, codes, decimal, arith}
use Rattle.std.proofs.lemmas.Bool.Decides.{nat_tests}
use Rattle.std.specs.BTreeMap.{get}
use Rattle.std.specs.Ordering.{nat_cmp}
use Rattle.pf_base.specs.declared.plain.By.{By}
use Rattle.pf_base.specs.declared.plain.Limits.{Limits}
use Rattle.pf_core.specs.Cores.{CoreData, Enters, IsSameHistory, Stands, machine_of}
use Rattle.pf_front.specs.Answers as answers
use Rattle.pf_front.specs.Answers.{IsInHands, IsOutcomeOf, IsReplied}
use Rattle.pf_front.specs.declared.answering.Reply.{Reply}
use Rattle.pf_front.specs.declared.outcome.Outcome.{Outcome}
use Rattle.pf_front.specs.declared.outcome.Outcome.TheVariants as outcome
use Rattle.pf_journal.specs.Asking.{Asked}
use Rattle.pf_journal.specs.Bodies.{body_text, full_body, memory_body, refused_body, tenants_body}
use Rattle.pf_journal.specs.Entered.{IsOfAsk, what_of}
use Rattle.pf_journal.specs.Legal.{Legal, Moment, machine_after}
use Rattle.pf_journal.specs.Machine.{Entry, IsCode, Machine, Open, What, append, delete, ask, full, no_tenant, cancel, answer, code_of, open_at, started}
use Rattle.pf_journal.specs.Machine as machine
use Rattle.pf_journal.specs.Replies.{answered, asking_refusal, body_of, refusal_of, refused_reply, reply_line, unanswered}
use Rattle.pf_journal.specs.Rest.{Known, Told, no_memory, nothing, waiting}
use Rattle.pf_journal.specs.Scripts as script
use Rattle.pf_journal.specs.Scripts.{Line, Numbered}
use Rattle.pf_journal.specs.Turns.{Hand, Ran, answer_of, cancel_of, hands_on, moment_of, place_of, ran_at}
use Rattle.pf_journal.specs.Unentered.{HasNoQuery, HasQuery, hands_of}
use Rattle.pf_journal.specs.Weave.{ToldOfCode, failed_in, stops_at}
use Rattle.pf_model.specs.Direct.{Answer, MatrixRow, gathered, failed}
use Rattle.pf_model.specs.ErrorTexts.{grid_text}
use Rattle.pf_model.specs.Lists.{Each}
use Rattle.pf_model.specs.declared.expr.Kind.{Kind}
use Rattle.pf_model.specs.declared.expr.Kind.TheVariants.{Scalar, Instant, Range, Text}
use Rattle.pf_query.specs.Tables.{hands_with}
use Rattle.pf_report.specs.Bodies.{code_in, result_body, text_of_body}
use Rattle.pf_report.specs.declared.bodies.Body.{Body}
use Rattle.pf_report.specs.declared.bodies.Body.TheVariants as body
use Rattle.pf_client.proofs.Asking.{code_400, code_429, code_503, code_507}
use Rattle.pf_client.proofs.Cancelling.{room_before}
use Rattle.pf_client.proofs.DirectAnswers.{result_codes, result_texts}
use Rattle.pf_client.proofs.HandLines.{closes_it, counted_in_hand, keeps_hands, keeps_same, tries_on}
use Rattle.pf_client.proofs.Onward.{machine-snoc}
use Rattle.pf_client.proofs.SlotLaws.{IsOpenIn, open_in}
use Rattle.pf_client.proofs.Steps.{grows_entered, grows_on, grows_works, step_entered, step_stayed, step_to, step_worked}
use Rattle.pf_client.proofs.Works.{closed_idle, closed_jobs, open_under}
use Rattle.pf_client.specs.Asks.{IsAnswerStep, IsAskAt, IsBody, IsFullWhat, IsNoTenantWhat, IsQueryAnswer, IsRefusedBody, IsUnanswered, SlotRight, Slots, answers as closes_query, is_query, outcome_body, told_with, wanted_by}
use Rattle.pf_client.specs.Clients.{Grows, IsKnown, IsStep, Naming, naming}
use Rattle.pf_client.specs.Going.{own_of}
use Rattle.pf_client.specs.Hands.{HaveHands, IsLive, KeepsHands, is_job_of, jobs_in_hand}
use Rattle.pf_client.specs.declared.client.Client.{Client}
use Rattle.pf_client.specs.declared.client.LineRun.TheVariants as run
use Rattle.pf_client.specs.declared.slots.Slot.{Slot}
use Rattle.pf_client.specs.declared.slots.Slot.TheVariants as slot
use Rattle.pf_types.specs.Errors.{words_of_error}

-- ---- bodies

-- the body of an evaluation
evaluated_body : (l : Limits) (o : Open) (b : Body) (a : Answer) → a ≡ machine.answer_of l o → o.cancelled ≡ None
    → text_of_body b ≡ body_text o.asked a → code_in b ≡ code_of a → told_with b ≡ nothing → IsBody l o b
evaluated_body l o b (gathered rows) is un text code told = record {
  coded = subst (λ (c : Option ℕ). IsCode l o c (code_in b)) (sym un) (inl (code ∙ ap code_of is));
  text = rw code (sym (text ∙ ap (body_text o.asked) is));
  told = rw code told;
}
evaluated_body l o b (failed step kind) is un text code told = record {
  coded = subst (λ (c : Option ℕ). IsCode l o c (code_in b)) (sym un) (inl (code ∙ ap code_of is));
  text = rw code (sym (text ∙ ap (body_text o.asked) is));
  told = rw code told;
}

told_result : (instant : Bool) (kind : Kind) (rows : List MatrixRow) → told_with (result_body instant kind rows) ≡ nothing
told_result false kind rows = refl
told_result true Scalar rows = refl
told_result true Instant rows = refl
told_result true Range rows = refl
told_result true Text rows = refl

-- what comes out of a query is its answer
pub outcome_is : (l : Limits) (o : Open) (x : Outcome) → IsOutcomeOf l o x → IsBody l o (outcome_body o.asked.instant o.asked.kind x)
outcome_is l o (outcome.Matrix rows) h =
    evaluated_body l o (result_body o.asked.instant o.asked.kind rows) (gathered rows) (sym h.1) h.0 (result_texts o.asked.instant o.asked.kind rows)
    (result_codes o.asked.instant o.asked.kind rows) (told_result o.asked.instant o.asked.kind rows)
outcome_is l o (outcome.Failed step kind) h = evaluated_body l o (body.Failed step kind) (failed step kind) (sym h.1) h.0 refl refl refl
outcome_is l o outcome.Cancelled h = record {
  coded = subst (λ (c : Option ℕ). IsCode l o c 503) (sym h.1) refl;
  text = refl;
  told = refl;
}
outcome_is l o (outcome.Exhausted job) h = record {
  coded = subst (λ (c : Option ℕ). IsCode l o c 500) (sym h) (inr (inl refl));
  text = refl;
  told = tt;
}
outcome_is l o outcome.Starved h = record {
  coded = subst (λ (c : Option ℕ). IsCode l o c 507) (sym h) (inr (inr refl));
  text = refl;
  told = refl;
}

pub outcome_code : (instant : Bool) (kind : Kind) (x : Outcome) → code_in (outcome_body instant kind x) ≡ answers.code_in x
outcome_code instant kind (outcome.Matrix rows) = result_codes instant kind rows
outcome_code instant kind (outcome.Failed step error) = refl
outcome_code instant kind outcome.Cancelled = refl
outcome_code instant kind (outcome.Exhausted job) = refl
outcome_code instant kind outcome.Starved = refl

-- ---- answers

is_asking_refusal : (known : Known) (line : Line) → asking_refusal known line ≡ refusal_of (wanted_by known line)
is_asking_refusal known (script.ask id tenant start end step query) = refl
is_asking_refusal known (script.instant id tenant time query) = refl
is_asking_refusal known (script.ingest tenant file time) = refl
is_asking_refusal known (script.delete tenant from to selector) = refl
is_asking_refusal known (script.cancel id k tenant) = refl
is_asking_refusal known (script.answer id k) = refl
is_asking_refusal known (script.plan id k) = refl
is_asking_refusal known (script.keep id k) = refl
is_asking_refusal known (script.take w) = refl
is_asking_refusal known (script.done w) = refl

pub no_query_full : (w : Option What) → IsFullWhat w → HasNoQuery w
no_query_full (Some (full u k)) h = tt
no_query_full (Some (append u b vs e)) h = absurd h
no_query_full (Some (delete u ms from to g e)) h = absurd h
no_query_full (Some (ask u a pin generation floor)) h = absurd h
no_query_full (Some (no_tenant name)) h = absurd h
no_query_full (Some (cancel k)) h = absurd h
no_query_full (Some (answer k code c e)) h = absurd h
no_query_full None h = absurd h

pub no_query_stranger : (w : Option What) → IsNoTenantWhat w → HasNoQuery w
no_query_stranger (Some (no_tenant name)) h = tt
no_query_stranger (Some (append u b vs e)) h = absurd h
no_query_stranger (Some (delete u ms from to g e)) h = absurd h
no_query_stranger (Some (ask u a pin generation floor)) h = absurd h
no_query_stranger (Some (full u k)) h = absurd h
no_query_stranger (Some (cancel k)) h = absurd h
no_query_stranger (Some (answer k code c e)) h = absurd h
no_query_stranger None h = absurd h

reply_full : (known : Known) (n : ℕ) (id : List ℕ) (asking : Option Ran) (w : Option What) → IsFullWhat w → refused_reply known n id asking w ≡ unanswered n id (codes "429") full_body
reply_full known n id asking (Some (full u k)) h = refl
reply_full known n id asking (Some (append u b vs e)) h = absurd h
reply_full known n id asking (Some (delete u ms from to g e)) h = absurd h
reply_full known n id asking (Some (ask u a pin generation floor)) h = absurd h
reply_full known n id asking (Some (no_tenant name)) h = absurd h
reply_full known n id asking (Some (cancel k)) h = absurd h
reply_full known n id asking (Some (answer k code c e)) h = absurd h
reply_full known n id asking None h = absurd h

reply_stranger : (known : Known) (n : ℕ) (id : List ℕ) (asking : Option Ran) (w : Option What) → IsNoTenantWhat w → refused_reply known n id asking w ≡ unanswered n id (codes "503") tenants_body
reply_stranger known n id asking (Some (no_tenant name)) h = refl
reply_stranger known n id asking (Some (append u b vs e)) h = absurd h
reply_stranger known n id asking (Some (delete u ms from to g e)) h = absurd h
reply_stranger known n id asking (Some (ask u a pin generation floor)) h = absurd h
reply_stranger known n id asking (Some (full u k)) h = absurd h
reply_stranger known n id asking (Some (cancel k)) h = absurd h
reply_stranger known n id asking (Some (answer k code c e)) h = absurd h
reply_stranger known n id asking None h = absurd h

-- the answer of an ask whose grid or query was refused
reply_unasked : (known : Known) (n : ℕ) (id : List ℕ) (asking : Option Ran) (r : Ran) (says : List ℕ) → asking ≡ Some r → r.told ≡ nothing
    → refusal_of (wanted_by known r.line.line) ≡ says → refused_reply known n id asking None ≡ unanswered n id (codes "400") (refused_body says)
reply_unasked known n id asking r says there told text =
    rw there (rw told (ap (λ (t : List ℕ). unanswered n id (codes "400") (refused_body t)) (is_asking_refusal known r.line.line ∙ text)))

-- the query of an ask is one
pub asked_query : (known : Known) (above : List Ran) (own : List Moment) (k q : ℕ) → IsAskAt known above own k q → HasQuery (what_of (moment_of k own))
asked_query known above own k q h =
    subst (λ (m : Option Moment). HasQuery (what_of m)) (sym h.there) (subst (λ (w : What). HasQuery (Some w)) (sym h.is) tt)

-- an open query that is not cancelled has no cancel
pub uncancelled_by : (client : ℕ) (known : Known) (above : List Ran) (c : CoreData) (k q : ℕ) → Legal c.limits c.names c.journal → Each (λ (e : Entry). e.client ≡ client) c.journal → (h : IsAskAt known above (own_of client c) k q)
    → (o : Open) → open_at q (machine_of c).queries ≡ Some o → o.cancelled ≡ None → cancel_of (Some h.asked) (own_of client c) ≡ None
uncancelled_by client known above c k q legal alone h o there un = by (cancel_of (Some h.asked) (own_of client c)) refl where
  law : IsOpenIn c (own_of client c) h.asked h.tenant q
  law = open_in client known above c k q c.limits c.names legal alone h

  by : (m : Option Moment) → cancel_of (Some h.asked) (own_of client c) ≡ m → cancel_of (Some h.asked) (own_of client c) ≡ None
  by None e = e
  by (Some y) e =
      let found = law.is_open in
      let one : law.open_query ≡ o = cc in
      let at_y = law.cancelled y e in
      let bad : None ≡ Some (place_of y) = sym un ∙ sym (ap (λ (x : Open). x.cancelled) one) ∙ at_y in
      cc

entered_after : (old mid new : CoreData) (by : By) (what : What) → IsSameHistory old mid → Enters mid by what new → Enters old by what new
entered_after old mid new by what h e = record {
  journal = e.journal ∙ ap (λ (es : List Entry). es ++ record { client = by.client; line = by.line; what = what } ∷ []) h.journal;
  limits = e.limits ∙ h.limits;
  more = e.more;
  grown = e.grown ∙ ap (λ (ns : List (List ℕ)). ns ++ e.more) h.names;
}

-- the answer of an ask for which there was no memory
reply_starved : (known : Known) (n : ℕ) (id : List ℕ) (asking : Option Ran) (r : Ran) → asking ≡ Some r → r.told ≡ no_memory
    → refused_reply known n id asking None ≡ unanswered n id (codes "507") memory_body
reply_starved known n id asking r there told = rw there (rw told refl)

said_as : (number : ℕ) (id : List ℕ) (c : Body) (code : ℕ) (word text : List ℕ) → code_in c ≡ code → decimal code ≡ word → text_of_body c ≡ text
    → unanswered number id (decimal (code_in c)) (text_of_body c) ≡ unanswered number id word text
said_as number id c code word text e f g =
    ap (λ (x : ℕ). unanswered number id (decimal x) (text_of_body c)) e ∙ ap (λ (x : List ℕ). unanswered number id x (text_of_body c)) f ∙ ap (λ (x : List ℕ). unanswered number id word x) g

module _ (known : Known) (above : List Ran) (hands : List Hand) (old new : Client) (held : new.hands ≡ old.hands) (number : ℕ) (id : List ℕ) (k : ℕ) where
  -- an open query is answered
  pub step_answered : (by : By) (q : ℕ) (reply : Reply) (o : Open) (a : Asked) (b : Body) → IsKnown known new.core → (h : IsAskAt known above (own_of old.client old.core) k q)
      → {before after : ℕ} → IsReplied before after old.core by q reply new.core → Stands new.core → by.client ≡ old.client → by.line ≡ number
      → open_at q (machine_of old.core).queries ≡ Some o → o.asked ≡ a → b ≡ outcome_body a.instant a.kind reply.outcome
      → new.out.items ≡ old.out.items ++ answered number id (decimal reply.code) reply.cached reply.evaluated (text_of_body b)
      → IsQueryAnswer known (naming (own_of old.client old.core) above hands (script.answer id k)) old (record { number = number; line = script.answer id k }) q true new
  step_answered by q reply o a b kn h r stands client line there asked made said =
      let found = r.is_open in
      let one : r.opened ≡ o = cc in
      let asked_is : r.opened.asked ≡ a = ap (λ (x : Open). x.asked) one ∙ asked in
      let b_is : outcome_body r.opened.asked.instant r.opened.asked.kind reply.outcome ≡ b = ap (λ (x : Asked). outcome_body x.instant x.kind reply.outcome) asked_is ∙ sym made in
      let is : IsBody old.core.limits r.opened b = subst (IsBody old.core.limits r.opened) b_is (outcome_is old.core.limits r.opened reply.outcome r.is.outcome_of) in
      let code : code_in b ≡ reply.code = ap code_in (sym b_is) ∙ outcome_code r.opened.asked.instant r.opened.asked.kind reply.outcome ∙ sym r.is.coded in
      let what : What = answer q reply.code reply.cached reply.evaluated in
      let entered : Enters old.core by what new.core = entered_after old.core r.middle new.core by what r.works.history r.entered in
      let of_ask : IsOfAsk (moment_of k (own_of old.client old.core)) q = subst (λ (m : Option Moment). IsOfAsk m q) (sym h.there) (sym h.place) in
      let limits : known.limits ≡ old.core.limits = kn.limits ∙ entered.limits in
      let text : body_of known.limits (told_with b) reply.code (open_at q (machine_of old.core).queries) ≡ text_of_body b =
      rw found (rw limits (rw (sym code) is.text)) in
      let beside : ToldOfCode (nat_eq reply.code 500) (told_with b) = subst (λ (c : ℕ). ToldOfCode (nat_eq c 500) (told_with b)) code is.told in
      let queries : open_at q (machine_of r.middle).queries ≡ Some r.opened =
      subst (λ (es : List Entry). open_at q (machine_after started es).queries ≡ Some r.opened) (sym r.works.history.journal) found in
      let more = r.works.failed in
      let closed_failed = ap (λ (fs : List ℕ). sum fs) r.closed.failed in
      record {
        step =
            step_entered known (naming (own_of old.client old.core) above hands (script.answer id k)) old new by (record { number = number; line = script.answer id k })
            (told_with b) what kn entered client line of_ask beside
            (room_before old.core new.core by what entered stands) (goes_with b)
            (tries_on old.core new.core (told_with b) (omega (arith, more, closed_failed)) (untried b))
            (record {
              held = ap (λ v. v.items) held;
              jobs = λ u x live.
                  closed_jobs r.middle new.core q r.opened queries r.closed u x (apart u x live entered)
                  ∙ ap (filter (is_job_of x)) (r.works.hands u);
            })
            (said ∙ ap (λ (t : List ℕ). old.out.items ++ answered number id (decimal reply.code) reply.cached reply.evaluated t) (sym text));
        closes = λ x. refl;
      } where
        goes_with : (c : Body) → stops_at (script.answer id k) (told_with c) ≡ None
        goes_with (body.Matrix rows) = refl
        goes_with (body.Vector rows) = refl
        goes_with (body.Scalar rows) = refl
        goes_with (body.Failed step kind) = refl
        goes_with (body.Refused message) = refl
        goes_with body.Full = refl
        goes_with (body.JobFailed job) = refl
        goes_with body.Cancelled = refl
        goes_with body.TooManyTenants = refl
        goes_with body.JournalFull = refl
        goes_with body.OutOfMemory = refl

        untried : (c : Body) → failed_in (told_with c) ≡ 0
        untried (body.Matrix rows) = refl
        untried (body.Vector rows) = refl
        untried (body.Scalar rows) = refl
        untried (body.Failed step kind) = refl
        untried (body.Refused message) = refl
        untried body.Full = refl
        untried (body.JobFailed job) = refl
        untried body.Cancelled = refl
        untried body.TooManyTenants = refl
        untried body.JournalFull = refl
        untried body.OutOfMemory = refl

        apart : (u x : ℕ) → IsLive new.core u x → Enters old.core by (answer q reply.code reply.cached reply.evaluated) new.core → nat_eq q x ≡ false
        apart u x (inl live) e =
            closes_it (machine_of old.core) q reply.code reply.cached reply.evaluated x live.0
            (subst (λ (m : Machine). open_at x m.queries ≡ Some live.0) (machine-snoc started old.core.journal _)
            (subst (λ (es : List Entry). open_at x (machine_after started es).queries ≡ Some live.0) e.journal live.1.0))
        apart u x (inr late) e =
            let low = open_under old.core q o there in
            let up = ap (λ (es : List Entry). (machine_after started es).count) e.journal in
            let one_up = ap (λ (m : Machine). m.count) (machine-snoc started old.core.journal (record { client = by.client; line = by.line; what = answer q reply.code reply.cached reply.evaluated })) in
            grind (arith, nat_tests, late, low, up, one_up)

  -- an open query waits for jobs in workers' hands
  pub step_waiting : (q jobs : ℕ) → Each (λ (e : Entry). e.client ≡ old.client) old.core.journal → Stands new.core → HaveHands old hands → (h : IsAskAt known above (own_of old.client old.core) k q)
      → {before after : ℕ} → IsInHands before after old.core q jobs new.core
      → new.out.items ≡ old.out.items ++ reply_line number (codes "answer") id (codes "waiting" ∷ decimal jobs ∷ [])
      → IsQueryAnswer known (naming (own_of old.client old.core) above hands (script.answer id k)) old (record { number = number; line = script.answer id k }) q false new
  step_waiting q jobs alone stands have h w said =
      let there : open_at q (machine_of old.core).queries ≡ Some w.whole.opened =
      subst (λ (es : List Entry). open_at q (machine_after started es).queries ≡ Some w.whole.opened) w.works.history.journal w.whole.is_open in
      let stood : Legal old.core.limits old.core.names old.core.journal =
      subst (λ (l : Limits). Legal l old.core.names old.core.journal) w.works.history.limits
      (subst (λ (ns : List (List ℕ)). Legal new.core.limits ns old.core.journal) w.works.history.names
      (subst (λ (es : List Entry). Legal new.core.limits new.core.names es) w.works.history.journal stands.legal)) in
      let uncancelled = uncancelled_by old.client known above old.core k q stood alone h w.whole.opened there w.whole.cancelled_at in
      let counted : jobs ≡ hands_on (place_of h.asked) hands =
      w.jobs_are ∙ ap (hands_with q) (w.works.hands w.whole.opened.tenant)
      ∙ sym (counted_in_hand old hands w.whole.opened.tenant q have (inl (w.whole.opened, (there, refl)))) ∙ ap (λ (i : ℕ). hands_on i hands) (sym h.place) in
      record {
        step =
            step_worked known (naming (own_of old.client old.core) above hands (script.answer id k)) old new (record { number = number; line = script.answer id k }) (waiting jobs)
            w.works.history refl
            (record {
              opened = record {
                query = asked_query known above (own_of old.client old.core) k q h;
                unanswered = ap (λ (m : Option Moment). answer_of m (own_of old.client old.core)) h.there ∙ h.unanswered;
                uncancelled = ap (λ (m : Option Moment). cancel_of m (own_of old.client old.core)) h.there ∙ uncancelled;
              };
              counted = counted ∙ sym (ap (λ (m : Option Moment). hands_of m hands) h.there);
              some = w.some;
            })
            (tries_on old.core new.core (waiting jobs) w.works.failed refl)
            (keeps_hands old new (ap (λ v. v.items) held) w.works.hands)
            said;
        closes = λ x. refl;
      }

  -- it opened no query
  no_query : (x : Slot) → SlotRight known above (own_of old.client old.core) k (Some x) → ((q : ℕ) → x ≡ slot.Asked q → ⊥) → HasNoQuery (what_of (moment_of k (own_of old.client old.core)))
  no_query (slot.Asked q) r n = absurd (n q refl)
  no_query (slot.BadGrid e) r n = subst (λ (m : Option Moment). HasNoQuery (what_of m)) (sym r.none) tt
  no_query (slot.BadQuery e) r n = subst (λ (m : Option Moment). HasNoQuery (what_of m)) (sym r.none) tt
  no_query slot.Full r n = no_query_full (what_of (moment_of k (own_of old.client old.core))) r
  no_query slot.TooManyTenants r n = no_query_stranger (what_of (moment_of k (own_of old.client old.core))) r
  no_query slot.NoMemory r n = subst (λ (m : Option Moment). HasNoQuery (what_of m)) (sym r.none) tt

  -- the answer of an ask that was refused
  pub step_unanswered : (s : Slot) (b : Body) → new.core ≡ old.core → SlotRight known above (own_of old.client old.core) k (Some s)
      → ((q : ℕ) → s ≡ slot.Asked q → ⊥) → IsRefusedBody s b
      → new.out.items ≡ old.out.items ++ unanswered number id (decimal (code_in b)) (text_of_body b)
      → IsUnanswered known (naming (own_of old.client old.core) above hands (script.answer id k)) old (record { number = number; line = script.answer id k }) new
  step_unanswered s b same right shut is said = record {
    none = refl;
    step =
        step_stayed known (naming (own_of old.client old.core) above hands (script.answer id k)) old new (record { number = number; line = script.answer id k }) nothing same refl refl
        (no_query s right shut) (keeps_same old new (ap (λ v. v.items) held) same)
        (said ∙ ap (λ (bytes : List ℕ). old.out.items ++ bytes) (sym (reply_is s b right shut is)));
  } where
    reply_is : (x : Slot) (c : Body) → SlotRight known above (own_of old.client old.core) k (Some x) → ((q : ℕ) → x ≡ slot.Asked q → ⊥) → IsRefusedBody x c
        → refused_reply known number id (ran_at k above) (what_of (moment_of k (own_of old.client old.core))) ≡ unanswered number id (decimal (code_in c)) (text_of_body c)
    reply_is (slot.Asked q) c r n i = absurd (n q refl)
    reply_is (slot.BadGrid e) c r n i =
        ap (λ (m : Option Moment). refused_reply known number id (ran_at k above) (what_of m)) r.none
        ∙ reply_unasked known number id (ran_at k above) r.ran (grid_text e) r.there r.told r.text
        ∙ sym (said_as number id c 400 (codes "400") (refused_body (grid_text e)) i.0 code_400 i.1)
    reply_is (slot.BadQuery e) c r n i =
        ap (λ (m : Option Moment). refused_reply known number id (ran_at k above) (what_of m)) r.none
        ∙ reply_unasked known number id (ran_at k above) r.ran (words_of_error e) r.there r.told r.text
        ∙ sym (said_as number id c 400 (codes "400") (refused_body (words_of_error e)) i.0 code_400 i.1)
    reply_is slot.Full c r n i =
        reply_full known number id (ran_at k above) (what_of (moment_of k (own_of old.client old.core))) r ∙ sym (said_as number id c 429 (codes "429") full_body i.0 code_429 i.1)
    reply_is slot.TooManyTenants c r n i =
        reply_stranger known number id (ran_at k above) (what_of (moment_of k (own_of old.client old.core))) r ∙ sym (said_as number id c 503 (codes "503") tenants_body i.0 code_503 i.1)
    reply_is slot.NoMemory c r n i =
        ap (λ (m : Option Moment). refused_reply known number id (ran_at k above) (what_of m)) r.none
        ∙ reply_starved known number id (ran_at k above) r.ran r.there r.told
        ∙ sym (said_as number id c 507 (codes "507") memory_body i.0 code_507 i.1)

  -- and where there is no memory for it
  pub step_unanswered_starved : (s : Slot) → new.core ≡ old.core → SlotRight known above (own_of old.client old.core) k (Some s)
      → ((q : ℕ) → s ≡ slot.Asked q → ⊥)
      → new.out.items ≡ old.out.items ++ unanswered number id (decimal 507) memory_body
      → IsUnanswered known (naming (own_of old.client old.core) above hands (script.answer id k)) old (record { number = number; line = script.answer id k }) new
  step_unanswered_starved s same right shut said = record {
    none = refl;
    step =
        step_stayed known (naming (own_of old.client old.core) above hands (script.answer id k)) old new (record { number = number; line = script.answer id k }) no_memory same refl refl
        (inl (no_query s right shut)) (keeps_same old new (ap (λ v. v.items) held) same)
        (said ∙ ap (λ (x : List ℕ). old.out.items ++ unanswered number id x memory_body) code_507);
  }

-- ---- answers of clients that keep less of asks

pub keeps_to : (old a b : Client) → a.core ≡ b.core → a.hands ≡ b.hands → KeepsHands old a → KeepsHands old b
keeps_to old a b core hands k = record {
  held = sym (ap (λ v. v.items) hands) ∙ k.held;
  jobs = λ u q live.
      sym (ap (λ (c : CoreData). jobs_in_hand c u q) core) ∙ k.jobs u q (subst (λ (c : CoreData). IsLive c u q) (sym core) live);
}

abbrev pub to_answer : (known : Known) (n : Told → Naming) (old a b : Client) (number : ℕ) (id : List ℕ) (k : ℕ) → a.core ≡ b.core → a.out.items ≡ b.out.items → a.hands ≡ b.hands
    → IsStep known n old (record { number = number; line = script.answer id k }) run.On a → IsStep known n old (record { number = number; line = script.answer id k }) run.On b
to_answer known n old a b number id k core out hands s =
    step_to known n old a b (record { number = number; line = script.answer id k }) run.On core out s (keeps_to old a b core hands s.hands)

-- a query was answered, and is kept no more
pub answer_closed : (known : Known) (n : Told → Naming) (old a b : Client) (number : ℕ) (id : List ℕ) (k q : ℕ) → a.core ≡ b.core → a.out.items ≡ b.out.items → a.hands ≡ b.hands
    → get nat_cmp old.slots k ≡ Some (slot.Asked q) → ((j : ℕ) → get nat_cmp b.slots j ≡ cond (nat_eq k j) None (get nat_cmp old.slots j))
    → IsQueryAnswer known n old (record { number = number; line = script.answer id k }) q true a
    → IsAnswerStep known n old (record { number = number; line = script.answer id k }) k b
answer_closed known n old a b number id k q core out hands there left x = record {
  answered = true;
  step = to_answer known n old a b number id k core out hands x.step;
  closes = λ y. x.closes y ∙ sym (ap (is_query y) there);
  slots = left;
}

-- a query waits, and is kept
pub answer_waits : (known : Known) (n : Told → Naming) (old a : Client) (number : ℕ) (id : List ℕ) (k q : ℕ) → a.slots ≡ old.slots
    → IsQueryAnswer known n old (record { number = number; line = script.answer id k }) q false a
    → IsAnswerStep known n old (record { number = number; line = script.answer id k }) k a
answer_waits known n old a number id k q same x = record {
  answered = false;
  step = x.step;
  closes = x.closes;
  slots = λ j. ap (λ (s : Slots). get nat_cmp s j) same ∙ by j (nat_eq k j) refl;
} where
  by : (j : ℕ) (b : Bool) → nat_eq k j ≡ b → get nat_cmp old.slots j ≡ cond b (get nat_cmp old.slots k) (get nat_cmp old.slots j)
  by j true t = let e : k ≡ j = grind (arith, nat_tests, t) in ap (get nat_cmp old.slots) (sym e)
  by j false t = refl

-- a refused ask was answered, and is kept no more
pub answer_gone : (known : Known) (n : Told → Naming) (old a b : Client) (number : ℕ) (id : List ℕ) (k : ℕ) (s : Slot) → a.core ≡ b.core → a.out.items ≡ b.out.items → a.hands ≡ b.hands
    → get nat_cmp old.slots k ≡ Some s → ((q : ℕ) → s ≡ slot.Asked q → ⊥) → ((j : ℕ) → get nat_cmp b.slots j ≡ cond (nat_eq k j) None (get nat_cmp old.slots j))
    → IsUnanswered known n old (record { number = number; line = script.answer id k }) a
    → IsAnswerStep known n old (record { number = number; line = script.answer id k }) k b
answer_gone known n old a b number id k s core out hands there shut left x = record {
  answered = true;
  step = to_answer known n old a b number id k core out hands x.step;
  closes = λ y. ap (closes_query y) x.none ∙ sym (ap (is_query y) there ∙ by s shut y);
  slots = left;
} where
  by : (z : Slot) → ((q : ℕ) → z ≡ slot.Asked q → ⊥) → (y : ℕ) → is_query y (Some z) ≡ false
  by (slot.Asked q) n y = absurd (n q refl)
  by (slot.BadGrid e) n y = refl
  by (slot.BadQuery e) n y = refl
  by slot.Full n y = refl
  by slot.TooManyTenants n y = refl
  by slot.NoMemory n y = refl

-- ---- what answers add

pub grows_replied : {before after : ℕ} (old new : CoreData) (by : By) (q : ℕ) (reply : Reply) → IsReplied before after old by q reply new → Grows before after old new
grows_replied old new by q reply r =
    let what : What = answer q reply.code reply.cached reply.evaluated in
    let queries : open_at q (machine_of r.middle).queries ≡ Some r.opened =
    subst (λ (es : List Entry). open_at q (machine_after started es).queries ≡ Some r.opened) (sym r.works.history.journal) r.is_open in
    grows_on old r.middle new (grows_works old r.middle r.works) (grows_entered r.middle new by what r.entered (λ client below. closed_idle r.middle new q r.opened queries r.closed client) r.closed.failed)

pub grows_waits : {before after : ℕ} (old new : CoreData) (q jobs : ℕ) → IsInHands before after old q jobs new → Grows before after old new
grows_waits old new q jobs w = grows_works old new w.works
