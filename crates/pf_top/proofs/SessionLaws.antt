-- What the session of a seed gives.
use Rattle.std.proofs.Common.{◌≡◌, ℕ, inl, inr, rules, Bool, true, false, cond, Option, Some, None, Result, Ok, Err, IfOk, List, sym, ap, ◌∙◌, subst}
use Rattle.std.specs.BTreeMap.{IsEmpty, get_by_text}
use Rattle.pf_base.specs.declared.plain.Limits.{Limits}
use Rattle.pf_gen.specs.Sessions.{Session, session}
use Rattle.pf_journal.specs.Scripts.{Numbered, script_of}
use Rattle.pf_journal.specs.Summaries.{Tally, asks, summary_text}
use Rattle.pf_client.specs.Files.{AreHeld, AreThere, AreTold, Contents, HoldsContent, TellsContent}
use Rattle.pf_client.specs.Replays.{Held}
use Rattle.pf_client.specs.Summaries.{IsSummary}
use Rattle.pf_client.specs.Tries.{AreSpared, HaveCause}
use Rattle.pf_client.specs.declared.loaded.Content.{Content}
use Rattle.pf_client.specs.declared.loaded.Content.TheVariants.{Bytes, TooLong}
use Rattle.pf_client.specs.declared.loaded.ReadFile.{ReadFile}
use Rattle.pf_top.proofs.SessionScripts.{generated_asks}
use Rattle.pf_top.specs.Pages.{page_in}
use Rattle.pf_top.specs.Seen.{HopsSeen}
use Rattle.pf_top.specs.Commands.{IsSummed, SessionTells}

-- two facts of a call's result
pub both_ok : {A E : Type 0} (P Q R : A → Type 0) (r : Result A E) → ((x : A) → P x → Q x → R x) → IfOk r P → IfOk r Q → IfOk r R
both_ok P Q R (Ok x) f p q = f x p q
both_ok P Q R (Err e) f p q = tt

-- nothing is kept in an empty map
none_kept : (kept : Contents) (name : List ℕ) → IsEmpty kept → get_by_text kept name ≡ None
none_kept kept name e = search (rules, e)

pub nothing_told : (told : List ℕ → Option (List ℕ)) (kept : Contents) → IsEmpty kept → AreTold told kept
nothing_told told kept e name file there = let none = none_kept kept name e in absurd (apart file (sym none ∙ there)) where
  apart : (f : ReadFile) → None ≡ Some f → ⊥
  apart f h = cc

pub nothing_there : (lost : List ℕ → Bool) (kept : Contents) → IsEmpty kept → AreThere lost kept
nothing_there lost kept e name file there = let none = none_kept kept name e in absurd (apart file (sym none ∙ there)) where
  apart : (f : ReadFile) → None ≡ Some f → ⊥
  apart f h = cc

holds_told : (held : List ℕ) (content : Content) → TellsContent (Some held) content → HoldsContent held content
holds_told held (Bytes bytes) h = (sym h.0, h.1)
holds_told held TooLong h = h

-- files that are told are held
pub told_held : (held : Held) (kept : Contents) → AreTold (λ name. Some (held name)) kept → AreHeld held kept
told_held held kept told name file there = holds_told (held name) file.content (told name file there)

-- what a session's run gives, by its sums
spared : (limits : Limits) (hops : HopsSeen) (after : ℕ) (held : Held) (lines : List Numbered) (full : Bool) (t : Tally)
    → IsSummary limits held lines (HaveCause hops.most hops.before after) full t → IsSummary limits held lines (AreSpared hops.most hops.before) full t
spared limits hops after held lines full t s = record {
  journal = s.journal;
  names = s.names;
  refused = s.refused;
  readings = s.readings;
  rest = s.rest;
  legal = s.legal;
  named = s.named;
  woven = s.woven;
  ended = s.ended;
  tries = s.tries.spared;
  whole = s.whole;
}

pub summed_by : (limits : Limits) (hops : HopsSeen) (after : ℕ) (held : Held) (seed queries : ℕ) (lines : List Numbered) (full : Bool) (t : Tally) (status : ℕ) (text : List ℕ)
    → queries ≡ asks lines → status ≡ cond full 8 0 → text ≡ summary_text seed queries t → IsSummary limits held lines (HaveCause hops.most hops.before after) full t
    → IsSummed limits hops held seed (asks lines) lines status text
summed_by limits hops after held seed queries lines false t status text many is told sum =
    inl (is, (t, (spared limits hops after held lines false t sum, told ∙ ap (λ (n : ℕ). summary_text seed n t) many)))
summed_by limits hops after held seed queries lines true t status text many is told sum =
    inr (is, (t, (spared limits hops after held lines true t sum, told ∙ ap (λ (n : ℕ). summary_text seed n t) many)))

-- by what was generated
pub seed_summed : (limits : Limits) (hops : HopsSeen) (seed : ℕ) (g : Session) (given : List ℕ) (lines : List Numbered) (status : ℕ) (text : List ℕ) → g ≡ session seed → given ≡ g.script
    → script_of false given ≡ Ok lines → IsSummed limits hops (page_in g.files) seed (asks lines) lines status text → SessionTells limits hops seed status text
seed_summed limits hops seed g given lines status text is same read sum = (
  lines,
  (
    sym (ap (script_of false) (same ∙ ap (λ (s : Session). s.script) is)) ∙ read,
    subst (λ (n : ℕ). IsSummed limits hops (page_in (session seed).files) seed n lines status text) (generated_asks seed g given lines is same read)
        (subst (λ (s : Session). IsSummed limits hops (page_in s.files) seed (asks lines) lines status text) is sum),
  ),
)
