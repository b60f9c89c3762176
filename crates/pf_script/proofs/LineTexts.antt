-- Lines by their words.
use Rattle.std.proofs.Common.{◌≡◌, ◌∙◌, ℕ, Bool, true, false, Option, Some, None, List, refl, sym, ap}
use Rattle.std.specs.Prelude.{option_and_then}
use Rattle.std.proofs.lemmas.Bool.{false_from_ne_true}
use Rattle.std.proofs.lemmas.Str.{is_utf8-from_IsUtf8, IsUtf8-from_is_utf8}
use Rattle.std.specs.Str.{IsUtf8, is_utf8}
use Rattle.pf_base.specs.Tenants.{is_tenant}
use Rattle.pf_model.specs.Cuts.{Cut, only_if}
use Rattle.pf_model.specs.Exposition.{is_word}
use Rattle.pf_journal.specs.Scripts.{Issued, ask_of, cancel, cancel_of, delete_of, ingest, ingest_of, ingest_with, instant_of, issued_as, next_word, number_of, only_word, trimmed_text}
use Rattle.pf_script.specs.IdLists.{as_issued}
use Rattle.pf_script.specs.declared.ids.Asked.{Asked}
use Rattle.pf_script.specs.LineCuts.{AskWords, DeleteWords, InstantWords, ask_with, ask_words, delete_with, delete_words, instant_with, instant_words}

pub is_text : (bs : List ℕ) → IsUtf8 bs → is_utf8 bs ≡ true
is_text bs u = is_utf8-from_IsUtf8 bs u

pub is_no_text : (bs : List ℕ) → (IsUtf8 bs → ⊥) → is_utf8 bs ≡ false
is_no_text bs u = false_from_ne_true _ (λ h. u (IsUtf8-from_is_utf8 bs h))

pub ruleset text_tests = (is_text, is_no_text)

-- ---- steps that may fail

pub bind_some : {A B : Type 0} (o : Option A) (f : A → Option B) (y : B) → option_and_then f o ≡ Some y → (x : A) × (o ≡ Some x) × (f x ≡ Some y)
bind_some None f y e = cc
bind_some (Some x) f y e = (x, refl, e)

then_same : {A B C : Type 0} (o : Option A) (f : A → Option B) (g : B → Option C) (h : A → Option C) → ((x : A) → option_and_then g (f x) ≡ h x)
    → option_and_then g (option_and_then f o) ≡ option_and_then h o
then_same None f g h e = refl
then_same (Some x) f g h e = e x

-- ---- by the words

delete_is : (words : List ℕ) → option_and_then delete_with (delete_words words) ≡ delete_of words
unfolding delete_of delete_words
delete_is words =
    then_same (next_word words) _ _ _ (λ tenant. then_same (next_word tenant.behind) _ _ _ (λ from. then_same (next_word from.behind) _ _ _ (λ to.
    then_same (number_of from.front) _ _ _ (λ first. then_same (number_of to.front) _ _ _ (λ last. then_same (trimmed_text to.behind) _ _ _ (λ selector. refl))))))

pub delete_some : (words : List ℕ) (w : DeleteWords) → delete_words words ≡ Some w → delete_of words ≡ delete_with w
delete_some words w e = sym (delete_is words) ∙ ap (option_and_then delete_with) e

pub delete_none : (words : List ℕ) → delete_words words ≡ None → delete_of words ≡ None
delete_none words e = sym (delete_is words) ∙ ap (option_and_then delete_with) e

pub ask_is : (is : List Issued) (words : List ℕ) → option_and_then (ask_with is) (ask_words words) ≡ ask_of is words
unfolding ask_of ask_words
ask_is is words =
    then_same (next_word words) _ _ _ (λ id. then_same (next_word id.behind) _ _ _ (λ tenant. then_same (next_word tenant.behind) _ _ _ (λ first.
    then_same (next_word first.behind) _ _ _ (λ last. then_same (next_word last.behind) _ _ _ (λ by.
    then_same (number_of first.front) _ _ _ (λ start. then_same (number_of last.front) _ _ _ (λ end. then_same (number_of by.front) _ _ _ (λ step.
    then_same (trimmed_text by.behind) _ _ _ (λ query. refl)))))))))

pub ask_some : (is : List Issued) (words : List ℕ) (w : AskWords) → ask_words words ≡ Some w → ask_of is words ≡ ask_with is w
ask_some is words w e = sym (ask_is is words) ∙ ap (option_and_then (ask_with is)) e

pub ask_none : (is : List Issued) (words : List ℕ) → ask_words words ≡ None → ask_of is words ≡ None
ask_none is words e = sym (ask_is is words) ∙ ap (option_and_then (ask_with is)) e

pub instant_is : (is : List Issued) (words : List ℕ) → option_and_then (instant_with is) (instant_words words) ≡ instant_of is words
unfolding instant_of instant_words
instant_is is words =
    then_same (next_word words) _ _ _ (λ id. then_same (next_word id.behind) _ _ _ (λ tenant. then_same (next_word tenant.behind) _ _ _ (λ at.
    then_same (number_of at.front) _ _ _ (λ time. then_same (trimmed_text at.behind) _ _ _ (λ query. refl)))))

pub instant_some : (is : List Issued) (words : List ℕ) (w : InstantWords) → instant_words words ≡ Some w → instant_of is words ≡ instant_with is w
instant_some is words w e = sym (instant_is is words) ∙ ap (option_and_then (instant_with is)) e

pub instant_none : (is : List Issued) (words : List ℕ) → instant_words words ≡ None → instant_of is words ≡ None
instant_none is words e = sym (instant_is is words) ∙ ap (option_and_then (instant_with is)) e

-- ---- words that were found

pub delete_found : (words : List ℕ) (tenant from to : Cut) (first last : ℕ) (selector : List ℕ)
    → next_word words ≡ Some tenant → next_word tenant.behind ≡ Some from → next_word from.behind ≡ Some to
    → number_of from.front ≡ Some first → number_of to.front ≡ Some last → trimmed_text to.behind ≡ Some selector
    → delete_words words ≡ Some (record { tenant = tenant.front; from = first; to = last; selector = selector })
unfolding delete_words
delete_found words tenant from to first last selector a b c d e f = rw (a, b, c, d, e, f) refl

pub ask_found : (words : List ℕ) (id tenant first last by : Cut) (start end step : ℕ) (query : List ℕ)
    → next_word words ≡ Some id → next_word id.behind ≡ Some tenant → next_word tenant.behind ≡ Some first → next_word first.behind ≡ Some last → next_word last.behind ≡ Some by
    → number_of first.front ≡ Some start → number_of last.front ≡ Some end → number_of by.front ≡ Some step → trimmed_text by.behind ≡ Some query
    → ask_words words ≡ Some (record { id = id.front; tenant = tenant.front; start = start; end = end; step = step; query = query })
unfolding ask_words
ask_found words id tenant first last by start end step query a b c d e f g h i = rw (a, b, c, d, e, f, g, h, i) refl

pub instant_found : (words : List ℕ) (id tenant at : Cut) (time : ℕ) (query : List ℕ)
    → next_word words ≡ Some id → next_word id.behind ≡ Some tenant → next_word tenant.behind ≡ Some at
    → number_of at.front ≡ Some time → trimmed_text at.behind ≡ Some query
    → instant_words words ≡ Some (record { id = id.front; tenant = tenant.front; time = time; query = query })
unfolding instant_words
instant_found words id tenant at time query a b c d e = rw (a, b, c, d, e) refl

pub only_where : {A : Type 0} (b : Bool) (x y : A) → only_if b x ≡ Some y → (b ≡ true) × (x ≡ y)
only_where true x y e = (refl, cc)
only_where false x y e = cc

pub cancel_found : (is : List Issued) (words id tenant bytes name text : List ℕ) (found : Asked) → next_word words ≡ Some (record { front = id; behind = tenant })
    → is_word tenant ≡ true → bytes ≡ id → issued_as bytes is ≡ Some (as_issued bytes found) → only_if (is_tenant tenant) tenant ≡ Some name → text ≡ id
    → cancel_of is words ≡ Some (cancel text found.line name)
unfolding cancel_of
cancel_found is words id tenant bytes name text found a w b f t e =
    let g = only_where (is_tenant tenant) tenant name t in
    let h : issued_as id is ≡ Some (as_issued id found) = rw b at f in
    rw (a, w, h, g.0) (cc (g.1))

pub ingest_found : (words tenant named name name' file text : List ℕ) (time : ℕ) → next_word words ≡ Some (record { front = tenant; behind = named })
    → only_if (is_tenant tenant) tenant ≡ Some name → name' ≡ name → ((t : List ℕ) → ingest_with t named (only_word named) ≡ Some (ingest t file time)) → text ≡ file
    → ingest_of words ≡ Some (ingest name' text time)
unfolding ingest_of
ingest_found words tenant named name name' file text time a t n h e =
    let g = only_where (is_tenant tenant) tenant name t in
    rw (a, g.0) (h tenant ∙ cc (g.1))
