-- What a run answers: what is held of a text that is read, or else the first token that is unexpected.
use Rattle.std.proofs.Common.{◌≡◌, ◌∙◌, sym, refl, ap, subst, ℕ, suc, ◌≤◌, ◌<◌, List, [], ◌∷◌, ◌++◌, length, take, Option, Some, None, Result, Ok, Err, arith}
use Rattle.std.specs.Option.{option_and_then}
use Rattle.pf_model.specs.Tokens.{Sort}
use Rattle.pf_parse.specs.Held.{Held}
use Rattle.pf_parse.specs.Lexemes.{lexeme_of}
use Rattle.pf_parse.specs.Reading.{State, step, ends, run, goes, counted, at_end}
use Rattle.pf_parse.proofs.Completed.{Reads, finish, completed}
use Rattle.pf_parse.proofs.Goes.{value, lexemes}

-- the tokens before this one are the first of some that are read, and those with it are not
pub record Fault (s : State) (us : List Sort) (n : ℕ) : Type 0 where
  pub within : n ≤ length us
  pub further : List Sort
  pub begins : Reads s (take n us ++ further)
  pub unlawful : n < length us → (vs : List Sort) → value s (lexemes (take (suc n) us ++ vs)) ≡ None
  pub unfinished : value s (lexemes us) ≡ None

pub record Verdict (s : State) (us : List Sort) : Type 0 where
  pub read : (e : Held) → run s (lexemes us) ≡ Ok e → value s (lexemes us) ≡ Some e
  pub faulty : (n : ℕ) → run s (lexemes us) ≡ Err n → Fault s us n

ok_err : {A : Type 0} (e : Held) (n : ℕ) → ◌≡◌ {A = Result Held ℕ} (Ok e) (Err n) → A
ok_err e n h = absurd (grind arith)

ok_same : (a e : Held) → ◌≡◌ {A = Result Held ℕ} (Ok a) (Ok e) → a ≡ e
ok_same a e h = grind arith

err_same : (a e : ℕ) → ◌≡◌ {A = Result Held ℕ} (Err a) (Err e) → a ≡ e
err_same a e h = grind arith

end_verdict : (s : State) (o : Option Held) → ends s.mode s.stack ≡ o → Verdict s []
end_verdict s None h =
    record {
      read = λ e r. ok_err e 0 (sym r ∙ ap at_end h);
      faulty = λ n r. subst (Fault s []) (err_same 0 n (sym (ap at_end h) ∙ r))
          (record {
            within = omega arith;
            further = finish s.mode s.stack;
            begins = completed s.mode s.stack;
            unlawful = λ l. absurd (omega (arith, l));
            unfinished = h;
          });
    }
end_verdict s (Some a) h =
    record {
      read = λ e r. h ∙ ap Some (ok_same a e (sym (ap at_end h) ∙ r));
      faulty = λ n r. ok_err a n (sym (ap at_end h) ∙ r);
    }

abbrev run_from : List Sort → State → Result Held ℕ
run_from us t = run t (lexemes us)

abbrev value_from : List Sort → State → Option Held
value_from us t = value t (lexemes us)

-- the answer of what follows, one token further on
data Counted (r c : Result Held ℕ) : Type 0 where
  fine : (e : Held) → r ≡ Ok e → c ≡ Ok e → Counted r c
  bad : (n : ℕ) → r ≡ Err n → c ≡ Err (suc n) → Counted r c

count_of : (r : Result Held ℕ) → Counted r (counted r)
count_of (Ok e) = fine e refl refl
count_of (Err n) = bad n refl refl

none_verdict : (s : State) (u : Sort) (us : List Sort) → step s.mode s.stack (lexeme_of u) ≡ None → Verdict s (u ∷ us)
none_verdict s u us h =
    record {
      read = λ e r. ok_err e 0 (sym r ∙ ap (λ o. goes o (run_from us)) h);
      faulty = λ n r. subst (Fault s (u ∷ us)) (err_same 0 n (sym (ap (λ o. goes o (run_from us)) h) ∙ r))
          (record {
            within = omega arith;
            further = finish s.mode s.stack;
            begins = completed s.mode s.stack;
            unlawful = λ l vs. ap (option_and_then (value_from vs)) h;
            unfinished = ap (option_and_then (value_from us)) h;
          });
    }

further_fault : (s t : State) (u : Sort) (us : List Sort) (n : ℕ) → step s.mode s.stack (lexeme_of u) ≡ Some t
    → Fault t us n → Fault s (u ∷ us) (suc n)
further_fault s t u us n h f =
    record {
      within = omega (arith, f.within);
      further = f.further;
      begins = record {
        held = f.begins.held;
        is = ap (option_and_then (value_from (take n us ++ f.further))) h ∙ f.begins.is;
      };
      unlawful = λ l vs. ap (option_and_then (value_from (take (suc n) us ++ vs))) h ∙ f.unlawful (omega (arith, l)) vs;
      unfinished = ap (option_and_then (value_from us)) h ∙ f.unfinished;
    }

some_verdict : (s t : State) (u : Sort) (us : List Sort) (c : Result Held ℕ) → Counted (run t (lexemes us)) c
    → run s (lexemes (u ∷ us)) ≡ c → step s.mode s.stack (lexeme_of u) ≡ Some t → Verdict t us → Verdict s (u ∷ us)
some_verdict s t u us c (fine a p q) g h v =
    record {
      read = λ e r. ap (option_and_then (value_from us)) h ∙ (v.read a p ∙ ap Some (ok_same a e (sym q ∙ (sym g ∙ r))));
      faulty = λ n r. ok_err a n (sym q ∙ (sym g ∙ r));
    }
some_verdict s t u us c (bad m p q) g h v =
    record {
      read = λ e r. ok_err e (suc m) (sym r ∙ (g ∙ q));
      faulty = λ n r. subst (Fault s (u ∷ us)) (err_same (suc m) n (sym q ∙ (sym g ∙ r))) (further_fault s t u us m h (v.faulty m p));
    }

step_verdict : (s : State) (u : Sort) (us : List Sort) (o : Option State) → step s.mode s.stack (lexeme_of u) ≡ o
    → ((t : State) → Verdict t us) → Verdict s (u ∷ us)
step_verdict s u us None h v = none_verdict s u us h
step_verdict s u us (Some t) h v =
    some_verdict s t u us (counted (run t (lexemes us))) (count_of (run t (lexemes us))) (ap (λ o. goes o (run_from us)) h) h (v t)

pub verdict : (us : List Sort) (s : State) → Verdict s us
verdict [] s = end_verdict s (ends s.mode s.stack) refl
verdict (u ∷ us) s = step_verdict s u us (step s.mode s.stack (lexeme_of u)) refl (λ t. verdict us t)
