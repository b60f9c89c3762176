-- Which names no call fails on any more.
use Rattle.std.proofs.Common.{◌≡◌, ℕ, ◌≤◌, ◌⊎◌, inl, inr, ◌&&◌, ◌||◌, Bool, true, false, IsTrue, Option, Some, None, is_none, is_some, List, [], ◌∷◌, nat_eq, nat_lt, refl, sym, arith, true≢false}
use Rattle.std.proofs.lemmas.Bool.Decides.{nat_tests}
use Rattle.pf_io.specs.InMemory.{FilesData, fails, held, is_lost, is_sure, none_fails}
use Rattle.pf_io.specs.Outside.{StayKnown}

both : (a b : Bool) → a ≡ true → b ≡ true → (a && b) ≡ true
both true b e h = h
both false b e h = absurd (true≢false (sym e))

first_so : (a b : Bool) → (a && b) ≡ true → a ≡ true
first_so true b h = refl
first_so false b h = absurd (true≢false (sym h))

second_so : (a b : Bool) → (a && b) ≡ true → b ≡ true
second_so true b h = h
second_so false b h = absurd (true≢false (sym h))

one_of : (a b : Bool) → (a || b) ≡ true → (a ≡ true) ⊎ (b ≡ true)
one_of true b h = inl refl
one_of false b h = inr h

none_listed : (failing : List ℕ) (call : ℕ) → none_fails failing call ≡ true → fails failing call ≡ true → ⊥
none_listed [] call h f = true≢false (sym f)
none_listed (n ∷ ns) call h f = elim (one_of (nat_eq n call) (fails ns call) f) [
  | inl here ↦ let below : nat_lt n call ≡ true = first_so (nat_lt n call) (none_fails ns call) h in grind (arith, nat_tests, here, below)
  | inr there ↦ none_listed ns call (second_so (nat_lt n call) (none_fails ns call) h) there
]

none_later : (failing : List ℕ) (call later : ℕ) → call ≤ later → none_fails failing call ≡ true → none_fails failing later ≡ true
none_later [] call later p h = refl
none_later (n ∷ ns) call later p h =
    let below : nat_lt n call ≡ true = first_so (nat_lt n call) (none_fails ns call) h in
    both (nat_lt n later) (none_fails ns later) (grind (arith, nat_tests, below, p)) (none_later ns call later p (second_so (nat_lt n call) (none_fails ns call) h))

there : (o : Option (List ℕ)) → is_some o ≡ true → o ≡ None → ⊥
there None h e = true≢false (sym h)
there (Some x) h e = cc

not_there : (o : Option (List ℕ)) → is_none o ≡ true → o ≡ None
not_there None h = refl
not_there (Some x) h = absurd (true≢false (sym h))

-- a call on a name that is sure has no cause to fail
pub sure_read : (f : FilesData) (name : List ℕ) → IsTrue (is_sure f name) → IsTrue (fails f.failing f.calls) ⊎ (held f.files name ≡ None) → ⊥
sure_read f name h (inl x) = none_listed f.failing f.calls (second_so (is_some (held f.files name)) (none_fails f.failing f.calls) h) x
sure_read f name h (inr e) = there (held f.files name) (first_so (is_some (held f.files name)) (none_fails f.failing f.calls) h) e

pub lost_read : (files : List (List ℕ × List ℕ)) (name : List ℕ) → IsTrue (is_lost files name) → held files name ≡ None
lost_read files name h = not_there (held files name) h

-- what is sure stays so with a further call
pub sure_stays : (old new : FilesData) → new.files ≡ old.files → new.failing ≡ old.failing → old.calls ≤ new.calls → StayKnown (is_sure old) (is_sure new)
sure_stays old new files failing later name h =
    rw files (rw failing
    (both (is_some (held old.files name)) (none_fails old.failing new.calls) (first_so (is_some (held old.files name)) (none_fails old.failing old.calls) h)
    (none_later old.failing old.calls new.calls later (second_so (is_some (held old.files name)) (none_fails old.failing old.calls) h))))
