-- Which file a run may say that it did not read, on a worked script. The right sides were written by hand.
use Rattle.std.proofs.Common.{◌≡◌, ℕ, Bool, ◌||◌, Ok, Err, List, [], ◌∷◌, codes, refl, sym, ap, inl, inr, true≢false}
use Rattle.std.specs.Str.{bytes_eq}
use Rattle.pf_journal.specs.Scripts.{Numbered, ingest, ask, keep, plan}
use Rattle.pf_client.specs.Replays.{Reaches, files_of}
use Rattle.pf_top.specs.Commands.{script_files}

abbrev lines : List Numbered
lines =
    record { number = 1; line = ingest (codes "acme") (codes "a") 0 }
    ∷ record { number = 2; line = ask (codes "q") (codes "acme") 0 0 1 (codes "up") }
    ∷ record { number = 3; line = ingest (codes "acme") (codes "b") 0 }
    ∷ record { number = 4; line = ingest (codes "acme") (codes "c") 0 }
    ∷ []

-- neither b nor c is there
abbrev lost : List ℕ → Bool
lost name = bytes_eq name (codes "b") || bytes_eq name (codes "c")

named : files_of lines ≡ codes "a" ∷ codes "b" ∷ codes "c" ∷ []
named = refl

-- a may be named, where a call on it fails, and b, but c not, since b stands before it
first : Reaches lost (files_of lines) (codes "a")
first = inl refl

second : Reaches lost (files_of lines) (codes "b")
second = inr (refl, inl refl)

third : Reaches lost (files_of lines) (codes "c") → ⊥
third (inl e) = true≢false (sym (ap (λ (n : List ℕ). bytes_eq n (codes "c")) e))
third (inr (a, inl e)) = true≢false (sym (ap (λ (n : List ℕ). bytes_eq n (codes "c")) e))
third (inr (a, inr (b, r))) = true≢false b

-- the files of a script that runs are needed, be it with step lines, and none of one that is refused
of_lines : script_files (Ok lines) ≡ codes "a" ∷ codes "b" ∷ codes "c" ∷ []
of_lines = refl

of_steps : script_files (Ok (record { number = 1; line = ingest (codes "acme") (codes "a") 0 } ∷ record { number = 2; line = plan (codes "q") 1 } ∷ [])) ≡ codes "a" ∷ []
of_steps = refl

of_keeps : script_files (Ok (record { number = 1; line = ingest (codes "acme") (codes "a") 0 } ∷ record { number = 2; line = keep (codes "q") 1 } ∷ [])) ≡ codes "a" ∷ []
of_keeps = refl

of_none : script_files (Err 3) ≡ []
of_none = refl
