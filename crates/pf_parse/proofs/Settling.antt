-- Signs and operators take what was written behind them.
use Rattle.std.proofs.Common.{◌≡◌, ◌∙◌, sym, refl, ap, ℕ, ◌≤◌, Bool, true, false, cond, ◌&&◌, List, [], ◌∷◌, ◌++◌, Option, arith, nat_le}
use Rattle.std.proofs.lemmas.Bool.{leb-true, leb-false}
use Rattle.std.proofs.lemmas.List.{append_assoc}
use Rattle.pf_model.proofs.Levels.{level_positive}
use Rattle.pf_model.specs.declared.expr.BinaryOp.{BinaryOp}
use Rattle.pf_model.specs.Grammar.{Terminal, Written, terminals_of, level, IsLawful, Keys, begins_with_bracket, unary, binary, operator_terminal, bool_terminals, these, keys_terminals}
use Rattle.pf_model.specs.Words.{level_of}
use Rattle.pf_parse.specs.Reading as mode
use Rattle.pf_parse.specs.Held.{held_binary}
use Rattle.pf_parse.proofs.Drafts.{Frame, signed, left, bracket, calling, images, stack_text, Room, Fronted, tops_group, AreFrames}
use Rattle.pf_parse.proofs.Fronts.{front_of, bracket_first}
use Rattle.pf_parse.proofs.ReadOf.{read_of}

pub record Settled (l : ℕ) (e : Written) (k : List Frame) : Type 0 where
  pub written : Written
  pub stack : List Frame
  pub is : mode.settle l (read_of e) (images k) ≡ record { held = read_of written; stack = images stack }
  pub spells : (zs : List Terminal) → stack_text stack (terminals_of written ++ zs) ≡ stack_text k (terminals_of e ++ zs)
  pub lawful : IsLawful written
  pub low : level written ≤ l
  pub fronted : Fronted stack (terminals_of written)
  pub room : Room l stack
  pub frames : AreFrames stack

pub and_no : (b : Bool) → (b && false) ≡ false
and_no true = refl
and_no false = refl

pub room_one : (k : List Frame) → Room 1 k
room_one [] = tt
room_one (signed minus ∷ k) = omega arith
room_one (left op keys a ∷ k) = omega (arith, level_positive op.sign)
room_one (bracket ∷ k) = tt
room_one (calling c es ∷ k) = tt

sign_fronted : (minus : Bool) (k : List Frame) (e : Written) → Fronted k (terminals_of (unary minus e))
sign_fronted true k e = and_no (tops_group k)
sign_fronted false k e = and_no (tops_group k)

-- an operation begins as its left operand
front_kept : (a : Written) (zs : List Terminal) → IsLawful a → begins_with_bracket (terminals_of a ++ zs) ≡ begins_with_bracket (terminals_of a)
front_kept a zs l =
    let f = front_of a l in
    ap (λ xs. begins_with_bracket (xs ++ zs)) f.is
    ∙ (bracket_first f.first (f.behind ++ zs)
    ∙ (sym (bracket_first f.first f.behind) ∙ sym (ap begins_with_bracket f.is)))

pub fronted_onto : (k : List Frame) (a : Written) (zs : List Terminal) → IsLawful a → Fronted k (terminals_of a) → Fronted k (terminals_of a ++ zs)
fronted_onto k a zs l f = ap (λ b. tops_group k && b) (front_kept a zs l) ∙ f

binary_text : (op : BinaryOp) (keys : Option Keys) (a e : Written) (zs : List Terminal)
    → terminals_of (binary op keys a e) ++ zs
    ≡ terminals_of a ++ (operator_terminal op ∷ (bool_terminals op.with_bool ++ (these keys_terminals keys ++ (terminals_of e ++ zs))))
binary_text op keys a e zs =
    append_assoc (terminals_of a) (operator_terminal op ∷ (bool_terminals op.with_bool ++ (these keys_terminals keys ++ terminals_of e))) zs
    ∙ ap (λ us. terminals_of a ++ (operator_terminal op ∷ us))
    (append_assoc (bool_terminals op.with_bool) (these keys_terminals keys ++ terminals_of e) zs
    ∙ ap (λ us. bool_terminals op.with_bool ++ us) (append_assoc (these keys_terminals keys) (terminals_of e) zs))

same : (l : ℕ) (e : Written) (k : List Frame) → IsLawful e → level e ≤ l → Fronted k (terminals_of e) → Room l k → AreFrames k
    → mode.settle l (read_of e) (images k) ≡ record { held = read_of e; stack = images k } → Settled l e k
same l e k w b f r a h =
    record { written = e; stack = k; is = h; spells = λ zs. refl; lawful = w; low = b; fronted = f; room = r; frames = a }

through : (l : ℕ) (d e : Written) (j k : List Frame) → Settled l d j
    → mode.settle l (read_of e) (images k) ≡ mode.settle l (read_of d) (images j)
    → ((zs : List Terminal) → stack_text j (terminals_of d ++ zs) ≡ stack_text k (terminals_of e ++ zs)) → Settled l e k
through l d e j k s h g =
    record {
      written = s.written;
      stack = s.stack;
      is = h ∙ s.is;
      spells = λ zs. s.spells zs ∙ g zs;
      lawful = s.lawful;
      low = s.low;
      fronted = s.fronted;
      room = s.room;
      frames = s.frames;
    }

pub settled : (l : ℕ) (k : List Frame) (e : Written) → 2 ≤ l → IsLawful e → level e ≤ l → Room (level e) k → Fronted k (terminals_of e)
    → AreFrames k → Settled l e k
settled l [] e p w b r f a = same l e [] w b f tt a refl
settled l (signed minus ∷ k) e p w b r f a =
    through l (unary minus e) e k (signed minus ∷ k)
    (settled l k (unary minus e) p (r, w) (omega (arith, p)) (room_one k) (sign_fronted minus k e) a) refl (λ zs. refl)
settled l (left op keys a ∷ k) e p w b r f fs =
    by_test (nat_le (level_of op.sign) l) refl
    (λ h. settled l k (binary op keys a e) p
    (fs.0.lower, r, fs.0.compares, fs.1, f, fs.0.lawful, w) (leb-true _ _ h) fs.0.room
    (fronted_onto k a _ fs.0.lawful fs.0.fronted) fs.2)
  where
    by_test : (t : Bool) → nat_le (level_of op.sign) l ≡ t → (nat_le (level_of op.sign) l ≡ true → Settled l (binary op keys a e) k)
        → Settled l e (left op keys a ∷ k)
    by_test true h s =
        through l (binary op keys a e) e k (left op keys a ∷ k) (s h)
        (ap (λ t. cond t (mode.settle l (held_binary op (Rattle.pf_model.specs.Grammar.matched_of keys) (read_of a) (read_of e)) (images k))
        (record { held = read_of e; stack = images (left op keys a ∷ k) })) h)
        (λ zs. ap (stack_text k) (binary_text op keys a e zs))
    by_test false h s =
        same l e (left op keys a ∷ k) w b f (leb-false _ _ h) fs
        (ap (λ t. cond t (mode.settle l (held_binary op (Rattle.pf_model.specs.Grammar.matched_of keys) (read_of a) (read_of e)) (images k))
        (record { held = read_of e; stack = images (left op keys a ∷ k) })) h)
settled l (bracket ∷ k) e p w b r f a = same l e (bracket ∷ k) w b f tt a refl
settled l (calling c es ∷ k) e p w b r f a = same l e (calling c es ∷ k) w b f tt a refl
