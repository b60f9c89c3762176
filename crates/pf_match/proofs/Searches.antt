-- From what the crate `regex` promises of a search to what the pattern's text means.
use Rattle.std.proofs.Common.{◌≡◌, ℕ, Bool, zero, suc, ◌+◌, ◌*◌, ◌<◌, ◌≤◌, ◌==◌, true, List, length, get_or, Option, None, Some, IsSomeAnd, IfSome, ◌⊎◌, inl, inr, is_some, option_map, option_and_then, false, cond, nat_le, refl, sym, ap, ◌∙◌, arith, ne_eqb, if◌then◌else◌}
use Rattle.std.proofs.lemmas.Bool.{cond-false}
use Rattle.std.proofs.lemmas.Bool.Decides.{nat_tests}
use Rattle.std.proofs.lemmas.List.{get_or_default}
use mathlib.Core.Path.{fun_ext}
use Rattle.std.specs.Str.{chars}
use Rattle.regex.specs.Patterns.{Re, Match, SameCaptures, default_config, find_str, span, Reads, Refuses}
use Rattle.regex.specs.Failures.{IsPattern, IsRightKind}
use Rattle.regex.specs.Sources.{IsRefusal}
use Rattle.regex.specs.declared.error.Error as engine
use Rattle.regex.specs.declared.error.Error.TheVariants as refusal
use Rattle.regex_syntax.specs.declared.error.ErrorKind.TheVariants as syntax
use Rattle.regex.specs.Replace.{bytes_of, expansion}
use Rattle.regex.specs.Search.{group_span, Shows, SpansGroups}
use Rattle.regex.specs.Strings.{regex_pattern, regex_source, regex_config, regex_names, IsReadFromSource, IsCapturesOf, IsReadFrom, expansion_of}
use Rattle.regex.specs.Templates.{written_after, AreReadFrom}
use Rattle.regex.specs.Writes.{both, group_of}
use Rattle.regex.specs.declared.string.regex.Regex.{Regex}
use Rattle.regex.specs.declared.string.captures.Captures.{Captures}
use Rattle.regex.specs.declared.string.template.Template.{Template}
use Rattle.regex.specs.declared.template.Piece.{Piece}
use Rattle.regex.proofs.CapturesLemmas.{group_span-zero}
use Rattle.regex.proofs.ForCallers.{spans, is_match_alike}
use Rattle.regex_syntax.proofs.CapturesLemmas.{find_str_alike}
use Rattle.regex_syntax.specs.Brackets.{Nested}
use Rattle.regex_syntax.specs.Grammar.{Names, group_count, read}
use Rattle.pf_match.specs.Meaning.{Reading, reading_of, reading, is_pattern, has_match, matches, written, written_at, expand, anchored}
use Rattle.pf_match.specs.Kept.{IsAs, IsReadAs, IsPatternFault, pattern_error}

-- ---- a pattern that is built

within : (n : ℕ) (found : Nested Re × Names) → found.0.depth ≤ 250 → reading_of found ≡ Some (record { tree = found.0.value; names = found.1 })
within n found h = by (nat_le found.0.depth 250) refl where
  by : (b : Bool) → nat_le found.0.depth 250 ≡ b → cond {A = Option Reading} b (Some (record { tree = found.0.value; names = found.1 })) None ≡ Some (record { tree = found.0.value; names = found.1 })
  by true e = refl
  by false e = grind (arith, nat_tests, h, e)

beyond : (found : Nested Re × Names) → 250 < found.0.depth → reading_of found ≡ None
beyond found h = by (nat_le found.0.depth 250) refl where
  by : (b : Bool) → nat_le found.0.depth 250 ≡ b → cond {A = Option Reading} b (Some (record { tree = found.0.value; names = found.1 })) None ≡ None
  by false e = refl
  by true e = grind (arith, nat_tests, h, e)

read_as : (o : Option (Nested Re × Names)) (tree : Re) (names : Names)
    → IsSomeAnd o (λ (re, found). (re.depth ≤ 250) × SameCaptures tree re.value × (names ≡ found) × (group_count tree ≤ length names))
    → IsSomeAnd (option_and_then reading_of o) (IsAs tree names)
read_as None tree names h = absurd h
read_as (Some found) tree names h = rw (within 0 found h.0) (h.1, h.2)

-- of what `Regex::new` ensures
pub built_is_read_as : (r : Regex) (text : List ℕ) → regex_source r ≡ anchored text → regex_config r ≡ default_config → IsReadFromSource r
    → IsReadAs text (regex_pattern r) (regex_names r)
unfolding Reads reading
built_is_read_as r text source config h =
    let reads : Reads default_config (anchored text) r.pattern.program.hir (regex_names r) = rw (source, config) at h in
    read_as (read default_config (chars (anchored text))) _ _ reads

some_of : (o : Option Reading) (P : Reading → Type 0) → IsSomeAnd o P → is_some o ≡ true
some_of None P h = absurd h
some_of (Some r) P h = refl

pub is_pattern_of : (text : List ℕ) (tree : Re) (names : Names) → IsReadAs text tree names → is_pattern text ≡ true
is_pattern_of text tree names h = some_of (reading text) _ h

-- an expression that does not nest too deep
expression : (text source : List ℕ) → source ≡ anchored text → IsPattern default_config source → is_pattern text ≡ true
unfolding Reads reading
expression text source is h =
    let reads : Reads default_config (anchored text) h.0 h.1 = rw is at h.2 in
    some_of (reading text) _ (read_as (read default_config (chars (anchored text))) _ _ reads)

-- ---- a text that gives no pattern

none_read : (o : Option (Nested Re × Names)) → (o ≡ None) ⊎ IfSome o (λ (re, found). 250 < re.depth) → is_some (option_and_then reading_of o) ≡ false
none_read None h = refl
none_read (Some found) (inl h) = let wrong : Some found ≡ None = h in cc
none_read (Some found) (inr h) = ap (λ (r : Option Reading). is_some r) (beyond found h)

-- of what `Regex::new` ensures of its errors
pub pattern_fault : (text source : List ℕ) (e : engine.Error) → source ≡ anchored text → IsRefusal default_config source e
    → IsRightKind default_config source e → IsPatternFault text (pattern_error e)
unfolding Reads Refuses reading
pattern_fault text source (refusal.Syntax x) is h kind =
    let refuses : Refuses default_config (anchored text) x.kind = rw is at (h x refl) in
    by refuses where
      by : (x.kind ≡ syntax.OutOfMemory) ⊎ ((read default_config (chars (anchored text)) ≡ None)
          ⊎ ((x.kind ≡ syntax.NestLimitExceeded) × IfSome (read default_config (chars (anchored text))) (λ (re, found). 250 < re.depth)))
          → is_pattern text ≡ false
      by (inl g) = absurd (kind g)
      by (inr (inl g)) = none_read (read default_config (chars (anchored text))) (inl g)
      by (inr (inr g)) = none_read (read default_config (chars (anchored text))) (inr g.1)
pattern_fault text source refusal.CompiledTooBig is h kind = expression text source is kind
pattern_fault text source refusal.Internal is h kind = expression text source is kind
pattern_fault text source refusal.OutOfMemory is h kind = tt

-- ---- a search

matched : (o : Option Reading) (tree : Re) (names : Names) (value : List ℕ) → ((k : ℕ) → get_or value k 0 < 256)
    → IsSomeAnd o (IsAs tree names) → is_some (find_str tree value 0) ≡ has_match o value
matched None tree names value bytes h = absurd h
matched (Some r) tree names value bytes h = is_match_alike h.0 value bytes true 0

pub matches_of : (text : List ℕ) (tree : Re) (names : Names) (value : List ℕ) → ((k : ℕ) → get_or value k 0 < 256)
    → IsReadAs text tree names → is_some (find_str tree value 0) ≡ matches text value
matches_of text = matched (reading text)

-- what a group matched, of what a caller sees of a match
abbrev seen_bytes : List ℕ → ℕ × ℕ × (ℕ → Option ℕ) → ℕ → List ℕ
seen_bytes value s n = bytes_of value (if n == 0 then Some (s.0, s.1) else both (s.2 (2 * n)) (s.2 (2 * n + 1)))

written_of_spans : (value template : List ℕ) (names : Names) (o : Option Match)
    → option_map (written_at names value template) o
    ≡ option_map (λ s. written_after names (seen_bytes value s) template 0) (option_map spans o)
written_of_spans value template names None = refl
written_of_spans value template names (Some m) = refl

written_alike : (o : Option Reading) (tree : Re) (names : Names) (value template : List ℕ) → ((k : ℕ) → get_or value k 0 < 256)
    → IsSomeAnd o (IsAs tree names) → option_map (written_at names value template) (find_str tree value 0) ≡ written o value template
written_alike None tree names value template bytes h = absurd h
written_alike (Some r) tree names value template bytes h =
    ap (λ ns. option_map (written_at ns value template) (find_str tree value 0)) h.1
    ∙ written_of_spans value template r.names (find_str tree value 0)
    ∙ ap (option_map (λ s. written_after r.names (seen_bytes value s) template 0)) (find_str_alike tree r.tree h.0 value (λ k d e. rw (get_or_default value k d 0 e) (bytes k)) 0)
    ∙ sym (written_of_spans value template r.names (find_str r.tree value 0))

pub expand_of : (text : List ℕ) (tree : Re) (names : Names) (value template : List ℕ) → ((k : ℕ) → get_or value k 0 < 256)
    → IsReadAs text tree names → option_map (written_at names value template) (find_str tree value 0) ≡ expand text value template
expand_of text = written_alike (reading text)

-- ---- a template's pieces write what its text stands for

by_pieces : (value : List ℕ) (m : Match) (at : ℕ × ℕ) (cells : List ℕ) (pieces : List Piece) (names : Names) (template : List ℕ)
    → Shows m at cells → SpansGroups true value m at cells → AreReadFrom names template pieces
    → expansion true value at cells pieces ≡ written_at names value template m
by_pieces value m at cells pieces names template shows groups reads =
    reads true value at cells ∙ ap (λ f. written_after names f template 0) (fun_ext λ n. ap (bytes_of value) (spans_of n))
  where
    spans_of : (n : ℕ) → group_span true value at cells n ≡ (if n == 0 then Some (span m) else group_of m n)
    spans_of zero = group_span-zero true value at cells ∙ ap Some shows.whole_is
    spans_of (suc n) = groups (suc n) (omega arith) ∙ sym (cond-false _ _ _ (ne_eqb (suc n) 0 (omega arith)))

pub written_by : (value : List ℕ) (m : Match) (groups : Captures) (t : Template) (names : Names) (template : List ℕ)
    → IsCapturesOf value m groups → IsReadFrom names template t → expansion_of groups t ≡ written_at names value template m
written_by value m groups t names template h reads =
    by_pieces groups.whole.haystack.now m _ _ t.pieces.items names template h.1 h.2 reads
    ∙ ap (λ hay. written_at names hay template m) h.0
