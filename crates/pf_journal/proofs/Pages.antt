-- The files of the worked examples, and that each gives its batch: lines of a metric's name, at most one label, a whole number and a
-- time.
use Rattle.std.proofs.Common.{◌≡◌, ℕ, ℤ, pos, true, ◌+◌, ◌≤◌, List, [], ◌∷◌, ◌++◌, length, Ok, None, Some, refl, sym, codes, inl, append-nil, lit≤}
use Rattle.std.specs.Char.{encode_utf8}
use Rattle.std.specs.Str.{all_ascii_digits}
use Rattle.pf_base.specs.Arithmetic.{clamp}
use Rattle.pf_base.specs.LabelBuild.{build_of}
use Rattle.pf_base.specs.LabelSets.{Pairs}
use Rattle.pf_base.specs.Limits.{greatest_time}
use Rattle.pf_base.specs.NumberTexts.{Decimal, Reads, bare as no_sign, decimal_micros, number_after}
use Rattle.pf_base.specs.declared.number.Read.TheVariants.{Number}
use Rattle.pf_model.specs.Exposition.{IsMiddle, LineGives, Middle, are_digits, bare, full, is_metric_name, is_word, labelled, middle_pairs, middle_text, name_label, sample}
use Rattle.pf_journal.proofs.CacheSessions.{a_batch, a_page, b_batch, b_page, c_batch, c_page, d_batch, d_page, newest_batch, newest_page, older_batch, older_page, x_batch, x_page}
use Rattle.pf_journal.specs.Files.{Gives}
use Rattle.pf_journal.proofs.Examples.{named, row, up_a, up_batch, up_page}

abbrev whole : List ℕ → Decimal
whole digits = record { whole = digits; fraction = None; exponent = None }

-- digits are read as a whole number
number_read : (digits : List ℕ) (v : ℤ) → all_ascii_digits digits ≡ true → 1 ≤ length digits + 0 → length digits ≤ 128
    → v ≡ clamp (pos (decimal_micros (whole digits))) → Reads digits (Number v)
number_read digits v all some short value = inl (record {
  sign = no_sign;
  parts = whole digits;
  lawful = record { whole = all; fraction = refl; some = some; exponent = tt };
  spelled = sym (append-nil digits);
  short = short;
  value = value;
})

-- a line of these words is a row
row_given : (name : List ℕ) (middle : Middle) (number time : List ℕ) (labels : Pairs) (t : ℕ) (v : ℤ)
    → is_metric_name name ≡ true → IsMiddle middle → is_word number ≡ true → are_digits time ≡ true
    → build_of ((name_label, name) ∷ middle_pairs middle) ≡ Ok labels → Reads number (Number v) → t ≡ number_after 0 time → t ≤ greatest_time
    → LineGives 0 (name ++ (middle_text middle ++ (number ++ ((codes " " ++ time) ++ [])))) (Ok (sample (row labels t v)))
row_given name middle number time labels t v n m w d built read timed early = (
  record {
    parts = record { before = []; name = name; middle = middle; number = number; stamp = Some (record { gap = codes " "; digits = time }); behind = [] };
    lawful = record { before = refl; name = n; middle = m; number = w; stamp = record { gap = refl; digits = d }; behind = refl };
    spelled = refl;
    built = built;
    read = read;
    timed = timed;
  },
  early,
)

pub up_gives : Gives up_page 0 up_batch
unfolding clamp encode_utf8
up_gives = record {
  short = lit≤ tt;
  gives = record {
    each = sample (row up_a 60000 (pos 1000000)) ∷ [];
    given = (
      row_given (codes "up")
          (labelled [] (full (record { before = []; name = codes "job"; before_sign = []; behind_sign = []; value = codes "a"; behind = [] }) [] None) (codes " "))
          (codes "1") (codes "60000") up_a 60000 (pos 1000000) refl
          (refl, ((record { before = refl; name = refl; before_sign = refl; behind_sign = refl; value = (codes "a", (refl, refl)); behind = refl }, (tt, tt)), refl)) refl refl refl
          (number_read (codes "1") (pos 1000000) refl (lit≤ tt) (lit≤ tt) refl) refl (lit≤ tt),
      tt,
    );
    rows = refl;
    skipped = refl;
    few = lit≤ tt;
  };
}

-- ---- lines of a name, a number and a time alone

pub x_gives : Gives x_page 0 x_batch
unfolding clamp
x_gives = record {
  short = lit≤ tt;
  gives = record {
    each = sample (row (named (codes "x")) 60000 (pos 3000000)) ∷ sample (row (named (codes "x")) 120000 (pos 5000000)) ∷ [];
    given = (
      row_given (codes "x") (bare (codes " ")) (codes "3") (codes "60000") (named (codes "x")) 60000 (pos 3000000) refl refl refl refl refl
          (number_read (codes "3") (pos 3000000) refl (lit≤ tt) (lit≤ tt) refl) refl (lit≤ tt),
      (
        row_given (codes "x") (bare (codes " ")) (codes "5") (codes "120000") (named (codes "x")) 120000 (pos 5000000) refl refl refl refl refl
            (number_read (codes "5") (pos 5000000) refl (lit≤ tt) (lit≤ tt) refl) refl (lit≤ tt),
        tt,
      ),
    );
    rows = refl;
    skipped = refl;
    few = lit≤ tt;
  };
}

pub a_gives : Gives a_page 0 a_batch
unfolding clamp
a_gives = record {
  short = lit≤ tt;
  gives = record {
    each = sample (row (named (codes "x")) 2700000 (pos 5000000)) ∷ sample (row (named (codes "x")) 3600000 (pos 1000000)) ∷ [];
    given = (
      row_given (codes "x") (bare (codes " ")) (codes "5") (codes "2700000") (named (codes "x")) 2700000 (pos 5000000) refl refl refl refl refl
          (number_read (codes "5") (pos 5000000) refl (lit≤ tt) (lit≤ tt) refl) refl (lit≤ tt),
      (
        row_given (codes "x") (bare (codes " ")) (codes "1") (codes "3600000") (named (codes "x")) 3600000 (pos 1000000) refl refl refl refl refl
            (number_read (codes "1") (pos 1000000) refl (lit≤ tt) (lit≤ tt) refl) refl (lit≤ tt),
        tt,
      ),
    );
    rows = refl;
    skipped = refl;
    few = lit≤ tt;
  };
}

pub b_gives : Gives b_page 0 b_batch
unfolding clamp
b_gives = record {
  short = lit≤ tt;
  gives = record {
    each = sample (row (named (codes "x")) 3100000 (pos 7000000)) ∷ [];
    given = (
      row_given (codes "x") (bare (codes " ")) (codes "7") (codes "3100000") (named (codes "x")) 3100000 (pos 7000000) refl refl refl refl refl
          (number_read (codes "7") (pos 7000000) refl (lit≤ tt) (lit≤ tt) refl) refl (lit≤ tt),
      tt,
    );
    rows = refl;
    skipped = refl;
    few = lit≤ tt;
  };
}

pub c_gives : Gives c_page 0 c_batch
unfolding clamp
c_gives = record {
  short = lit≤ tt;
  gives = record {
    each = sample (row (named (codes "x")) 4000000 (pos 2000000)) ∷ [];
    given = (
      row_given (codes "x") (bare (codes " ")) (codes "2") (codes "4000000") (named (codes "x")) 4000000 (pos 2000000) refl refl refl refl refl
          (number_read (codes "2") (pos 2000000) refl (lit≤ tt) (lit≤ tt) refl) refl (lit≤ tt),
      tt,
    );
    rows = refl;
    skipped = refl;
    few = lit≤ tt;
  };
}

pub newest_gives : Gives newest_page 0 newest_batch
unfolding clamp
newest_gives = record {
  short = lit≤ tt;
  gives = record {
    each = sample (row (named (codes "x")) 3600000 (pos 1000000)) ∷ [];
    given = (
      row_given (codes "x") (bare (codes " ")) (codes "1") (codes "3600000") (named (codes "x")) 3600000 (pos 1000000) refl refl refl refl refl
          (number_read (codes "1") (pos 1000000) refl (lit≤ tt) (lit≤ tt) refl) refl (lit≤ tt),
      tt,
    );
    rows = refl;
    skipped = refl;
    few = lit≤ tt;
  };
}

pub older_gives : Gives older_page 0 older_batch
unfolding clamp
older_gives = record {
  short = lit≤ tt;
  gives = record {
    each = sample (row (named (codes "x")) 3100000 (pos 2000000)) ∷ [];
    given = (
      row_given (codes "x") (bare (codes " ")) (codes "2") (codes "3100000") (named (codes "x")) 3100000 (pos 2000000) refl refl refl refl refl
          (number_read (codes "2") (pos 2000000) refl (lit≤ tt) (lit≤ tt) refl) refl (lit≤ tt),
      tt,
    );
    rows = refl;
    skipped = refl;
    few = lit≤ tt;
  };
}

pub d_gives : Gives d_page 0 d_batch
unfolding clamp
d_gives = record {
  short = lit≤ tt;
  gives = record {
    each = sample (row (named (codes "up")) 60000 (pos 1000000)) ∷ sample (row (named (codes "up")) 3600000 (pos 1000000)) ∷ [];
    given = (
      row_given (codes "up") (bare (codes " ")) (codes "1") (codes "60000") (named (codes "up")) 60000 (pos 1000000) refl refl refl refl refl
          (number_read (codes "1") (pos 1000000) refl (lit≤ tt) (lit≤ tt) refl) refl (lit≤ tt),
      (
        row_given (codes "up") (bare (codes " ")) (codes "1") (codes "3600000") (named (codes "up")) 3600000 (pos 1000000) refl refl refl refl refl
            (number_read (codes "1") (pos 1000000) refl (lit≤ tt) (lit≤ tt) refl) refl (lit≤ tt),
        tt,
      ),
    );
    rows = refl;
    skipped = refl;
    few = lit≤ tt;
  };
}
