-- A text that is copied into a buffer with what stands behind it.
use Rattle.std.proofs.Common.{◌≡◌, ℕ, ◌+◌, ◌≤◌, List, ◌++◌, length, take, ap, sym, ◌∙◌, arith}
use Rattle.std.proofs.lemmas.List.{length-take, take-append-le}
use Rattle.std.proofs.Math.Seq.{take-append-add}
use borrow.Rule.Slice.PartMut.{put_mid, post_of}

pub copied : (old row bytes text : List ℕ) (start len n : ℕ) → start ≤ length old → len ≤ length row → row ≡ bytes → take len bytes ≡ text
    → take (start + len) (put_mid start n old row) ≡ take start old ++ text
copied old row bytes text start len n room within same is =
    let front : length (take start old) ≡ start = omega (arith, length-take start old) in
    ap (λ k. take (k + len) (put_mid start n old row)) (sym front)
    ∙ take-append-add (take start old) (row ++ post_of start n old) len
    ∙ ap (λ l. take start old ++ l) (take-append-le len row (post_of start n old) within ∙ ap (take len) same ∙ is)
