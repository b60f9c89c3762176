use Rattle.pf_match.proofs.pattern.Pattern.expander.Goals as goal

pub invariant_of-result : goal.invariant_of-result
invariant_of-result c =
    let made = c.in_ok-matcher.ensures in
    let reads = rw (c.capture_names.ensures, c.deref.ensures) at c.in_ok-pieces.ensures.read in
    rw (c.as_str.ensures.value, made.pattern, made.names, c.deref-2.ensures) (c.self.invariant, reads)
