use Rattle.std.proofs.Common.{◌-ℤ◌, ◌≤ℤ◌, pos}
use Rattle.pf_range.specs.Windows.{IsTime}
use Rattle.pf_selectors.proofs.StepTimes.{of_one, span_high, span_low}
use Rattle.pf_selectors.proofs.times.Times.span.Goals as goal

pub returns-then-is_empty : goal.returns-then-is_empty
returns-then-is_empty c =
    let t = c.args.self.now in
    let s = c.span_of_ends.ensures in
    record {
      low = λ k h. span_low t _ _ t.len k s h;
      high = λ k h. span_high t _ _ t.len k s h;
      first = of_one IsTime t _ t.len s.least c.requires.times;
      last = of_one IsTime t _ t.len s.greatest c.requires.times;
      starts = λ range h. of_one (λ z. IsTime (z -ℤ pos range)) t _ t.len s.least h;
      least = λ bound h. of_one (λ z. bound ≤ℤ z) t _ t.len s.least h;
      greatest = λ bound h. of_one (λ z. z ≤ℤ bound) t _ t.len s.greatest h;
    }

pub returns-else-is_empty : goal.returns-else-is_empty
returns-else-is_empty c =
    let t = c.args.self.now in
    let s = c.span_of_all.ensures in
    record {
      low = λ k h. span_low t _ _ t.len k s h;
      high = λ k h. span_high t _ _ t.len k s h;
      first = of_one IsTime t _ t.len s.least c.requires.times;
      last = of_one IsTime t _ t.len s.greatest c.requires.times;
      starts = λ range h. of_one (λ z. IsTime (z -ℤ pos range)) t _ t.len s.least h;
      least = λ bound h. of_one (λ z. bound ≤ℤ z) t _ t.len s.least h;
      greatest = λ bound h. of_one (λ z. z ≤ℤ bound) t _ t.len s.greatest h;
    }
