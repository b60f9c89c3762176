-- Worked examples that the checker computes.
use Rattle.std.specs.Prelude.{◌≡◌, pos, negsuc, codes, refl, Some, None, []}
use Rattle.std.specs.Fmt.{digits}
use Rattle.pf_base.specs.NumberTexts.{value_text, without_end_zeros, decimal_micros, decimal_text, plus, minus}

one : value_text (pos 1000000) ≡ codes "1"
unfolding digits without_end_zeros
one = refl

one_and_a_half : value_text (pos 1500000) ≡ codes "1.5"
unfolding digits without_end_zeros
one_and_a_half = refl

least_below_zero : value_text (negsuc 0) ≡ codes "-0.000001"
unfolding digits without_end_zeros
least_below_zero = refl

six_places : value_text (pos 116666) ≡ codes "0.116666"
unfolding digits without_end_zeros
six_places = refl

inner_zeros : value_text (negsuc 10100499999) ≡ codes "-10100.5"
unfolding digits without_end_zeros
inner_zeros = refl

greatest : value_text (pos 1000000000000000000) ≡ codes "1000000000000"
unfolding digits without_end_zeros
greatest = refl

-- `1.7560473e+07`
with_exponent : decimal_micros (record { whole = codes "1"; fraction = Some (codes "7560473"); exponent = Some (record { letter = 101; sign = plus; digits = codes "07" }) }) ≡ 17560473000000
with_exponent = refl

its_text : decimal_text (record { whole = codes "1"; fraction = Some (codes "7560473"); exponent = Some (record { letter = 101; sign = plus; digits = codes "07" }) }) ≡ codes "1.7560473e+07"
its_text = refl

-- `0.0000019`
cut_down : decimal_micros (record { whole = codes "0"; fraction = Some (codes "0000019"); exponent = None }) ≡ 1
cut_down = refl

-- `.5e-1` and `5.`
lowered_half : decimal_micros (record { whole = []; fraction = Some (codes "5"); exponent = Some (record { letter = 101; sign = minus; digits = codes "1" }) }) ≡ 50000
lowered_half = refl

bare_point : decimal_text (record { whole = codes "5"; fraction = Some []; exponent = None }) ≡ codes "5."
bare_point = refl
