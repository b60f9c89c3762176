-- The limits that definitions share: this project's own.
use Rattle.std.specs.Prelude.{ℕ, ℤ, pos, negsuc}

-- the greatest time, and the longest step, range and duration, in milliseconds: 2^42 - 1, in the year 2109
abbrev pub greatest_time : ℕ
greatest_time = 4398046511103

-- so many steps lie at most between the first time of a query and its last
abbrev pub most_steps : ℕ
most_steps = 11000

-- the greatest size of a value, in micros: 10^12
abbrev pub greatest_size : ℕ
greatest_size = 1000000000000000000

-- the greatest value and the least
abbrev pub greatest_value : ℤ
greatest_value = pos greatest_size

abbrev pub least_value : ℤ
least_value = negsuc 999999999999999999

-- the greatest number that an exponent writes
abbrev pub greatest_exponent : ℕ
greatest_exponent = 9999

-- the bytes that a number's text has at most
abbrev pub most_number_bytes : ℕ
most_number_bytes = 128

-- the samples that a file of exposition gives at most
abbrev pub most_samples : ℕ
most_samples = 2000000

-- the resolution of a subquery that has none, in milliseconds
abbrev pub minute : ℕ
minute = 60000

-- how far an instant selector looks back, in milliseconds
abbrev pub lookback : ℕ
lookback = 300000

-- the entries that a journal has at most
abbrev pub most_entries : ℕ
most_entries = 4000000
