-- The generated session: this project's own. Its draws are numbered from 0, and all but the seed is fixed.
use Rattle.std.specs.Fmt.{decimal}
use Rattle.std.specs.Prelude.{ℕ, zero, suc, ◌+◌, ◌*◌, ◌%◌, codes, List, [], ◌∷◌, ◌++◌}
use Rattle.pf_gen.specs.Draws.{behind, drawn_behind}

-- the texts of the numbers below one, one after another
unfoldable pub all_below : (ℕ → List ℕ) → ℕ → List ℕ
all_below text zero = []
all_below text (suc n) = all_below text n ++ text n

-- ---- pages

-- the sample of a series at a minute
abbrev pub sample_line : (series value minute : ℕ) → List ℕ
sample_line series value minute =
    codes "m{i=\"" ++ (decimal series ++ (codes "\"} " ++ (decimal value ++ (codes " " ++ (decimal (minute * 60000) ++ codes "\n")))))

-- the samples of a series at 721 minutes, by the draws from a state on
abbrev pub drawn_line : (state series minute : ℕ) → List ℕ
drawn_line state series minute = sample_line series (drawn_behind minute state % 1000) minute

abbrev pub series_text : (state series : ℕ) → List ℕ
series_text state series = all_below (drawn_line state series) 721

-- the page of a tenant, with 100 series
abbrev pub drawn_series : (state series : ℕ) → List ℕ
drawn_series state series = series_text (behind (series * 721) state) series

abbrev pub page_text : (state : ℕ) → List ℕ
page_text state = all_below (drawn_series state) 100

abbrev pub name_of : (tenant : ℕ) → List ℕ
name_of tenant = codes "g" ++ decimal tenant

-- a tenant's page with its name, by the draws from a state on
abbrev pub page_of : (state tenant : ℕ) → List ℕ × List ℕ
page_of state tenant = (name_of tenant, page_text state)

unfoldable pub pages_below : (state : ℕ) → ℕ → List (List ℕ × List ℕ)
pages_below state zero = []
pages_below state (suc n) = pages_below state n ++ page_of (behind (n * 72100) state) n ∷ []

-- ---- the script

abbrev pub ingest_line : (tenant : ℕ) → List ℕ
ingest_line tenant = codes "ingest t" ++ (decimal tenant ++ (codes " g" ++ (decimal tenant ++ codes "\n")))

abbrev pub query_text : ℕ → List ℕ
query_text zero = codes "sum(m)"
query_text (suc zero) = codes "sum by (i) (rate(m[5m]))"
query_text (suc (suc zero)) = codes "max(m) - min(m)"
query_text (suc (suc (suc zero))) = codes "avg_over_time(m{i=\"7\"}[10m])"
query_text (suc (suc (suc (suc n)))) = codes "topk(3, m)"

-- the times of a query, over six hours by the minute
abbrev pub times_text : (start : ℕ) → List ℕ
times_text start = decimal start ++ (codes " " ++ (decimal (start + 21600000) ++ codes " 60000 "))

-- the lines of a query by its number: its ask, up to its times and whole, and its answer
abbrev pub ask_front : (number : ℕ) → List ℕ
ask_front number = codes "ask q" ++ (decimal number ++ (codes " t" ++ (decimal (number % 4) ++ codes " ")))

abbrev pub ask_line : (number query start : ℕ) → List ℕ
ask_line number query start = ask_front number ++ (times_text start ++ (query_text query ++ codes "\n"))

abbrev pub answer_line : (number : ℕ) → List ℕ
answer_line number = codes "answer q" ++ (decimal number ++ codes "\n")

abbrev pub query_lines : (number query start : ℕ) → List ℕ
query_lines number query start = ask_line number query start ++ answer_line number

-- by two draws from a state on
abbrev pub drawn_lines : (state number : ℕ) → List ℕ
drawn_lines state number = query_lines number (drawn_behind 0 state % 5) (drawn_behind 1 state % 360 * 60000)

abbrev pub numbered_lines : (state number : ℕ) → List ℕ
numbered_lines state number = drawn_lines (behind (number * 2) state) number

-- from a state on: four tenants' pages are taken in, and a hundred queries are asked and answered
abbrev pub script_text : (state : ℕ) → List ℕ
script_text state = all_below ingest_line 4 ++ all_below (numbered_lines state) 100

-- ---- the session of a seed

pub record Session : Type 0 where
  pub files : List (List ℕ × List ℕ)
  pub script : List ℕ

abbrev pub session : (seed : ℕ) → Session
session seed = record { files = pages_below seed 4; script = script_text (behind 288400 seed) }
