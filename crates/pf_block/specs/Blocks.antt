-- The samples of a snapshot in blocks, the newest last. Each block has samples of some series, by rising id and then by
-- time. Prometheus keeps samples so in time-ordered blocks; that they double is this project's own.
use Rattle.std.specs.Prelude.{ℕ, ◌+◌, ℤ, pos, Bool, true, ◌&&◌, ◌||◌, cond, Option, None, Some, List, [], ◌∷◌, ◌++◌, length, slice_index_or, int_le, nat_eq, nat_lt, nat_le}
use Rattle.pf_base.specs.declared.plain.Row.{Row}
use Rattle.pf_base.specs.declared.plain.Sample.{Sample}
use Rattle.pf_base.specs.LabelSets.{Pairs}
use Rattle.pf_block.specs.SeriesIds.{id_of}
use Rattle.pf_block.specs.Snaps.{sample_of}

-- samples, each with the id of its series
abbrev pub Entries : Type 0
Entries = List (ℕ × Sample)

-- the first stands before the second, or they are of one series and time
abbrev pub is_upto : ℕ × Sample → ℕ × Sample → Bool
is_upto a b = nat_lt a.0 b.0 || (nat_eq a.0 b.0 && int_le a.1.time b.1.time)

abbrev pub ascends_after : ℕ × Sample → Entries → Bool
ascends_after a [] = true
ascends_after a (b ∷ bs) = is_upto a b && ascends_after b bs

-- by rising id, and each series' by time
abbrev pub ascends : Entries → Bool
ascends [] = true
ascends (a ∷ es) = ascends_after a es

-- two sorted lists in one: each time the lesser of the two first entries, and where they are alike the first list's
abbrev pub put_before : ℕ × Sample → (Entries → Entries) → Entries → Entries
put_before a rest [] = a ∷ rest []
put_before a rest (b ∷ bs) = cond (is_upto a b) (a ∷ rest (b ∷ bs)) (b ∷ put_before a rest bs)

abbrev pub merged : Entries → Entries → Entries
merged [] others = others
merged (a ∷ es) others = put_before a (merged es) others

-- the entry at a place comes before the one of another list, or that list has none there
abbrev pub no_entry : ℕ × Sample
no_entry = (0, record { time = pos 0; value = pos 0 })

abbrev pub leads : Entries → ℕ → Entries → ℕ → Bool
leads es i fs j = nat_le (length fs) j || (nat_lt i (length es) && is_upto (slice_index_or es i no_entry) (slice_index_or fs j no_entry))

-- the samples of one series
abbrev pub samples_in : ℕ → Entries → List Sample
samples_in id [] = []
samples_in id (e ∷ es) = cond (nat_eq id e.0) (e.1 ∷ samples_in id es) (samples_in id es)

-- the labels with those of a row
abbrev pub noted_at : List Pairs → Pairs → Option ℕ → List Pairs
noted_at labels l None = labels ++ l ∷ []
noted_at labels l (Some id) = labels

abbrev pub noted : List Pairs → Pairs → List Pairs
noted labels l = noted_at labels l (id_of l labels)

abbrev pub labels_with : List Pairs → List Row → List Pairs
labels_with labels [] = labels
labels_with labels (r ∷ rs) = labels_with (noted labels r.labels) rs

-- the id of a row's series, the next one where it is new
abbrev pub number_at : List Pairs → Option ℕ → ℕ
number_at labels None = length labels
number_at labels (Some id) = id

abbrev pub number_of_labels : List Pairs → Pairs → ℕ
number_of_labels labels l = number_at labels (id_of l labels)

-- rows with the ids of their series
abbrev pub entries_of : List Pairs → List Row → Entries
entries_of labels [] = []
entries_of labels (r ∷ rs) = (number_of_labels labels r.labels, sample_of r) ∷ entries_of (noted labels r.labels) rs

-- the ids of the rows' series
abbrev pub row_ids : List Pairs → List Row → List ℕ
row_ids labels [] = []
row_ids labels (r ∷ rs) = number_of_labels labels r.labels ∷ row_ids (noted labels r.labels) rs

-- rows with such ids
abbrev pub entries_with : List ℕ → List Row → Entries
entries_with [] rows = []
entries_with (id ∷ ids) [] = []
entries_with (id ∷ ids) (r ∷ rs) = (id, sample_of r) ∷ entries_with ids rs

-- an entry as it is sorted
abbrev pub entry_of : ℕ × (ℤ × ℤ) → ℕ × Sample
entry_of k = (k.0, record { time = k.1.0; value = k.1.1 })

-- a sample's number in a list
abbrev pub same_sample : Sample → Sample → Bool
same_sample a b = int_le a.time b.time && int_le b.time a.time && int_le a.value b.value && int_le b.value a.value

abbrev pub times_in : Sample → List Sample → ℕ
times_in x [] = 0
times_in x (s ∷ ss) = cond (same_sample x s) 1 0 + times_in x ss
