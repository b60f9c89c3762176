-- Words that are read, on worked examples. The right sides were written by hand.
use Rattle.std.proofs.Common.{◌≡◌, Some, None, [], ◌∷◌, codes, refl}
use Rattle.pf_journal.specs.Scripts.{number_of}
use Rattle.pf_top.specs.Words.{limits_with, replay_words}

plain : replay_words (codes "replay" ∷ codes "s" ∷ []) ≡ Some (record { limit = None; window = None; interval = None; shards = None; extents = None; journal = None; script = codes "s" })
plain = refl

all_options : replay_words (codes "replay" ∷ codes "--journal" ∷ codes "4000000" ∷ codes "--window=0ms" ∷ codes "s" ∷ codes "--limit" ∷ codes "010" ∷ codes "--interval=1m30s" ∷ [])
    ≡ Some (record { limit = Some 10; window = Some 0; interval = Some 90000; shards = None; extents = None; journal = Some 4000000; script = codes "s" })
unfolding number_of
all_options = refl

-- behind `--` each word is the script's name
behind_dashes : replay_words (codes "replay" ∷ codes "--limit" ∷ codes "1" ∷ codes "--" ∷ codes "--limit" ∷ [])
    ≡ Some (record { limit = Some 1; window = None; interval = None; shards = None; extents = None; journal = None; script = codes "--limit" })
unfolding number_of
behind_dashes = refl

dash_alone : replay_words (codes "replay" ∷ codes "-" ∷ [])
    ≡ Some (record { limit = None; window = None; interval = None; shards = None; extents = None; journal = None; script = codes "-" })
dash_alone = refl

dashes_twice : replay_words (codes "replay" ∷ codes "--" ∷ codes "--" ∷ [])
    ≡ Some (record { limit = None; window = None; interval = None; shards = None; extents = None; journal = None; script = codes "--" })
dashes_twice = refl

-- none of the form
no_script : replay_words (codes "replay" ∷ codes "--limit" ∷ codes "1" ∷ []) ≡ None
unfolding number_of
no_script = refl

two_scripts : replay_words (codes "replay" ∷ codes "s" ∷ codes "t" ∷ []) ≡ None
two_scripts = refl

twice : replay_words (codes "replay" ∷ codes "--limit=1" ∷ codes "--limit=1" ∷ codes "s" ∷ []) ≡ None
unfolding number_of
twice = refl

no_value : replay_words (codes "replay" ∷ codes "s" ∷ codes "--limit" ∷ []) ≡ None
no_value = refl

value_begins_with_a_dash : replay_words (codes "replay" ∷ codes "s" ∷ codes "--limit" ∷ codes "-" ∷ []) ≡ None
value_begins_with_a_dash = refl

no_option : replay_words (codes "replay" ∷ codes "--queriers" ∷ codes "1" ∷ codes "s" ∷ []) ≡ None
no_option = refl

one_dash : replay_words (codes "replay" ∷ codes "-limit" ∷ codes "1" ∷ codes "s" ∷ []) ≡ None
one_dash = refl

-- the least and the greatest value, and one past them
least_limit : replay_words (codes "replay" ∷ codes "--limit=0" ∷ codes "s" ∷ []) ≡ None
unfolding number_of
least_limit = refl

greatest_limit : replay_words (codes "replay" ∷ codes "--limit=10001" ∷ codes "s" ∷ []) ≡ None
unfolding number_of
greatest_limit = refl

greatest_window : replay_words (codes "replay" ∷ codes "--window=4398046511103ms" ∷ codes "s" ∷ [])
    ≡ Some (record { limit = None; window = Some 4398046511103; interval = None; shards = None; extents = None; journal = None; script = codes "s" })
greatest_window = refl

past_window : replay_words (codes "replay" ∷ codes "--window=4398046511104ms" ∷ codes "s" ∷ []) ≡ None
past_window = refl

least_interval : replay_words (codes "replay" ∷ codes "--interval=1s" ∷ codes "s" ∷ [])
    ≡ Some (record { limit = None; window = None; interval = Some 1000; shards = None; extents = None; journal = None; script = codes "s" })
least_interval = refl

below_interval : replay_words (codes "replay" ∷ codes "--interval=999ms" ∷ codes "s" ∷ []) ≡ None
below_interval = refl

greatest_shards : replay_words (codes "replay" ∷ codes "s" ∷ codes "--shards=64" ∷ [])
    ≡ Some (record { limit = None; window = None; interval = None; shards = Some 64; extents = None; journal = None; script = codes "s" })
unfolding number_of
greatest_shards = refl

past_shards : replay_words (codes "replay" ∷ codes "--shards=65" ∷ codes "s" ∷ []) ≡ None
unfolding number_of
past_shards = refl

least_shards : replay_words (codes "replay" ∷ codes "--shards" ∷ codes "0" ∷ codes "s" ∷ []) ≡ None
unfolding number_of
least_shards = refl

greatest_extents : replay_words (codes "replay" ∷ codes "--extents=4096" ∷ codes "s" ∷ [])
    ≡ Some (record { limit = None; window = None; interval = None; shards = None; extents = Some 4096; journal = None; script = codes "s" })
unfolding number_of
greatest_extents = refl

past_extents : replay_words (codes "replay" ∷ codes "s" ∷ codes "--extents" ∷ codes "4097" ∷ []) ≡ None
unfolding number_of
past_extents = refl

least_extents : replay_words (codes "replay" ∷ codes "--extents=0" ∷ codes "s" ∷ []) ≡ None
unfolding number_of
least_extents = refl

past_journal : replay_words (codes "replay" ∷ codes "--journal=4000001" ∷ codes "s" ∷ []) ≡ None
unfolding number_of
past_journal = refl

-- what isn't chosen stays
chosen : limits_with (record { outstanding = 100; window = 600000; interval = 86400000; shards = 4; extents = 256; journal = 4000000 })
    (record { limit = Some 2; window = None; interval = Some 120000; shards = None; extents = Some 1; journal = None; script = codes "s" })
    ≡ record { outstanding = 2; window = 600000; interval = 120000; shards = 4; extents = 1; journal = 4000000 }
chosen = refl
