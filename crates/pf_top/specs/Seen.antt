-- What a run sees of its outside: this project's own.
use Rattle.std.specs.Prelude.{◌≡◌, ℕ, Bool, false, Option, List, map, sum_by}
use Rattle.pf_model.specs.Lists.{Each}
use Rattle.pf_client.specs.Replays.{HasFailed, Reaches}
use Rattle.pf_top.specs.Refusals.{refused_read}

-- of the files
pub record FilesSeen : Type 0 where
  -- what they hold by name, where that is told
  pub told : List ℕ → Option (List ℕ)
  -- the names of which no read fails, and those of which every read does, as far as they are known
  pub sure : List ℕ → Bool
  pub lost : List ℕ → Bool
  -- the count of faults, before and after
  pub before : ℕ
  pub after : ℕ
  -- whether the last read failed
  pub failed : Bool

-- of files of any type, before and after
abbrev pub files_seen : {F : Type 0} → (told : F → List ℕ → Option (List ℕ)) → (sure lost : F → List ℕ → Bool) → (faults : F → ℕ) → (failed : F → Bool) → (old new : F) → FilesSeen
files_seen told sure lost faults failed old new =
    record { told = told old; sure = sure old; lost = lost old; before = faults old; after = faults new; failed = failed new }

-- of the hops, before
pub record HopsSeen : Type 0 where
  -- what each counts at most, where it tells that
  pub most : List (Option ℕ)
  -- their counts of faults, together
  pub before : ℕ

-- of hops of any type
abbrev pub hops_seen : {H : Type 0} → (most : H → Option ℕ) → (faults : H → ℕ) → List H → HopsSeen
hops_seen most faults hops = record { most = map most hops; before = sum_by faults hops }

pub record Outside : Type 0 where
  pub files : FilesSeen
  pub hops : HopsSeen
  -- the output's count of faults, before and after
  pub out_before : ℕ
  pub out_after : ℕ
  -- what the output holds, where that is told, before and after
  pub old : Option (List ℕ)
  pub new : Option (List ℕ)

-- all of these files were read: none of them is lost, and the count of faults did not rise
pub record AllRead (files : FilesSeen) (names : List (List ℕ)) : Type 0 where
  pub there : Each (λ name. files.lost name ≡ false) names
  pub steady : files.after ≡ files.before

-- text says which of these files was not read: the first that is lost, or one before it
pub record Unread (files : FilesSeen) (names : List (List ℕ)) (text : List ℕ) : Type 0 where
  pub name : List ℕ
  pub reached : Reaches files.lost names name
  pub fault : HasFailed files.sure files.before files.after files.failed name
  pub whole : text ≡ refused_read name
