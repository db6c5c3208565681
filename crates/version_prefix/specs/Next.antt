-- The ends of what `==V.*` matches, as fields.
use Rattle.std.specs.Prelude.{cond, ℕ, zero, suc, ◌+◌, eqb, get_or, set, Option, None, Some}
use Rattle.version_parts.specs.declared.fields.Release.{Release}
use Rattle.version_parts.specs.declared.fields.Version.{Version}
use Rattle.version_parts.specs.Fields.{no_local, only_number}
use Rattle.decimal.specs.Parse.{largest}

-- an epoch and a release with `.dev0`
abbrev pub dev_zero_fields : ℕ → Release → Version
dev_zero_fields epoch release = record {
  epoch = epoch;
  release = release;
  pre = None;
  post = None;
  dev = Some 0;
  local = no_local;
}

-- where what `==V.*` matches begins
abbrev pub start_fields : Version → Version
start_fields v = dev_zero_fields v.epoch v.release

-- the release up to its number i, with n in that one's place
abbrev pub ending_in : Release → ℕ → ℕ → Release
ending_in r i n = record { numbers = set r.numbers i n; len = i + 1 }

-- the release up to its number i, and that one raised by 1
abbrev pub raised_at : Release → ℕ → Release
raised_at r i = ending_in r i (suc (get_or r.numbers i 0))

abbrev pub next : Version → Option Version
next v = Some v

abbrev pub no_next : Option Version
no_next = None

-- with no number left, epoch + 1 and release 0; with the largest epoch, none
unfoldable pub next_epoch : ℕ → Option Version
next_epoch epoch = cond (eqb epoch largest) no_next (next (dev_zero_fields (suc epoch) (only_number 0)))

-- where it ends, if it does, with the first `count` numbers for a prefix
unfoldable pub next_fields : ℕ → Release → ℕ → Option Version
next_fields epoch r zero = next_epoch epoch
next_fields epoch r (suc i) =
    cond (eqb (get_or r.numbers i 0) largest) (next_fields epoch r i) (next (dev_zero_fields epoch (raised_at r i)))
