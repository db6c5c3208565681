-- An end's fields, and the place that they say.
use Rattle.std.specs.Prelude.{◌≡◌, [], ℕ, ◌≤◌, max, length}
use Rattle.ranges.specs.Cut.{bot, top, before, after}
use Rattle.version_parts.specs.declared.fields.Version.{Version}
use Rattle.version_parts.specs.Fields.{no_version}
use Rattle.version_reading.specs.Value.{value_of}
use Rattle.list_ends.specs.declared.end.Side.{Side}
use Rattle.list_ends.specs.declared.end.Side.TheVariants.{Bottom, Top, Before, After}
use Rattle.list_ends.specs.declared.end.End.{End}
use Rattle.list_ends.specs.Cut.{Place}

-- below all, at a version, above all; and before a version or after it
abbrev pub level_of : Side → ℕ
level_of Bottom = 0
level_of Top = 2
level_of Before = 1
level_of After = 1

abbrev pub side_of : Side → ℕ
side_of Bottom = 0
side_of Top = 0
side_of Before = 0
side_of After = 1

abbrev pub place_at : Side → Version → Place
place_at Bottom v = bot
place_at Top v = top
place_at Before v = before (value_of [] v)
place_at After v = after (value_of [] v)

-- the place that an end says
abbrev pub place_of : End → Place
place_of e = place_at e.side e.version

abbrev pub end_at : Side → Version → End
end_at side v = record { side = side; version = v }

abbrev pub bottom : End
bottom = end_at Bottom no_version

abbrev pub topmost : End
topmost = end_at Top no_version

-- as many release numbers as a version with these fields may have: 16, or more where it says so
abbrev pub most : Version → ℕ
most v = max 16 v.release.len

-- the fields say the place; what else is known of them makes their text the place's
pub record EndIs (p : Place) (room : ℕ) (r : End) : Type 0 where
  pub is : place_of r ≡ p
  pub few : r.version.release.len ≤ room
  pub size : length r.version.release.numbers ≡ 16
