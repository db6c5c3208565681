-- The bodies of ends: V's normal text, or none.
use Rattle.std.specs.Prelude.{cond, List, ℕ, eqb, length, Option, None, Some}
use Rattle.ranges.specs.Cut.{bot, top, before, after}
use Rattle.version_reading.specs.Value.{Value}
use Rattle.version_rows.specs.Normal.{normal_value}
use Rattle.list_ends.specs.declared.end.Side.{Side}
use Rattle.list_ends.specs.declared.end.Side.TheVariants.{Bottom, Top, Before, After}
use Rattle.list_ends.specs.Cut.{Place}

abbrev pub at : (Value → Place) → Option Value → Option Place
at side None = None
at side (Some v) = Some (side v)

-- none below and none above have no body
abbrev pub bare : Place → List ℕ → Option Place
bare p body = cond (eqb (length body) 0) (Some p) None

-- the end of a side with a body
abbrev pub end_of : Side → List ℕ → Option Place
end_of Bottom body = bare bot body
end_of Top body = bare top body
end_of Before body = at before (normal_value body)
end_of After body = at after (normal_value body)
