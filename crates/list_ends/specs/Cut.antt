-- The places between versions, labels left out: the order of tables.
use Rattle.std.specs.Prelude.{Bool}
use Rattle.ranges.specs.Cut.{Cut, le_cut}
use Rattle.version_reading.specs.Value.{Value}
use Rattle.version_order.specs.Versions.{compare_public}

abbrev pub Place : Type 0
Place = Cut Value

abbrev pub le_place : Place → Place → Bool
le_place = le_cut compare_public
