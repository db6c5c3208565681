-- The body of an end's record, from the end's fields.
use Rattle.std.specs.Prelude.{List, [], ℕ}
use Rattle.version_parts.specs.declared.fields.Version.{Version}
use Rattle.version_normal.specs.Normal.{version_text}
use Rattle.list_ends.specs.declared.end.Side.{Side}
use Rattle.list_ends.specs.declared.end.Side.TheVariants.{Bottom, Top, Before, After}
use Rattle.list_ends.specs.declared.end.End.{End}

abbrev pub side_text : Side → Version → List ℕ
side_text Bottom v = []
side_text Top v = []
side_text Before v = version_text [] v
side_text After v = version_text [] v

abbrev pub end_text : End → List ℕ
end_text e = side_text e.side e.version
