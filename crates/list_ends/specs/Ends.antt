-- The two ends of each clause, as places.
use Rattle.std.specs.Prelude.{Bool, true, false, Option, None, Some}
use Rattle.ranges.specs.Cut.{bot, top, before, after}
use Rattle.version_reading.specs.Value.{Value}
use Rattle.version_prefix.specs.Prefix.{prefix_start, prefix_end, shorter}
use Rattle.list_clauses.specs.declared.operator.Operator.{Operator}
use Rattle.list_clauses.specs.declared.operator.Operator.TheVariants.{Equal, NotEqual, Compatible, AtMost, AtLeast, Below, Above}
use Rattle.list_clauses.specs.declared.clause.Clause.{Clause}
use Rattle.list_accepting.specs.Accept.{clause_value}
use Rattle.list_ends.specs.Cut.{Place}

-- before a version; where there is none, no end
abbrev pub ends_before : Option Value → Place
ends_before None = top
ends_before (Some v) = before v

-- a match ends before the next prefix with `.dev0`
abbrev pub match_end : Value → Place
match_end v = ends_before (prefix_end v)

-- `==V` starts before V, and `==V.*` before V`.dev0`
abbrev pub equal_start : Bool → Value → Place
equal_start false v = before v
equal_start true v = before (prefix_start v)

abbrev pub equal_end : Bool → Value → Place
equal_end false v = after v
equal_end true v = match_end v

-- the first end of what an operator with a version accepts, or, with `!=`, does not
abbrev pub first_place : Operator → Bool → Value → Place
first_place Equal wildcard v = equal_start wildcard v
first_place NotEqual wildcard v = equal_start wildcard v
first_place Compatible wildcard v = before v
first_place AtMost wildcard v = bot
first_place AtLeast wildcard v = before v
first_place Below wildcard v = bot
first_place Above wildcard v = after v

-- and the second
abbrev pub second_place : Operator → Bool → Value → Place
second_place Equal wildcard v = equal_end wildcard v
second_place NotEqual wildcard v = equal_end wildcard v
second_place Compatible wildcard v = match_end (shorter v)
second_place AtMost wildcard v = after v
second_place AtLeast wildcard v = top
second_place Below wildcard v = before v
second_place Above wildcard v = top

-- `!=` accepts all but what lies between its ends
abbrev pub hollow : Operator → Bool
hollow NotEqual = true
hollow Equal = false
hollow Compatible = false
hollow AtMost = false
hollow AtLeast = false
hollow Below = false
hollow Above = false

abbrev pub first_end : Clause → Place
first_end c = first_place c.operator c.wildcard (clause_value c)

abbrev pub second_end : Clause → Place
second_end c = second_place c.operator c.wildcard (clause_value c)
