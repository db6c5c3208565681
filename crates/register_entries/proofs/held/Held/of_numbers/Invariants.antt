-- So far the first entries are held.
use Rattle.std.proofs.Common.{◌≡◌, take}
use Rattle.register_entries.specs.Held.{held_of, entries_of}
use Rattle.register_entries.proofs.held.Held.of_numbers.Given as goal

abbrev pub invariant-loop-i : goal.invariant-loop-i
invariant-loop-i l = l.held ≡ held_of (take l.i (entries_of l.ids l.starts l.lengths))
