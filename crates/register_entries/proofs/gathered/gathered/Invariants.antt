-- So far the first entries are held.
use Rattle.std.proofs.Common.{◌≡◌, take}
use Rattle.register_entries.specs.Held.{held_of}
use Rattle.register_entries.proofs.gathered.gathered.Given as goal

abbrev pub invariant-loop-entry : goal.invariant-loop-entry
invariant-loop-entry l = l.held ≡ held_of (take l.entry-index l.entries)
