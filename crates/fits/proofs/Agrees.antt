-- The program's promise: the answer to a version is that of the lists themselves, clause by clause, though the program asks their tables. No line
-- says a refusal of the register.
-- Assumes nothing.
use mathlib.Core.Path.{◌≡◌, ap}
use mathlib.Core.List.{List}
use Prim.Native.Nat.{ℕ}
use Rattle.version_reading.specs.Reading.{version_of}
use Rattle.register_entries.specs.Held.{entries_in}
use Rattle.register_rules.specs.declared.lowest.Lowest.TheVariants.{Nothing}
use Rattle.register_rules.specs.Lowest.{lowest_from}
use Rattle.register_rules.specs.Fit.{answered, fit_of}
use Rattle.register_lines.specs.declared.shelf.Shelf.{Shelf}
use Rattle.register_lines.specs.Shelved.{Shelved, acceptors}
use Rattle.register_lines.proofs.Answers.{shelved_fits}
use Rattle.fits.specs.Answer.{fit_line}

pub answers_agree : {lines : List (List ℕ)} {tables : List ℕ} {shelf : Shelf} → Shelved lines tables shelf → (version : List ℕ) →
    fit_line (fit_of (entries_in shelf.held) tables version) version
    ≡ fit_line (answered (version_of version).verdict (lowest_from Nothing (acceptors lines version))) version
answers_agree h version = ap (λ f. fit_line f version) (shelved_fits h version)
