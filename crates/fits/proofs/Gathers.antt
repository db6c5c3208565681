-- The ways of gathering a register: no line yet, one line more, a line that is refused, the last line.
-- Assumes nothing.
use mathlib.Core.Path.{◌≡◌, refl, sym, ◌∙◌, ap}
use mathlib.Core.List.{List, [], ◌∷◌, ◌++◌}
use Prim.Native.Nat.{ℕ, ◌+◌, ◌≤◌}
use Rattle.std.specs.Prelude.{Result, Ok, Err}
use Rattle.answers.specs.declared.Refusal.{Refusal}
use native.Mathlib.Omega.{arith}
use lib.ListN.{length, length-append}
use Rattle.register_lines.specs.declared.shelf.Shelf.{Shelf}
use Rattle.register_lines.specs.Enter.{empty_shelf, Entering}
use Rattle.register_lines.specs.Shelved.{room_for_all, refusal_in, nothing, one_more}
use Rattle.register_lines.proofs.Answers.{shelved_refuses}
use Rattle.fits.specs.Gather.{Standing, Gathering}

pub no_line : (tables : List ℕ) (shelf : Shelf) → shelf ≡ empty_shelf → room_for_all ≤ length tables → Standing tables shelf 0
no_line tables shelf e h = record { lines = []; shelved = rw e (nothing tables h); counted = refl }

module _ (tables : List ℕ) (shelf : Shelf) (k : ℕ) (s : Standing tables shelf k) where
  module _ (line new : List ℕ) (r : Result Shelf Refusal) (e : Entering tables shelf line new r) where
    pub line_entered : (more : Shelf) → r ≡ Ok more → Standing new more (k + 1)
    line_entered more h =
        record {
          lines = s.lines ++ (line ∷ []);
          shelved = rw e.leaves (one_more s.lines tables shelf line more s.shelved (sym e.answers ∙ h));
          counted = omega (arith, s.counted, length-append s.lines (line ∷ []));
        }

    pub line_refused : (x : Refusal) → r ≡ Err x → Gathering new (Err (record { number = k + 1; refusal = x }))
    line_refused x h =
        record {
          lines = s.lines;
          shelf = shelf;
          shelved = rw (e.kept x h) s.shelved;
          ended = (line, (omega (arith, s.counted), ap refusal_in (sym h ∙ e.answers) ∙ shelved_refuses s.shelved line));
        }
