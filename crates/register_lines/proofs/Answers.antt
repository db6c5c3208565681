-- What a shelf that came of lines answers: the lines' own answers.
-- Assumes nothing.
use mathlib.Core.Path.{◌≡◌, sym, ◌∙◌, ap}
use mathlib.Core.List.{List}
use Prim.Native.Nat.{ℕ, ◌≤◌}
use native.Mathlib.Omega.{arith}
use lib.ListN.{length}
use Rattle.version_reading.specs.Reading.{version_of}
use Rattle.register_entries.specs.Held.{entries_in}
use Rattle.register_rules.specs.declared.lowest.Lowest.TheVariants.{Nothing}
use Rattle.register_rules.specs.Lowest.{lowest_from}
use Rattle.register_rules.specs.Fit.{answered, fit_of}
use Rattle.register_rules.specs.Cases.{Sound}
use Rattle.register_rules.proofs.Breaking.{not_had}
use Rattle.register_rules.proofs.Answers.{sound_fit}
use Rattle.register_lines.specs.declared.shelf.Shelf.{Shelf}
use Rattle.register_lines.specs.Enter.{entered}
use Rattle.register_lines.specs.Shelved.{Shelved, refusal_in, refusal_behind, acceptors}
use Rattle.register_lines.proofs.Filed.{none_zero, all_within, all_well_formed, fitting_accepts}
use Rattle.register_lines.proofs.Shelves.{turned_away, stored, held_are, outcome, in_order}

module _ {lines : List (List ℕ)} {tables : List ℕ} {shelf : Shelf} (h : Shelved lines tables shelf) where
  -- a line is refused by the lines before it and its own list, and by nothing that is held of them
  pub shelved_refuses : (line : List ℕ) → refusal_in (entered tables shelf line) ≡ refusal_behind lines line
  shelved_refuses line =
      elim (outcome lines tables shelf (in_order h) line) [
        | turned_away x p is e f ↦ ap refusal_in e ∙ is
        | stored cs l few some new is e f ↦ ap refusal_in e ∙ is
      ]

  -- so there is always room for its table
  pub no_eleven : (line : List ℕ) → (refusal_in (entered tables shelf line)).number ≡ 11 → ⊥
  no_eleven line eleven =
      elim (outcome lines tables shelf (in_order h) line) [
        | turned_away x p is e f ↦ p.other (sym (ap (λ r. (refusal_in r).number) e) ∙ eleven)
        | stored cs l few some new is e f ↦
            let impossible : ◌≡◌ {A = ℕ} 0 11 = sym (ap (λ r. (refusal_in r).number) e) ∙ eleven in omega (arith, impossible)
      ]

  -- the answer to a version is that of the lists themselves, clause by clause, and no refusal of the register shows
  pub shelved_fits : (text : List ℕ) →
      fit_of (entries_in shelf.held) tables text ≡ answered (version_of text).verdict (lowest_from Nothing (acceptors lines text))
  shelved_fits text =
      let s = in_order h in
      let inside : shelf.used ≤ length tables = omega (arith, s.short, s.few, s.room) in
      let register : Sound s.es tables =
      record {
        few = s.few;
        no_zero = none_zero shelf.used tables s.filed;
        differ = λ j i low l. not_had tables s.es i l (s.apart i l) j low;
        within = all_within shelf.used tables s.filed inside;
        well_formed = all_well_formed shelf.used tables s.filed;
      } in
      rw (held_are s) (sound_fit s.es tables text register ∙ rw (fitting_accepts s.filed text))
