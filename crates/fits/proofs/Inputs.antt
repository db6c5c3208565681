-- Whatever the reads bring at a time, the answers are those to the lines of the input: a version that is told in part is too long, and all such
-- have one answer. A register's line of up to 65,536 bytes is told whole.
-- Assumes nothing.
use Rattle.answers.specs.declared.RefusedInput.TheVariants.{Second}
use Rattle.std.specs.Prelude.{Err}
use mathlib.Core.Path.{◌≡◌, refl, ap}
use mathlib.Core.Logic.{inl, inr}
use mathlib.Core.List.{List, [], ◌∷◌, map}
use Prim.Native.Nat.{ℕ, ◌≤◌, ◌<◌}
use native.Mathlib.Decide.{dec_lt}
use native.Mathlib.Omega.{arith}
use lib.ListN.{length}
use Rattle.answers.specs.Refusal.{refusal}
use Rattle.order.specs.All.{All}
use Rattle.version_reading.specs.Reading.{longest}
use Rattle.version.specs.Refusals.{Row}
use Rattle.version.proofs.Exactly.{version_refused_exactly}
use Rattle.register_entries.specs.declared.entry.Entry.{Entry}
use Rattle.register_rules.specs.Fit.{fit_of}
use Rattle.register_rules.specs.Cases.{Sound}
use Rattle.register_rules.proofs.Answers.{refused_in_its_case}
use Rattle.register_rules.proofs.Exactly.{sound_or_fault, version_refused_exactly as of_version}
use Rattle.lines.specs.Run.{Shown, AllShown}
use Rattle.fits.specs.Answer.{fit_line}

-- the longest line that is told whole
abbrev pub longest_line : ℕ
longest_line = 65536

module _ (es : List Entry) (tables : List ℕ) where
  abbrev pub line_for : List ℕ → List ℕ
  line_for version = fit_line (fit_of es tables version) version

  -- versions that are too long have one answer: the register's refusal, or their own
  own : (version : List ℕ) → longest < length version → Sound es tables → fit_of es tables version ≡ Err (Second (refusal 8 longest))
  own version long sound = (of_version es tables version (refusal 8 longest)).1 (sound, (version_refused_exactly version 8 longest).1 (Row.too_long long))

  long_answer : (v w : List ℕ) → longest < length v → longest < length w → line_for v ≡ line_for w
  long_answer v w h g =
      elim (sound_or_fault es tables) [
        | inl sound ↦ rw (own v h sound, own w g sound)
        | inr fault ↦ rw (refused_in_its_case es tables v _ _ fault.2, refused_in_its_case es tables w _ _ fault.2)
      ]

  pub shown_answer : (line shown : List ℕ) → Shown longest_line line shown → line_for shown ≡ line_for line
  shown_answer line shown s =
      elim (dec_lt longest_line (length line)) [
        | yes long ↦ let cut = s.cut long in long_answer shown line (omega arith) (omega arith)
        | no short ↦ ap line_for (s.whole (omega arith))
      ]

  -- all versions of an input
  pub same_answers : (lines shown : List (List ℕ)) → AllShown longest_line lines shown → map line_for shown ≡ map line_for lines
  same_answers [] [] s = refl
  same_answers [] (x ∷ shown) s = elim s [ ]
  same_answers (line ∷ lines) [] s = elim s [ ]
  same_answers (line ∷ lines) (x ∷ shown) s = rw (shown_answer line x s.0, same_answers lines shown s.1)

-- all lines of a register
pub same_lines : (lines shown : List (List ℕ)) → AllShown longest_line lines shown → All (λ line. length line ≤ longest_line) lines → shown ≡ lines
same_lines [] [] s short = refl
same_lines [] (x ∷ shown) s short = elim s [ ]
same_lines (line ∷ lines) [] s short = elim s [ ]
same_lines (line ∷ lines) (x ∷ shown) s short = rw (s.0.whole short.0, same_lines lines shown s.1 short.1)
