-- Each step over the clauses but the last passes a comma.
-- Assumes nothing.
use mathlib.Core.Path.{◌≡◌, sym, ap, ◌∙◌}
use mathlib.Core.Bool.{false}
use mathlib.Core.List.{List, [], ◌∷◌}
use Prim.Native.Nat.{ℕ, suc, ◌+◌, ◌<◌}
use native.Mathlib.Omega.{arith}
use lib.Dec.{eqb}
use lib.ListN.{length, drop, length-drop}
use lib.Seq.{drop-drop}
use borrow.Author.Tests.{lt-leb, leb-false}
use Rattle.std.specs.Bool.{◌==◌}
use Rattle.std.specs.List.{filter}
use Rattle.std.proofs.lemmas.List.Sums.{length-filter}
use Rattle.chars.specs.Scan.{index_after, index_of}
use Rattle.version.proofs.Answers.{flag_cases, holds, fails}
use Rattle.list_clauses.specs.declared.step.Step.{Step}
use Rattle.list_clauses.specs.Commas.{commas_in}
use Rattle.list_clauses.specs.Step.{comma_after, part_at, step_at}

-- the first comma, and those after it
abbrev commas : List ℕ → List ℕ
commas t = filter (λ b. b == 44) t

first_comma : (t : List ℕ) → index_of 44 t < length t → length (commas t) ≡ suc (length (commas (drop (index_of 44 t + 1) t)))
unfolding index_of index_after
first_comma [] h = absurd (omega arith)
first_comma (b ∷ t) h =
    elim (flag_cases (eqb b 44)) [
      | holds e ↦ rw e (omega arith)
      | fails e ↦
          let less : suc (index_of 44 t) < suc (length t) = rw e at h in
          let one : suc (index_of 44 t) + 1 ≡ suc (index_of 44 t + 1) = omega arith in
          rw (e, one) (omega (arith, first_comma t (omega arith)))
    ]

pub comma_passed : (s : List ℕ) (start : ℕ) (x : Step) → x ≡ step_at s start → x.part.last ≡ false →
    commas_in (drop start s) ≡ suc (commas_in (drop x.part.next s))
unfolding step_at part_at comma_after commas_in
comma_passed s start x e last =
    let rest = drop start s in
    let found : comma_after s start < length s = leb-false (length s) (comma_after s start) (rw e at last) in
    let inside : index_of 44 rest < length rest = omega (arith, length-drop start s) in
    let next : x.part.next ≡ start + (index_of 44 rest + 1) =
    rw (e, lt-leb (length s) (comma_after s start) found) (omega arith) in
    let next_rest = drop (index_of 44 rest + 1) rest in
    rw (next, ← drop-drop (index_of 44 rest + 1) start s)
    (sym (length-filter _ rest) ∙ first_comma rest inside ∙ ap suc (length-filter _ next_rest))
