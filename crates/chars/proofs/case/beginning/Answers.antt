-- The pairs of bytes are all the same, or the text differs or is shorter.
use Rattle.std.proofs.Common.{ℕ, sym, ◌∙◌, nat_eq, rules, tests}
use Rattle.std.proofs.lemmas.Iterator.{YieldsList-from_slice, YieldsList-from_zip}
use Rattle.std.proofs.lemmas.Iterator.Search.{all_from_yields_List}
use Rattle.chars.specs.Case.{lower_of}
use Rattle.chars.proofs.Beginnings.{begun_as, not_begun_as, too_short}
use Rattle.chars.proofs.case.beginning.Goals as goal
use Rattle.chars.proofs.case.beginning.Goals.{else-word-s-via-then-word-s+else-all, else-word-s-via-else-word-s}

pub returns-then-all : goal.returns-then-all
returns-then-all c =
    begun_as _ _ c.if-word-s.true
    (sym c.if-all.true ∙ all_from_yields_List (λ (p : ℕ × ℕ). nat_eq (lower_of p.0) p.1) c.all.new.self _ _ c.all.ensures.ran (YieldsList-from_zip (YieldsList-from_slice c.args.s.now cc) (YieldsList-from_slice c.args.word.now cc)) (λ x b q k. search (rules, tests)))

pub returns-else-word-s : goal.returns-else-word-s
returns-else-word-s c =
    elim c.else-word-s.branch [
      | else-word-s-via-then-word-s+else-all w ↦
          not_begun_as _ _ w.if-word-s.true
          (sym w.if-all.false ∙ all_from_yields_List (λ (p : ℕ × ℕ). nat_eq (lower_of p.0) p.1) w.all.new.self _ _ w.all.ensures.ran (YieldsList-from_zip (YieldsList-from_slice c.args.s.now cc) (YieldsList-from_slice c.args.word.now cc)) (λ x b q k. search (rules, tests)))
      | else-word-s-via-else-word-s w ↦ too_short _ _ w.if-word-s.false
    ]
