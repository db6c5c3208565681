-- `version_rows::figures::more_figures`: one digit more.
use Rattle.std.proofs.Common.{rules}
use Rattle.version_rows.proofs.FiguresRead.{digit_next}
use Rattle.version_rows.proofs.figures.more_figures.Goals as goal

pub loop-i-preserved : goal.loop-i-preserved
loop-i-preserved c =
    let digit = c.if-not-is_ascii_digit.ensures.cases in
    record {
      some = search rules;
      fits = search rules;
      text = digit_next _ _ _ _ c.loop-i.invariant.text c.loop-i.invariant.some c.loop-i-test.true digit.0 digit.1;
    }
