-- The start, the turn and each way out are laws of proofs.Values.
use Rattle.std.proofs.Common.{◌≡◌, true, false, get_or, arith, rules, tests}
use Rattle.std.specs.Char.{is_ascii_digit}
use Rattle.decimal.proofs.Values.{counted_within, lead_count, lead_start, lead_stop, lead_past, lead_same, lead_value, lead_big}
use Rattle.decimal.proofs.parse.leading_number.Goals as goal

pub loop-i-init : goal.loop-i-init
loop-i-init c = (search rules, omega arith, search lead_count, search lead_start)

pub returns-then-not-is_ascii_digit : goal.returns-then-not-is_ascii_digit
returns-then-not-is_ascii_digit c =
    let other : is_ascii_digit (get_or c.args.rest.now c.loop-i.i 0) ≡ false = search (rules, tests) in
    record {
      is = lead_stop _ _ _ c.loop-i.invariant.2 c.loop-i.invariant.3 _ (omega arith) other c.loop-i.invariant.1 c.counted.ensures;
      within = counted_within _ _ _ _ c.counted.ensures c.loop-i.invariant.0;
    }

pub returns-in-None : goal.returns-in-None
returns-in-None c =
    let one : is_ascii_digit (get_or c.args.rest.now c.loop-i.i 0) ≡ true = search (rules, tests) in
    record {
      is = lead_big _ _ _ c.loop-i.invariant.2 c.loop-i.invariant.3 _ (omega arith) one c.digit.ensures.is c.in-None.ensures;
      within = omega arith;
    }

pub loop-i-preserved : goal.loop-i-preserved
loop-i-preserved c =
    let one : is_ascii_digit (get_or c.args.rest.now c.loop-i.i 0) ≡ true = search (rules, tests) in (
      omega arith,
      search rules,
      lead_same _ _ _ c.loop-i.invariant.2 c.loop-i.invariant.3 _ (omega arith) one c.digit.ensures.is,
      lead_value _ _ _ c.loop-i.invariant.2 c.loop-i.invariant.3 _ (omega arith) one c.digit.ensures.is _ c.in-Some.ensures,
    )

pub returns : goal.returns
returns c = record {
  is = lead_past _ _ _ c.loop-i.invariant.2 c.loop-i.invariant.3 _ (omega arith) c.loop-i.invariant.1 c.counted-2.ensures;
  within = counted_within _ _ _ _ c.counted-2.ensures (omega arith);
}
