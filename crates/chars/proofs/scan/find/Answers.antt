-- The bytes that the chain takes are those before the first b.
use Rattle.std.proofs.Common.{◌≡◌, ◌<◌, ◌∙◌, length, rules, tests, drop, nat_eq, not}
use Rattle.std.proofs.lemmas.Iterator.{YieldsList-from_slice}
use Rattle.std.proofs.lemmas.Iterator.Consumers.{count_from_yields_List}
use Rattle.std.proofs.lemmas.Iterator.Search.{YieldsList-from_take_while}
use Rattle.std.proofs.lemmas.List.Folds.{length-prefix_len}
use Rattle.chars.proofs.Parts.{take_rest}
use Rattle.chars.proofs.Scans.{found_as, found_past}
use Rattle.chars.proofs.scan.find.Goals as goal

pub returns-in-Some : goal.returns-in-Some
returns-in-Some c =
    let rest : c.in-Some.rest.now ≡ drop c.args.from c.args.s.now = c.in-Some.ensures.lookup.0.2 ∙ take_rest c.args.s.now c.args.from in
    found_as _ _ _ _ _ rest (count_from_yields_List c.take_while.result _ c.count.ensures.ran (YieldsList-from_take_while _ (λ x. not (nat_eq x c.args.b)) (YieldsList-from_slice c.in-Some.rest.now cc) c.take_while.ensures.closure c.take_while.ensures.done (λ x b q k. search (rules, tests))) ∙ length-prefix_len (λ x. not (nat_eq x c.args.b)) c.in-Some.rest.now)

pub returns-in-None : goal.returns-in-None
returns-in-None c =
    let past : length c.args.s.now < c.args.from = search rules in
    found_past _ _ _ past
