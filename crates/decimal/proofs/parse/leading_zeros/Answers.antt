-- The bytes that the chain takes are the zeros in front.
use Rattle.std.proofs.Common.{◌∙◌, rules, tests}
use Rattle.std.proofs.lemmas.Iterator.{YieldsList-from_slice}
use Rattle.std.proofs.lemmas.Iterator.Consumers.{count_from_yields_List}
use Rattle.std.proofs.lemmas.Iterator.Search.{YieldsList-from_take_while}
use Rattle.std.proofs.lemmas.List.Folds.{length-prefix_len}
use Rattle.chars.proofs.Classes.{counted_as}
use Rattle.decimal.specs.Parse.{is_zero}
use Rattle.decimal.proofs.parse.leading_zeros.Goals as goal

pub returns : goal.returns
returns c =
    counted_as _ _ _ (count_from_yields_List c.take_while.result _ c.count.ensures.ran (YieldsList-from_take_while _ is_zero (YieldsList-from_slice c.args.rest.now cc) c.take_while.ensures.closure c.take_while.ensures.done (λ x b q k. search (rules, tests))) ∙ length-prefix_len is_zero c.args.rest.now)
