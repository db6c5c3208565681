-- The bytes that the chain takes are the run.
use Rattle.std.proofs.Common.{◌∙◌, rules, tests}
use Rattle.std.proofs.lemmas.Iterator.{YieldsList-from_slice}
use Rattle.std.proofs.lemmas.Iterator.Consumers.{count_from_yields_List}
use Rattle.std.proofs.lemmas.Iterator.Search.{YieldsList-from_take_while}
use Rattle.std.proofs.lemmas.List.Folds.{length-prefix_len}
use Rattle.chars.specs.Class.{between}
use Rattle.chars.proofs.Classes.{counted_as}
use Rattle.chars.proofs.class.run.Goals as goal

pub returns : goal.returns
returns c =
    let test = between c.args.low c.args.high in
    counted_as test _ _ (count_from_yields_List c.take_while.result _ c.count.ensures.ran (YieldsList-from_take_while _ test (YieldsList-from_slice c.args.s.now cc) c.take_while.ensures.closure c.take_while.ensures.done (λ x b q k. search (rules, tests))) ∙ length-prefix_len test c.args.s.now)
