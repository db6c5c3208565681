-- The chain finds the first of the words.
use Rattle.std.proofs.Common.{◌∙◌, sym, ap, rules, tests, nat_eq, not, ℕ}
use Rattle.std.proofs.lemmas.Iterator.{YieldsList-from_map}
use Rattle.std.proofs.lemmas.Iterator.Adapters.{option_map_id}
use Rattle.std.proofs.lemmas.Iterator.Consumers.{YieldsList-from_enumerate, YieldsList-at}
use Rattle.std.proofs.lemmas.Iterator.Search.{find_from_yields_List}
use Rattle.std.proofs.lemmas.Iterator.Splits.{YieldsList-from_slice_split}
use Rattle.chars.specs.Case.{beginning_of}
use Rattle.chars.proofs.FirstWords.{word_of, word_chained}
use Rattle.chars.proofs.spelling.first_word.Goals as goal

pub returns-in-Some : goal.returns-in-Some
returns-in-Some c =
    word_chained _ _ c.find.result _
    (sym (option_map_id c.find.result)
    ∙ find_from_yields_List (λ (p : ℕ × ℕ). not (nat_eq p.1 0)) _ _ c.find.result c.find.ensures.ran
    (YieldsList-from_enumerate
    (YieldsList-at c.enumerate.ensures.source
    (YieldsList-from_map _ (λ w. beginning_of w c.args.rest.now)
    (YieldsList-at c.map-lens.ensures.source
    (YieldsList-from_slice_split _ (λ b. nat_eq b 32) c.args.words.now c.split.ensures.rest c.split.ensures.done c.split.ensures.closure (λ x b q k. search (rules, tests))))
    c.map-lens.ensures.closure
    (λ x r q k. search (rules, tests))))
    c.enumerate.ensures.count)
    (λ x b q k. search (rules, tests)))
    (ap word_of c.in-Some.is)

pub returns-in-None : goal.returns-in-None
returns-in-None c =
    word_chained _ _ c.find.result _
    (sym (option_map_id c.find.result)
    ∙ find_from_yields_List (λ (p : ℕ × ℕ). not (nat_eq p.1 0)) _ _ c.find.result c.find.ensures.ran
    (YieldsList-from_enumerate
    (YieldsList-at c.enumerate.ensures.source
    (YieldsList-from_map _ (λ w. beginning_of w c.args.rest.now)
    (YieldsList-at c.map-lens.ensures.source
    (YieldsList-from_slice_split _ (λ b. nat_eq b 32) c.args.words.now c.split.ensures.rest c.split.ensures.done c.split.ensures.closure (λ x b q k. search (rules, tests))))
    c.map-lens.ensures.closure
    (λ x r q k. search (rules, tests))))
    c.enumerate.ensures.count)
    (λ x b q k. search (rules, tests)))
    (ap word_of c.in-None.is)
