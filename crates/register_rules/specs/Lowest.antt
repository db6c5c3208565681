-- The two lowest of some identifiers.
use Rattle.std.specs.Prelude.{List, [], ◌∷◌, cond, ℕ, ltb}
use Rattle.register_rules.specs.declared.lowest.Lowest.{Lowest}
use Rattle.register_rules.specs.declared.lowest.Lowest.TheVariants.{Nothing, One, Two}

-- one more beside the two lowest so far
abbrev pub lowered : Lowest → ℕ → Lowest
lowered Nothing id = One id
lowered (One first) id = cond (ltb id first) (Two id first) (Two first id)
lowered (Two first second) id = cond (ltb id first) (Two id first) (cond (ltb id second) (Two first id) (Two first second))

unfoldable pub lowest_from : Lowest → List ℕ → Lowest
lowest_from lowest [] = lowest
lowest_from lowest (id ∷ ids) = lowest_from (lowered lowest id) ids
