-- `list_clauses::clause::judge` meets its contract: one law for each way out.
-- Assumes nothing.
use Rattle.chars.proofs.Cases.{cases}
use Rattle.list_clauses.specs.Clause.{judged}
use borrow.Author.Rules.{rules}
use Rattle.list_clauses.proofs.clause.judge.Goals as goal

pub returns-then-stray_wildcard : goal.returns-then-stray_wildcard
unfolding judged
returns-then-stray_wildcard c = record { is = search cases; few = search rules }

pub returns-then-version-ne0 : goal.returns-then-version-ne0
unfolding judged
returns-then-version-ne0 c = record { is = search cases; few = search rules }

pub returns-then-too_short : goal.returns-then-too_short
unfolding judged
returns-then-too_short c = record { is = search cases; few = search rules }

pub returns : goal.returns
unfolding judged
returns c = record { is = search cases; few = search rules }
