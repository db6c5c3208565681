-- `version_normal::numbers::put_kind` meets its contract.
-- Assumes nothing.
use borrow.Author.Rules.{rules}
use Rattle.chars.specs.declared.spelling.PreKind.TheVariants.{Alpha, Beta, Rc}
use Rattle.version_normal.proofs.Texts.{kind_there}
use Rattle.version_normal.proofs.numbers.put_kind.Goals as goal

pub returns-in-Alpha : goal.returns-in-Alpha
returns-in-Alpha c = record { wrote = search (kind_there Alpha); near = search rules }

pub returns-in-Beta : goal.returns-in-Beta
returns-in-Beta c = record { wrote = search (kind_there Beta); near = search rules }

pub returns-in-Rc : goal.returns-in-Rc
returns-in-Rc c = record { wrote = search (kind_there Rc); near = search rules }
