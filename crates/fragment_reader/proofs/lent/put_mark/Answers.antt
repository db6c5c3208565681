-- `fragment_reader::lent::put_mark` meets its contract: three stores after the text.
-- Assumes nothing.
use borrow.Author.Rules.{rules}
use Rattle.fragment_rules.specs.Lent.{lent}
use Rattle.fragment_reader.proofs.Bytes.{mark_put}
use Rattle.fragment_reader.proofs.lent.put_mark.Goals as goal

pub returns : goal.returns
unfolding lent
returns c = search mark_put
