-- `fragment_reader::lent::reset` meets its contract: all zeros are a new reader.
-- Assumes nothing.
use Rattle.fragment_reader.proofs.Bytes.{all_zeros}
use Rattle.fragment_reader.proofs.lent.reset.Goals as goal

pub returns : goal.returns
returns c = search all_zeros
