use Rattle.where_index.proofs.Counting.{records_are_counted}
use Rattle.where_index.proofs.laws.records_are_counted.Goals as goal

pub returns : goal.returns
returns c = records_are_counted
