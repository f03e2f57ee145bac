-- Two answers that meet the contract of `value`, as the check reads it from the source, are the same: the contract tells the value, or the refusal.
use Rattle.paper.specs.Once.{Once}
use Rattle.table.proofs.Unique.{number_once}
use Rattle.value.proofs.value.Reads as reads
use Rattle.value.proofs.value.Kinds as kinds

pub value_once : Once 2 kinds.ps kinds.r reads.Pre reads.Post
value_once κs a v v' x x' q p p' = number_once v v' _ p p'
