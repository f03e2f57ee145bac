-- A record for each rank.
use Rattle.std.proofs.Common.{arith}
use Rattle.parse.proofs.SkimLaws.{stand_nought, stand_minus, stand_product, stand_sum}
use Rattle.parse.proofs.put_stand_in.Goals as goal

pub returns-in-0 : goal.returns-in-0
returns-in-0 c = let h = c.in-0.is in stand_nought c.args.k (omega (arith, h)) c.put_record.ensures

pub returns-in-1 : goal.returns-in-1
returns-in-1 c = let h = c.in-1.is in stand_minus c.args.k (omega (arith, h)) (omega (arith, h)) c.put_record-in-1.ensures

pub returns-in-2 : goal.returns-in-2
returns-in-2 c = let h = c.in-2.is in stand_product c.args.k (omega (arith, h)) (omega (arith, h)) c.put_record-in-2.ensures

pub returns-in_default : goal.returns-in_default
returns-in_default c = let h = c.requires in stand_sum c.args.k (omega (arith, h)) h c.put_record-in_default.ensures
