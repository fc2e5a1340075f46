use Rattle.std.proofs.Common.{rules}
use Rattle.links.proofs.Finding.{placed}
use Rattle.links.proofs.table.ops.place.Goals as goal

pub returns : goal.returns
returns c = placed c.args.link c.args.links.now _ c.partition_point.ensures.bound c.partition_point.ensures.partitioned c.requires (λ a r q k. search rules)
