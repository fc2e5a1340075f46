use Rattle.std.proofs.Common.{◌∙◌}
use Rattle.words.specs.Parts.{empty}
use Rattle.words.proofs.part.Partial.empty.Goals as goal

pub at-requires-clause-single : goal.at-requires-clause-single
at-requires-clause-single g c = (empty g.U.Unsigned.WIDTH).single

pub returns : goal.returns
returns g c = c.at.ensures ∙ (empty g.U.Unsigned.WIDTH).holds
