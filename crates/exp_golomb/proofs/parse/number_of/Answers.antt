use Rattle.std.proofs.Common.{inr, arith}
use Rattle.model.proofs.Codes.{fits_width}
use Rattle.exp_golomb.proofs.parse.number_of.Goals as goal

pub returns-then-zeros-width : goal.returns-then-zeros-width
returns-then-zeros-width c =
    (omega arith, fits_width c.args.width c.args.zeros c.args.low c.low_ones.result (omega arith) (omega arith) c.low_ones.ensures (inr (λ e. omega arith)))
