use Rattle.std.proofs.Common.{ap, arith, get_or, []}
use Rattle.std.proofs.lemmas.Result.{err_from_is_err_and}
use Rattle.links.proofs.Handing.{none_yet}
use Rattle.links.proofs.table.LinkTable.add_rows.Goals as goal

pub loop-i-init : goal.loop-i-init
loop-i-init c = none_yet c.args.self.now c.args.bytes.now

pub returns-in_err-add_row : goal.returns-in_err-add_row
returns-in_err-add_row c =
    let p = err_from_is_err_and c.from_residual.result c.from_residual.ensures.1 in
    rw (p.1, p.2) (c.in_err-add_row.ensures c.args.bytes.now (omega (arith, c.as_chunks.ensures.front_len), ap (λ rows. get_or rows c.loop-i.i []) c.as_chunks.ensures.front) c.args.self.now c.loop-i.repeats c.loop-i.invariant)
