use Rattle.std.proofs.Common.{◌∙◌, arith}
use Rattle.words.specs.Parts.{push}
use Rattle.words.proofs.part.Partial.pushed.Goals as goal

pub at-requires : goal.at-requires
at-requires g c =
    let p = c.args.self in
    let r = push g.U.Unsigned.WIDTH (g.U.Unsigned.number p.mask) (g.U.Unsigned.number p.word) c.size-size.result c.from.result c.args.bit g.met.U.Unsigned.laws.most p.below c.size-size.ensures.len (omega arith) c.from.ensures in
    rw c.wide.ensures.number record { single = r.single; below = r.below }

pub returns : goal.returns
returns g c =
    let p = c.args.self in
    let r = push g.U.Unsigned.WIDTH (g.U.Unsigned.number p.mask) (g.U.Unsigned.number p.word) c.size-size.result c.from.result c.args.bit g.met.U.Unsigned.laws.most p.below c.size-size.ensures.len (omega arith) c.from.ensures in
    (omega arith, rw c.wide.ensures.number at c.at.ensures ∙ r.holds)
