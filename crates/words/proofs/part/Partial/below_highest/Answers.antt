use Rattle.words.specs.LowBits.{low_mod, zero_low}
use Rattle.words.specs.Parts.{unseal}
use Rattle.words.proofs.part.Partial.below_highest.Goals as goal

pub returns-then-n-eq0 : goal.returns-then-n-eq0
returns-then-n-eq0 g c =
    let w = g.U.Unsigned.WIDTH in
    rw (low_mod w (g.U.Unsigned.number c.args.word), ← c.wide-n.ensures.number, c.if-n-eq0.true) (zero_low w)

pub at-requires : goal.at-requires
at-requires g c =
    let r = unseal g.U.Unsigned.WIDTH c.wide-n.result c.ilog2.result g.met.U.Unsigned.laws.most c.ilog2.ensures.power_le c.wide-n.ensures.small c.ilog2.ensures.next_power_gt in
    record { single = r.rest.single; below = r.rest.below }

pub returns : goal.returns
returns g c =
    let r = unseal g.U.Unsigned.WIDTH c.wide-n.result c.ilog2.result g.met.U.Unsigned.laws.most c.ilog2.ensures.power_le c.wide-n.ensures.small c.ilog2.ensures.next_power_gt in
    (r.zeros, r.few, rw (← c.wide-n.ensures.number, c.at.ensures, r.rest.holds) r.held)
