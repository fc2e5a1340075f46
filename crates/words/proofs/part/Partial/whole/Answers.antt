use Rattle.words.specs.Parts.{whole}
use Rattle.words.proofs.part.Partial.whole.Goals as goal

pub at-requires : goal.at-requires
at-requires g c =
    let r = whole g.U.Unsigned.WIDTH c.wide.result g.met.U.Unsigned.laws.some g.met.U.Unsigned.laws.most c.wide.ensures.small in
    rw c.WIDTH.ensures record { single = r.single; below = r.below }

pub returns : goal.returns
returns g c =
    let r = whole g.U.Unsigned.WIDTH c.wide.result g.met.U.Unsigned.laws.some g.met.U.Unsigned.laws.most c.wide.ensures.small in
    rw (c.at.ensures, c.WIDTH.ensures, ← c.wide.ensures.number) r.holds
