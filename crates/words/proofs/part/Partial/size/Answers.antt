use Rattle.std.proofs.Common.{◌≤◌, sym}
use Rattle.words.specs.Partials.{size_at}
use Rattle.words.specs.LowBits.{size_le}
use Rattle.words.specs.Parts.{held_length, size_wide}
use Rattle.words.proofs.part.Partial.size.Goals as goal

pub returns : goal.returns
returns g c =
    let w = g.U.Unsigned.WIDTH in
    let m = g.U.Unsigned.number c.args.self.mask in
    let x = g.U.Unsigned.number c.args.self.word in
    let few : size_at w m ≤ w = size_le w m in
    rw (size_wide w c.wide.result g.met.U.Unsigned.laws.most c.wide.ensures.small, c.wide.ensures.number) record { len = sym (held_length w m x); few = few }
