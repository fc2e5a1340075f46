use Rattle.words.specs.Parts.{full, padded}
use Rattle.words.proofs.part.Partial.to_word.Goals as goal

pub returns : goal.returns
returns g c =
    let p = c.args.self in
    let m = g.U.Unsigned.number p.mask in
    let x = g.U.Unsigned.number p.word in
    record { padded = padded g.U.Unsigned.WIDTH m x p.below; full = full g.U.Unsigned.WIDTH m x p.below }
