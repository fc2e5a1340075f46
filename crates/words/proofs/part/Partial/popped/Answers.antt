use Rattle.words.specs.Parts.{pop}
use Rattle.words.proofs.part.Partial.popped.Goals as goal

pub at-requires : goal.at-requires
at-requires g c =
    let p = c.args.self in
    let e = c.wide-place.ensures.number in
    let r = pop g.U.Unsigned.WIDTH c.wide-place.result c.wide-word.result (rw e p.single) (rw (e, c.wide-word.ensures.number) p.below) c.if-place-eq0.false in
    record { single = r.rest.single; below = r.rest.below }

pub returns : goal.returns
returns g c =
    let p = c.args.self in
    let e = c.wide-place.ensures.number in
    let r = pop g.U.Unsigned.WIDTH c.wide-place.result c.wide-word.result (rw e p.single) (rw (e, c.wide-word.ensures.number) p.below) c.if-place-eq0.false in
    rw (← e, ← c.wide-word.ensures.number, c.at.ensures, r.rest.holds) r.held
