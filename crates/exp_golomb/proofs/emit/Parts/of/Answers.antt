use Rattle.std.proofs.Common.{◌≡◌, ◌+◌, ◌-◌, ◌*◌, ◌%◌, ◌^◌, ◌<◌, ◌≤◌, sym, ◌∙◌, subst, arith}
use Rattle.exp_golomb.proofs.Handing.{first_handed, last_handed}
use Rattle.exp_golomb.proofs.emit.Parts.of.Goals as goal

pub returns : goal.returns
returns g c =
    let n = g.N.Word.number c.args.symbol in
    let w = g.N.Partial.PartialWord.width in
    let u = c.to_u64.ensures in
    let k = c.ilog2-zeros.result in
    let low = c.in-Some.sum - (1 * 2 ^ k) % 2 ^ 64 in
    let small : n < 2 ^ w = subst (λ x. x < 2 ^ w) (sym u.value ∙ u.number) (g.met.N.Word.small c.args.symbol) in
    let sum : n + 1 ≡ 2 ^ k + low = omega (arith, u.number) in
    let within : low < 2 ^ k = omega arith in
    let few : k ≤ 64 = omega arith in
    record { first = first_handed w n k low small sum within few; last = last_handed w n k low small sum within few }

pub returns-in_default : goal.returns-in_default
returns-in_default g c =
    let n = g.N.Word.number c.args.symbol in
    let w = g.N.Partial.PartialWord.width in
    let u = c.to_u64.ensures in
    let small : n < 2 ^ w = subst (λ x. x < 2 ^ w) (sym u.value ∙ u.number) (g.met.N.Word.small c.args.symbol) in
    let sum : n + 1 ≡ 2 ^ 64 + 0 = omega (arith, u.number) in
    let within : 0 < 2 ^ 64 = omega arith in
    let few : 64 ≤ 64 = omega arith in
    record { first = first_handed w n 64 0 small sum within few; last = last_handed w n 64 0 small sum within few }
