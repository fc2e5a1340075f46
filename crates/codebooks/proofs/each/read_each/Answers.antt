use Rattle.std.proofs.Common.{suc, ◌+◌, ◌*◌, ◌^◌, ◌<◌, ◌≤◌, Bool, List, [], ◌∷◌, ◌++◌, length, Ok, Err, refl, ap, ◌∙◌, arith, pow_mono, rules}
use Rattle.std.proofs.lemmas.List.{length_push}
use Rattle.model.specs.Bits.{value}
use Rattle.model.proofs.Numbers.{byte_is, byte_le, two_pow, value_lt, value_push}
use Rattle.backends.specs.Answers.{read_refusal}
use Rattle.codebooks.proofs.ReadChains.{past_bit, past_none, reached_next}
use Rattle.codebooks.proofs.each.read_each.Goals as goal

pub loop-i-init : goal.loop-i-init
loop-i-init g c = ([], refl, refl, past_none g.R.BitSource.coming g.R.BitSource.reads c.args.source.now)

pub returns-in_err-bit-clause-does : goal.returns-in_err-bit-clause-does
returns-in_err-bit-clause-does g c =
    let (v, l, n, p) = c.loop-i.invariant in
    reached_next g.R.BitSource.coming g.R.BitSource.reads c.args.source.now c.loop-i.source c.next_bit.new.self (Err (read_refusal c.in_err-bit.field-0.0)) p.reached c.in_err-bit.ensures.does

pub returns-in_default-clause-does : goal.returns-in_default-clause-does
returns-in_default-clause-does g c =
    let (v, l, n, p) = c.loop-i.invariant in
    reached_next g.R.BitSource.coming g.R.BitSource.reads c.args.source.now c.loop-i.source c.next_bit.new.self (Ok c.in_ok-bit.field-0) p.reached c.in_ok-bit.ensures.does

-- one bit more than these still fits
fits : (v : List Bool) → length v < 64 → 2 * value v + 1 < 2 ^ 64
fits v h = let l : suc (length v) ≤ 64 = omega arith in omega (arith, value_lt v, two_pow (length v), pow_mono l)

pub overflow_mul-number : goal.overflow_mul-number
overflow_mul-number g c =
    let (v, l, n, p) = c.loop-i.invariant in
    let h : 2 * c.loop-i.number + 1 < 2 ^ 64 = omega (arith, fits v (omega arith), n) in
    search rules

pub overflow_add-number : goal.overflow_add-number
overflow_add-number g c =
    let (v, l, n, p) = c.loop-i.invariant in
    let h : 2 * c.loop-i.number + 1 < 2 ^ 64 = omega (arith, fits v (omega arith), n) in
    omega (arith, byte_le c.in-Some.bit)

pub loop-i-preserved : goal.loop-i-preserved
loop-i-preserved g c =
    let (v, l, n, p) = c.loop-i.invariant in
    let b = c.in-Some.bit in
    let m = rw c.in-Some.is at c.in_ok-bit.ensures.means in
    let d = rw c.in-Some.is at c.in_ok-bit.ensures.does in
    (v ++ (b ∷ []), length_push v b ∙ ap (λ n. n + 1) l, omega (arith, value_push v b, byte_is b), past_bit g.R.BitSource.coming g.R.BitSource.reads v b c.args.source.now c.loop-i.source c.next_bit.new.self p m d)
