use Rattle.std.proofs.Common.{◌≡◌, ◌+◌, false, [], ◌∷◌, ◌++◌, Some, Ok, Err, ap, ◌∙◌, append-nil, arith}
use Rattle.model.specs.Bits.{zeros}
use Rattle.model.proofs.Numbers.{zeros-more}
use Rattle.backends.specs.Answers.{read_refusal}
use Rattle.codebooks.proofs.ReadChains.{past_bit, past_none, reached_next}
use Rattle.codebooks.proofs.each.read_to_one.Goals as goal

pub loop-one-init : goal.loop-one-init
loop-one-init g c = (0, omega arith, past_none g.R.BitSource.coming g.R.BitSource.reads c.args.source.now)

pub returns-in_err-one-clause-does : goal.returns-in_err-one-clause-does
returns-in_err-one-clause-does g c =
    let (z, n, p) = c.loop-one.invariant in
    reached_next g.R.BitSource.coming g.R.BitSource.reads c.args.source.now c.loop-one.source c.next_bit.new.self (Err (read_refusal c.in_err-one.field-0.0)) p.reached c.in_err-one.ensures.does

pub returns-then-one-clause-does : goal.returns-then-one-clause-does
returns-then-one-clause-does g c =
    let (z, n, p) = c.loop-one.invariant in
    reached_next g.R.BitSource.coming g.R.BitSource.reads c.args.source.now c.loop-one.source c.next_bit.new.self (Ok c.in_ok-one.field-0) p.reached c.in_ok-one.ensures.does

pub loop-one-preserved : goal.loop-one-preserved
loop-one-preserved g c =
    let (z, n, p) = c.loop-one.invariant in
    let is : c.in_ok-one.field-0 ≡ Some false = c.in-Some.is ∙ ap Some c.if-one.false in
    let m = rw is at c.in_ok-one.ensures.means in
    let d = rw is at c.in_ok-one.ensures.does in
    let s : zeros z ++ (false ∷ []) ≡ zeros (z + 1) = zeros-more z [] ∙ append-nil (zeros (z + 1)) in
    (z + 1, omega (arith, n, c.saturating_add-zeros.ensures), rw (← s) (past_bit g.R.BitSource.coming g.R.BitSource.reads (zeros z) false c.args.source.now c.loop-one.source c.next_bit.new.self p m d))

pub returns-clause-does : goal.returns-clause-does
returns-clause-does g c =
    let (z, n, p) = c.loop-one.invariant in
    reached_next g.R.BitSource.coming g.R.BitSource.reads c.args.source.now c.loop-one.source c.next_bit.new.self (Ok c.in_ok-one.field-0) p.reached c.in_ok-one.ensures.does
