use Rattle.std.proofs.Common.{◌/◌, ◌%◌, ◌^◌, eqb, min, add-one, arith}
use Rattle.std.proofs.lemmas.Result.{err_from_is_err_and}
use Rattle.model.specs.Bits.{low_bits}
use Rattle.words.specs.Answers.{write_refusal}
use Rattle.codebooks.proofs.Handing.{low_from, low_more}
use Rattle.codebooks.proofs.Sinking.{sent_bit, sent_none, sent_refused}
use Rattle.codebooks.proofs.each.emit_each.Goals as goal

pub loop-i-init : goal.loop-i-init
loop-i-init g c = sent_none g.K.BitSink.held g.K.BitSink.emits c.args.sink.now (g.met.K.BitSink.within c.args.sink.now)

pub returns-in_err-emit : goal.returns-in_err-emit
returns-in_err-emit g c =
    let p = err_from_is_err_and c.from_residual.result c.from_residual.ensures.1 in
    let i = c.loop-i.i in
    let n = c.args.number in
    let b = eqb (n / 2 ^ i % 2) 1 in
    let front = low_from i (min c.args.count 64) n (omega arith) in
    rw (p.1, p.2, front.1) (sent_refused g.K.BitSink.held g.K.BitSink.emits (low_bits i n) b front.0 c.args.sink.now c.loop-i.sink c.emit.new.self (write_refusal c.in_err-emit.field-0.0) c.loop-i.invariant c.in_err-emit.ensures.means c.in_err-emit.ensures.does)

pub loop-i-preserved : goal.loop-i-preserved
loop-i-preserved g c =
    let i = c.loop-i.i in
    let n = c.args.number in
    let b = eqb (n / 2 ^ i % 2) 1 in
    rw (add-one, low_more i n) (sent_bit g.K.BitSink.held g.K.BitSink.emits (low_bits i n) b c.args.sink.now c.loop-i.sink c.emit.new.self c.loop-i.invariant c.in_ok-emit.ensures.means c.in_ok-emit.ensures.does)
