use Rattle.std.proofs.Common.{true, [], ◌∷◌, ◌++◌, Err}
use Rattle.std.proofs.lemmas.Result.{err_from_is_err_and}
use Rattle.words.specs.Answers.{write_refusal}
use Rattle.backends.specs.Answers.{told_write}
use Rattle.backends.specs.Chains.{none_left, one_refused, one_written}
use Rattle.codebooks.specs.Streams.{handed}
use Rattle.codebooks.proofs.Sinking.{sent_front, sent_more}
use Rattle.codebooks.proofs.Turning.{coded}
use Rattle.exp_golomb.proofs.emit.emit_around_one.Goals as goal

pub returns-in_err-emit_bits : goal.returns-in_err-emit_bits
returns-in_err-emit_bits g c =
    let a = c.args in
    let held = g.K.BitSink.held in
    let emits = g.K.BitSink.emits in
    let p = err_from_is_err_and c.from_residual.result c.from_residual.ensures.1 in
    let e = write_refusal c.in_err-emit_bits.field-0.0 in
    let v = handed a.first a.count in
    let w = (true ∷ []) ++ handed a.last a.count in
    rw (p.1, p.2)
    (coded held emits (v ++ w) a.sink.now c.emit_bits.new.self (Err e)
    (sent_front held emits v w a.sink.now c.emit_bits.new.self e c.in_err-emit_bits.ensures))

pub returns-in_err-emit : goal.returns-in_err-emit
returns-in_err-emit g c =
    let a = c.args in
    let held = g.K.BitSink.held in
    let emits = g.K.BitSink.emits in
    let p = err_from_is_err_and c.from_residual-in_err-emit.result c.from_residual-in_err-emit.ensures.1 in
    let e = write_refusal c.in_err-emit.field-0.0 in
    let v = handed a.first a.count in
    let w = (true ∷ []) ++ handed a.last a.count in
    rw (p.1, p.2)
    (coded held emits (v ++ w) a.sink.now c.emit.new.self (Err e)
    (sent_more held emits v w a.sink.now c.emit_bits.new.self c.emit.new.self (Err e) c.in_ok-emit_bits.ensures
    (sent_front held emits (true ∷ []) (handed a.last a.count) c.emit_bits.new.self c.emit.new.self e
    (record { means = c.in_err-emit.ensures.means; does = one_refused c.in_err-emit.ensures.does }))))

pub returns : goal.returns
returns g c =
    let a = c.args in
    let held = g.K.BitSink.held in
    let emits = g.K.BitSink.emits in
    let r = told_write c.emit_bits-2.result in
    let v = handed a.first a.count in
    let w = (true ∷ []) ++ handed a.last a.count in
    coded held emits (v ++ w) a.sink.now c.emit_bits-2.new.self r
    (sent_more held emits v w a.sink.now c.emit_bits.new.self c.emit_bits-2.new.self r c.in_ok-emit_bits.ensures
    (sent_more held emits (true ∷ []) (handed a.last a.count) c.emit_bits.new.self c.emit.new.self c.emit_bits-2.new.self r
    (record { means = c.in_ok-emit.ensures.means; does = one_written c.in_ok-emit.ensures.does none_left })
    c.emit_bits-2.ensures))
