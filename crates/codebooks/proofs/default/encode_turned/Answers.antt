use Rattle.std.proofs.Common.{Ok, Err, refl}
use Rattle.std.proofs.lemmas.Result.{err_from_is_err_and}
use Rattle.model.specs.Sinks.{reversed}
use Rattle.words.specs.Answers.{write_refusal}
use Rattle.codebooks.proofs.Turning.{reversed_twice, turned}
use Rattle.codebooks.proofs.default.encode_turned.Goals as goal

pub returns-in_err-emit_turned-clause-forth : goal.returns-in_err-emit_turned-clause-forth
returns-in_err-emit_turned-clause-forth g c = λ fills.
    let p = err_from_is_err_and c.from_residual-in_err-emit_turned.result c.from_residual-in_err-emit_turned.ensures.1 in
    let code = g.C.Codebook.code c.args.book.now c.args.symbol in
    let taken = fills _ _ _ _ refl c.in_ok-fill.ensures in
    rw (p.1, p.2) (turned g.K.BitSink.held g.K.BitSink.emits (reversed code) code c.new-scratch.result c.fill.new.arg4 c.args.sink.now c.emit_turned.new.sink (Err (write_refusal c.in_err-emit_turned.field-0.0)) (reversed_twice code) c.new-scratch.ensures taken c.in_err-emit_turned.ensures)

pub returns-in_err-emit_turned-clause-back : goal.returns-in_err-emit_turned-clause-back
returns-in_err-emit_turned-clause-back g c = λ fills.
    let p = err_from_is_err_and c.from_residual-in_err-emit_turned.result c.from_residual-in_err-emit_turned.ensures.1 in
    let code = g.C.Codebook.code c.args.book.now c.args.symbol in
    let taken = fills _ _ _ _ refl c.in_ok-fill.ensures in
    rw (p.1, p.2) (turned g.K.BitSink.held g.K.BitSink.emits code (reversed code) c.new-scratch.result c.fill.new.arg4 c.args.sink.now c.emit_turned.new.sink (Err (write_refusal c.in_err-emit_turned.field-0.0)) refl c.new-scratch.ensures taken c.in_err-emit_turned.ensures)

pub returns-clause-forth : goal.returns-clause-forth
returns-clause-forth g c = λ fills.
    let code = g.C.Codebook.code c.args.book.now c.args.symbol in
    let taken = fills _ _ _ _ refl c.in_ok-fill.ensures in
    turned g.K.BitSink.held g.K.BitSink.emits (reversed code) code c.new-scratch.result c.fill.new.arg4 c.args.sink.now c.emit_turned.new.sink (Ok tt) (reversed_twice code) c.new-scratch.ensures taken c.in_ok-emit_turned.ensures

pub returns-clause-back : goal.returns-clause-back
returns-clause-back g c = λ fills.
    let code = g.C.Codebook.code c.args.book.now c.args.symbol in
    let taken = fills _ _ _ _ refl c.in_ok-fill.ensures in
    turned g.K.BitSink.held g.K.BitSink.emits code (reversed code) c.new-scratch.result c.fill.new.arg4 c.args.sink.now c.emit_turned.new.sink (Ok tt) refl c.new-scratch.ensures taken c.in_ok-emit_turned.ensures
