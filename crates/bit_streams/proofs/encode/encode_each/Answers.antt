use Rattle.std.proofs.lemmas.Result.{err_from_is_err_and}
use Rattle.codebooks.specs.Answers.{encode_refusal}
use Rattle.bit_streams.specs.Several.{code_of_lent}
use Rattle.bit_streams.proofs.Chained.{all_written, one_more, refused}
use Rattle.bit_streams.proofs.encode.encode_each.Goals as goal

pub loop-symbol-preserved : goal.loop-symbol-preserved
loop-symbol-preserved g c =
    let on = c.in-Some.ensures.goes.on c.loop-symbol.invariant.1 in (on.0, on.1, λ codes all. one_more g.K.WriteBitStream.encodes g.I.Iterator.next_gives (code_of_lent g.C.Codebook.code) c.args.stream.now codes c.loop-symbol.symbol-iterator c.next.new.self c.loop-symbol.stream c.encode_symbol.new.self (c.in-Some.symbol, c.in-Some.book) (c.loop-symbol.invariant.2 codes all) c.in-Some.ensures.steps c.in_ok-encode_symbol.ensures)

pub returns-in_err-encode_symbol : goal.returns-in_err-encode_symbol
returns-in_err-encode_symbol g c = λ codes all.
    let p = err_from_is_err_and c.from_residual.result c.from_residual.ensures.1 in
    rw (p.1, p.2)
    (refused g.K.WriteBitStream.encodes g.I.Iterator.next_gives (code_of_lent g.C.Codebook.code) c.args.stream.now codes c.loop-symbol.symbol-iterator c.next.new.self c.loop-symbol.stream c.encode_symbol.new.self
    (c.in-Some.symbol, c.in-Some.book) (encode_refusal c.in_err-encode_symbol.field-0.0) (c.loop-symbol.invariant.2 codes (rw c.into_iter-symbol-iterator.ensures.into_iter_gives all)) c.in-Some.ensures.steps c.in_err-encode_symbol.ensures)

pub returns : goal.returns
returns g c = λ codes all.
    all_written g.K.WriteBitStream.encodes g.I.Iterator.next_gives (code_of_lent g.C.Codebook.code) c.args.stream.now codes c.loop-symbol.symbol-iterator c.next.new.self c.loop-symbol.stream
    (c.loop-symbol.invariant.2 codes (rw c.into_iter-symbol-iterator.ensures.into_iter_gives all)) c.in-None.ensures.steps
