use Rattle.std.proofs.Common.{◌≡◌, length, replicate, Ok, Err, arith, rules}
use Rattle.std.proofs.lemmas.List.{length-replicate, set-get_or}
use Rattle.std.proofs.lemmas.Result.{err_from_is_err_and}
use Rattle.codebooks.specs.Answers.{decode_refusal}
use Rattle.bit_streams.proofs.ReadChains.{all_read, drop-replicate, not_read, one_more}
use Rattle.bit_streams.proofs.decode.decode_iid_each.Goals as goal

pub returns : goal.returns
returns g c =
    let o = g.C.Codebook.outcome c.args.book.now in
    let n = length c.args.symbols.now in (
      all_read (g.K.ReadBitStream.decodes g.row.C-Symbol.Denot) c.args.stream.now (replicate n o) c.args.symbols.now c.loop-read.read-counter c.loop-read.symbols c.loop-read.stream c.loop-read.invariant (omega (arith, length-replicate n o)),
      tt,
    )

pub loop-read-preserved : goal.loop-read-preserved
loop-read-preserved g c =
    let o = g.C.Codebook.outcome c.args.book.now in
    let n = length c.args.symbols.now in
    let d : g.K.ReadBitStream.decodes g.row.C-Symbol.Denot c.loop-read.stream o (Ok c.in_ok-slot.field-0) c.decode_symbol.new.self = search rules in
    one_more (g.K.ReadBitStream.decodes g.row.C-Symbol.Denot) c.args.stream.now (replicate n o) c.args.symbols.now c.loop-read.read-counter c.loop-read.symbols c.loop-read.stream c.loop-read.invariant o
    (drop-replicate c.loop-read.read-counter n o c.loop-read-test.true) c.in_ok-slot.field-0 c.decode_symbol.new.self c.loop-read-test.true d

pub returns-in_err-slot : goal.returns-in_err-slot
returns-in_err-slot g c =
    let o = g.C.Codebook.outcome c.args.book.now in
    let n = length c.args.symbols.now in
    let e = c.in_err-slot.field-0.0 in
    let i : e.read ≡ c.loop-read.read-counter = search rules in
    let d : g.K.ReadBitStream.decodes g.row.C-Symbol.Denot c.loop-read.stream o (Err (decode_refusal e.error)) c.decode_symbol.new.self = search rules in
    let p = err_from_is_err_and c.from_residual.result c.from_residual.ensures.1 in
    let same = set-get_or c.loop-read.symbols c.loop-read.read-counter c.index-symbols-read.result in
    let q = not_read (g.K.ReadBitStream.decodes g.row.C-Symbol.Denot) c.args.stream.now (replicate n o) c.args.symbols.now c.loop-read.read-counter c.loop-read.symbols c.loop-read.stream c.loop-read.invariant o
    (drop-replicate c.loop-read.read-counter n o c.loop-read-test.true) (decode_refusal e.error) c.decode_symbol.new.self d in
    rw (p.1, p.2, same) (q.0, rw i q.1)
