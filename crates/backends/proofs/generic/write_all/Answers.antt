use Rattle.std.proofs.Common.{arith}
use Rattle.std.proofs.lemmas.Result.{err_from_is_err_and}
use Rattle.backends.specs.Slices.{word_at}
use Rattle.backends.proofs.Extending.{one_more, refused, no_room, all_written}
use Rattle.backends.proofs.generic.write_all.Goals as goal

pub returns-in_err-write-clause-calls : goal.returns-in_err-write-clause-calls
returns-in_err-write-clause-calls g c =
    let b = g.B.WriteWords in
    let p = err_from_is_err_and c.from_residual.result c.from_residual.ensures.1 in
    rw (p.1, p.2) (refused b.writes b.places b.capacity (word_at g.W.Word.value) c.args.store.now c.args.words.now c.loop-word.word-index c.loop-word.store c.loop-word.invariant (omega arith) c.word-item.result c.word-item.is c.write.new.self _ c.in_err-write.ensures.does)

pub returns-in_err-write-clause-places : goal.returns-in_err-write-clause-places
returns-in_err-write-clause-places g c =
    let b = g.B.WriteWords in
    let p = err_from_is_err_and c.from_residual.result c.from_residual.ensures.1 in
    rw (p.1, p.2) (no_room b.writes b.places b.capacity (word_at g.W.Word.value) c.args.store.now c.args.words.now c.loop-word.word-index c.loop-word.store c.loop-word.invariant (omega arith) c.word-item.result c.word-item.is c.write.new.self _ c.in_err-write.ensures.means)

pub loop-word-preserved : goal.loop-word-preserved
loop-word-preserved g c =
    let b = g.B.WriteWords in
    let e = c.in_ok-write.ensures in
    one_more b.writes b.places b.capacity (word_at g.W.Word.value) c.args.store.now c.args.words.now c.loop-word.word-index c.loop-word.store c.loop-word.invariant (omega arith) c.word-item.result c.word-item.is c.write.new.self e.does e.means e.same

pub returns-clause-calls : goal.returns-clause-calls
returns-clause-calls g c =
    let b = g.B.WriteWords in
    all_written b.writes b.places b.capacity (word_at g.W.Word.value) c.args.store.now c.args.words.now c.loop-word.word-index c.loop-word.store c.loop-word.invariant (omega arith)
