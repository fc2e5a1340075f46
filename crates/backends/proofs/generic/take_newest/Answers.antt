use Rattle.model.specs.Stores.{valued}
use Rattle.backends.specs.Answers.{told_read}
use Rattle.backends.proofs.Newest.{taken}
use Rattle.backends.proofs.generic.take_newest.Goals as goal

pub returns-clause-places : goal.returns-clause-places
returns-clause-places g c =
    let b = g.B.WriteWords in
    let law = g.met.B.WordStack in
    let s = c.args.store.now in
    let t = c.read.new.self in
    taken (b.places s) (b.places t) (g.B.ReadWords.coming s) (g.B.ReadWords.coming t) (b.capacity s) (valued g.W.Word.value (told_read c.read.result)) (law.newest s) (law.newest t) (g.met.B.WordSink.within s) c.read.ensures.means
