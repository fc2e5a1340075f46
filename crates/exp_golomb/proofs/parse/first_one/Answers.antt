use Rattle.exp_golomb.proofs.Parsing.{first_one}
use Rattle.exp_golomb.proofs.parse.first_one.Goals as goal

pub returns-clause-means : goal.returns-clause-means
returns-clause-means g c =
    let coming = g.R.BitSource.coming in
    let one = c.next_one in
    first_one (coming c.args.source.now) (coming one.new.self) one.result one.ensures.means
