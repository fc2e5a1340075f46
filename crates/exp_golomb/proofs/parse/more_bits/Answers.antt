use Rattle.std.proofs.Common.{◌≡◌, min, ◌++◌, arith}
use Rattle.codebooks.specs.Told.{told_bits}
use Rattle.codebooks.proofs.ReadChains.{read_more}
use Rattle.exp_golomb.proofs.Parsing.{few_bits, more-bits}
use Rattle.exp_golomb.proofs.parse.more_bits.Goals as goal

pub returns : goal.returns
returns g c =
    let coming = g.R.BitSource.coming in
    let z = c.args.zeros in
    let bits = c.next_bits in
    let most : min z 64 ≡ z = omega arith in
    record {
      means = more-bits z (coming c.args.source.now) (coming bits.new.self) (told_bits bits.result) (rw most at bits.ensures.means);
      low = few_bits z (coming c.args.source.now) (coming bits.new.self) (told_bits bits.result) (rw most at bits.ensures.means);
      does = λ s r. (r.0 ++ bits.ensures.does.0, read_more r.1 bits.ensures.does.1);
    }
