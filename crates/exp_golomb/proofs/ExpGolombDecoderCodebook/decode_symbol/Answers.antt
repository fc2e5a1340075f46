use Rattle.std.proofs.Common.{◌^◌, ◌<◌, subst, rules}
use Rattle.model.specs.Cells.{ahead}
use Rattle.model.specs.Golomb.{parse}
use Rattle.model.proofs.Codes.{parse-found}
use Rattle.exp_golomb.proofs.Symbols.{answered}
use Rattle.exp_golomb.proofs.ExpGolombDecoderCodebook.decode_symbol.Goals as goal

-- a number that was read has so few bits
pub returns-in_err-symbol : goal.returns-in_err-symbol
returns-in_err-symbol g c =
    let cs = g.R.BitSource.coming c.args.source.now in
    let cs' = g.R.BitSource.coming c.parse_number.new.source in
    let n = c.in_ok-number.number in
    let a = answered (parse c.width.result (ahead cs)) cs cs' n c.in_ok-number.ensures.means in
    let f = parse-found c.width.result n a.0 (ahead cs) a.1 in
    let past : n < 2 ^ g.N.Partial.PartialWord.width → ⊥ = search rules in
    absurd (past (subst (λ B. n < 2 ^ B) c.width.ensures f.0))
